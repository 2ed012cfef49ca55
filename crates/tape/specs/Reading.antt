-- The reading of a tape, as a relation between a tape and its entries (docs/READING.md).
use Rattle.std.specs.Prelude.{◌≡◌, ℕ, suc, ◌+◌, ◌<◌, List, [], ◌∷◌, ◌++◌, map, length, Err}
use Rattle.frame.specs.declared.faults.Fault.TheVariants.{Cut}
use Rattle.record.specs.Frames.{verdict_of, told}
use Rattle.tape.specs.declared.signals.Signal.{Signal}
use Rattle.tape.specs.declared.signals.Signal.TheVariants.{Byte, Pause}
use Rattle.tape.specs.declared.signals.Entry.{Entry}

-- the entry of the frame f at the place p: it has that place, and the record whose frame f is, or f's fault
pub record Tells (p : ℕ) (f : List ℕ) (e : Entry) : Type 0 where
  pub placed : e.place ≡ p
  pub judged : told e.verdict ≡ verdict_of f

-- what a remnant at the place q gives when a pause ends it: a cut frame, with the bytes held; no byte, no entry
abbrev pub cut : ℕ → List ℕ → List Entry
cut q [] = []
cut q (b ∷ bs) = record { place = q; verdict = Err (Cut (length (b ∷ bs))) } ∷ []

-- `Parts p s es q r`: the stretch s, whose first byte has the place p, begins with frames that give the entries es,
-- and r, at the place q, is what remains behind the last frame
pub data Parts : ℕ → List ℕ → List Entry → ℕ → List ℕ → Type 0 where
  -- nothing remains
  none : {p : ℕ} → Parts p [] [] p []
  -- fewer than L + 1 bytes, but at least one, are a remnant
  remnant : {p L : ℕ} {bs : List ℕ} → length bs < L → Parts p (L ∷ bs) [] p (L ∷ bs)
  -- the first L + 1 bytes are a frame
  frame : {p L : ℕ} (bs rest : List ℕ) {s : List ℕ} {e : Entry} {es : List Entry} {q : ℕ} {r : List ℕ} → length bs ≡ L → s ≡ (L ∷ bs) ++ rest → Tells p (L ∷ bs) e → Parts (p + suc L) rest es q r → Parts p s (e ∷ es) q r

-- `Reads p t es q r`: the tape t, before which p bytes came, reads as es, and r, at the place q, is the frame begun
pub data Reads : ℕ → List Signal → List Entry → ℕ → List ℕ → Type 0 where
  -- the last stretch: no pause ends what remains of it
  last : {p : ℕ} {bs : List ℕ} {t : List Signal} {es : List Entry} {q : ℕ} {r : List ℕ} → t ≡ map Byte bs → Parts p bs es q r → Reads p t es q r
  -- a stretch that a pause ends, and the tape behind the pause
  stretch : {p : ℕ} {bs : List ℕ} {t after : List Signal} {es more : List Entry} {q q' : ℕ} {r r' : List ℕ} → t ≡ map Byte bs ++ Pause ∷ after → Parts p bs es q r → Reads (p + length bs) after more q' r' → Reads p t (es ++ (cut q r ++ more)) q' r'
