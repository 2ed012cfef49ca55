-- Each tape reader is the reader of some tape, so that its contracts are never empty.
use Rattle.std.proofs.Common.{◌≡◌, ℕ, zero, suc, ◌+◌, ◌-◌, ◌<◌, ◌≤◌, List, [], ◌∷◌, ◌++◌, map, length, get_or, take, refl, ◌∙◌, arith, length-append, length-take-le}
use Rattle.std.proofs.lemmas.List.{length_push, length-map}
use Rattle.tape.specs.declared.signals.Signal.{Signal}
use Rattle.tape.specs.declared.signals.Signal.TheVariants.{Byte, Pause}
use Rattle.tape.specs.declared.signals.Entry.{Entry}
use Rattle.tape.specs.Reading.{Reads}
use Rattle.tape.specs.Laws.{EachReaderHasATape}
use Rattle.tape.proofs.Grow.{grow_front, grow_full, grow_pause, reads_none}
use Rattle.tape.proofs.Exists.{tells_some}
use Rattle.tape.proofs.Steps.{moved}

-- a tape of n signals, whose frame begun is r at the place q
record At (n q : ℕ) (r : List ℕ) : Type 0 where
  tape : List Signal
  entries : List Entry
  long : length tape ≡ n
  reads : Reads 0 tape entries q r

pauses : (n : ℕ) → At n 0 []
pauses zero = record { tape = []; entries = []; long = refl; reads = reads_none }
pauses (suc n) =
    let A = pauses n in
    record { tape = A.tape ++ Pause ∷ []; entries = _; long = omega (arith, length_push A.tape Pause, A.long); reads = grow_pause A.reads }

zeros : (n m : ℕ) → At (n + m) m []
zeros n zero = let A = pauses n in record { tape = A.tape; entries = A.entries; long = omega (arith, A.long); reads = A.reads }
zeros n (suc m) =
    let A = zeros n m in
    let e = tells_some m (0 ∷ []) (λ i. zero_bytes i) in
    record { tape = A.tape ++ Byte 0 ∷ []; entries = _; long = omega (arith, length_push A.tape (Byte 0), A.long); reads = moved (omega arith) refl (grow_full A.reads 0 refl e.0 e.1) }
  where
    zero_bytes : (i : ℕ) → get_or (0 ∷ []) i 0 < 256
    zero_bytes zero = omega arith
    zero_bytes (suc i) = omega arith

fronts : (n m : ℕ) (bs : List ℕ) (j : ℕ) → j ≤ length bs → j ≤ get_or bs 0 0 → At (n + m + j) m (take j bs)
fronts n m bs j h g =
    let A = zeros n m in
    let more = map Byte (take j bs) in
    let size : length more ≡ j = length-map (take j bs) Byte ∙ length-take-le j bs h in
    record { tape = A.tape ++ more; entries = A.entries; long = omega (arith, length-append A.tape more, size, A.long); reads = grow_front A.reads bs j h g }

pub has_tape : EachReaderHasATape
has_tape x =
    let A = fronts (x.signals - (x.place + x.held)) x.place x.begun x.held x.sized x.partial in
    (A.tape, A.entries, record { reads = A.reads; count = omega (arith, A.long, x.within) })
