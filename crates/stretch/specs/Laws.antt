-- Laws of the tokens of a stretch (docs/READING.md).
use Rattle.std.specs.Prelude.{◌≡◌, ℕ, ◌+◌, ◌<◌, ◌≤◌, List, [], ◌∷◌, length, slice_index}
use Rattle.tape.specs.declared.signals.Entry.{Entry}
use Rattle.tape.specs.Reading.{Tells, Parts}
use Rattle.stretch.specs.Tokens.{Part, frame, empty, remnant, place_of, bytes_of, bytes}
use Rattle.stretch.specs.Handed.{Left, standing, Handing}

abbrev pub EachStretchHasOneListOfTokens : Type 0
EachStretchHasOneListOfTokens =
    ((x : Left) → (ts : List Part) × Handing x ts)
    × ((x : Left) (ts us : List Part) → Handing x ts → Handing x us → ts ≡ us)

-- the first token has the place p, and each other one the place behind the bytes before it
abbrev pub Placed : ℕ → List Part → Type 0
Placed p [] = Unit {0}
Placed p (t ∷ ts) = (place_of t ≡ p) × Placed (p + length (bytes_of t)) ts

abbrev pub TokensAreTheStretch : Type 0
TokensAreTheStretch = (x : Left) (ts : List Part) → Handing x ts → (bytes ts ≡ x.rest) × Placed x.place ts

-- each frame has as many bytes behind its length byte as that says, an empty one fewer than 4; a remnant has at least one
-- byte, but too few, and stands last
abbrev pub Parted : List Part → Type 0
Parted [] = Unit {0}
Parted (frame p f ∷ ts) = (length f ≡ slice_index f 0 + 1) × (4 ≤ slice_index f 0) × Parted ts
Parted (empty p f ∷ ts) = (length f ≡ slice_index f 0 + 1) × (slice_index f 0 < 4) × Parted ts
Parted (remnant p r ∷ ts) = (0 < length r) × (length r ≤ slice_index r 0) × (ts ≡ [])

abbrev pub TokensAreFramesAndARemnant : Type 0
TokensAreFramesAndARemnant = (x : Left) (ts : List Part) → Handing x ts → Parted ts

-- the entries that tokens tell: each frame its own, a remnant none
pub data Told : List Part → List Entry → Type 0 where
  none : Told [] []
  by_frame : {p : ℕ} {f : List ℕ} {e : Entry} {ts : List Part} {es : List Entry} → Tells p f e → Told ts es → Told (frame p f ∷ ts) (e ∷ es)
  by_empty : {p : ℕ} {f : List ℕ} {e : Entry} {ts : List Part} {es : List Entry} → Tells p f e → Told ts es → Told (empty p f ∷ ts) (e ∷ es)
  by_remnant : {p : ℕ} {r : List ℕ} {ts : List Part} {es : List Entry} → Told ts es → Told (remnant p r ∷ ts) es

-- what remains behind the frames: the remnant, or nothing, at the place of the end
abbrev pub remains : ℕ → List Part → Left
remains end [] = standing end []
remains end (frame p f ∷ ts) = remains end ts
remains end (empty p f ∷ ts) = remains end ts
remains end (remnant p r ∷ ts) = standing p r

-- the reading of the stretch is what its tokens tell, and nothing else is
abbrev pub TokensTellTheReading : Type 0
TokensTellTheReading =
    (p : ℕ) (s : List ℕ) (ts : List Part) (es : List Entry) (q : ℕ) (r : List ℕ) → Handing (standing p s) ts →
    (Parts p s es q r → Told ts es × (remains (p + length s) ts ≡ standing q r))
    × (Told ts es → remains (p + length s) ts ≡ standing q r → Parts p s es q r)
