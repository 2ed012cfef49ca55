-- The parts of a stretch (docs/READING.md).
use Rattle.std.specs.Prelude.{ℕ, ◌+◌, cond, List, [], ◌∷◌, ◌++◌, length, take, Some, None, Option, ◌==◌, nat_lt, slice_index}
use Rattle.stretch.specs.declared.tokens.Token.{Token}
use Rattle.stretch.specs.declared.tokens.Token.TheVariants.{Frame, Empty, Remnant}

-- a part of a stretch: the place of its first byte, and its bytes
pub data Part : Type 0 where
  frame : ℕ → List ℕ → Part
  empty : ℕ → List ℕ → Part
  remnant : ℕ → List ℕ → Part

abbrev pub place_of : Part → ℕ
place_of (frame p f) = p
place_of (empty p f) = p
place_of (remnant p r) = p

abbrev pub bytes_of : Part → List ℕ
bytes_of (frame p f) = f
bytes_of (empty p f) = f
bytes_of (remnant p r) = r

-- the bytes of some parts, one part behind the other
abbrev pub bytes : List Part → List ℕ
bytes [] = []
bytes (t ∷ ts) = bytes_of t ++ bytes ts

-- the whole frame f, whose length byte is L: below 4 it has no payload
abbrev pub whole : ℕ → ℕ → List ℕ → Part
whole L p f = cond (nat_lt L 4) (empty p f) (frame p f)

-- the first part of the stretch s at the place p. Let L be its first byte: if more than L bytes are there, the first L + 1 are
-- a frame; else all of them, if any, are a remnant
abbrev pub first : ℕ → List ℕ → List Part
first p s =
    cond (nat_lt (slice_index s 0) (length s)) (whole (slice_index s 0) p (take (slice_index s 0 + 1) s) ∷ [])
    (cond (length s == 0) [] (remnant p s ∷ []))

-- what a token is, where it is handed out
abbrev pub part : Token → Part
part (Frame p b) = frame p b.now
part (Empty p b) = empty p b.now
part (Remnant p b) = remnant p b.now

abbrev pub view : Option Token → List Part
view None = []
view (Some t) = part t ∷ []
