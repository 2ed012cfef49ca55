-- What a reader of a stretch hands out, by one call and by all (docs/READING.md).
use Rattle.std.specs.Prelude.{◌≡◌, ℕ, ◌+◌, List, [], ◌∷◌, ◌++◌, length}
use Rattle.stretch.specs.declared.reader.Stretch.{Stretch}
use Rattle.stretch.specs.Tokens.{Part, bytes, first}

-- what is left of a stretch: its bytes, and the place of the first
pub record Left : Type 0 where
  pub place : ℕ
  pub rest : List ℕ

abbrev pub standing : ℕ → List ℕ → Left
standing p s = record { place = p; rest = s }

abbrev pub model : Stretch → Left
model x = standing x.place x.rest.now

-- one call, with x left before it and y after it, hands out ts: none or one
pub record Handed (x : Left) (ts : List Part) (y : Left) : Type 0 where
  -- what is handed out is the first part of what was left
  pub gives : ts ≡ first x.place x.rest
  -- its bytes and those left behind it are what was left
  pub splits : x.rest ≡ bytes ts ++ y.rest
  -- the place goes on by its bytes
  pub moves : y.place ≡ x.place + length (bytes ts)

-- `Handing x ts`: asked until no byte of x is left, a reader hands out ts
pub data Handing : Left → List Part → Type 0 where
  done : {x y : Left} → Handed x [] y → Handing x []
  more : {x y : Left} {t : Part} {ts : List Part} → Handed x (t ∷ []) y → Handing y ts → Handing x (t ∷ ts)
