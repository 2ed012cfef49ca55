-- What a packet kind means, and the law that each kind shows (docs/FRAME.md).
use Rattle.std.specs.Prelude.{◌≡◌, ℕ, ◌<◌, ◌≤◌, List, ◌∷◌, length, Ok, Err, Result, ◌==◌}
use Rattle.frame.specs.declared.faults.Fault.{Fault}
use Rattle.frame.specs.declared.faults.Fault.TheVariants.{WrongLength}
use Rattle.frame.specs.Faults.{Verdict, passed, unless, after}
use Rattle.frame.specs.Fields.{Bytes}

-- a kind: its type number, how many data bytes it has, a record's subtype and data bytes, and which fault the subtype or
-- the first field out of range is
pub record Model (R : Type 0) : Type 0 where
  pub number : ℕ
  pub size : ℕ
  pub sub_of : R → ℕ
  pub bytes : R → List ℕ
  pub verdict : ℕ → List ℕ → Verdict

-- Every record's bytes pass, no two records have the same, and all bytes that pass are some record's: so records and
-- passing data are one to one.
pub record Law {R : Type 0} (m : Model R) : Type 0 where
  pub some : 1 ≤ m.size
  pub sized : (r : R) → length (m.bytes r) ≡ m.size
  pub passes : (r : R) → m.verdict (m.sub_of r) (m.bytes r) ≡ passed
  pub one : (r s : R) → m.sub_of r ≡ m.sub_of s → m.bytes r ≡ m.bytes s → r ≡ s
  pub onto : (s : ℕ) (xs : List ℕ) → s < 256 → Bytes xs → length xs ≡ m.size → m.verdict s xs ≡ passed → (r : R) × (m.sub_of r ≡ s) × (m.bytes r ≡ xs)

module _ {R : Type 0} where
  -- what a check says of a subtype and data
  abbrev pub checked : Model R → ℕ → List ℕ → Verdict
  checked m s xs = unless (length xs == m.size) WrongLength (m.verdict s xs)

  -- what is read of a subtype and data: these very bytes, or the first fault
  abbrev pub accepted : Model R → ℕ → List ℕ → Result (List ℕ) Fault
  accepted m s xs = after (checked m s xs) (s ∷ xs)

  -- a reading, with the record as its subtype and data
  abbrev pub said : Model R → Result R Fault → Result (List ℕ) Fault
  said m (Ok r) = Ok (m.sub_of r ∷ m.bytes r)
  said m (Err f) = Err f
