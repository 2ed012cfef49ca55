-- Data that pass a kind's check.
use Rattle.std.proofs.Common.{◌≡◌, ℕ, List, length, arith}
use Rattle.std.proofs.lemmas.Bool.Decides.{nat_tests}
use Rattle.frame.specs.Faults.{passed}
use Rattle.frame.specs.Model.{Model, checked}

module _ {R : Type 0} (m : Model R) (s : ℕ) (xs : List ℕ) (ok : passed ≡ checked m s xs) where
  pub size_of : length xs ≡ m.size
  size_of = grind (arith, nat_tests)

  pub verdict_passed : m.verdict s xs ≡ passed
  verdict_passed = grind (arith, nat_tests)
