-- A buffer with room for the bytes that are put into it.
use Rattle.std.proofs.Common.{◌≡◌, ℕ, ◌≤◌, List, ◌++◌, length, drop, Ok, Result, arith}
use Rattle.std.proofs.lemmas.Bool.Decides.{nat_tests}
use Rattle.refusal.specs.declared.refusals.Refusal.{Refusal}
use Rattle.refusal.specs.Output.{Put}

module _ (bytes buffer : List ℕ) (room : length bytes ≤ length buffer) where
  -- what the buffer holds
  pub put_holds : {told : Result ℕ Refusal} {now : List ℕ} → Put bytes buffer told now → now ≡ bytes ++ drop (length bytes) buffer
  put_holds P = grind (arith, nat_tests, P.holds)

  pub put_tells : {told : Result ℕ Refusal} {now : List ℕ} → Put bytes buffer told now → told ≡ Ok (length bytes)
  put_tells P = grind (arith, nat_tests, P.tells)

-- what is told to be put lies within the buffer
pub put_within : (bytes buffer : List ℕ) (n : ℕ) (now : List ℕ) → Put bytes buffer (Ok n) now → n ≤ length buffer
put_within bytes buffer n now P = grind (arith, nat_tests, P.tells)
