-- What a call that writes into the caller's buffer tells, and what the buffer then holds (docs/REFUSALS.md).
use Rattle.std.specs.Prelude.{◌≡◌, ℕ, Bool, cond, List, ◌++◌, length, drop, Ok, Err, Result, nat_le}
use Rattle.refusal.specs.declared.refusals.Refusal.{Refusal}
use Rattle.refusal.specs.declared.refusals.Refusal.TheVariants.{OutputTooShort}

-- the buffer has a place for each of the bytes
abbrev pub roomy : List ℕ → List ℕ → Bool
roomy bytes buffer = nat_le (length bytes) (length buffer)

-- `bytes` were to be put at the front of `buffer`: either they stand there, with what was behind them unchanged, and their
-- number is told, or the buffer is too short, which is told, and it holds what it held
pub record Put (bytes buffer : List ℕ) (told : Result ℕ Refusal) (after : List ℕ) : Type 0 where
  pub tells : told ≡ cond (roomy bytes buffer) (Ok (length bytes)) (Err OutputTooShort)
  pub holds : after ≡ cond (roomy bytes buffer) (bytes ++ drop (length bytes) buffer) buffer
