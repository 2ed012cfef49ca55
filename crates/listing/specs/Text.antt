-- Text as bytes: capital hexadecimal, and text that grows in a buffer (docs/LISTER.md).
use Rattle.std.specs.Prelude.{◌≡◌, ℕ, ◌+◌, ◌-◌, ◌/◌, ◌%◌, ◌≤◌, cond, List, [], ◌∷◌, ◌++◌, length, take, drop, decimal, ◌==◌, nat_lt}

-- 0 to 9, then A to F
abbrev pub hex_digit : ℕ → ℕ
hex_digit n = cond (nat_lt n 10) (48 + n) (55 + n)

-- two digits a byte, the high one first
abbrev pub hex : List ℕ → List ℕ
hex [] = []
hex (b ∷ bs) = hex_digit (b / 16) ∷ hex_digit (b % 16) ∷ hex bs

-- the digits of all numbers below a hundred in a row: two to a number, from 00 on
abbrev pub decimal_of : ℕ → ℕ
decimal_of index = 48 + cond (index % 2 == 0) (index / 2 / 10) (index / 2 % 10)

-- `more` was written into a buffer from `at` on: it stands behind what was before it, and the rest is as it was
pub record Grown (before : List ℕ) (at : ℕ) (more after : List ℕ) (end : ℕ) : Type 0 where
  pub ends : end ≡ at + length more
  pub text : take end after ≡ take at before ++ more
  pub rest : drop end after ≡ drop end before

-- the digits of n are written into a buffer from `end` down: those of `rest` are still to come, up to `place`
pub record Spelled (out : List ℕ) (at n end rest place : ℕ) (now : List ℕ) : Type 0 where
  pub whole : decimal n ≡ decimal rest ++ take (end - (place + 1)) (drop (place + 1) now)
  pub left : place + 1 ≡ at + length (decimal rest)
  pub ends : end ≡ at + length (decimal n)
  pub front : take at now ≡ take at out
  pub behind : drop end now ≡ drop end out
  pub less : rest ≤ n
  pub long : length now ≡ length out
  pub fits : end ≤ length out
