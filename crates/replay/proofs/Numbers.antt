-- Numbers of several bytes, and two's complement: there and back.
use Rattle.std.proofs.Common.{◌≡◌, ℕ, suc, ◌+◌, ◌-◌, ◌*◌, ◌/◌, ◌%◌, ◌<◌, ◌≤◌, [], ◌∷◌, ℤ, pos, negsuc, nat_abs, ap, arith}
use Rattle.std.proofs.lemmas.Bool.Decides.{nat_tests}
use Rattle.frame.specs.Fields.{at16, at24, at32}
use Rattle.house.specs.House.{two, three, four, complement}
use Rattle.replay.specs.Back.{uncomplement}

pub two_at : (a b : ℕ) → a < 256 → b < 256 → two (a * 256 + b) ≡ a ∷ b ∷ []
two_at a b h i = grind arith

pub three_at : (a b c : ℕ) → a < 256 → b < 256 → c < 256 → three (a * 65536 + b * 256 + c) ≡ a ∷ b ∷ c ∷ []
three_at a b c h i j = grind arith

pub four_at : (a b c d : ℕ) → a < 256 → b < 256 → c < 256 → d < 256 → four (a * 16777216 + b * 65536 + c * 256 + d) ≡ a ∷ b ∷ c ∷ d ∷ []
four_at a b c d h i j k = grind arith

pub at_two : (n : ℕ) → n < 65536 → at16 (two n) 0 ≡ n
at_two n h = omega arith

pub at_three : (n : ℕ) → n < 16777216 → at24 (three n) 0 ≡ n
at_three n h = omega arith

pub at_four : (n : ℕ) → n < 4294967296 → at32 (four n) 0 ≡ n
at_four n h =
    let e : n / 65536 ≡ n / 256 / 256 = omega arith in
    let f : n / 16777216 ≡ n / 256 / 256 / 256 = omega arith in
    let b : n / 256 ≡ n / 256 / 256 * 256 + n / 256 % 256 = omega arith in
    let c : n / 256 / 256 ≡ n / 256 / 256 / 256 * 256 + n / 256 / 256 % 256 = omega arith in
    let d : n / 16777216 % 256 ≡ n / 16777216 = omega arith in
    let g : n / 65536 % 256 ≡ n / 256 / 256 % 256 = ap (λ k. k % 256) e in
    omega arith

pub complement_below : (z : ℤ) → nat_abs z ≤ 0x7FFF → complement z < 65536
complement_below (pos n) h = omega arith
complement_below (negsuc n) h = omega arith

pub complement_at : (n : ℕ) → n < 65536 → complement (uncomplement n) ≡ n
complement_at n h = grind (arith, nat_tests)

pub at_complement : (z : ℤ) → nat_abs z ≤ 0x7FFF → uncomplement (complement z) ≡ z
at_complement (pos n) h = grind (arith, nat_tests)
at_complement (negsuc n) h = let e : 0xFFFF - (65536 - suc n) ≡ n = omega arith in grind (arith, nat_tests)
