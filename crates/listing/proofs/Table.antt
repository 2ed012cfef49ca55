-- The tables of digits: that of bytes is every byte in hexadecimal, and that of pairs keeps its rule at each entry; the checker computes both.
use Rattle.std.proofs.Common.{◌≡◌, ℕ, zero, suc, ◌+◌, ◌*◌, ◌/◌, ◌%◌, ◌<◌, Bool, true, false, ◌&&◌, eqb, List, [], ◌∷◌, length, get_or, codes, refl, ap, ◌∙◌, zero-add, arith, eqb-true}
use Rattle.std.proofs.lemmas.Bool.Decides.{nat_tests}
use Rattle.std.specs.List.{range_with_len}
use Rattle.std.proofs.lemmas.List.FromFn.{get_or-range_with_len, length-range_with_len}
use Rattle.listing.specs.Text.{hex, hex_digit, decimal_of}
use Rattle.listing.specs.declared.text.TheConstants.{DIGITS}

table_is : DIGITS ≡ hex (range_with_len 0 256)
table_is = refl

-- the two digits of the element k
hex_at : (xs : List ℕ) (k i : ℕ) → k < length xs → i ≡ 2 * k → (get_or (hex xs) i 0 ≡ hex_digit (get_or xs k 0 / 16)) × (get_or (hex xs) (suc i) 0 ≡ hex_digit (get_or xs k 0 % 16))
hex_at [] k i h e = absurd (omega arith)
hex_at (x ∷ xs) zero zero h e = (refl, refl)
hex_at (x ∷ xs) zero (suc i) h e = absurd (omega arith)
hex_at (x ∷ xs) (suc k) zero h e = absurd (omega arith)
hex_at (x ∷ xs) (suc k) (suc zero) h e = absurd (omega arith)
hex_at (x ∷ xs) (suc k) (suc (suc i)) h e = hex_at xs k i (omega arith) (omega arith)

pub pair_is : (b : ℕ) → b < 256 → get_or DIGITS (2 * b) 0 ∷ get_or DIGITS (2 * b + 1) 0 ∷ [] ≡ hex (b ∷ [])
pair_is b h =
    let all = range_with_len 0 256 in
    let P = hex_at all b (2 * b) (omega (arith, length-range_with_len 0 256)) refl in
    let self : get_or all b 0 ≡ b = get_or-range_with_len 0 256 b 0 h ∙ zero-add b in
    let next : 2 * b + 1 ≡ suc (2 * b) = omega arith in
    λ i. (ap (λ t. get_or t (2 * b) 0) table_is ∙ P.0 ∙ ap (λ n. hex_digit (n / 16)) self) i ∷ (ap (λ t. get_or t (2 * b + 1) 0) table_is ∙ ap (λ n. get_or (hex all) n 0) next ∙ P.1 ∙ ap (λ n. hex_digit (n % 16)) self) i ∷ []

abbrev pub decimals : List ℕ
decimals = codes "00010203040506070809101112131415161718192021222324252627282930313233343536373839404142434445464748495051525354555657585960616263646566676869707172737475767778798081828384858687888990919293949596979899"

-- the entries of a table, counted from i, are as a rule says
abbrev right : (ℕ → ℕ) → ℕ → List ℕ → Bool
right rule i [] = true
right rule i (x ∷ xs) = eqb x (rule i) && right rule (suc i) xs

both : (a b : Bool) → a && b ≡ true → (a ≡ true) × (b ≡ true)
both true b e = (refl, e)
both false b e = let z : ◌≡◌ {A = ℕ} 0 1 = cc in absurd (omega arith)

at : (rule : ℕ → ℕ) (xs : List ℕ) (i k : ℕ) → right rule i xs ≡ true → k < length xs → get_or xs k 0 ≡ rule (i + k)
at rule [] i k e h = absurd (omega arith)
at rule (x ∷ xs) i zero e h = eqb-true x (rule i) (both _ _ e).0 ∙ ap rule (plus_none i)
  where
    plus_none : (i : ℕ) → i ≡ i + 0
    plus_none i = omega arith
at rule (x ∷ xs) i (suc k) e h = at rule xs (suc i) k (both _ _ e).1 (omega arith) ∙ ap rule (moved i k)
  where
    moved : (i k : ℕ) → suc i + k ≡ i + suc k
    moved i k = omega arith

none_plus : (n : ℕ) → 0 + n ≡ n
none_plus n = omega arith

pub decimals_are : (n : ℕ) → n < 200 → get_or decimals n 0 ≡ decimal_of n
decimals_are n h = at decimal_of decimals 0 n refl (omega arith) ∙ ap decimal_of (none_plus n)

-- the two digits of a number below a hundred
pub tens_digit : (n : ℕ) → decimal_of (2 * n) ≡ 48 + n / 10
tens_digit n = let e : 2 * n / 2 ≡ n = omega arith in grind (arith, nat_tests)

pub ones_digit : (n : ℕ) → decimal_of (2 * n + 1) ≡ 48 + n % 10
ones_digit n = let e : (2 * n + 1) / 2 ≡ n = omega arith in grind (arith, nat_tests)
