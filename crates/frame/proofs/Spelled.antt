-- A list of a known length, element by element.
use Rattle.std.proofs.Common.{◌≡◌, ℕ, zero, suc, ◌+◌, List, [], ◌∷◌, length, get_or, drop, arith}
use Rattle.std.proofs.lemmas.Grind.{common_steps}

abbrev pub spell : ℕ → ℕ → List ℕ → List ℕ
spell zero i xs = []
spell (suc n) i xs = get_or xs i 0 ∷ spell n (suc i) xs

pub spelled : (n i : ℕ) (xs : List ℕ) → length xs ≡ i + n → drop i xs ≡ spell n i xs
spelled zero i xs e = grind (arith, common_steps)
spelled (suc n) i xs e = grind (arith, common_steps, spelled n (suc i) xs (omega arith))
