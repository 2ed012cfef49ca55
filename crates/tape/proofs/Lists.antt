-- Lists.
use Rattle.std.proofs.Common.{◌≡◌, ℕ, List, [], ◌∷◌, ◌++◌, length, take, drop, sym, ◌∙◌, arith}
use Rattle.std.proofs.Math.Seq.{take-append_seam, drop-append_seam}

pub nil_cons : {X : Type 0} (x : X) (xs : List X) → [] ≡ x ∷ xs → ⊥
nil_cons x xs e = let z : ◌≡◌ {A = ℕ} 0 1 = cc in omega arith

-- two ways to cut a list, the fronts of one length, are one
pub same_cut : {X : Type 0} (a a' b b' : List X) → length a ≡ length a' → a ++ b ≡ a' ++ b' → (a ≡ a') × (b ≡ b')
same_cut a a' b b' n e = (
  sym (take-append_seam a b) ∙ (λ i. take (n i) (e i)) ∙ take-append_seam a' b',
  sym (drop-append_seam a b) ∙ (λ i. drop (n i) (e i)) ∙ drop-append_seam a' b',
)
