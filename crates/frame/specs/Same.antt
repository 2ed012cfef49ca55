-- The fact in a record's ghost field has one proof.
use Rattle.std.specs.Prelude.{◌≡◌, Bool, true}
use Rattle.std.proofs.Math.Bool.{Bool-set}
use Rattle.std.proofs.Math.Path.{PathP}
use mathlib.Core.HLevel.{is_prop→PathP}

-- so it is joined wherever what it tests is joined
pub same_ok : {a b : Bool} (p : a ≡ b) (x : a ≡ true) (y : b ≡ true) → PathP (λ i. p i ≡ true) x y
same_ok p x y = is_prop→PathP (λ i. p i ≡ true) (λ i. Bool-set (p i) true) x y
