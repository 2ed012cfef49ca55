-- What a pen writes, piece behind piece.
use Rattle.std.proofs.Common.{◌≡◌, ℕ, List, ◌++◌, ◌∙◌, subst}
use Rattle.listing.specs.declared.text.Pen.{Pen}
use Rattle.listing.specs.Pens.{Writes}
use Rattle.listing.proofs.Texts.{grown_more}

pub writes_more : {x y z : Pen} {a b : List ℕ} → Writes x a y → Writes y b z → Writes x (a ++ b) z
writes_more A B = record { same_buffer = B.same_buffer ∙ A.same_buffer; grown = grown_more _ _ _ _ _ _ _ _ A.grown B.grown }

pub writes_same : {x y : Pen} {a b : List ℕ} → a ≡ b → Writes x a y → Writes x b y
writes_same {x} {y} e W = subst (λ l. Writes x l y) e W
