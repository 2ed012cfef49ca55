-- A reading of a frame's data is one of the fields that these data were made of.
use Rattle.std.proofs.Common.{◌≡◌, ℕ, Bool, true, false, List, ◌∷◌, Ok, Err, Result, is_ok, sym, ap, ◌∙◌, arith}
use Rattle.refusal.specs.declared.refusals.Refusal.{Refusal}
use Rattle.frame.specs.Fields.{Bytes}
use Rattle.frame.specs.Model.{Model, checked}
use Rattle.record.proofs.Sorts.{Sort, Of, model, law}
use Rattle.replay.specs.Back.{given, as_fields, lawful_by}
use Rattle.replay.proofs.Data.{data_of, fits, kind_passes}
use Rattle.replay.proofs.EachKind.{own, own_data, kind_onto}

module _ {R : Type 0} (m : Model R) (told : R → List ℕ) (s : ℕ) (ds ys : List ℕ) where
  of_data : (ok lawful : Bool) (t : Result R Refusal) → as_fields m.sub_of m.bytes t ≡ given ok (s ∷ ds) → lawful ≡ ok → (lawful ≡ true → (r : R) → m.sub_of r ≡ s → m.bytes r ≡ ds → told r ≡ ys) → as_fields m.sub_of told t ≡ given lawful (s ∷ ys)
  of_data true true (Ok r) e l back = let sub : m.sub_of r ≡ s = cc in let fields = back l r sub (cc) in λ i. Ok (sub i ∷ fields i)
  of_data false false (Err x) e l back = cc
  of_data true true (Err x) e l back = grind arith
  of_data false false (Ok r) e l back = grind arith
  of_data true false t e l back = grind arith
  of_data false true t e l back = grind arith

module _ (k : Sort) (s : ℕ) (ys : List ℕ) (b : Bytes ys) where
  -- there is just one record of the data of lawful fields, and they are its fields
  back : lawful_by (model k).number s ys ≡ true → (r : Of k) → (model k).sub_of r ≡ s → (model k).bytes r ≡ data_of k ys → own k r ≡ ys
  back h r u e =
      let o = kind_onto k s ys b h in
      let same : r ≡ o.0 = (law k).one r o.0 (u ∙ sym o.1) (e ∙ ap (data_of k) (sym o.2) ∙ own_data k o.0) in
      ap (own k) same ∙ o.2

  pub kind_read : fits k ys ≡ true → (t : Result (Of k) Refusal) → as_fields (model k).sub_of (model k).bytes t ≡ given (is_ok (checked (model k) s (data_of k ys))) (s ∷ data_of k ys) → as_fields (model k).sub_of (own k) t ≡ given (lawful_by (model k).number s ys) (s ∷ ys)
  kind_read f t e = of_data (model k) (own k) s (data_of k ys) ys _ _ t e (kind_passes k s ys b f) back
