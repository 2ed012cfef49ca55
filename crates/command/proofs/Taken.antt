-- What is made of the data that a record was read from.
use Rattle.std.proofs.Common.{◌≡◌, ℕ, false, cond, List, ◌∷◌, is_ok, Ok, Err, Result, sym, refl, ap, ◌∙◌}
use Rattle.frame.specs.Faults.{Verdict, after}
use Rattle.frame.specs.Model.{Model, checked, accepted, said}
use Rattle.frame.specs.declared.faults.Fault.{Fault}
use Rattle.refusal.specs.declared.refusals.Refusal.{Refusal}
use Rattle.refusal.specs.declared.refusals.Refusal.TheVariants.{NoSuchCommand}
use Rattle.command.specs.declared.orders.Order.{Order}
use Rattle.command.specs.Sendable.{passes, sendable}
use Rattle.command.specs.Orders.{may_send_order}
use Rattle.command.specs.Commands.{asked, spelled_by}

-- the answer where a record was read: its order, if that may be sent
abbrev answered : Order → Result (List ℕ) Refusal
answered o = cond (may_send_order o) (Ok (spelled_by o)) (Err NoSuchCommand)

read_data : (v : Verdict) (l xs : List ℕ) → ◌≡◌ {A = Result (List ℕ) Fault} (Ok l) (after v xs) → l ≡ xs
read_data (Ok t) l xs e = cc
read_data (Err f) l xs e = cc

read_fails : (v : Verdict) (f : Fault) (l : List ℕ) → ◌≡◌ {A = Result (List ℕ) Fault} (Err f) (after v l) → is_ok v ≡ false
read_fails (Ok t) f l e = cc
read_fails (Err g) f l e = refl

module _ {R : Type 0} (m : Model R) (s : ℕ) (xs : List ℕ) where
  -- where no record was read, nothing is made
  pub refused : ((s : ℕ) (xs : List ℕ) → passes m s xs ≡ false → sendable m.number s xs ≡ false) → (v : Result R Fault) → is_ok v ≡ false → said m v ≡ accepted m s xs → Err NoSuchCommand ≡ asked m.number s xs
  refused fails (Ok r) n e = cc
  refused fails (Err f) n e = sym (ap (λ p. cond p (Ok (m.number ∷ s ∷ xs)) (Err NoSuchCommand)) (fails s xs (read_fails (checked m s xs) f (s ∷ xs) e)))

  -- where a record was read, it is its order that is asked for
  pub taken : (r : R) (o : Order) → spelled_by o ≡ m.number ∷ m.sub_of r ∷ m.bytes r → sendable m.number (m.sub_of r) (m.bytes r) ≡ may_send_order o → (v : Result R Fault) → v ≡ Ok r → said m v ≡ accepted m s xs → answered o ≡ asked m.number s xs
  taken r o spells sends v is e =
      let d = read_data (checked m s xs) (m.sub_of r ∷ m.bytes r) (s ∷ xs) (sym (ap (said m) is) ∙ e) in
      let u : m.sub_of r ≡ s = cc in
      let b : m.bytes r ≡ xs = cc in
      let made = sym sends in
      (λ i. cond (made i) (Ok (spells i)) (Err NoSuchCommand)) ∙ (λ i. asked m.number (u i) (b i))
