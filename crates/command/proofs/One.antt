-- Commands and what may be sent are one to one, and so are commands with numbers and their frames.
use Rattle.std.proofs.Common.{◌≡◌, ℕ, ◌<◌, Bool, true, false, cond, eqb, List, ◌∷◌, get_or, drop, is_ok, Ok, Err, Result, sym, refl, ap, ◌∙◌, inl, inr, arith}
use Rattle.std.proofs.lemmas.Bool.{cases_eq}
use Rattle.std.proofs.lemmas.Bool.Decides.{nat_tests}
use Rattle.frame.specs.Faults.{Verdict, passed}
use Rattle.frame.specs.Fields.{Bytes}
use Rattle.frame.specs.Frames.{packet}
use Rattle.frame.specs.Model.{Model, Law, checked}
use Rattle.frame.specs.Same.{same_ok}
use Rattle.frame.proofs.Checked.{size_of, verdict_passed}
use Rattle.frame.proofs.Whole.{written_passes}
use Rattle.refusal.specs.declared.refusals.Refusal.{Refusal}
use Rattle.refusal.specs.declared.refusals.Refusal.TheVariants.{NoSuchCommand}
use Rattle.control.specs.Mode.{mode}
use Rattle.control.specs.Laws.{mode_law}
use Rattle.actors.specs.Blinds.{blinds}
use Rattle.actors.specs.Security.{security}
use Rattle.actors.specs.Laws.{blinds_law, security_law}
use Rattle.command.specs.declared.orders.Order.{Order}
use Rattle.command.specs.declared.orders.Order.TheVariants.{Mode, Blinds, Security}
use Rattle.command.specs.declared.commands.Command.{Command}
use Rattle.command.specs.Sendable.{passes, sendable}
use Rattle.command.specs.Orders.{may_send_order}
use Rattle.command.specs.Commands.{asked, told, spelled_by, spelling, framed_by}
use Rattle.command.specs.Laws.{EachCommandMayBeSent, NoTwoCommandsAreSpelledAlike, WhatMayBeSentIsSomeCommand, judged_by, EachFramePassesItsCheck, NoTwoFramesAreAlike}
use Rattle.command.specs.Kinds.{mode_fails, mode_sends, blinds_fails, blinds_sends, security_fails, security_sends}

-- two commands of one order are one, since the fact in the ghost field has one proof
same : (c d : Command) → c.order ≡ d.order → c ≡ d
same c d e = λ i. record {
  order = e i;
  ok = same_ok (λ j. may_send_order (e j)) c.ok d.ok i;
}

order_one : (a b : Order) → spelled_by a ≡ spelled_by b → a ≡ b
order_one (Mode r) (Mode s) e = ap Mode (mode_law.one r s refl (cc))
order_one (Mode r) (Blinds s) e = cc
order_one (Mode r) (Security s) e = cc
order_one (Blinds r) (Mode s) e = cc
order_one (Blinds r) (Blinds s) e = ap Blinds (blinds_law.one r s (cc) (cc))
order_one (Blinds r) (Security s) e = cc
order_one (Security r) (Mode s) e = cc
order_one (Security r) (Blinds s) e = cc
order_one (Security r) (Security s) e = ap Security (security_law.one r s (cc) (cc))

pub one : NoTwoCommandsAreSpelledAlike
one c d e = same c d (order_one c.order d.order e)

-- what passes has the right length and is in range
passes_parts : {R : Type 0} (m : Model R) (s : ℕ) (xs : List ℕ) → passes m s xs ≡ true → passed ≡ checked m s xs
passes_parts m s xs p = by (checked m s xs) p
  where
    by : (v : Verdict) → is_ok v ≡ true → passed ≡ v
    by (Ok tt) e = refl
    by (Err f) e = cc

-- what an order says may be sent where the order may
order_may : (o : Order) → may_send_order o ≡ true → (number s : ℕ) (xs : List ℕ) → spelled_by o ≡ number ∷ s ∷ xs → sendable number s xs ≡ true
order_may (Mode r) ok number s xs e = grind (arith, e, mode_sends r, ok)
order_may (Blinds r) ok number s xs e = grind (arith, e, blinds_sends r, ok)
order_may (Security r) ok number s xs e = grind (arith, e, security_sends r, ok)

pub may : EachCommandMayBeSent
may c number s xs e = order_may c.order c.ok number s xs e

-- what was made of a command's type, subtype and data is that command
pub made_back : {number s : ℕ} {xs : List ℕ} (r : Result Command Refusal) → told r ≡ asked number s xs → (c : Command) → spelling c ≡ number ∷ s ∷ xs → r ≡ Ok c
made_back {number} {s} {xs} (Ok d) t c e =
    let f = t ∙ ap (λ p. cond p (Ok (number ∷ s ∷ xs)) (Err NoSuchCommand)) (may c number s xs e) ∙ ap Ok (sym e) in
    ap Ok (one d c (cc))
made_back {number} {s} {xs} (Err x) t c e =
    let f = t ∙ ap (λ p. cond p (Ok (number ∷ s ∷ xs)) (Err NoSuchCommand)) (may c number s xs e) in
    cc

module _ {R : Type 0} (m : Model R) (law : Law m) (s : ℕ) (xs : List ℕ) (fits : s < 256) (bytes : Bytes xs) where
  -- what may be sent as a record of a kind is some command
  kind_onto : (case : R → Order) → ((r : R) → spelled_by (case r) ≡ m.number ∷ m.sub_of r ∷ m.bytes r) → (passes m s xs ≡ false → sendable m.number s xs ≡ false) → ((r : R) → sendable m.number (m.sub_of r) (m.bytes r) ≡ may_send_order (case r)) → sendable m.number s xs ≡ true → (c : Command) × (spelling c ≡ m.number ∷ s ∷ xs)
  kind_onto case spells fails sends e =
      let ok = passes_parts m s xs (by (passes m s xs) fails) in
      let o = law.onto s xs fits bytes (size_of m s xs ok) (verdict_passed m s xs ok) in
      (record { order = case o.0; ok = sym (sends o.0) ∙ (λ i. sendable m.number (o.1 i) (o.2 i)) ∙ e }, spells o.0 ∙ (λ i. m.number ∷ o.1 i ∷ o.2 i))
    where
      by : (p : Bool) → (p ≡ false → sendable m.number s xs ≡ false) → p ≡ true
      by true f = refl
      by false f = let z = f refl in cc

-- what may be sent is of a kind that is sent
known : (n : ℕ) (p q r : Bool) → cond (eqb n 0x00) p (cond (eqb n 0x19) q (cond (eqb n 0x20) r false)) ≡ true → (n ≡ 0x00 → ⊥) → (n ≡ 0x19 → ⊥) → n ≡ 0x20
known n p q r e a b = grind (arith, nat_tests)

pub onto : WhatMayBeSentIsSomeCommand
onto number s xs fits bytes e =
    elim (cases_eq number 0x00) [
      | inl n ↦ at n (kind_onto mode mode_law s xs fits bytes Mode (λ r. refl) (mode_fails s xs) mode_sends (moved n))
      | inr a ↦
          elim (cases_eq number 0x19) [
            | inl n ↦ at n (kind_onto blinds blinds_law s xs fits bytes Blinds (λ r. refl) (blinds_fails s xs) blinds_sends (moved n))
            | inr b ↦
                let n = known number _ _ _ e a b in
                at n (kind_onto security security_law s xs fits bytes Security (λ r. refl) (security_fails s xs) security_sends (moved n))
          ]
    ]
  where
    moved : {k : ℕ} → number ≡ k → sendable k s xs ≡ true
    moved n = sym (ap (λ k. sendable k s xs) n) ∙ e

    at : {k : ℕ} → number ≡ k → (c : Command) × (spelling c ≡ k ∷ s ∷ xs) → (c : Command) × (spelling c ≡ number ∷ s ∷ xs)
    at n c = (c.0, c.1 ∙ ap (λ k. k ∷ s ∷ xs) (sym n))

by_kind : (seq : ℕ) (o : Order) → judged_by o (framed_by seq o) ≡ Ok (framed_by seq o)
by_kind seq (Mode r) = written_passes mode mode_law (packet seq r)
by_kind seq (Blinds r) = written_passes blinds blinds_law (packet seq r)
by_kind seq (Security r) = written_passes security security_law (packet seq r)

pub frame_passes : EachFramePassesItsCheck
frame_passes seq c = by_kind seq c.order

-- a frame is the length byte, the type, the subtype, the number and the data
laid : (seq : ℕ) (o : Order) → framed_by seq o ≡ get_or (framed_by seq o) 0 0 ∷ get_or (spelled_by o) 0 0 ∷ get_or (spelled_by o) 1 0 ∷ seq ∷ drop 2 (spelled_by o)
laid seq (Mode r) = refl
laid seq (Blinds r) = refl
laid seq (Security r) = refl

whole : (o : Order) → spelled_by o ≡ get_or (spelled_by o) 0 0 ∷ get_or (spelled_by o) 1 0 ∷ drop 2 (spelled_by o)
whole (Mode r) = refl
whole (Blinds r) = refl
whole (Security r) = refl

pub frame_one : NoTwoFramesAreAlike
frame_one seq seq' c d e =
    let f = sym (laid seq c.order) ∙ e ∙ laid seq' d.order in
    let q : seq ≡ seq' = cc in
    let a = whole c.order in
    let b = whole d.order in
    let u : spelling c ≡ spelling d = cc in
    (q, one c d u)
