-- Packets and accepted frames are one to one.
use Rattle.std.proofs.Common.{◌≡◌, ℕ, ◌+◌, List, length, get_or, take, Ok, Err, Result, sym, refl, ap, ◌∙◌, subst, inl, inr, arith}
use native.Mathlib.Decide.{dec_le, dec_lt}
use Rattle.std.proofs.lemmas.Bool.Decides.{nat_tests}
use Rattle.frame.specs.Fields.{Bytes}
use Rattle.frame.specs.Frames.{Whole, front_of, then_by, judged_whole, written, packet}
use Rattle.frame.specs.declared.faults.Fault.{Fault}
use Rattle.frame.specs.declared.faults.Fault.TheVariants.{NoPayload, Cut}
use Rattle.frame.specs.declared.packet.Packet.{Packet}
use Rattle.frame.proofs.Whole.{front_whole, front_is_whole, judged_whole_lem, written_whole, written_passes, written_one}
use Rattle.frame.proofs.Onto.{bytes_take, onto_whole}
use Rattle.record.specs.declared.records.Record.{Record}
use Rattle.record.specs.Frames.{frame_of, verdict_of, verdict_whole, told}
use Rattle.record.specs.Laws.{EachPacketsFrameIsAccepted, NoTwoPacketsHaveOneFrame, EachAcceptedFrameIsAPackets}
use Rattle.record.proofs.Sorts.{Sort, Of, model, law, inject, sort_of, body, put_together, frame_is, injected, named, named_is, verdict_is, typed}

-- the verdict on the frame of a packet of a kind
kind_accepted : (k : Sort) (p : Packet (Of k)) → verdict_of (written (model k) p) ≡ Ok (written (model k) p)
kind_accepted k p =
    let w = written_whole (model k) (law k) p in
    ap (λ f. then_by f verdict_whole) (front_whole (written (model k) p) w)
    ∙ verdict_is k (written (model k) p) (omega (arith, (law k).some)) refl
    ∙ sym (judged_whole_lem (model k) (written (model k) p) w)
    ∙ written_passes (model k) (law k) p

pub accepted : EachPacketsFrameIsAccepted
accepted p =
    let e = frame_is p.seq p.«record» in
    subst (λ f. verdict_of f ≡ Ok f) (sym e) (kind_accepted (sort_of p.«record») (packet p.seq (body p.«record»)))

-- two packets of kinds with one frame are of one kind, and one
one_kind : (k l : Sort) → k ≡ l → (s t : ℕ) (a : Of k) (b : Of l) → written (model k) (packet s a) ≡ written (model l) (packet t b) → packet s (inject k a) ≡ packet t (inject l b)
one_kind k l e =
    subst (λ m. (s t : ℕ) (a : Of k) (b : Of m) → written (model k) (packet s a) ≡ written (model m) (packet t b) → packet s (inject k a) ≡ packet t (inject m b)) e
    (λ s t a b f. ap (λ p. packet p.seq (inject k p.«record»)) (written_one (model k) (law k) (packet s a) (packet t b) f))

pub one : NoTwoPacketsHaveOneFrame
one p q e =
    let k = sort_of p.«record» in
    let l = sort_of q.«record» in
    let f = sym (frame_is p.seq p.«record») ∙ e ∙ frame_is q.seq q.«record» in
    let n : (model k).number ≡ (model l).number = ap (λ xs. get_or xs 1 0) f in
    let same : k ≡ l = sym (named_is k) ∙ ap named n ∙ named_is l in
    let whole = one_kind k l same p.seq q.seq (body p.«record») (body q.«record») f in
    ap (packet p.seq) (sym (put_together p.«record»)) ∙ whole ∙ ap (packet q.seq) (put_together q.«record»)

-- the whole frame at the front of bytes is of bytes too
front_bytes : (xs f : List ℕ) → Bytes xs → front_of xs ≡ Ok f → Bytes f
front_bytes xs f b e =
    elim (dec_lt (get_or xs 0 0) (length xs)) [
      | yes h ↦
          let is : take (get_or xs 0 0 + 1) xs ≡ f = grind (arith, nat_tests) in
          subst Bytes is (bytes_take (get_or xs 0 0 + 1) xs b)
      | no h ↦
          let no : ◌≡◌ {A = Result (List ℕ) Fault} (Err (Cut (length xs))) (Ok f) = grind (arith, nat_tests) in
          cc
    ]

-- a whole frame is accepted as one of some kind
accepted_by : (g f : List ℕ) → verdict_whole g ≡ Ok f → (k : Sort) × (judged_whole (model k) g ≡ Ok f)
accepted_by g f e =
    elim (dec_le 4 (get_or g 0 0)) [
      | yes h ↦ elim (typed g h) [ inl k ↦ (k.0, sym (verdict_is k.0 g h k.1) ∙ e) | inr n ↦ cc ]
      | no h ↦ let no : ◌≡◌ {A = Result (List ℕ) Fault} (Err NoPayload) (Ok f) = grind (arith, nat_tests) in cc
    ]

-- an accepted frame that stands whole is some packet's
onto_whole_any : (g f : List ℕ) → Whole g → Bytes g → verdict_whole g ≡ Ok f → (p : Packet Record) × (frame_of p ≡ f)
onto_whole_any g f w b e =
    let k = accepted_by g f e in
    let o = onto_whole (model k.0) (law k.0) g f w b k.1 in
    (packet o.0.seq (inject k.0 o.0.«record»), injected k.0 o.0.seq o.0.«record» ∙ o.1)

then_ok : (r : Result (List ℕ) Fault) (f : List ℕ) → then_by r verdict_whole ≡ Ok f → (g : List ℕ) × (r ≡ Ok g) × (verdict_whole g ≡ Ok f)
then_ok (Ok g) f e = (g, refl, e)
then_ok (Err x) f e = cc

pub onto : EachAcceptedFrameIsAPackets
onto xs f b e =
    let g = then_ok (front_of xs) f e in
    onto_whole_any g.0 f (front_is_whole xs g.0 (sym g.1)) (front_bytes xs g.0 b g.1) g.2

-- a packet's frame is read as that packet
pub reads_back : (xs : List ℕ) (r : Result (Packet Record) Fault) → told r ≡ verdict_of xs → (p : Packet Record) → xs ≡ frame_of p → r ≡ Ok p
reads_back xs (Ok q) e p is = let f = e ∙ ap verdict_of is ∙ accepted p in ap Ok (one q p (cc))
reads_back xs (Err x) e p is = let f = e ∙ ap verdict_of is ∙ accepted p in cc

-- what a whole frame is accepted as is that frame
accepted_is : (k : Sort) (g f : List ℕ) → judged_whole (model k) g ≡ Ok f → g ≡ f
accepted_is k g f e = grind (arith, nat_tests)

accepted_same : (g f : List ℕ) → verdict_whole g ≡ Ok f → g ≡ f
accepted_same g f e = let k = accepted_by g f e in accepted_is k.0 g f k.1

-- a packet that is read is written as the frame that stands there
pub writes_back : (xs : List ℕ) (r : Result (Packet Record) Fault) → told r ≡ verdict_of xs → (p : Packet Record) → r ≡ Ok p → front_of xs ≡ Ok (frame_of p)
writes_back xs r e p is =
    let t : told (Ok p) ≡ verdict_of xs = sym (ap told is) ∙ e in
    let g = then_ok (front_of xs) (frame_of p) (sym t) in
    g.1 ∙ ap Ok (accepted_same g.0 (frame_of p) g.2)

-- a verdict is one by the frame or the fault that it tells
pub told_one : (v w : Result (Packet Record) Fault) → told v ≡ told w → v ≡ w
told_one (Ok p) (Ok q) e = ap Ok (one p q (cc))
told_one (Ok p) (Err x) e = cc
told_one (Err x) (Ok q) e = cc
told_one (Err x) (Err y) e = ap Err (cc)

-- every frame has a verdict
pub judged_some : (xs : List ℕ) → Bytes xs → (v : Result (Packet Record) Fault) × (told v ≡ verdict_of xs)
judged_some xs b = by (verdict_of xs) refl
  where
    by : (r : Result (List ℕ) Fault) → verdict_of xs ≡ r → (v : Result (Packet Record) Fault) × (told v ≡ verdict_of xs)
    by (Ok f) e = let p = onto xs f b e in (Ok p.0, ap Ok p.1 ∙ sym e)
    by (Err x) e = (Err x, sym e)
