-- Packets and lawful house records are one to one.
use Rattle.std.proofs.Common.{◌≡◌, ℕ, ◌<◌, ◌≤◌, Bool, true, false, cond, ◌&&◌, eqb, leb, List, length, get_or, drop, Some, unwrap_or, Ok, Err, Result, sym, refl, ap, ◌∙◌, subst, inl, inr, arith, eqb-true, leb-true, le-leb}
use borrow.Author.Tests.{lt-leb}
use Rattle.std.proofs.lemmas.List.{drop_more}
use Rattle.std.proofs.lemmas.Bool.{cases_eq as equal}
use Rattle.std.proofs.lemmas.Bool.Decides.{nat_tests}
use Rattle.frame.proofs.Onto.{bytes_drop}
use Rattle.frame.specs.Fields.{Bytes, at8, at16}
use Rattle.frame.specs.Frames.{packet}
use Rattle.frame.specs.declared.packet.Packet.{Packet}
use Rattle.refusal.specs.Output.{Put}
use Rattle.refusal.specs.declared.refusals.Refusal.{Refusal}
use Rattle.refusal.specs.declared.refusals.Refusal.TheVariants.{NoHouseRecord}
use Rattle.record.proofs.Sorts.{Sort, interface_messages, transmitter_messages, blinds_frames, contacts, climates, rains, meters, Of, model, inject, sort_of, body, put_together, named, named_is}
use Rattle.record.specs.Frames.{frame_of}
use Rattle.record.specs.declared.records.Record.{Record}
use Rattle.house.specs.House.{house_of}
use Rattle.replay.specs.Back.{map_by, is_map, headed, lawful_by, lawful, given, house_verdict, housed}
use Rattle.replay.specs.Laws.{EachPacketsHouseRecordIsLawful, NoTwoPacketsHaveOneHouseRecord, EachLawfulHouseRecordIsAPackets, AFrameComesBack}
use Rattle.replay.proofs.Numbers.{two_at}
use Rattle.replay.proofs.EachKind.{own, kind_lawful, kind_one, kind_onto}

-- the map of a kind
abbrev mapped : Sort → ℕ
mapped k = unwrap_or (map_by (model k).number) 0

maps_to : (k : Sort) → map_by (model k).number ≡ Some (mapped k)
maps_to interface_messages = refl
maps_to transmitter_messages = refl
maps_to blinds_frames = refl
maps_to contacts = refl
maps_to climates = refl
maps_to rains = refl
maps_to meters = refl

-- the house record of a packet of a kind
abbrev laid_out : (k : Sort) → ℕ → Of k → List ℕ
laid_out k seq r = headed (mapped k) (model k).number ((model k).sub_of r) seq (own k r)

injected : (k : Sort) (seq : ℕ) (r : Of k) → house_of (packet seq (inject k r)) ≡ laid_out k seq r
injected interface_messages seq r = refl
injected transmitter_messages seq r = refl
injected blinds_frames seq r = refl
injected contacts seq r = refl
injected climates seq r = refl
injected rains seq r = refl
injected meters seq r = refl

house_is : (seq : ℕ) (a : Record) → house_of (packet seq a) ≡ laid_out (sort_of a) seq (body a)
house_is seq a = ap (λ b. house_of (packet seq b)) (sym (put_together a)) ∙ injected (sort_of a) seq (body a)

-- what a kind's fields are with their map, type, subtype and sequence number before them
headed_lawful : (k : Sort) (s seq : ℕ) (ys : List ℕ) → lawful_by (model k).number s ys ≡ true → lawful (headed (mapped k) (model k).number s seq ys) ≡ true
headed_lawful interface_messages s seq ys h = grind (arith, nat_tests)
headed_lawful transmitter_messages s seq ys h = grind (arith, nat_tests)
headed_lawful blinds_frames s seq ys h = grind (arith, nat_tests)
headed_lawful contacts s seq ys h = grind (arith, nat_tests)
headed_lawful climates s seq ys h = grind (arith, nat_tests)
headed_lawful rains s seq ys h = grind (arith, nat_tests)
headed_lawful meters s seq ys h = grind (arith, nat_tests)

pub house_lawful : EachPacketsHouseRecordIsLawful
house_lawful p =
    let k = sort_of p.«record» in
    let r = body p.«record» in
    ap lawful (house_is p.seq p.«record») ∙ headed_lawful k ((model k).sub_of r) p.seq (own k r) (kind_lawful k r)

-- two packets of kinds with one house record are of one kind, and one
one_kind : (k l : Sort) → k ≡ l → (s t : ℕ) (a : Of k) (b : Of l) → laid_out k s a ≡ laid_out l t b → packet s (inject k a) ≡ packet t (inject l b)
one_kind k l e =
    subst (λ m. (s t : ℕ) (a : Of k) (b : Of m) → laid_out k s a ≡ laid_out m t b → packet s (inject k a) ≡ packet t (inject m b)) e
    (λ s t a b f.
    let q : s ≡ t = ap (λ xs. get_or xs 4 0) f in
    let r = kind_one k a b (ap (λ xs. get_or xs 3 0) f) (ap (drop 5) f) in
    λ i. packet (q i) (inject k (r i)))

pub house_one : NoTwoPacketsHaveOneHouseRecord
house_one p q e =
    let k = sort_of p.«record» in
    let l = sort_of q.«record» in
    let f = sym (house_is p.seq p.«record») ∙ e ∙ house_is q.seq q.«record» in
    let n : (model k).number ≡ (model l).number = ap (λ xs. get_or xs 2 0) f in
    let same : k ≡ l = sym (named_is k) ∙ ap named n ∙ named_is l in
    let whole = one_kind k l same p.seq q.seq (body p.«record») (body q.«record») f in
    ap (packet p.seq) (sym (put_together p.«record»)) ∙ whole ∙ ap (packet q.seq) (put_together q.«record»)

-- the map, type, subtype and sequence number of some bytes, and the fields behind them
pub headed_is : (xs : List ℕ) → Bytes xs → 5 ≤ length xs → headed (at16 xs 0) (at8 xs 2) (at8 xs 3) (at8 xs 4) (drop 5 xs) ≡ xs
headed_is xs b h =
    let m = two_at (at8 xs 0) (at8 xs 1) (b 0) (b 1) in
    let e0 = drop_more xs 0 0 (omega arith) in
    let e1 = drop_more xs 1 0 (omega arith) in
    let e2 = drop_more xs 2 0 (omega arith) in
    let e3 = drop_more xs 3 0 (omega arith) in
    let e4 = drop_more xs 4 0 (omega arith) in
    cc

-- the last type, where it is none of the others
last_type : (n : ℕ) (a b c d e f g : Bool) → (n ≡ 0x01 → ⊥) → (n ≡ 0x02 → ⊥) → (n ≡ 0x19 → ⊥) → (n ≡ 0x20 → ⊥) → (n ≡ 0x54 → ⊥) → (n ≡ 0x55 → ⊥) → cond (eqb n 0x01) a (cond (eqb n 0x02) b (cond (eqb n 0x19) c (cond (eqb n 0x20) d (cond (eqb n 0x54) e (cond (eqb n 0x55) f (cond (eqb n 0x71) g false)))))) ≡ true → n ≡ 0x71
last_type n a b c d e f g n1 n2 n3 n4 n5 n6 h = grind (arith, nat_tests)

-- a type with lawful fields is that of a kind
typed : (n s : ℕ) (ys : List ℕ) → lawful_by n s ys ≡ true → (k : Sort) × (n ≡ (model k).number)
typed n s ys h =
    elim (equal n 0x01) [
      | inl e ↦ (interface_messages, e)
      | inr a0 ↦
          elim (equal n 0x02) [
            | inl e ↦ (transmitter_messages, e)
            | inr a1 ↦
                elim (equal n 0x19) [
                  | inl e ↦ (blinds_frames, e)
                  | inr a2 ↦
                      elim (equal n 0x20) [
                        | inl e ↦ (contacts, e)
                        | inr a3 ↦
                            elim (equal n 0x54) [
                              | inl e ↦ (climates, e)
                              | inr a4 ↦
                                  elim (equal n 0x55) [
                                    | inl e ↦ (rains, e)
                                    | inr a5 ↦ (meters, last_type n _ _ _ _ _ _ _ a0 a1 a2 a3 a4 a5 h)
                                  ]
                            ]
                      ]
                ]
          ]
    ]

-- three tests that hold
all_hold : (a b c : Bool) → (a && b && c) ≡ true → (a ≡ true) × (b ≡ true) × (c ≡ true)
all_hold a b c h = (grind arith, grind arith, grind arith)

pub house_onto : EachLawfulHouseRecordIsAPackets
house_onto xs b h =
    let all = all_hold (leb 5 (length xs)) (is_map (map_by (at8 xs 2)) (at16 xs 0)) (lawful_by (at8 xs 2) (at8 xs 3) (drop 5 xs)) h in
    let long = leb-true 5 (length xs) all.0 in
    let law = all.2 in
    let k = typed (at8 xs 2) (at8 xs 3) (drop 5 xs) law in
    let is : map_by (at8 xs 2) ≡ Some (mapped k.0) = ap map_by k.1 ∙ maps_to k.0 in
    let map = eqb-true (at16 xs 0) (mapped k.0) (sym (ap (λ o. is_map o (at16 xs 0)) is) ∙ all.1) in
    let o = kind_onto k.0 (at8 xs 3) (drop 5 xs) (bytes_drop 5 xs b) (subst (λ n. lawful_by n (at8 xs 3) (drop 5 xs) ≡ true) k.1 law) in
    let q = at8 xs 4 in
    let same : laid_out k.0 q o.0 ≡ headed (at16 xs 0) (at8 xs 2) (at8 xs 3) q (drop 5 xs) = λ i. headed (sym map i) (sym k.1 i) (o.1 i) q (o.2 i) in
    (packet q (inject k.0 o.0), injected k.0 q o.0 ∙ same ∙ headed_is xs b long)

-- bytes that are too few are refused; of others the map and the fields decide
pub short_refused : (xs : List ℕ) → length xs < 5 → Err NoHouseRecord ≡ house_verdict xs
short_refused xs h = sym (ap (λ t. given (t && is_map (map_by (at8 xs 2)) (at16 xs 0) && lawful_by (at8 xs 2) (at8 xs 3) (drop 5 xs)) xs) (lt-leb 5 (length xs) h))

pub long_verdict : (xs : List ℕ) → Bytes xs → 5 ≤ length xs → given (is_map (map_by (at8 xs 2)) (at16 xs 0) && lawful_by (at8 xs 2) (at8 xs 3) (drop 5 xs)) (headed (at16 xs 0) (at8 xs 2) (at8 xs 3) (at8 xs 4) (drop 5 xs)) ≡ house_verdict xs
long_verdict xs b h =
    ap (given (is_map (map_by (at8 xs 2)) (at16 xs 0) && lawful_by (at8 xs 2) (at8 xs 3) (drop 5 xs))) (headed_is xs b h)
    ∙ sym (ap (λ t. given (t && is_map (map_by (at8 xs 2)) (at16 xs 0) && lawful_by (at8 xs 2) (at8 xs 3) (drop 5 xs)) xs) (le-leb 5 (length xs) h))

-- what is given is what was asked for
given_is : (b : Bool) (xs ys : List ℕ) → Ok ys ≡ given b xs → ys ≡ xs
given_is true xs ys e = cc
given_is false xs ys e = grind arith

module _ (xs : List ℕ) (r : Result (Packet Record) Refusal) (v : housed r ≡ house_verdict xs) where
  -- a packet's house record is read as that packet
  pub reads_back : (p : Packet Record) → xs ≡ house_of p → r ≡ Ok p
  reads_back p e = by r (v ∙ ap house_verdict e ∙ ap (λ b. given b (house_of p)) (house_lawful p))
    where
      by : (r : Result (Packet Record) Refusal) → housed r ≡ Ok (house_of p) → r ≡ Ok p
      by (Ok q) f = ap Ok (house_one q p (cc))
      by (Err x) f = grind arith

  -- a packet that is read has these bytes as its house record
  pub writes_back : (p : Packet Record) → r ≡ Ok p → house_of p ≡ xs
  writes_back p e = given_is (lawful xs) xs (house_of p) (sym (ap housed e) ∙ v)

-- a frame that is read, as a house record and back
pub frame_comes_back : AFrameComesBack
frame_comes_back xs f p e g before after size re =
    let is : frame_of p ≡ f = cc in
    subst (λ h. Put h before size after) is (re.framed p refl)
