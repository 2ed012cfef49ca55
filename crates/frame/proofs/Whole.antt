-- Whole frames, and the frames that packets are written as.
use Rattle.std.proofs.Common.{◌≡◌, ℕ, List, Ok, Err, Result, ap, ◌∙◌, arith, take_all}
use Rattle.std.proofs.lemmas.Grind.{common_steps}
use Rattle.std.proofs.lemmas.Bool.Decides.{nat_tests}
use Rattle.frame.specs.declared.faults.Fault.{Fault}
use Rattle.frame.specs.declared.packet.Packet.{Packet}
use Rattle.frame.specs.Model.{Model, Law}
use Rattle.frame.specs.Frames.{Whole, front_of, written, judged, judged_whole, shown, then_by}

-- a whole frame is the frame at its own front
pub front_whole : (xs : List ℕ) → Whole xs → front_of xs ≡ Ok xs
front_whole xs w = grind (arith, nat_tests, take_all)

module _ {R : Type 0} (m : Model R) (law : Law m) where
  pub written_whole : (p : Packet R) → Whole (written m p)
  written_whole p = omega (arith, law.sized p.«record»)

  pub written_passes : (p : Packet R) → judged m (written m p) ≡ Ok (written m p)
  written_passes p =
      let w = written_whole p in
      grind (arith, nat_tests, common_steps, law.some, law.passes p.«record»)

  pub written_one : (p q : Packet R) → written m p ≡ written m q → p ≡ q
  written_one p q e =
      let s : p.seq ≡ q.seq = cc in
      let r = law.one p.«record» q.«record» (cc) (cc) in
      λ i. record { seq = s i; «record» = r i }

  pub reads_back : (r : Result (Packet R) Fault) (p : Packet R) → shown m r ≡ judged m (written m p) → r ≡ Ok p
  reads_back (Ok q) p e = let f = e ∙ written_passes p in ap Ok (written_one q p (cc))
  reads_back (Err x) p e = let f = e ∙ written_passes p in cc

-- what stands at the front of some bytes is a whole frame
pub front_is_whole : (xs f : List ℕ) → Ok f ≡ front_of xs → Whole f
front_is_whole xs f e = grind (arith, nat_tests, common_steps)

-- a whole frame is judged as it stands
pub judged_whole_lem : {R : Type 0} (m : Model R) (xs : List ℕ) → Whole xs → judged m xs ≡ judged_whole m xs
judged_whole_lem m xs w = ap (λ f. then_by f (judged_whole m)) (front_whole xs w)
