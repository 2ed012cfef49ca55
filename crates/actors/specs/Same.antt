-- Two records with the same fields are one, since the fact in the ghost field has one proof.
use Rattle.std.specs.Prelude.{◌≡◌}
use Rattle.frame.specs.Same.{same_ok}
use Rattle.actors.specs.Ranges.{blinds_ok, security_ok}
use Rattle.actors.specs.declared.records.Blinds.{Blinds}
use Rattle.actors.specs.declared.records.Security.{Security}

pub blinds_same : (r s : Blinds) → r.subtype ≡ s.subtype → r.id ≡ s.id → r.unit ≡ s.unit → r.command ≡ s.command → r.strength ≡ s.strength → r.battery ≡ s.battery → r ≡ s
blinds_same r s p0 p1 p2 p3 p4 p5 = λ i. record {
  subtype = p0 i;
  id = p1 i;
  unit = p2 i;
  command = p3 i;
  strength = p4 i;
  battery = p5 i;
  ok = same_ok (λ j. blinds_ok (p0 j) (p1 j) (p2 j) (p3 j) (p4 j) (p5 j)) r.ok s.ok i;
}

pub security_same : (r s : Security) → r.subtype ≡ s.subtype → r.id ≡ s.id → r.status ≡ s.status → r.strength ≡ s.strength → r.battery ≡ s.battery → r ≡ s
security_same r s p0 p1 p2 p3 p4 = λ i. record {
  subtype = p0 i;
  id = p1 i;
  status = p2 i;
  strength = p3 i;
  battery = p4 i;
  ok = same_ok (λ j. security_ok (p0 j) (p1 j) (p2 j) (p3 j) (p4 j)) r.ok s.ok i;
}
