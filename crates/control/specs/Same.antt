-- Two records with the same fields are one, since the fact in the ghost field has one proof.
use Rattle.std.specs.Prelude.{◌≡◌}
use Rattle.frame.specs.Same.{same_ok}
use Rattle.control.specs.Ranges.{transmitter_ok, interface_ok, mode_ok}
use Rattle.control.specs.declared.records.InterfaceMessage.{InterfaceMessage}
use Rattle.control.specs.declared.records.SetMode.{SetMode}
use Rattle.control.specs.declared.records.TransmitterMessage.{TransmitterMessage}

pub transmitter_same : (r s : TransmitterMessage) → r.subtype ≡ s.subtype → r.message ≡ s.message → r ≡ s
transmitter_same r s p0 p1 = λ i. record {
  subtype = p0 i;
  message = p1 i;
  ok = same_ok (λ j. transmitter_ok (p0 j) (p1 j)) r.ok s.ok i;
}

pub interface_same : (r s : InterfaceMessage) → r.subtype ≡ s.subtype → r.command ≡ s.command → r.messages ≡ s.messages → r ≡ s
interface_same r s p0 p1 p2 = λ i. record {
  subtype = p0 i;
  command = p1 i;
  messages = p2 i;
  ok = same_ok (λ j. interface_ok (p0 j) (p1 j) (p2 j)) r.ok s.ok i;
}

pub mode_same : (r s : SetMode) → r.frequency ≡ s.frequency → r.msg3 ≡ s.msg3 → r.msg4 ≡ s.msg4 → r.msg5 ≡ s.msg5 → r ≡ s
mode_same r s p0 p1 p2 p3 = λ i. record {
  frequency = p0 i;
  msg3 = p1 i;
  msg4 = p2 i;
  msg5 = p3 i;
  ok = same_ok (λ j. mode_ok (p0 j) (p1 j) (p2 j) (p3 j)) r.ok s.ok i;
}
