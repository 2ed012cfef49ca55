-- How long a house record is, and that its fields stand in order.
use Rattle.std.proofs.Common.{◌≡◌, ℕ, ◌≤◌, true, length, refl, arith, lit≤, length-append}
use Rattle.std.proofs.lemmas.Bool.Decides.{nat_tests}
use Rattle.frame.specs.Frames.{packet}
use Rattle.frame.specs.declared.packet.Packet.{Packet}
use Rattle.record.specs.declared.records.Record.{Record}
use Rattle.record.specs.declared.records.Record.TheVariants.{Interface, Transmitter, Blinds, Security, Climate, Rain, Meter}
use Rattle.house.specs.House.{fields, house_of}
use Rattle.house.specs.Laws.{ascending}

short_by : (seq : ℕ) (a : Record) → length (house_of (packet seq a)) ≤ 18
short_by seq (Interface r) = let ok = r.ok in grind (arith, nat_tests, length-append)
short_by seq (Transmitter r) = lit≤ tt
short_by seq (Blinds r) = lit≤ tt
short_by seq (Security r) = lit≤ tt
short_by seq (Climate r) = lit≤ tt
short_by seq (Rain r) = lit≤ tt
short_by seq (Meter r) = lit≤ tt

pub house_short : (p : Packet Record) → length (house_of p) ≤ 18
house_short p = short_by p.seq p.«record»

ordered_by : (seq : ℕ) (a : Record) → ascending 0 (fields (packet seq a)) ≡ true
ordered_by seq (Interface r) = refl
ordered_by seq (Transmitter r) = refl
ordered_by seq (Blinds r) = refl
ordered_by seq (Security r) = refl
ordered_by seq (Climate r) = refl
ordered_by seq (Rain r) = refl
ordered_by seq (Meter r) = refl

pub house_ordered : (p : Packet Record) → ascending 0 (fields p) ≡ true
house_ordered p = ordered_by p.seq p.«record»
