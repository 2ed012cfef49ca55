-- Two records with the same fields are one, since the fact in the ghost field has one proof.
use Rattle.std.specs.Prelude.{◌≡◌}
use Rattle.frame.specs.Same.{same_ok}
use Rattle.sensors.specs.Ranges.{climate_ok, meter_ok, rain_ok}
use Rattle.sensors.specs.declared.records.Climate.{Climate}
use Rattle.sensors.specs.declared.records.Meter.{Meter}
use Rattle.sensors.specs.declared.records.Rain.{Rain}

pub climate_same : (r s : Climate) → r.subtype ≡ s.subtype → r.id ≡ s.id → r.temperature ≡ s.temperature → r.humidity ≡ s.humidity → r.humidity_status ≡ s.humidity_status → r.pressure ≡ s.pressure → r.forecast ≡ s.forecast → r.strength ≡ s.strength → r.battery ≡ s.battery → r ≡ s
climate_same r s p0 p1 p2 p3 p4 p5 p6 p7 p8 = λ i. record {
  subtype = p0 i;
  id = p1 i;
  temperature = p2 i;
  humidity = p3 i;
  humidity_status = p4 i;
  pressure = p5 i;
  forecast = p6 i;
  strength = p7 i;
  battery = p8 i;
  ok = same_ok (λ j. climate_ok (p0 j) (p1 j) (p2 j) (p3 j) (p4 j) (p5 j) (p6 j) (p7 j) (p8 j)) r.ok s.ok i;
}

pub rain_same : (r s : Rain) → r.subtype ≡ s.subtype → r.id ≡ s.id → r.rate ≡ s.rate → r.total ≡ s.total → r.strength ≡ s.strength → r.battery ≡ s.battery → r ≡ s
rain_same r s p0 p1 p2 p3 p4 p5 = λ i. record {
  subtype = p0 i;
  id = p1 i;
  rate = p2 i;
  total = p3 i;
  strength = p4 i;
  battery = p5 i;
  ok = same_ok (λ j. rain_ok (p0 j) (p1 j) (p2 j) (p3 j) (p4 j) (p5 j)) r.ok s.ok i;
}

pub meter_same : (r s : Meter) → r.subtype ≡ s.subtype → r.id ≡ s.id → r.counter ≡ s.counter → r.strength ≡ s.strength → r ≡ s
meter_same r s p0 p1 p2 p3 = λ i. record {
  subtype = p0 i;
  id = p1 i;
  counter = p2 i;
  strength = p3 i;
  ok = same_ok (λ j. meter_ok (p0 j) (p1 j) (p2 j) (p3 j)) r.ok s.ok i;
}
