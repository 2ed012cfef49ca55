-- The laws of the sensors' kinds.
use Rattle.std.specs.Prelude.{◌/◌, ◌%◌, refl}
use Rattle.frame.proofs.Spelled.{spelled}
use Rattle.frame.specs.Fields.{at16, at24, at32, at8, signed}
use Rattle.frame.specs.Model.{Law}
use Rattle.sensors.specs.Same.{climate_same, meter_same, rain_same}
use Rattle.sensors.specs.Signed.{signed_high, signed_low}
use Rattle.sensors.specs.Climate.{climate}
use Rattle.sensors.specs.Meter.{meter}
use Rattle.sensors.specs.Rain.{rain}
use Rattle.std.proofs.lemmas.Bool.Decides.{nat_tests}
use Rattle.std.proofs.Common.{rules, arith}

pub meter_law : Law meter
meter_law = record {
  some = search rules;
  sized = search rules;
  passes = λ r. let ok = r.ok in grind (arith, nat_tests);
  one = λ r s e f. let p = r.ok in let q = s.ok in meter_same r s e (grind (arith, nat_tests)) (grind (arith, nat_tests)) (grind (arith, nat_tests));
  onto = λ s xs u b n v.
      let e = spelled 7 0 xs n in
      (record { subtype = s; id = at16 xs 0; counter = at32 xs 2; strength = at8 xs 6 / 16; ok = grind (arith, nat_tests, v, b 0, b 1, b 2, b 3, b 4, b 5, b 6) }, refl {a = s}, grind (arith, nat_tests, e, v, b 0, b 1, b 2, b 3, b 4, b 5, b 6));
}

pub climate_law : Law climate
climate_law = record {
  some = search rules;
  sized = search rules;
  passes = λ r. let ok = r.ok in grind (arith, nat_tests);
  one = λ r s e f. let p = r.ok in let q = s.ok in climate_same r s e (grind (arith, nat_tests)) (grind (arith, nat_tests)) (grind (arith, nat_tests)) (grind (arith, nat_tests)) (grind (arith, nat_tests)) (grind (arith, nat_tests)) (grind (arith, nat_tests)) (grind (arith, nat_tests));
  onto = λ s xs u b n v.
      let e = spelled 10 0 xs n in
      let hi = signed_high (at8 xs 2) (at8 xs 3) (b 2) (b 3) (grind (arith, nat_tests, v)) in
      let lo = signed_low (at8 xs 2) (at8 xs 3) (b 2) (b 3) in
      (record { subtype = s; id = at16 xs 0; temperature = signed (at8 xs 2) (at8 xs 3); humidity = at8 xs 4; humidity_status = at8 xs 5; pressure = at16 xs 6; forecast = at8 xs 8; strength = at8 xs 9 / 16; battery = at8 xs 9 % 16; ok = grind (arith, nat_tests, v, b 0, b 1, b 2, b 3, b 4, b 5, b 6, b 7, b 8, b 9) }, refl {a = s}, grind (arith, e, hi, lo, b 0, b 1, b 6, b 7, b 9));
}

pub rain_law : Law rain
rain_law = record {
  some = search rules;
  sized = search rules;
  passes = λ r. let ok = r.ok in grind (arith, nat_tests);
  one = λ r s e f. let p = r.ok in let q = s.ok in rain_same r s e (grind (arith, nat_tests)) (grind (arith, nat_tests)) (grind (arith, nat_tests)) (grind (arith, nat_tests)) (grind (arith, nat_tests));
  onto = λ s xs u b n v.
      let e = spelled 8 0 xs n in
      (record { subtype = s; id = at16 xs 0; rate = at16 xs 2; total = at24 xs 4; strength = at8 xs 7 / 16; battery = at8 xs 7 % 16; ok = grind (arith, nat_tests, v, b 0, b 1, b 2, b 3, b 4, b 5, b 6, b 7) }, refl {a = s}, grind (arith, nat_tests, e, v, b 0, b 1, b 2, b 3, b 4, b 5, b 6, b 7));
}
