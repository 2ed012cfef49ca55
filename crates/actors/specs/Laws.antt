-- The laws of the commanded devices' kinds.
use Rattle.std.specs.Prelude.{◌/◌, ◌%◌, refl}
use Rattle.actors.specs.Same.{blinds_same, security_same}
use Rattle.actors.specs.Blinds.{blinds}
use Rattle.actors.specs.Security.{security}
use Rattle.frame.proofs.Spelled.{spelled}
use Rattle.frame.specs.Fields.{at24, at8}
use Rattle.frame.specs.Model.{Law}
use Rattle.std.proofs.lemmas.Bool.Decides.{nat_tests}
use Rattle.std.proofs.Common.{rules, arith}

pub blinds_law : Law blinds
blinds_law = record {
  some = search rules;
  sized = search rules;
  passes = λ r. let ok = r.ok in grind (arith, nat_tests);
  one = λ r s e f. let p = r.ok in let q = s.ok in blinds_same r s e (grind (arith, nat_tests)) (grind (arith, nat_tests)) (grind (arith, nat_tests)) (grind (arith, nat_tests)) (grind (arith, nat_tests));
  onto = λ s xs u b n v.
      let e = spelled 6 0 xs n in
      (record { subtype = s; id = at24 xs 0; unit = at8 xs 3; command = at8 xs 4; strength = at8 xs 5 / 16; battery = at8 xs 5 % 16; ok = grind (arith, nat_tests, v, b 0, b 1, b 2, b 3, b 4, b 5) }, refl {a = s}, grind (arith, nat_tests, e, v, b 0, b 1, b 2, b 3, b 4, b 5));
}

pub security_law : Law security
security_law = record {
  some = search rules;
  sized = search rules;
  passes = λ r. let ok = r.ok in grind (arith, nat_tests);
  one = λ r s e f. let p = r.ok in let q = s.ok in security_same r s e (grind (arith, nat_tests)) (grind (arith, nat_tests)) (grind (arith, nat_tests)) (grind (arith, nat_tests));
  onto = λ s xs u b n v.
      let e = spelled 5 0 xs n in
      (record { subtype = s; id = at24 xs 0; status = at8 xs 3; strength = at8 xs 4 / 16; battery = at8 xs 4 % 16; ok = grind (arith, nat_tests, v, b 0, b 1, b 2, b 3, b 4) }, refl {a = s}, grind (arith, nat_tests, e, v, b 0, b 1, b 2, b 3, b 4));
}
