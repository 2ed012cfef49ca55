-- The laws of the interface's kinds.
use Rattle.std.specs.Prelude.{◌≡◌, ℕ, List, [], ◌∷◌, length, refl}
use Rattle.control.specs.Same.{interface_same, mode_same, transmitter_same}
use Rattle.control.specs.Interface.{interface}
use Rattle.control.specs.Mode.{mode, verdict}
use Rattle.control.specs.Transmitter.{transmitter}
use Rattle.frame.proofs.Spelled.{spell, spelled}
use Rattle.frame.specs.Faults.{passed}
use Rattle.frame.specs.Fields.{at8}
use Rattle.frame.specs.Model.{Law}
use Rattle.std.proofs.lemmas.Bool.Decides.{nat_tests}
use Rattle.std.proofs.Common.{rules, arith}

pub transmitter_law : Law transmitter
transmitter_law = record {
  some = search rules;
  sized = search rules;
  passes = λ r. let ok = r.ok in grind (arith, nat_tests);
  one = λ r s e f. let p = r.ok in let q = s.ok in transmitter_same r s e (grind (arith, nat_tests));
  onto = λ s xs u b n v.
      let e = spelled 1 0 xs n in
      (record { subtype = s; message = at8 xs 0; ok = grind (arith, nat_tests, v, b 0) }, refl {a = s}, grind (arith, nat_tests, e, v, b 0));
}

pub interface_law : Law interface
interface_law = record {
  some = search rules;
  sized = λ r. let ok = r.ok in grind (arith, nat_tests);
  passes = λ r. let ok = r.ok in grind (arith, nat_tests);
  one = λ r s e f. interface_same r s e (cc) (cc);
  onto = λ s xs u b n v.
      let e = spelled 10 0 xs n in
      (record { subtype = s; command = at8 xs 0; messages = spell 9 1 xs; ok = grind (arith, nat_tests, v, b 0) }, refl {a = s}, grind (arith, nat_tests, e));
}

-- the bytes of passing data that no field holds
fixed : (s : ℕ) (xs : List ℕ) → length xs ≡ 10 → verdict s xs ≡ passed → ◌≡◌ {A = List ℕ} (3 ∷ at8 xs 1 ∷ 0 ∷ at8 xs 3 ∷ at8 xs 4 ∷ at8 xs 5 ∷ 0 ∷ 0 ∷ 0 ∷ 0 ∷ []) xs
fixed s xs n v = let e = spelled 10 0 xs n in grind (arith, nat_tests, e, v)

pub mode_law : Law mode
mode_law = record {
  some = search rules;
  sized = search rules;
  passes = λ r. let ok = r.ok in grind (arith, nat_tests);
  one = λ r s e f. mode_same r s (cc) (cc) (cc) (cc);
  onto = λ s xs u b n v.
      (record { frequency = at8 xs 1; msg3 = at8 xs 3; msg4 = at8 xs 4; msg5 = at8 xs 5; ok = grind (arith, nat_tests, v, b 3, b 4, b 5) }, grind (arith, nat_tests, v), fixed s xs n v);
}
