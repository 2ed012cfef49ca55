-- The laws of the kinds that are sent (docs/COMMANDS.md).
use Rattle.std.specs.Prelude.{◌≡◌, ℕ, ◌+◌, ◌*◌, true, false, ◌&&◌, ◌==◌, List, length, is_ok}
use Rattle.std.proofs.Common.{ap, ◌∙◌, arith}
use Rattle.std.proofs.lemmas.Bool.Decides.{nat_tests}
use Rattle.frame.specs.Faults.{Verdict, passed, unless}
use Rattle.frame.specs.Fields.{at8}
use Rattle.frame.specs.Model.{Model, Law}
use Rattle.frame.specs.declared.faults.Fault.TheVariants.{WrongLength}
use Rattle.control.specs.Mode.{mode}
use Rattle.control.specs.Laws.{mode_law}
use Rattle.control.specs.declared.records.SetMode.{SetMode}
use Rattle.actors.specs.Blinds.{blinds}
use Rattle.actors.specs.Security.{security}
use Rattle.actors.specs.Laws.{blinds_law, security_law}
use Rattle.actors.specs.declared.records.Blinds.{Blinds as BlindsRecord}
use Rattle.actors.specs.declared.records.Security.{Security as SecurityRecord}
use Rattle.command.specs.declared.orders.Order.TheVariants.{Mode, Blinds, Security}
use Rattle.command.specs.Sendable.{passes, sendable, may_send}
use Rattle.command.specs.Orders.{may_send_order}

-- data of the right length whose fields are in range pass
checked_passed : (a b : ℕ) (w : Verdict) → a ≡ b → w ≡ passed → unless (a == b) WrongLength w ≡ passed
checked_passed a b w e f = grind (arith, nat_tests)

-- a record's subtype and data pass
record_passes : {R : Type 0} (m : Model R) → Law m → (r : R) → passes m (m.sub_of r) (m.bytes r) ≡ true
record_passes m law r = ap is_ok (checked_passed (length (m.bytes r)) m.size (m.verdict (m.sub_of r) (m.bytes r)) (law.sized r) (law.passes r))

-- the tail is nothing just where both its halves are
no_tail : (a b : ℕ) → (a * 16 + b == 0) ≡ (a == 0 && b == 0)
no_tail a b = grind (arith, nat_tests)

pub mode_fails : (s : ℕ) (xs : List ℕ) → passes mode s xs ≡ false → sendable 0x00 s xs ≡ false
mode_fails s xs e = e

pub blinds_fails : (s : ℕ) (xs : List ℕ) → passes blinds s xs ≡ false → sendable 0x19 s xs ≡ false
blinds_fails s xs e = ap (λ p. p && at8 xs 5 == 0) e

pub security_fails : (s : ℕ) (xs : List ℕ) → passes security s xs ≡ false → sendable 0x20 s xs ≡ false
security_fails s xs e = ap (λ p. p && at8 xs 4 == 0 && may_send s (at8 xs 3)) e

pub mode_sends : (r : SetMode) → sendable 0x00 (mode.sub_of r) (mode.bytes r) ≡ may_send_order (Mode r)
mode_sends r = record_passes mode mode_law r

pub blinds_sends : (r : BlindsRecord) → sendable 0x19 (blinds.sub_of r) (blinds.bytes r) ≡ may_send_order (Blinds r)
blinds_sends r = ap (λ p. p && at8 (blinds.bytes r) 5 == 0) (record_passes blinds blinds_law r) ∙ no_tail r.strength r.battery

pub security_sends : (r : SecurityRecord) → sendable 0x20 (security.sub_of r) (security.bytes r) ≡ may_send_order (Security r)
security_sends r =
    ap (λ p. p && at8 (security.bytes r) 4 == 0 && may_send r.subtype r.status) (record_passes security security_law r)
    ∙ ap (λ p. p && may_send r.subtype r.status) (no_tail r.strength r.battery)
