-- Which type, subtype and data may be sent as a command (docs/COMMANDS.md).
use Rattle.std.specs.Prelude.{ℕ, Bool, false, cond, ◌&&◌, ◌||◌, List, is_ok, ◌==◌, nat_le}
use Rattle.frame.specs.Fields.{at8, in_range}
use Rattle.frame.specs.Model.{Model, checked}
use Rattle.control.specs.Mode.{mode}
use Rattle.actors.specs.Blinds.{blinds}
use Rattle.actors.specs.Security.{security}

-- the status that may be sent to a security contact, by its subtype; subtype 06 is sent none
abbrev pub may_send : ℕ → ℕ → Bool
may_send subtype status =
    (subtype == 0x00 && (nat_le status 0x03 || in_range 0x80 status 0x83))
    || ((subtype == 0x01 || subtype == 0x05) && (in_range 0x04 status 0x05 || in_range 0x84 status 0x85))
    || (subtype == 0x02 && (in_range 0x06 status 0x07 || in_range 0x09 status 0x0D || in_range 0x10 status 0x13))
    || ((subtype == 0x03 || subtype == 0x09) && (status == 0x06 || status == 0x17))
    || ((subtype == 0x04 || subtype == 0x07) && (status == 0x00 || status == 0x02 || status == 0x80 || status == 0x82))
    || (subtype == 0x08 && (status == 0x06 || status == 0x08 || status == 0x09 || status == 0x0B || status == 0x0D))

module _ {R : Type 0} where
  -- a subtype and data pass the check of a kind
  abbrev pub passes : Model R → ℕ → List ℕ → Bool
  passes m s xs = is_ok (checked m s xs)

-- data pass the check of their kind, and more: the tail of blinds and of contacts is 00, and a contact's status may be sent
abbrev pub sendable : ℕ → ℕ → List ℕ → Bool
sendable number s xs =
    cond (number == 0x00) (passes mode s xs)
    (cond (number == 0x19) (passes blinds s xs && at8 xs 5 == 0)
    (cond (number == 0x20) (passes security s xs && at8 xs 4 == 0 && may_send s (at8 xs 3))
    false))
