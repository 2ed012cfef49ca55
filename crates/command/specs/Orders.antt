-- Which records may be sent (docs/COMMANDS.md).
use Rattle.std.specs.Prelude.{ℕ, Bool, true, ◌&&◌, ◌==◌}
use Rattle.command.specs.declared.orders.Order.{Order}
use Rattle.command.specs.declared.orders.Order.TheVariants.{Mode, Blinds, Security}
use Rattle.command.specs.Sendable.{may_send}

-- no signal strength and no battery: these two make the tail
abbrev untailed : ℕ → ℕ → Bool
untailed strength battery = strength == 0 && battery == 0

abbrev pub may_send_order : Order → Bool
may_send_order (Mode r) = true
may_send_order (Blinds r) = untailed r.strength r.battery
may_send_order (Security r) = untailed r.strength r.battery && may_send r.subtype r.status
