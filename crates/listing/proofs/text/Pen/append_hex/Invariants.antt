use Rattle.std.proofs.Common.{take}
use Rattle.listing.specs.Text.{hex}
use Rattle.listing.specs.Pens.{Writes}
use Rattle.listing.proofs.text.Pen.append_hex.Given as goal

abbrev pub invariant-loop-b : goal.invariant-loop-b
invariant-loop-b l = Writes l.initial.self (hex (take l.b-index l.more)) l.self
