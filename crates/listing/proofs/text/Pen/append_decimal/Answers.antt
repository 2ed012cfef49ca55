use Rattle.std.proofs.Common.{refl}
use Rattle.listing.proofs.text.Pen.append_decimal.Goals as goal

pub returns-clause-writes : goal.returns-clause-writes
returns-clause-writes c = record { same_buffer = refl; grown = c.spell_decimal-self.ensures.text }
