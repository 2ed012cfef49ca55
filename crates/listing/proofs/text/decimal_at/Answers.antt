use Rattle.listing.proofs.Table.{decimals_are}
use Rattle.listing.proofs.text.decimal_at.Goals as goal

pub returns : goal.returns
returns c = decimals_are c.args.index c.requires
