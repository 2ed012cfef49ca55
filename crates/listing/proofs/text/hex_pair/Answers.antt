use Rattle.listing.proofs.Table.{pair_is}
use Rattle.listing.proofs.text.hex_pair.Goals as goal

pub returns : goal.returns
returns c = pair_is c.args.b c.ranges.b.fits
