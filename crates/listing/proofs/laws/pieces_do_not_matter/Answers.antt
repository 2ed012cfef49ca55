use Rattle.listing.proofs.Theorems.{pieces}
use Rattle.listing.proofs.laws.pieces_do_not_matter.Goals as goal

pub returns : goal.returns
returns c = pieces
