use Rattle.listing.proofs.Theorems.{one_listing}
use Rattle.listing.proofs.laws.one_listing.Goals as goal

pub returns : goal.returns
returns c = one_listing
