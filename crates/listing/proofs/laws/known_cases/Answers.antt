use Rattle.listing.proofs.Theorems.{known}
use Rattle.listing.proofs.laws.known_cases.Goals as goal

pub returns : goal.returns
returns c = known
