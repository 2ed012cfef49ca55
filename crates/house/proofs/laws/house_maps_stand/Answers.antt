use Rattle.house.proofs.Sizes.{house_ordered, house_short}
use Rattle.house.proofs.laws.house_maps_stand.Goals as goal

pub returns : goal.returns
returns c = record { order = house_ordered; size = house_short }
