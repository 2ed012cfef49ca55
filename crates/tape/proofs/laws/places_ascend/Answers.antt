use Rattle.tape.proofs.Theorems.{places_ascend}
use Rattle.tape.proofs.laws.places_ascend.Goals as goal

pub returns : goal.returns
returns c = places_ascend
