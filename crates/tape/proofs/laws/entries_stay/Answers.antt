use Rattle.tape.proofs.Theorems.{entries_stay}
use Rattle.tape.proofs.laws.entries_stay.Goals as goal

pub returns : goal.returns
returns c = entries_stay
