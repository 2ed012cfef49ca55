use Rattle.tape.proofs.Theorems.{one_reading}
use Rattle.tape.proofs.laws.one_reading.Goals as goal

pub returns : goal.returns
returns c = one_reading
