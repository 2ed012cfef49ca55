use Rattle.stretch.proofs.Theorems.{tell_the_reading}
use Rattle.stretch.proofs.laws.tokens_tell_the_reading.Goals as goal

pub returns : goal.returns
returns c = tell_the_reading
