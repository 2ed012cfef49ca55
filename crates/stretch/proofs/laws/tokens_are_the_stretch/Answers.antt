use Rattle.stretch.proofs.Theorems.{are_the_stretch}
use Rattle.stretch.proofs.laws.tokens_are_the_stretch.Goals as goal

pub returns : goal.returns
returns c = are_the_stretch
