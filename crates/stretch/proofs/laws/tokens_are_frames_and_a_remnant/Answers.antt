use Rattle.stretch.proofs.Theorems.{are_parted}
use Rattle.stretch.proofs.laws.tokens_are_frames_and_a_remnant.Goals as goal

pub returns : goal.returns
returns c = are_parted
