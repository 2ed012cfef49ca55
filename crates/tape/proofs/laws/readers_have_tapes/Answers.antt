use Rattle.tape.proofs.Tapes.{has_tape}
use Rattle.tape.proofs.laws.readers_have_tapes.Goals as goal

pub returns : goal.returns
returns c = has_tape
