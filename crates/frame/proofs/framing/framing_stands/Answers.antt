use Rattle.frame.proofs.Whole.{written_passes, written_one, reads_back}
use Rattle.frame.proofs.framing.framing_stands.Goals as goal

pub returns : goal.returns
returns g c =
    let m = g.K.Kind.model in
    let law = g.met.K.Kind.law in
    record { passes = written_passes m law; back = reads_back m law; one = written_one m law }
