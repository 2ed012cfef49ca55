use Rattle.std.proofs.Common.{arith}
use Rattle.std.proofs.lemmas.Bool.Decides.{nat_tests}
use Rattle.replay.proofs.reading.Stored.read_as.Goals as goal

pub returns : goal.returns
returns g c =
    let r = c.in_ok-read_fields.field-0 in
    let house = g.met.K.StoredKind.same_house c.args.self.now.seq r in
    let laid = g.met.K.HouseKind.laid_so c.args.self.now.seq r in
    grind (arith, nat_tests)
