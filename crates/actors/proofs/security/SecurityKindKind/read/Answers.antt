use Rattle.std.proofs.Common.{arith}
use Rattle.std.proofs.lemmas.Bool.Decides.{nat_tests}
use Rattle.frame.proofs.Spelled.{spelled}
use Rattle.actors.proofs.security.SecurityKindKind.read.Goals as goal

pub returns : goal.returns
returns c = grind (arith, nat_tests, spelled 5 0 c.args.data.now (omega arith), c.type_inv.data)
