use Rattle.std.proofs.Common.{arith}
use Rattle.std.proofs.lemmas.Bool.Decides.{nat_tests}
use Rattle.frame.specs.Fields.{Bytes}
use Rattle.record.proofs.Sorts.{meters}
use Rattle.replay.proofs.ReadBack.{kind_read}
use Rattle.replay.proofs.kinds.MeterKindStoredKind.read_fields.Goals as goal

pub returns : goal.returns
returns c =
    let ys = c.args.fields.now in
    let t = c.type_inv.fields in
    let bytes : Bytes ys = λ i. omega (arith, t i) in
    kind_read meters c.args.sub ys bytes (grind (arith, nat_tests)) c.read_data.result (grind (arith, nat_tests))
