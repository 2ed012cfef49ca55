use Rattle.std.proofs.Common.{decimal, ap}
use Rattle.listing.proofs.Pens.{writes_more, writes_same}
use Rattle.listing.proofs.text.Pen.append_fault.Goals as goal

pub returns-clause-writes : goal.returns-clause-writes
returns-clause-writes c =
    let cause = writes_same (ap decimal c.cause.ensures) c.append_decimal.ensures.writes in
    let offset = writes_same (ap decimal c.offset.ensures) c.append_decimal-2.ensures.writes in
    writes_more c.append.ensures (writes_more cause (writes_more c.append-2.ensures offset))
