use Rattle.std.proofs.Common.{refl, ap}
use Rattle.listing.specs.Text.{hex}
use Rattle.listing.proofs.Houses.{house_is, house_never}
use Rattle.listing.proofs.Pens.{writes_more, writes_same}
use Rattle.listing.proofs.text.Pen.append_record.Goals as goal

pub returns-in-Ok-clause-writes : goal.returns-in-Ok-clause-writes
returns-in-Ok-clause-writes c =
    let part = house_is c.args.packet.now _ c.write_house.new.out refl c.in-Ok.size c.write_house.ensures c.in-Ok.is in
    writes_more c.append.ensures (writes_same (ap hex part) c.append_hex.ensures.writes)

pub returns-in_default-clause-writes : goal.returns-in_default-clause-writes
returns-in_default-clause-writes c = absurd (house_never c.args.packet.now _ _ refl _ c.write_house.ensures c.in_default.is)
