use Rattle.std.proofs.Common.{[], ◌∷◌, get_or, ap, arith, length-take, take}
use Rattle.listing.proofs.Texts.{hex_long, hex_more}
use Rattle.listing.proofs.Pens.{writes_more, writes_same}
use Rattle.listing.proofs.text.Pen.append_hex.Goals as goal

pub append-requires : goal.append-requires
append-requires c =
    let l = c.loop-b in
    let front = take l.b-index c.args.more.now in
    omega (arith, c.requires, c.loop-b-test.true, l.invariant.grown.ends, hex_long front, length-take l.b-index c.args.more.now)

pub loop-b-preserved : goal.loop-b-preserved
loop-b-preserved c =
    let l = c.loop-b in
    writes_same (hex_more l.b-index c.args.more.now c.loop-b-test.true) (writes_more l.invariant (writes_same (ap (λ l. get_or l 0 0 ∷ get_or l 1 0 ∷ []) c.hex_pair.ensures) c.append.ensures))

pub returns-clause-few : goal.returns-clause-few
returns-clause-few c =
    let l = c.loop-b in
    let front = take l.b-index c.args.more.now in
    omega (arith, l.invariant.grown.ends, hex_long front, length-take l.b-index c.args.more.now)
