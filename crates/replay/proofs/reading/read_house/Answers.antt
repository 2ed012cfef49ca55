use Rattle.std.proofs.Common.{◌≡◌, ◌-◌, length, take, drop, arith, length-drop, take_all}
use Rattle.frame.specs.Fields.{Bytes}
use Rattle.replay.specs.Back.{housed, house_verdict}
use Rattle.replay.proofs.One.{reads_back, writes_back, short_refused, long_verdict}
use Rattle.replay.proofs.reading.read_house.Goals as goal

pub returns-in_default : goal.returns-in_default
returns-in_default c =
    let xs = c.args.house.now in
    let v = short_refused xs c.in_default.len_below in
    record { verdict = v; reads_back = reads_back xs _ v; writes_back = writes_back xs _ v }

pub returns : goal.returns
returns c =
    let xs = c.args.house.now in
    let t = c.type_inv.house in
    let bytes : Bytes xs = λ i. omega (arith, t i) in
    let rest : take (length xs - 5) (drop 5 xs) ≡ drop 5 xs = take_all _ (drop 5 xs) (omega (arith, length-drop 5 xs)) in
    let l = long_verdict xs bytes c.in-len5-up.len_at_least in
    let v : housed c.read.result ≡ house_verdict xs = cc in
    record { verdict = v; reads_back = reads_back xs _ v; writes_back = writes_back xs _ v }
