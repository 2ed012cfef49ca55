use Rattle.std.proofs.Common.{◌≡◌, false, rules, is_ok, Ok}
use Rattle.command.proofs.Taken.{refused, taken}
use Rattle.command.proofs.making.make_as.Goals as goal

pub returns-in_err-record : goal.returns-in_err-record
returns-in_err-record g c =
    let no : is_ok c.read.result ≡ false = search rules in
    let e = refused g.K.Kind.model c.args.sub c.args.data.now g.met.K.SendKind.fails c.read.result no c.read.ensures in
    search rules

pub returns-then-not-may_send : goal.returns-then-not-may_send
returns-then-not-may_send g c =
    let r = c.in_ok-record.record in
    let is : c.read.result ≡ Ok r = search rules in
    let e = taken g.K.Kind.model c.args.sub c.args.data.now r (g.K.SendKind.case r) (g.met.K.SendKind.spells r) (g.met.K.SendKind.sends r) c.read.result is c.read.ensures in
    search rules

pub returns : goal.returns
returns g c =
    let r = c.in_ok-record.record in
    let is : c.read.result ≡ Ok r = search rules in
    let e = taken g.K.Kind.model c.args.sub c.args.data.now r (g.K.SendKind.case r) (g.met.K.SendKind.spells r) (g.met.K.SendKind.sends r) c.read.result is c.read.ensures in
    search rules
