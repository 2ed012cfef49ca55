use Rattle.std.proofs.Common.{◌≡◌, ◌++◌, drop, sym, ◌∙◌, rules}
use Rattle.listing.specs.Lines.{line_of}
use Rattle.listing.specs.Pens.{Writes}
use Rattle.listing.proofs.Pens.{writes_more}
use Rattle.listing.proofs.Texts.{grown_front}
use Rattle.listing.proofs.line.compose.Goals as goal

pub returns-clause-holds : goal.returns-clause-holds
returns-clause-holds c =
    let line = line_of c.args.entry.now in
    let W : Writes c.new-pen.result line c.append.new.self = writes_more c.append_decimal.ensures.writes (writes_more c.append_verdict.ensures.writes c.append.ensures) in
    let e : c.append.new.self.out.now ≡ line ++ drop c.len.result c.args.out.now =
    grown_front _ _ _ _ _ c.new-pen.ensures.none W.grown ∙ (λ i. line ++ drop (sym c.len.ensures i) (c.new-pen.ensures.held i)) in
    search (rules, e)
