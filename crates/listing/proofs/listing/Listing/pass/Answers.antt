use Rattle.std.proofs.Common.{◌≡◌, ◌+◌, ◌*◌, get_or, None, ap, ◌∙◌, rules}
use Rattle.tape.specs.Numbers.{signal_of}
use Rattle.listing.proofs.Streams.{passing_none, passes_step, passing_more}
use Rattle.listing.proofs.listing.Listing.pass.Goals as goal

pub loop-rest-init : goal.loop-rest-init
loop-rest-init c = passing_none c.args.self.now c.args.piece.now c.requires.no_half

pub returns-then-is_some : goal.returns-then-is_some
returns-then-is_some c =
    let l = c.loop-rest in
    let rest = l.rest.now in
    let number : c.from_be_bytes.result ≡ get_or rest 0 0 * 256 + get_or rest 1 0 = search rules in
    passes_step c.args.self.now c.args.piece.now rest l.self l.invariant c.in-len2-up.len_at_least _ (c.from.ensures ∙ ap signal_of number) c.step-entry.result c.step-entry.new.self c.step-entry.ensures.same_half c.step-entry.ensures.stepped

pub loop-rest-preserved : goal.loop-rest-preserved
loop-rest-preserved c =
    let l = c.loop-rest in
    let rest = l.rest.now in
    let number : c.from_be_bytes.result ≡ get_or rest 0 0 * 256 + get_or rest 1 0 = search rules in
    let none : c.step-entry.result ≡ None = search rules in
    passing_more c.args.self.now c.args.piece.now rest l.self l.invariant c.in-len2-up.len_at_least _ (c.from.ensures ∙ ap signal_of number) c.step-entry.result c.step-entry.new.self c.step-entry.ensures.same_half c.step-entry.ensures.stepped none
