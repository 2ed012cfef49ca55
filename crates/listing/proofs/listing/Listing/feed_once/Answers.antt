use Rattle.std.proofs.Common.{◌++◌, ◌≤◌, length, drop, rules, ap, ◌∙◌, append_assoc}
use Rattle.std.specs.Option.{option_to_list}
use Rattle.listing.specs.Lines.{lines}
use Rattle.listing.proofs.Texts.{front_rest}
use Rattle.listing.proofs.listing.Listing.feed_once.Goals as goal

pub returns-clause-some : goal.returns-clause-some
returns-clause-some c =
    let out = c.args.out.now in
    let once = c.advance-taken.ensures in
    let text = lines (option_to_list once.entry) in
    let room : 50 ≤ length out = search rules in
    record {
      room = room;
      entry = once.entry;
      advances = once.advances;
      counts = once.counts;
      holds = ap (λ l. l ++ drop 50 out) once.holds ∙ append_assoc text _ _ ∙ ap (λ l. text ++ l) (front_rest c.advance-taken.result.written 50 out _ room c.in_ok-room.ensures.cases.same once.few);
      few = once.few;
    }
