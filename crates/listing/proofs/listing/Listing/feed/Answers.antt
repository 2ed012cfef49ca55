use Rattle.std.proofs.Common.{◌≡◌, ℕ, List, ◌∙◌, subst, sym}
use Rattle.tape.specs.declared.signals.Entry.{Entry}
use Rattle.listing.specs.declared.listing.Fed.{Fed}
use Rattle.listing.specs.declared.listing.Listing.{Listing}
use Rattle.listing.specs.Listing.{FedOn}
use Rattle.listing.proofs.Streams.{put_same, walked_none, walked_more}
use Rattle.listing.proofs.listing.Listing.feed.Goals.{else-loop-scratch-test, then-loop-scratch-test+in_default}
use Rattle.listing.proofs.listing.Listing.feed.Goals as goal

pub loop-scratch-init : goal.loop-scratch-init
loop-scratch-init c = walked_none c.args.self.now c.args.piece.now c.args.out.now

pub loop-scratch-preserved : goal.loop-scratch-preserved
loop-scratch-preserved c =
    let l = c.loop-scratch in
    walked_more c.args.self.now c.args.piece.now c.args.out.now l.rest.now l.written l.out l.self l.invariant l.auto.out c.feed_once.new.self c.feed_once.new.out c.in-Some.fed c.in-Some.ensures.some

-- the same listing and buffer, by other names
left : {input piece out now after : List ℕ} {es : List Entry} {told : Fed} {x y : Listing} → y ≡ x → after ≡ now → FedOn input piece es out told now x → FedOn input piece es out told after y
left {input} {piece} {out} {now} {after} {es} {told} {x} {y} e f F = subst (λ z. FedOn input piece es out told after z) (sym e) (subst (λ l. FedOn input piece es out told l x) (sym f) F)

-- a step that had no room changed nothing
pub returns-clause-fed : goal.returns-clause-fed
returns-clause-fed c = λ input es L.
    let l = c.loop-scratch in
    let F = l.invariant.sofar.goes input es L in
    elim c.loop-scratch-test.branch [
      | else-loop-scratch-test w ↦ left w.self-is w.out-is F
      | then-loop-scratch-test+in_default w ↦
          let none = w.feed_once.ensures.none w.in_default.is in
          left (w.self-is ∙ none.1) (w.out-is ∙ put_same l.out l.written _ none.2) F
    ]
