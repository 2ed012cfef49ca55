use Rattle.std.proofs.Common.{◌+◌, ap, arith}
use Rattle.listing.proofs.Digits.{spelled_none, spelled_all, spelled_last, digits_are}
use Rattle.listing.proofs.text.spell_decimal.Goals as goal

pub returns-then-rest-lt10 : goal.returns-then-rest-lt10
returns-then-rest-lt10 c =
    let n = c.args.n in
    let end = c.args.at + c.digit_count.result in
    let S = spelled_none c.args.out.now c.args.at n end (ap (λ k. c.args.at + k) c.digit_count.ensures.count) (omega (arith, c.digit_count.ensures.few, c.requires)) c.ranges.n.fits in
    record {
      text = spelled_all _ _ _ _ _ _ _ (c.spell_pairs-rest.ensures.spells c.args.out.now c.args.at n end c.ranges.n.fits S) c.ranges.n.fits c.if-rest-lt10.true;
      few = omega (arith, c.digit_count.ensures.few);
    }

pub overflow_sub-out : goal.overflow_sub-out
overflow_sub-out c =
    let r = c.spell_pairs-rest in
    omega (arith, digits_are 1 r.result.rest c.if-rest-lt10.false r.ensures.few (omega (arith, r.ensures.few)), r.ensures.room)

pub returns : goal.returns
returns c =
    let n = c.args.n in
    let end = c.args.at + c.digit_count.result in
    let S = spelled_none c.args.out.now c.args.at n end (ap (λ k. c.args.at + k) c.digit_count.ensures.count) (omega (arith, c.digit_count.ensures.few, c.requires)) c.ranges.n.fits in
    record {
      text = spelled_last _ _ _ _ _ _ _ _ _ (c.spell_pairs-rest.ensures.spells c.args.out.now c.args.at n end c.ranges.n.fits S) c.ranges.n.fits c.if-rest-lt10.false c.spell_pairs-rest.ensures.few (omega arith) (omega arith);
      few = omega (arith, c.digit_count.ensures.few);
    }
