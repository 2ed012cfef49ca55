use Rattle.std.proofs.Common.{◌/◌, ◌%◌, ◌∙◌, arith}
use Rattle.std.proofs.lemmas.Fmt.{decimal_nonempty}
use Rattle.listing.proofs.Table.{ones_digit, tens_digit}
use Rattle.listing.proofs.Digits.{spelled_pair, pair_room, ones_of, tens_of}
use Rattle.listing.proofs.text.spell_pairs.Goals as goal

pub overflow_sub-out : goal.overflow_sub-out
overflow_sub-out c =
    let l = c.loop-rest in
    omega (arith, pair_room l.rest c.loop-rest-test.true (omega (arith, l.invariant.2, c.ranges.n.fits)), l.invariant.0)

pub overflow_sub-place : goal.overflow_sub-place
overflow_sub-place c =
    let l = c.loop-rest in
    omega (arith, pair_room l.rest c.loop-rest-test.true (omega (arith, l.invariant.2, c.ranges.n.fits)), l.invariant.0, decimal_nonempty (l.rest / 100) (omega (arith, l.invariant.2, c.ranges.n.fits)))

pub loop-rest-preserved : goal.loop-rest-preserved
loop-rest-preserved c =
    let l = c.loop-rest in
    let room = pair_room l.rest c.loop-rest-test.true (omega (arith, l.invariant.2, c.ranges.n.fits)) in
    let ones = ones_of l.rest in
    let tens = tens_of l.rest in (
      omega (arith, room, l.invariant.0),
      omega (arith, l.invariant.1),
      omega (arith, l.invariant.2),
      λ before at m end w S.
          spelled_pair before at m end l.rest l.place l.out _ _ _ _ (l.invariant.3 before at m end w S) w c.loop-rest-test.true (c.decimal_at.ensures ∙ ones_digit (l.rest % 100) ∙ ones) (c.decimal_at-in-loop-rest.ensures ∙ tens_digit (l.rest % 100) ∙ tens) (omega arith) (omega arith),
    )
