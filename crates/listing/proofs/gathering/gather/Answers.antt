use Rattle.std.proofs.Common.{◌+◌, ◌*◌, ◌/◌, ◌<◌, ◌≤◌, [], length, get_or, ◌∙◌, ap, arith, rules, add-zero}
use Rattle.listing.proofs.Numbers.{copied_more, pair_at, or_none}
use Rattle.listing.proofs.gathering.gather.Goals as goal

pub loop-i-preserved : goal.loop-i-preserved
loop-i-preserved c = λ e.
    let numbers = c.args.numbers.now in
    let pairs = c.in_ok-pairs.pairs.now in
    let l = c.loop-i in
    let range = c.in_ok-pairs.ensures.lookup.0 in
    let none = or_none l.highs (get_or (get_or pairs l.i []) 0 0) e in
    let within : l.i < length pairs = c.loop-i-test.true in
    let fits : length pairs ≤ length numbers / 2 = omega (arith, range, c.as_chunks.ensures.front_len) in
    let high = pair_at numbers c.as_chunks.result.0.now pairs (length numbers / 2) _ l.i 0 c.as_chunks.ensures.front range.2 (omega (arith, range, fits)) (omega (arith, range, within)) (omega arith) in
    let low = pair_at numbers c.as_chunks.result.0.now pairs (length numbers / 2) _ l.i 1 c.as_chunks.ensures.front range.2 (omega (arith, range, fits)) (omega (arith, range, within)) (omega arith) in
    copied_more numbers l.frame l.i (get_or (get_or pairs l.i []) 0 0) (get_or (get_or pairs l.i []) 1 0) (omega (arith, fits, within)) (search rules) (high ∙ ap (λ n. get_or numbers n 0) (add-zero (2 * l.i))) low none.1 (rw low (c.type_inv.numbers (2 * l.i + 1)).fits) (l.invariant none.0)
