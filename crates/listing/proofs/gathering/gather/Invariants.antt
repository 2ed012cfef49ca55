use Rattle.std.proofs.Common.{◌≡◌}
use Rattle.listing.proofs.Numbers.{Copied}
use Rattle.listing.proofs.gathering.gather.Given as goal

abbrev pub invariant-loop-i : goal.invariant-loop-i
invariant-loop-i l = l.highs ≡ 0 → Copied l.numbers l.frame l.i
