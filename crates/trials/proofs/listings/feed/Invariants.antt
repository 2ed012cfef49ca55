use Rattle.std.proofs.Common.{length}
use Rattle.trials.proofs.listings.feed.Given as goal

abbrev pub decreases-loop-rt : goal.decreases-loop-rt
decreases-loop-rt g l = length l.rest
