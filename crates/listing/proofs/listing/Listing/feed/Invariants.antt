use Rattle.std.proofs.Common.{length}
use Rattle.listing.proofs.Streams.{Walked}
use Rattle.listing.proofs.listing.Listing.feed.Given as goal

abbrev pub invariant-loop-scratch : goal.invariant-loop-scratch
invariant-loop-scratch l = Walked l.initial.self l.piece l.initial.out l.rest l.written l.out l.self

abbrev pub decreases-loop-scratch : goal.decreases-loop-scratch
decreases-loop-scratch l = length l.rest
