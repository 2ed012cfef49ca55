use Rattle.std.proofs.Common.{length}
use Rattle.listing.proofs.Streams.{Passing}
use Rattle.listing.proofs.listing.Listing.pass.Given as goal

abbrev pub invariant-loop-rest : goal.invariant-loop-rest
invariant-loop-rest l = Passing l.initial.self l.piece l.rest l.self

abbrev pub decreases-loop-rest : goal.decreases-loop-rest
decreases-loop-rest l = length l.rest
