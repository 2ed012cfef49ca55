use Rattle.std.proofs.Common.{refl}
use Rattle.listing.proofs.Leaps.{leap_advances}
use Rattle.listing.proofs.listing.Listing.leap.Goals as goal

pub returns-clause-some : goal.returns-clause-some
returns-clause-some c =
    let taken = c.in_ok-entry.ensures in
    leap_advances c.args.self.now c.args.piece.now _ c.in-None-eq0.is-0 c.in_ok-frame.ensures taken.takes c.in_ok-entry.entry _ (λ t es F. taken.took t es c.in_ok-entry.entry F refl) refl refl
