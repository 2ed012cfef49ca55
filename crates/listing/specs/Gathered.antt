-- A frame that lies whole at the front of a stream of signal numbers, with no pause in it: for the calls that no other crate sees.
use Rattle.std.specs.Prelude.{◌≡◌, ℕ, ◌*◌, ◌≤◌, List, map, length, take}
use Rattle.tape.specs.declared.signals.Signal.TheVariants.{Byte}
use Rattle.listing.specs.Listing.{signals}

pub record Gathered (numbers frame : List ℕ) : Type 0 where
  pub fits : 2 * length frame ≤ length numbers
  pub bytes : signals (take (2 * length frame) numbers) ≡ map Byte frame
