-- What a pen writes: for the calls that no other crate sees.
use Rattle.std.specs.Prelude.{◌≡◌, ℕ, List}
use Rattle.listing.specs.Text.{Grown}
use Rattle.listing.specs.declared.text.Pen.{Pen}

-- the pen x wrote `more` behind what it had written, in the same buffer, and is y
pub record Writes (x : Pen) (more : List ℕ) (y : Pen) : Type 0 where
  pub same_buffer : y.out.ghost_name ≡ x.out.ghost_name
  pub grown : Grown x.out.now x.len more y.out.now y.len
