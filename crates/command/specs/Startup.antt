-- The two fixed packets of the start-up (docs/COMMANDS.md).
use Rattle.std.specs.Prelude.{◌≡◌, ℕ, List, [], ◌∷◌, Some, Option}
use Rattle.command.specs.declared.startup.Startup.{Startup}
use Rattle.command.specs.declared.startup.Startup.TheVariants.{Reset, GetStatus}

abbrev pub packet_of : Startup → List ℕ
packet_of Reset = 0x0D ∷ 0x00 ∷ 0x00 ∷ 0x00 ∷ 0x00 ∷ 0x00 ∷ 0x00 ∷ 0x00 ∷ 0x00 ∷ 0x00 ∷ 0x00 ∷ 0x00 ∷ 0x00 ∷ 0x00 ∷ []
packet_of GetStatus = 0x0D ∷ 0x00 ∷ 0x00 ∷ 0x01 ∷ 0x02 ∷ 0x00 ∷ 0x00 ∷ 0x00 ∷ 0x00 ∷ 0x00 ∷ 0x00 ∷ 0x00 ∷ 0x00 ∷ 0x00 ∷ []

-- which packet some bytes are: that one is told, and none exactly where they are neither
pub record Recognised (bytes : List ℕ) (r : Option Startup) : Type 0 where
  pub right : (s : Startup) → r ≡ Some s → bytes ≡ packet_of s
  pub every : (s : Startup) → bytes ≡ packet_of s → r ≡ Some s
