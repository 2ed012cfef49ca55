-- What holds of every command (docs/COMMANDS.md).
use Rattle.std.specs.Prelude.{◌≡◌, ℕ, ◌<◌, true, List, ◌∷◌, Ok, Result}
use Rattle.frame.specs.Fields.{Bytes}
use Rattle.frame.specs.Frames.{judged}
use Rattle.frame.specs.declared.faults.Fault.{Fault}
use Rattle.control.specs.Mode.{mode}
use Rattle.actors.specs.Blinds.{blinds}
use Rattle.actors.specs.Security.{security}
use Rattle.command.specs.declared.orders.Order.{Order}
use Rattle.command.specs.declared.orders.Order.TheVariants.{Mode, Blinds, Security}
use Rattle.command.specs.declared.commands.Command.{Command}
use Rattle.command.specs.Sendable.{sendable}
use Rattle.command.specs.Commands.{spelling, frame_of}

-- what some bytes are read as by the kind of an order
abbrev pub judged_by : Order → List ℕ → Result (List ℕ) Fault
judged_by (Mode r) xs = judged mode xs
judged_by (Blinds r) xs = judged blinds xs
judged_by (Security r) xs = judged security xs

abbrev pub EachCommandMayBeSent : Type 0
EachCommandMayBeSent = (c : Command) (number s : ℕ) (xs : List ℕ) → spelling c ≡ number ∷ s ∷ xs → sendable number s xs ≡ true

abbrev pub NoTwoCommandsAreSpelledAlike : Type 0
NoTwoCommandsAreSpelledAlike = (c d : Command) → spelling c ≡ spelling d → c ≡ d

abbrev pub WhatMayBeSentIsSomeCommand : Type 0
WhatMayBeSentIsSomeCommand =
    (number s : ℕ) (xs : List ℕ) → s < 256 → Bytes xs → sendable number s xs ≡ true → (c : Command) × (spelling c ≡ number ∷ s ∷ xs)

abbrev pub EachFramePassesItsCheck : Type 0
EachFramePassesItsCheck = (seq : ℕ) (c : Command) → judged_by c.order (frame_of seq c) ≡ Ok (frame_of seq c)

abbrev pub NoTwoFramesAreAlike : Type 0
NoTwoFramesAreAlike = (seq seq' : ℕ) (c d : Command) → frame_of seq c ≡ frame_of seq' d → (seq ≡ seq') × (c ≡ d)
