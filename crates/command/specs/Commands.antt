-- What a command says, and its frame (docs/COMMANDS.md).
use Rattle.std.specs.Prelude.{ℕ, cond, List, ◌∷◌, Ok, Err, Result}
use Rattle.frame.specs.Frames.{written, packet}
use Rattle.refusal.specs.declared.refusals.Refusal.{Refusal}
use Rattle.refusal.specs.declared.refusals.Refusal.TheVariants.{NoSuchCommand}
use Rattle.control.specs.Mode.{mode}
use Rattle.actors.specs.Blinds.{blinds}
use Rattle.actors.specs.Security.{security}
use Rattle.command.specs.declared.orders.Order.{Order}
use Rattle.command.specs.declared.orders.Order.TheVariants.{Mode, Blinds, Security}
use Rattle.command.specs.declared.commands.Command.{Command}
use Rattle.command.specs.Sendable.{sendable}

abbrev pub type_by : Order → ℕ
type_by (Mode r) = mode.number
type_by (Blinds r) = blinds.number
type_by (Security r) = security.number

abbrev pub spelled_by : Order → List ℕ
spelled_by (Mode r) = mode.number ∷ mode.sub_of r ∷ mode.bytes r
spelled_by (Blinds r) = blinds.number ∷ blinds.sub_of r ∷ blinds.bytes r
spelled_by (Security r) = security.number ∷ security.sub_of r ∷ security.bytes r

abbrev pub framed_by : ℕ → Order → List ℕ
framed_by seq (Mode r) = written mode (packet seq r)
framed_by seq (Blinds r) = written blinds (packet seq r)
framed_by seq (Security r) = written security (packet seq r)

-- a command's type number
abbrev pub type_of : Command → ℕ
type_of c = type_by c.order

-- a command's type, subtype and data
abbrev pub spelling : Command → List ℕ
spelling c = spelled_by c.order

-- the frame of a command under a sequence number
abbrev pub frame_of : ℕ → Command → List ℕ
frame_of seq c = framed_by seq c.order

-- what is made of a type, a subtype and data: the command with just these, or the refusal
abbrev pub asked : ℕ → ℕ → List ℕ → Result (List ℕ) Refusal
asked number s xs = cond (sendable number s xs) (Ok (number ∷ s ∷ xs)) (Err NoSuchCommand)

-- what was made, with the command as its spelling
abbrev pub told : Result Command Refusal → Result (List ℕ) Refusal
told (Ok c) = Ok (spelling c)
told (Err e) = Err e
