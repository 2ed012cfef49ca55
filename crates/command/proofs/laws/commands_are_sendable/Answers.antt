use Rattle.command.proofs.One as commands
use Rattle.command.proofs.laws.commands_are_sendable.Goals as goal

pub returns : goal.returns
returns c = record { may = commands.may; one = commands.one; onto = commands.onto }
