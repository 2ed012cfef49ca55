use Rattle.std.proofs.Common.{rules}
use Rattle.command.proofs.One.{made_back}
use Rattle.command.proofs.commands.Command.make.Goals as goal

pub returns-in-0-clause-every : goal.returns-in-0-clause-every
returns-in-0-clause-every c = made_back c.make_as.result (search rules)

pub returns-in-25-clause-every : goal.returns-in-25-clause-every
returns-in-25-clause-every c = made_back c.make_as-in-25.result (search rules)

pub returns-in-32-clause-every : goal.returns-in-32-clause-every
returns-in-32-clause-every c = made_back c.make_as-in-32.result (search rules)
