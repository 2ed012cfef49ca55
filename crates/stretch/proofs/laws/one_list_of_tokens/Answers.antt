use Rattle.stretch.proofs.Theorems.{one_list}
use Rattle.stretch.proofs.laws.one_list_of_tokens.Goals as goal

pub returns : goal.returns
returns c = one_list
