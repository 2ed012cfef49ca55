use Rattle.std.proofs.Common.{◌≡◌, vec_len}
use Rattle.lister.proofs.list.Given as goal

abbrev pub invariant-loop : goal.invariant-loop
invariant-loop l = (vec_len l.input ≡ 65536) × (vec_len l.output ≡ 131072)
