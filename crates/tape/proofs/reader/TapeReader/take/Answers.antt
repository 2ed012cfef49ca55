use Rattle.std.proofs.Common.{arith}
use Rattle.std.proofs.lemmas.Bool.Decides.{nat_tests}
use Rattle.tape.proofs.Steps.{took_more, took_full, took_quiet, took_cut}
use Rattle.tape.proofs.reader.TapeReader.take.Goals as goal

-- the byte is one more of the frame begun
pub returns-then-held-self-clause-took : goal.returns-then-held-self-clause-took
returns-then-held-self-clause-took c t es F = took_more t es _ _ _ F (grind (arith, nat_tests)) (omega arith) (omega arith) _ c.in_default-Byte.is-1 c.if-held-self.true

-- the byte ends a frame
pub returns-else-held-self-clause-took : goal.returns-else-held-self-clause-took
returns-else-held-self-clause-took c t es F = took_full t es _ _ _ F (grind (arith, nat_tests)) (omega arith) (omega arith) _ _ c.in_default-Byte.is-1 c.if-held-self.false c.judge-verdict.ensures.verdict c.end.ensures.entry c.end.ensures.ends

-- a pause where nothing is begun
pub returns-in-0-Pause-clause-took : goal.returns-in-0-Pause-clause-took
returns-in-0-Pause-clause-took c t es F = took_quiet t es _ _ _ F (grind (arith, nat_tests)) (omega arith) (omega arith) c.in-0-Pause.is-1 c.in-0-Pause.is-0

-- a pause that ends a remnant
pub returns-in_default-Pause-clause-took : goal.returns-in_default-Pause-clause-took
returns-in_default-Pause-clause-took c t es F = took_cut t es _ _ _ F (grind (arith, nat_tests)) (omega arith) (omega arith) c.in_default-Pause.is-1 (omega arith) c.end-in_default-Pause.ensures.entry c.end-in_default-Pause.ensures.ends
