-- Signals by their numbers (docs/READING.md).
use Rattle.std.specs.Prelude.{ℕ, cond, nat_lt}
use Rattle.tape.specs.declared.signals.Signal.{Signal}
use Rattle.tape.specs.declared.signals.Signal.TheVariants.{Byte, Pause}

abbrev pub signal_of : ℕ → Signal
signal_of n = cond (nat_lt n 256) (Byte n) Pause
