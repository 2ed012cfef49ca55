use Rattle.std.proofs.Common.{ℕ, ◌+◌, ◌^◌, ◌<◌, ◌≤◌, List, length, decimal}
use Rattle.listing.specs.Text.{Spelled}
use Rattle.listing.proofs.text.spell_pairs.Given as goal

abbrev pub invariant-loop-rest : goal.invariant-loop-rest
invariant-loop-rest l =
    (length (decimal l.rest) ≤ l.place + 1) × (l.place < length l.initial.out) × (l.rest ≤ l.n)
    × ((before : List ℕ) (at m end : ℕ) → m < 2 ^ 32 → Spelled before at m end l.n l.initial.place l.initial.out → Spelled before at m end l.rest l.place l.out)

abbrev pub decreases-loop-rest : goal.decreases-loop-rest
decreases-loop-rest l = l.rest
