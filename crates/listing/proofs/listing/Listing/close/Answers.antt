use Rattle.std.proofs.Common.{◌≡◌, ℕ, List, length, Result, sym, ap, ◌∙◌, subst, length-take-le}
use Rattle.refusal.specs.declared.refusals.Refusal.{Refusal}
use Rattle.refusal.specs.Output.{Put}
use Rattle.tape.proofs.Unique.{reads_one}
use Rattle.listing.specs.Lines.{closing_of}
use Rattle.listing.proofs.listing.Listing.close.Goals as goal

-- the closing line, its two numbers by other names
restated : {out now : List ℕ} {r : Result ℕ Refusal} (s b n k : ℕ) → s ≡ n → b ≡ k → Put (closing_of s b) out r now → Put (closing_of n k) out r now
restated {out} {now} {r} s b n k e f P = subst (λ l. Put l out r now) (λ i. closing_of (e i) (f i)) P

pub returns-clause-closes : goal.returns-clause-closes
returns-clause-closes c = λ input es q begun L R.
    let x = c.args.self.now.reader in
    let held = ap length (reads_one R L.follows.reads).begun ∙ length-take-le x.held x.begun x.sized in
    restated _ _ _ _ (c.signals.ensures ∙ sym L.follows.count) (c.begun.ensures ∙ sym held) c.write_closing.ensures
