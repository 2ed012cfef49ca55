use Rattle.std.proofs.Common.{◌≡◌, ◌+◌, ◌*◌, [], ◌∷◌, sym, ap, ◌∙◌, subst, rules}
use Rattle.tape.specs.Numbers.{signal_of}
use Rattle.listing.proofs.Streams.{Ends, hears_first, hears_number, ends_second}
use Rattle.listing.proofs.listing.Listing.hear.Goals as goal

pub returns-in_default : goal.returns-in_default
returns-in_default c = hears_first c.args.self.now c.args.byte c.in_default.is

pub returns : goal.returns
returns c =
    let x = c.args.self.now in
    let b = c.args.byte in
    let number : c.from_be_bytes.result ≡ c.in-Some.high * 256 + b = search rules in
    hears_number x _ (b ∷ []) _ _ (subst (Ends x (b ∷ [])) (sym (c.from.ensures ∙ ap signal_of number)) (ends_second x c.in-Some.high b c.in-Some.is)) c.step.ensures.stepped
