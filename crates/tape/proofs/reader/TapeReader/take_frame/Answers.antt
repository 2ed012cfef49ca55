use Rattle.std.proofs.Common.{◌≡◌, ◌+◌, length, get_or, ap, ◌∙◌, arith}
use Rattle.record.specs.Frames.{told}
use Rattle.tape.proofs.Steps.{took_frame}
use Rattle.tape.proofs.reader.TapeReader.take_frame.Goals as goal

pub returns-clause-took : goal.returns-clause-took
returns-clause-took c t es e F is =
    let whole : length c.args.frame.now ≡ get_or c.args.frame.now 0 0 + 1 = omega arith in
    let none : c.args.self.now.held ≡ 0 = omega arith in
    let one : e ≡ c.end.result = cc in
    let entry = one ∙ c.end.ensures.entry in
    let ends = c.end.ensures.ends in
    took_frame t es c.args.frame.now e _ _ F none whole (ap (λ a. a.place) entry) (ap (λ a. told a.verdict) entry ∙ c.judge-verdict.ensures.verdict) (ap (λ h. h.held) ends) (ap (λ h. h.place) ends ∙ omega arith) (ap (λ h. h.signals) ends ∙ omega arith)
