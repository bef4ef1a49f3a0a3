use Rattle.std.proofs.Common.{refl, ◌∙◌, arith}
use Rattle.desk_text.proofs.Sizes.{zeros_moved}
use Rattle.desk_text.proofs.key.aligned_short.Goals as goal

pub returns-clause-same : goal.returns-clause-same
returns-clause-same c =
    let last = c.raised_short-number-5 in
    rw c.from.ensures (zeros_moved last.result.digits 100000000000 11 last.result.power refl (omega arith)
    ∙ last.ensures.same ∙ c.raised_short-number-4.ensures.same ∙ c.raised_short-number-3.ensures.same ∙ c.raised_short-number-2.ensures.same ∙ c.raised_short-number.ensures.same)
