use Rattle.std.proofs.Common.{◌≡◌, ◌+◌, max, pos, ◌-ℤ◌, to_z, of_z, arith, ap, ◌∙◌}
use Rattle.std.specs.Int.{w128}
use Rattle.std.proofs.lemmas.Int.{ints}
use Rattle.recall.specs.LeastCase.{least_relevant}
use Rattle.recall.proofs.Ends.{least_is}
use Rattle.recall.proofs.recall.least_span.Goals as goal

pub returns : goal.returns
returns c =
    let num : to_z w128 (of_z w128 c.from.result) ≡ pos c.args.first.relevant -ℤ pos (c.args.second.relevant + c.args.second.unjudged) = omega (arith, ints) in
    let same : to_z w128 (of_z w128 c.from-2.result) ≡ pos c.relevant_documents-relevant.result = omega (arith, ints) in
    let den : to_z w128 (of_z w128 c.from-2.result) ≡ pos (max 1 (least_relevant c.args.first c.args.second c.args.all)) = same ∙ ap (λ n. pos n) c.relevant_documents-relevant.ensures.value in
    λ k marks a b h. least_is k marks a b c.args.first c.args.second c.args.all _ _ c.span_of.result h num den c.span_of.ensures.floor c.span_of.ensures.ceiling
