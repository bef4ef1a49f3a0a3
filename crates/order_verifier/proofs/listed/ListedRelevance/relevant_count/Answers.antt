use Rattle.std.proofs.Common.{◌+◌, length, sym, ◌∙◌, ap, arith}
use Rattle.desk_model.specs.Score.{true_count}
use Rattle.measure_laws.specs.Classes.{judged_count}
use Rattle.order_certificate.specs.Evidence.{listed_truth}
use Rattle.order_verifier.specs.Checks.{NamesOnTopic, unranked}
use Rattle.order_verifier.proofs.OnLists.{relevant_listed, relevant_within}
use Rattle.order_verifier.proofs.listed.ListedRelevance.relevant_count.Goals as goal

pub overflow_cast-result : goal.overflow_cast-result
overflow_cast-result c =
    let all = relevant_within _ c.self.invariant in
    omega (arith, all, c.len.ensures)

pub overflow_add-result : goal.overflow_add-result
overflow_add-result c =
    let all = relevant_within _ c.self.invariant in
    omega (arith, all, c.len.ensures, c.all.ensures.relevant)

pub returns : goal.returns
returns c =
    let all = relevant_listed _ c.self.invariant in
    ap (λ n. n + c.len.result) c.all.ensures.relevant ∙ ap (λ n. judged_count c.self.inside.marks.now + n) c.len.ensures ∙ sym all ∙ ap (λ (l : NamesOnTopic). true_count (listed_truth (unranked l) l.names) (length l.marks)) c.self.view_is
