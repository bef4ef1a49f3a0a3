use Rattle.std.proofs.Common.{◌<◌, ℕ, List, ◌+◌, length, ap, subst, sym, ◌∙◌, arith}
use Rattle.std.proofs.lemmas.List.{length_push}
use Rattle.desk_model.specs.Desk.{ranking_of}
use Rattle.desk_model.specs.Ranking.{IsRanking}
use Rattle.desk_model.proofs.DeskTopics.{ranking_at, small_at}
use Rattle.topic_ends.specs.RunBounds.{AreBoundsOn, AreRunBounds}
use Rattle.topic_ends.proofs.KnownBounds.{runs_more, same_row}
use Rattle.topic_ends.proofs.DeskPlaces.{marks_within}
use Rattle.topic_ends.proofs.ranked.BoundsOnTopic.new.Goals as goal

pub topic-own-requires : goal.topic-own-requires
topic-own-requires c = marks_within c.args.desk.now c.args.marks.now c.requires.marks c.args.topic c.requires.topic

pub all_documents-all-requires : goal.all_documents-all-requires
all_documents-all-requires c = small_at c.args.desk.now c.args.marks.now c.run_count-runs.ensures.desk c.requires.marks c.args.topic c.topic-own.result.now c.topic-own.ensures

pub invariant_of-bounds_of-clause-ranking : goal.invariant_of-bounds_of-clause-ranking
invariant_of-bounds_of-clause-ranking c =
    let known : c.loop-run.run < length c.args.desk.now.runs = omega (arith, c.loop-run-test.true, c.run_count-runs.ensures.count) in
    subst (IsRanking (length c.topic-own.result.now)) (sym (c.docs.ensures.docs ∙ c.ranking.ensures.ranking)) (ranking_at c.args.desk.now c.args.marks.now c.run_count-runs.ensures.desk c.requires.marks c.loop-run.run c.args.topic c.topic-own.result.now known c.topic-own.ensures)

pub invariant_of-bounds_of-clause-few : goal.invariant_of-bounds_of-clause-few
invariant_of-bounds_of-clause-few c = small_at c.args.desk.now c.args.marks.now c.run_count-runs.ensures.desk c.requires.marks c.args.topic c.topic-own.result.now c.topic-own.ensures

pub loop-run-preserved : goal.loop-run-preserved
loop-run-preserved c =
    let row = c.loop-run.bounds.items in
    let next = c.bounds_of-next.result in
    let kept = c.loop-run.invariant in
    let items = c.in_ok-push.ensures.items in
    let desk = c.args.desk.now in
    let own = c.topic-own.result.now in
    let here : AreRunBounds own (ranking_of desk (length row) c.args.topic) next =
    subst (λ (n : ℕ). AreRunBounds own (ranking_of desk n c.args.topic) next) (sym kept.count) (subst (λ (docs : List ℕ). AreRunBounds own docs next) (c.docs.ensures.docs ∙ c.ranking.ensures.ranking) c.bounds_of-next.ensures) in
    record {
      count = ap length items ∙ length_push row next ∙ ap (λ n. n + 1) kept.count;
      known = subst (AreBoundsOn desk c.args.topic own) (sym items) (runs_more desk c.args.topic own row next kept.known here);
    }

pub returns : goal.returns
returns c = λ m at. same_row c.args.desk.now c.args.marks.now c.args.topic c.topic-own.result.now m c.loop-run.bounds.items c.topic-own.ensures at c.loop-run.invariant.known
