use Rattle.std.proofs.Common.{◌≡◌, ◌<◌, take, subst, to_z, arith}
use Rattle.std.specs.Int.{w128}
use Rattle.std.specs.List.{AllByRecursion, zip}
use Rattle.std.proofs.lemmas.List.{take_all}
use Rattle.std.proofs.lemmas.Slice.Zip.{length-zip}
use Rattle.small_lemmas.proofs.Lists.{slice_get-zip}
use Rattle.order_verifier.specs.CompletionEnds.{IsHighEnd, IsLowEnd}
use Rattle.order_verifier.specs.Refusal.{AreCompletions, topics_in}
use Rattle.order_verifier.proofs.EndSums.{added_more}
use Rattle.order_verifier.proofs.FirstFailing.{SumsTo, all_more}
use Rattle.order_verifier.proofs.ListNames.{zip_completions}
use Rattle.order_verifier.proofs.comparison.Comparison.end_sums.Goals as goal

pub returns-in-Err : goal.returns-in-Err
returns-in-Err g c =
    let topics = topics_in c.args.self.now in
    let ws = g.L.ListRows.witnesses c.args.lists.now in
    let i = c.loop-topic.topic in
    let row = c.in-Err.ensures in
    let of = row.2 in
    (i, record { before = c.loop-topic.invariant.unjudged; item = (row.0, of.0); there = slice_get-zip ws topics i row.0 of.0 row.1 of.1; fails = of.2 })

pub loop-topic-preserved : goal.loop-topic-preserved
loop-topic-preserved g c =
    let v = c.args.self.now in
    let topics = topics_in v in
    let ws = g.L.ListRows.witnesses c.args.lists.now in
    let i = c.loop-topic.topic in
    let kept = c.loop-topic.invariant in
    let row = c.in-Ok.ensures in
    let of = row.2 in
    let here = of.2 in
    let at = slice_get-zip ws topics i row.0 of.0 row.1 of.1 in
    let few : i < 10000 = omega (arith, c.requires.few, c.count-topic-end.ensures, c.loop-topic-test.true) in
    record {
      unjudged = all_more AreCompletions (zip ws topics) i (row.0, of.0) kept.unjudged at here.unjudged;
      low = added_more (IsLowEnd v) (zip ws topics) i (row.0, of.0) (to_z w128 c.loop-topic.low-bits) c.in-Ok.ends.low at few kept.low here.low here.low_modest;
      high = added_more (IsHighEnd v) (zip ws topics) i (row.0, of.0) (to_z w128 c.loop-topic.high-bits) c.in-Ok.ends.high at few kept.high here.high here.high_modest;
    }

pub returns : goal.returns
returns g c =
    let v = c.args.self.now in
    let topics = topics_in v in
    let ws = g.L.ListRows.witnesses c.args.lists.now in
    let kept = c.loop-topic.invariant in
    let pairs = zip ws topics in
    let whole : take c.loop-topic.topic pairs ≡ pairs = take_all c.loop-topic.topic pairs (omega (arith, length-zip ws topics, c.requires.topics, c.count-topic-end.ensures)) in
    record {
      unjudged = zip_completions ws topics c.requires.topics (subst (AllByRecursion AreCompletions) whole kept.unjudged);
      low = subst (λ ps. SumsTo (IsLowEnd v) ps (to_z w128 c.loop-topic.low-bits)) whole kept.low.summed;
      high = subst (λ ps. SumsTo (IsHighEnd v) ps (to_z w128 c.loop-topic.high-bits)) whole kept.high.summed;
    }
