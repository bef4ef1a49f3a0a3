use Rattle.std.proofs.Common.{ℕ, ◌≤◌, List, [], ◌∷◌, ◌++◌, length, map, take, ap, ap₂, sym, ◌∙◌, arith}
use Rattle.std.proofs.lemmas.List.{map-append, take_all}
use Rattle.desk_model.specs.Desk.{topics_under}
use Rattle.desk_model.proofs.DeskTopics.{length-marks, length-topics_under, topic_of, topic_there}
use Rattle.desk_model.proofs.Nested.{take-there}
use Rattle.measure_laws.specs.Cases.{least_truth}
use Rattle.order_bundle.specs.declared.bundle.Picks.{Picks}
use Rattle.pair_table.proofs.DeskTopics.{met_at}
use Rattle.measure_core.specs.Lists.{added_documents}
use Rattle.table_bundle.specs.Drafts.{picks_on}
use Rattle.table_bundle.proofs.standing_table.StandingPair.picks.Goals as goal

pub topic-marks-requires : goal.topic-marks-requires
topic-marks-requires g c = omega (arith, c.topic_count-topic-end.ensures.count, length-marks c.args.self.now.standing.now.desk.now c.args.self.now.standing.now.marks.now c.args.self.now.standing.now.marked)

pub picks-requires : goal.picks-requires
picks-requires g c =
    rw (c.ranking-a.ensures.ranking, c.ranking-b.ensures.ranking)
    (met_at c.args.self.now.standing.now.desk.now c.args.self.now.standing.now.marks.now c.topic_count-topic-end.ensures.desk c.args.self.now.standing.now.marked c.args.self.now.pair.first c.args.self.now.pair.second c.loop-topic.topic c.topic-marks.result.now c.args.self.now.known.first c.args.self.now.known.second c.topic-marks.ensures)

abbrev lists : List ℕ → List ℕ → Picks
lists low high = record { low = low; high = high }

pub loop-topic-preserved : goal.loop-topic-preserved
loop-topic-preserved g c =
    let measure = g.M.Measure.measured c.args.self.now.standing.now.table.now.measure in
    let desk = c.args.self.now.standing.now.desk.now in
    let t = c.loop-topic.topic in
    let m = c.topic-marks.result.now in
    let topics = topics_under desk c.args.self.now.standing.now.marks.now in
    let f = picks_on measure c.args.self.now.pair.first c.args.self.now.pair.second in
    let there = topic_there desk c.args.self.now.standing.now.marks.now t m c.topic-marks.ensures in
    let case = λ (u v : List ℕ). added_documents m (least_truth measure m u v) in
    let low = c.in_ok-next.ensures.low ∙ ap (λ n. added_documents m (least_truth (g.M.Measure.measured n) m c.ranking-a.result.now c.ranking-b.result.now)) c.measure-measure.ensures ∙ ap₂ case c.ranking-a.ensures.ranking c.ranking-b.ensures.ranking in
    let high = c.in_ok-next.ensures.high ∙ ap (λ n. added_documents m (least_truth (g.M.Measure.measured n) m c.ranking-b.result.now c.ranking-a.result.now)) c.measure-measure.ensures ∙ ap₂ case c.ranking-b.ensures.ranking c.ranking-a.ensures.ranking in
    record {
      made = c.in_ok-push.ensures.items ∙ ap₂ (λ (l : List Picks) (x : Picks). l ++ x ∷ []) c.loop-topic.invariant.made (ap₂ lists low high)
          ∙ sym (map-append f (take t topics) (topic_of desk t m ∷ [])) ∙ sym (ap (map f) (take-there topics t (topic_of desk t m) there));
    }

pub returns : goal.returns
returns g c =
    let desk = c.args.self.now.standing.now.desk.now in
    let topics = topics_under desk c.args.self.now.standing.now.marks.now in
    let end : length topics ≤ c.loop-topic.topic = omega (arith, c.loop-topic-test.false, c.topic_count-topic-end.ensures.count, length-topics_under desk c.args.self.now.standing.now.marks.now c.args.self.now.standing.now.marked) in
    c.new.ensures ∙ c.loop-topic.invariant.made ∙ ap (map (picks_on (g.M.Measure.measured c.args.self.now.standing.now.table.now.measure) c.args.self.now.pair.first c.args.self.now.pair.second)) (take_all c.loop-topic.topic topics end)
