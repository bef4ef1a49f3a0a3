use Rattle.std.proofs.Common.{◌+◌, ◌<◌, pos, sym, subst, ap, ◌∙◌, arith}
use Rattle.std.specs.Prelude.{int_lt}
use Rattle.std.proofs.lemmas.List.{length-map, take_all}
use Rattle.desk_model.specs.Desk.{topics_under}
use Rattle.desk_model.specs.Extremes.{Ends}
use Rattle.desk_model.specs.Order.{Topic}
use Rattle.desk_model.proofs.DeskTopics.{length-topics_under}
use Rattle.measure_core.specs.Made.{ends_of}
use Rattle.pair_table.specs.Sums.{cell_ends}
use Rattle.pair_table.proofs.DeskTopics.{topic_at_there}
use Rattle.order_tiers.specs.Order.{wins_in, losses_in}
use Rattle.order_tiers.proofs.Celling.{kept_ends, length-kept, none_counted, one_counted}
use Rattle.order_tiers.proofs.covers.cover_of.Goals as goal
use Rattle.order_tiers.proofs.covers.cover_of.Goals.{then-is_won, else-is_won, then-is_lost, else-is_lost}

pub cell-cell-requires : goal.cell-cell-requires
cell-cell-requires g c =
    let pair = c.args.pair.now in
    let table = c.args.table.now in
    let M = g.M.Measure in
    let runs = c.requires.stands.sums.runs in
    let long = length-kept (M.measured table.measure) (M.cell_of table.measure) (M.bounds_of table.measure) pair.desk.now c.args.marks.now table c.requires in
    record {
      different = pair.different;
      first = subst (λ n. pair.first < n) (sym runs) pair.has_first;
      second = subst (λ n. pair.second < n) (sym runs) pair.has_second;
      topic = omega (arith, c.loop-topic-test.true, c.topic_count-topic-end.ensures.count, long);
    }

pub loop-topic-preserved : goal.loop-topic-preserved
loop-topic-preserved g c =
    let cell = g.M.Measure.cell_of c.args.table.now.measure in
    let desk = c.args.pair.now.desk.now in
    let marks = c.args.marks.now in
    let i = c.args.pair.now.first in
    let j = c.args.pair.now.second in
    let t = c.loop-topic.topic in
    let inv = c.loop-topic.invariant in
    let test = c.loop-topic-test.true in
    let there = topic_at_there desk marks t c.requires.known (omega (arith, test, c.topic_count-topic-end.ensures.count)) in
    let e = ends_of c.cell-cell.result in
    let M = g.M.Measure in
    let table = c.args.table.now in
    let found = c.cell-cell.ensures in
    let ends = kept_ends (M.measured table.measure) (M.cell_of table.measure) (M.bounds_of table.measure) desk marks table c.requires (g.met.M.Measure.laws table.measure c.requires.named) i j t c.cell-cell.result found.0 c.args.pair.now.has_first c.args.pair.now.has_second
    (omega (arith, test, c.topic_count-topic-end.ensures.count)) found.1 found.2 in
    let won : Ends → _ = λ (x : Ends). int_lt (pos 0) x.least_lo in
    let lost : Ends → _ = λ (x : Ends). int_lt x.most_hi (pos 0) in
    record {
      wins = elim c.if-is_won.branch [
        | then-is_won w ↦ w.wins-is ∙ ap (λ n. n + 1) inv.wins ∙ sym (one_counted cell desk marks i j t there won e ends (sym c.is_won.ensures ∙ w.if-is_won.true))
        | else-is_won w ↦ w.wins-is ∙ inv.wins ∙ sym (none_counted cell desk marks i j t there won e ends (sym c.is_won.ensures ∙ w.if-is_won.false))
      ];
      losses = elim c.if-is_lost.branch [
        | then-is_lost w ↦ w.losses-is ∙ ap (λ n. n + 1) inv.losses ∙ sym (one_counted cell desk marks i j t there lost e ends (sym c.is_lost.ensures ∙ w.if-is_lost.true))
        | else-is_lost w ↦ w.losses-is ∙ inv.losses ∙ sym (none_counted cell desk marks i j t there lost e ends (sym c.is_lost.ensures ∙ w.if-is_lost.false))
      ];
      few_wins = let few = inv.few_wins in elim c.if-is_won.branch [ then-is_won w ↦ let is = w.wins-is in omega (arith, few, is) | else-is_won w ↦ let is = w.wins-is in omega (arith, few, is) ];
      few_losses = let few = inv.few_losses in elim c.if-is_lost.branch [ then-is_lost w ↦ let is = w.losses-is in omega (arith, few, is) | else-is_lost w ↦ let is = w.losses-is in omega (arith, few, is) ];
    }

pub returns-clause-wins : goal.returns-clause-wins
returns-clause-wins g c =
    let desk = c.args.pair.now.desk.now in
    let marks = c.args.marks.now in
    let cell = g.M.Measure.cell_of c.args.table.now.measure in
    let long = length-map (topics_under desk marks) (λ (topic : Topic). ends_of (cell topic.marks (topic.ranking c.args.pair.now.first) (topic.ranking c.args.pair.now.second))) in
    let past = c.loop-topic-test.false in
    c.loop-topic.invariant.wins
    ∙ ap wins_in (take_all c.loop-topic.topic (cell_ends cell (topics_under desk marks) c.args.pair.now.first c.args.pair.now.second) (omega (arith, past, long, length-topics_under desk marks c.requires.known, c.topic_count-topic-end.ensures.count)))

pub returns-clause-losses : goal.returns-clause-losses
returns-clause-losses g c =
    let desk = c.args.pair.now.desk.now in
    let marks = c.args.marks.now in
    let cell = g.M.Measure.cell_of c.args.table.now.measure in
    let long = length-map (topics_under desk marks) (λ (topic : Topic). ends_of (cell topic.marks (topic.ranking c.args.pair.now.first) (topic.ranking c.args.pair.now.second))) in
    let past = c.loop-topic-test.false in
    c.loop-topic.invariant.losses
    ∙ ap losses_in (take_all c.loop-topic.topic (cell_ends cell (topics_under desk marks) c.args.pair.now.first c.args.pair.now.second) (omega (arith, past, long, length-topics_under desk marks c.requires.known, c.topic_count-topic-end.ensures.count)))
