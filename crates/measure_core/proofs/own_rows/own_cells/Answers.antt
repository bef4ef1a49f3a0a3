use Rattle.std.proofs.Common.{◌<◌, ℕ, List, take, sym, subst, ◌∙◌, arith}
use Rattle.desk_model.specs.Pairs.{pairs_of}
use Rattle.measure_core.specs.Laws.{CellIsModest}
use Rattle.measure_core.specs.Pairs.{ranking_on, run_numbers, runs_on}
use Rattle.measure_core.specs.declared.cell.Cell.{Cell}
use Rattle.measure_core.proofs.Filling.{filled_more}
use Rattle.measure_core.proofs.RunPairs.{at_within, at_next}
use Rattle.measure_core.specs.Told.{AreRunCounts}
use Rattle.topic_counts.specs.Seen.{AreMarksIn}
use Rattle.measure_core.proofs.NextPair.{next_seen, not_new}
use Rattle.measure_core.proofs.Telling.{kept_at, told_at}
use Rattle.measure_core.proofs.own_rows.own_cells.Goals as goal

pub slice_copy_out-second : goal.slice_copy_out-second
slice_copy_out-second g c =
    let within = at_within (runs_on c.args.on.now.rankings.now) c.loop-place.place c.loop-place.at c.loop-place.invariant.at_pair (omega (arith, c.requires)) in
    omega (arith, within, c.count_runs.ensures.count, c.runs-runs.ensures.count, c.if-runs-counts.false)

pub ranking-b-requires : goal.ranking-b-requires
ranking-b-requires g c = at_within (runs_on c.args.on.now.rankings.now) c.loop-place.place c.loop-place.at c.loop-place.invariant.at_pair (omega (arith, c.requires))

pub next-at-requires-clause-within : goal.next-at-requires-clause-within
next-at-requires-clause-within g c =
    let within = at_within (runs_on c.args.on.now.rankings.now) c.loop-place.place c.loop-place.at c.loop-place.invariant.at_pair (omega (arith, c.requires)) in
    omega (arith, within, c.runs-runs.ensures.count)

pub own_by_marks-own-requires : goal.own_by_marks-own-requires
own_by_marks-own-requires g c =
    let t = c.args.on.now.rankings.now in
    let at = c.loop-place.at in
    let second = at_within (runs_on t) c.loop-place.place at c.loop-place.invariant.at_pair (omega (arith, c.requires)) in
    let first : at.first < runs_on t = omega (arith, second, c.loop-place.invariant.at_pair.placed.order) in
    let counted : AreRunCounts (g.O.OwnMeasure.depth_of c.args.measure.now) c.args.on.now.marks.now t c.count_runs.new.counts =
    subst (λ (n : ℕ). AreRunCounts n c.args.on.now.marks.now t c.count_runs.new.counts) c.depth-k.ensures c.count_runs.ensures.counts in
    let shown : AreMarksIn (take c.depth-k.result (ranking_on t at.first)) c.args.on.now.marks.now c.see_first.new.seen =
    subst (λ (run : List ℕ). AreMarksIn (take c.depth-k.result run) c.args.on.now.marks.now c.see_first.new.seen) c.ranking-a.ensures
    (c.see_first.ensures.seen (λ e. subst (λ (run : List ℕ). AreMarksIn (take c.depth-k.result run) c.args.on.now.marks.now c.loop-place.seen) (sym c.ranking-a.ensures) (c.loop-place.invariant.before (not_new at e)))) in (
      c.args.on.now.marks.now,
      ranking_on t at.first,
      kept_at c.depth-k.result _ c.args.on.now.marks.now t at.first at.second c.ranking-b.result.now c.depth-k.ensures c.ranking-b.ensures c.args.on.now.met first second
          c.count_runs.new.counts (record { relevant = 0; unjudged = 0 }) c.see_first.new.seen counted shown,
    )

pub own_cell-requires : goal.own_cell-requires
own_cell-requires g c =
    let t = c.args.on.now.rankings.now in
    let marks = c.args.on.now.marks.now in
    let at = c.loop-place.at in
    let second = at_within (runs_on t) c.loop-place.place at c.loop-place.invariant.at_pair (omega (arith, c.requires)) in
    let first : at.first < runs_on t = omega (arith, second, c.loop-place.invariant.at_pair.placed.order) in
    let counted : AreRunCounts (g.O.OwnMeasure.depth_of c.args.measure.now) c.args.on.now.marks.now t c.count_runs.new.counts =
    subst (λ (n : ℕ). AreRunCounts n c.args.on.now.marks.now t c.count_runs.new.counts) c.depth-k.ensures c.count_runs.ensures.counts in
    let shown : AreMarksIn (take c.depth-k.result (ranking_on t at.first)) c.args.on.now.marks.now c.see_first.new.seen =
    subst (λ (run : List ℕ). AreMarksIn (take c.depth-k.result run) c.args.on.now.marks.now c.see_first.new.seen) c.ranking-a.ensures
    (c.see_first.ensures.seen (λ e. subst (λ (run : List ℕ). AreMarksIn (take c.depth-k.result run) c.args.on.now.marks.now c.loop-place.seen) (sym c.ranking-a.ensures) (c.loop-place.invariant.before (not_new at e)))) in
    let kept = kept_at c.depth-k.result _ marks t at.first at.second c.ranking-b.result.now c.depth-k.ensures c.ranking-b.ensures c.args.on.now.met first second
    c.count_runs.new.counts (record { relevant = 0; unjudged = 0 }) c.see_first.new.seen counted shown in (
      marks,
      ranking_on t at.first,
      ranking_on t at.second,
      told_at c.depth-k.result _ marks t at.first at.second c.ranking-b.result.now c.depth-k.ensures c.ranking-b.ensures c.args.on.now.met first second
          c.own_by_marks-own.result c.all_documents-all.result (c.own_by_marks-own.ensures.first marks (ranking_on t at.first) kept) (c.own_by_marks-own.ensures.second marks (ranking_on t at.first) kept)
          c.all_documents-all.ensures.least c.all_documents-all.ensures.most c.all_documents-all.ensures.few,
    )

pub loop-place-preserved : goal.loop-place-preserved
loop-place-preserved g c =
    let t = c.args.on.now.rankings.now in
    let n = runs_on t in
    let marks = c.args.on.now.marks.now in
    let cell : List ℕ → List ℕ → Cell = g.O.OwnMeasure.own_cell_of c.args.measure.now marks in
    let at = c.loop-place.at in
    let place = c.loop-place.place in
    let second = at_within n place at c.loop-place.invariant.at_pair (omega (arith, c.requires)) in
    let first : at.first < n = omega (arith, second, c.loop-place.invariant.at_pair.placed.order) in
    let counted : AreRunCounts (g.O.OwnMeasure.depth_of c.args.measure.now) c.args.on.now.marks.now t c.count_runs.new.counts =
    subst (λ (n : ℕ). AreRunCounts n c.args.on.now.marks.now t c.count_runs.new.counts) c.depth-k.ensures c.count_runs.ensures.counts in
    let shown : AreMarksIn (take c.depth-k.result (ranking_on t at.first)) marks c.see_first.new.seen =
    subst (λ (run : List ℕ). AreMarksIn (take c.depth-k.result run) marks c.see_first.new.seen) c.ranking-a.ensures
    (c.see_first.ensures.seen (λ e. subst (λ (run : List ℕ). AreMarksIn (take c.depth-k.result run) marks c.loop-place.seen) (sym c.ranking-a.ensures) (c.loop-place.invariant.before (not_new at e)))) in
    let kept = kept_at c.depth-k.result _ marks t at.first at.second c.ranking-b.result.now c.depth-k.ensures c.ranking-b.ensures c.args.on.now.met first second
    c.count_runs.new.counts (record { relevant = 0; unjudged = 0 }) c.see_first.new.seen counted shown in
    let told = told_at c.depth-k.result _ marks t at.first at.second c.ranking-b.result.now c.depth-k.ensures c.ranking-b.ensures c.args.on.now.met first second
    c.own_by_marks-own.result c.all_documents-all.result (c.own_by_marks-own.ensures.first marks (ranking_on t at.first) kept) (c.own_by_marks-own.ensures.second marks (ranking_on t at.first) kept)
    c.all_documents-all.ensures.least c.all_documents-all.ensures.most c.all_documents-all.ensures.few in
    let next = at_next n place at c.loop-place.invariant.at_pair (omega (arith, c.requires)) in
    record {
      filled = filled_more (λ (pair : ℕ × ℕ). cell (ranking_on t pair.0) (ranking_on t pair.1)) CellIsModest (pairs_of (run_numbers n)) c.loop-place.cells place (at.first, at.second) c.of.result (omega (arith, c.requires))
          c.loop-place.invariant.filled next.0 (c.of.ensures ∙ c.own_cell.ensures.cell marks (ranking_on t at.first) (ranking_on t at.second) told) (subst CellIsModest (sym c.of.ensures) c.own_cell.ensures.modest);
      at_pair = rw (c.next-at.ensures, c.runs-runs.ensures.count) next.1;
      long = omega (arith, c.loop-place.invariant.long, c.see_first.ensures.count);
      before = rw c.next-at.ensures (next_seen c.runs-runs.result at (λ run. AreMarksIn (take c.depth-k.result (ranking_on t run)) marks c.see_first.new.seen) shown);
      steps = omega (arith, c.loop-place.invariant.steps, c.tick.ensures);
    }
