use Rattle.std.proofs.Common.{ℕ, arith}
use Rattle.desk_model.specs.Pairs.{pairs_of}
use Rattle.measure_core.specs.Laws.{CellIsModest}
use Rattle.measure_core.specs.Pairs.{ranking_on, run_numbers, runs_on}
use Rattle.measure_core.proofs.Filling.{filled_more}
use Rattle.measure_core.proofs.RunPairs.{at_within, at_next}
use Rattle.average_precision.specs.Numbers.{average_cell}
use Rattle.average_precision.proofs.cells.fill_cells.Goals as goal

pub cell-requires : goal.cell-requires
cell-requires g c =
    let within = at_within (runs_on c.args.runs.now.kept.on.rankings.now) c.loop-place.place c.loop-place.at c.loop-place.invariant.at_pair (omega (arith, c.requires)) in
    record { first = omega (arith, within, c.loop-place.invariant.at_pair.placed.order); second = within }

pub next-at-requires-clause-within : goal.next-at-requires-clause-within
next-at-requires-clause-within g c =
    let within = at_within (runs_on c.args.runs.now.kept.on.rankings.now) c.loop-place.place c.loop-place.at c.loop-place.invariant.at_pair (omega (arith, c.requires)) in
    omega (arith, within, c.runs-count.ensures.count)

pub loop-place-preserved : goal.loop-place-preserved
loop-place-preserved g c =
    let t = c.args.runs.now.kept.on.rankings.now in
    let marks = c.args.runs.now.kept.on.marks.now in
    let n = runs_on t in
    let at = c.loop-place.at in
    let place = c.loop-place.place in
    let next = at_next n place at c.loop-place.invariant.at_pair (omega (arith, c.requires)) in
    record {
      filled = filled_more (λ (pair : ℕ × ℕ). average_cell marks (ranking_on t pair.0) (ranking_on t pair.1)) CellIsModest (pairs_of (run_numbers n)) c.loop-place.cells place (at.first, at.second) c.cell.result (omega (arith, c.requires))
          c.loop-place.invariant.filled next.0 c.cell.ensures.cell c.cell.ensures.modest;
      at_pair = rw (c.next-at.ensures, c.runs-count.ensures.count) next.1;
      steps = omega (arith, c.loop-place.invariant.steps, c.tick.ensures);
    }
