use Rattle.std.proofs.Common.{◌≡◌, ℕ, List, ap, sym, subst, ◌∙◌, arith}
use Rattle.desk_model.specs.MeasureText.{IsMeasure}
use Rattle.desk_model.specs.Pairs.{pairs_of}
use Rattle.measure_core.specs.Laws.{AreMet, CellIsModest}
use Rattle.measure_core.specs.Pairs.{ranking_on, run_numbers, runs_on}
use Rattle.measure_core.specs.declared.cell.Cell.{Cell}
use Rattle.measure_core.proofs.Filling.{filled_more}
use Rattle.measure_core.proofs.RunPairs.{at_within, at_next, met_pair}
use Rattle.measure_core.proofs.measure.Measure.each_cell.Goals as goal

pub ranking-b-requires : goal.ranking-b-requires
ranking-b-requires g c = at_within (runs_on c.args.rankings.now) c.loop-place.place c.loop-place.at c.loop-place.invariant.at_pair (omega (arith, c.requires.count))

pub cell-requires : goal.cell-requires
cell-requires g c =
    let second = at_within (runs_on c.args.rankings.now) c.loop-place.place c.loop-place.at c.loop-place.invariant.at_pair (omega (arith, c.requires.count)) in
    rw (c.ranking-a.ensures, c.ranking-b.ensures)
    (met_pair c.args.marks.now c.args.rankings.now c.loop-place.at.first c.loop-place.at.second c.requires.met (omega (arith, second, c.loop-place.invariant.at_pair.placed.order)) second)

pub of-requires : goal.of-requires
of-requires g c =
    let second = at_within (runs_on c.args.rankings.now) c.loop-place.place c.loop-place.at c.loop-place.invariant.at_pair (omega (arith, c.requires.count)) in
    let met : AreMet c.args.marks.now c.ranking-a.result.now c.ranking-b.result.now = rw (c.ranking-a.ensures, c.ranking-b.ensures)
    (met_pair c.args.marks.now c.args.rankings.now c.loop-place.at.first c.loop-place.at.second c.requires.met (omega (arith, second, c.loop-place.invariant.at_pair.placed.order)) second) in
    subst CellIsModest (sym c.cell.ensures.cell) ((g.met.Self.Measure.laws c.args.self.now (subst IsMeasure c.name-name.ensures.name c.name-name.ensures.built)).cell_modest c.args.marks.now c.ranking-a.result.now c.ranking-b.result.now met)

pub next-at-requires-clause-within : goal.next-at-requires-clause-within
next-at-requires-clause-within g c =
    let within = at_within (runs_on c.args.rankings.now) c.loop-place.place c.loop-place.at c.loop-place.invariant.at_pair (omega (arith, c.requires.count)) in
    omega (arith, within, c.runs-runs.ensures.count)

pub loop-place-preserved : goal.loop-place-preserved
loop-place-preserved g c =
    let t = c.args.rankings.now in
    let n = runs_on t in
    let cell : List ℕ → List ℕ → Cell = g.Self.Measure.cell_of c.args.self.now c.args.marks.now in
    let at = c.loop-place.at in
    let place = c.loop-place.place in
    let second = at_within (runs_on c.args.rankings.now) c.loop-place.place c.loop-place.at c.loop-place.invariant.at_pair (omega (arith, c.requires.count)) in
    let met : AreMet c.args.marks.now c.ranking-a.result.now c.ranking-b.result.now = rw (c.ranking-a.ensures, c.ranking-b.ensures)
    (met_pair c.args.marks.now t at.first at.second c.requires.met (omega (arith, second, c.loop-place.invariant.at_pair.placed.order)) second) in
    let next = at_next n place at c.loop-place.invariant.at_pair (omega (arith, c.requires.count)) in
    let made : c.of.result ≡ cell c.ranking-a.result.now c.ranking-b.result.now = c.of.ensures ∙ c.cell.ensures.cell in
    record {
      filled = filled_more (λ (pair : ℕ × ℕ). cell (ranking_on t pair.0) (ranking_on t pair.1)) CellIsModest (pairs_of (run_numbers n)) c.loop-place.cells place (at.first, at.second) c.of.result (omega (arith, c.requires.count))
          c.loop-place.invariant.filled next.0
          (made ∙ ap (λ us. cell us c.ranking-b.result.now) c.ranking-a.ensures ∙ ap (λ us. cell (ranking_on t at.first) us) c.ranking-b.ensures)
          (subst CellIsModest (sym made) ((g.met.Self.Measure.laws c.args.self.now (subst IsMeasure c.name-name.ensures.name c.name-name.ensures.built)).cell_modest c.args.marks.now c.ranking-a.result.now c.ranking-b.result.now met));
      at_pair = rw (c.next-at.ensures, c.runs-runs.ensures.count) next.1;
      steps = omega (arith, c.loop-place.invariant.steps, c.cell.ensures.step);
    }
