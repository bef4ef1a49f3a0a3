use Rattle.std.proofs.Common.{ℕ, List, [], ap, sym, subst, ◌∙◌, arith}
use Rattle.desk_model.specs.Pairs.{pairs_of}
use Rattle.measure_core.specs.Laws.{CellIsModest}
use Rattle.measure_core.specs.Pairs.{ranking_on, run_numbers, runs_on}
use Rattle.measure_core.specs.declared.cell.Cell.{Cell}
use Rattle.measure_core.specs.declared.room.RunSums.{RunSums}
use Rattle.measure_core.specs.declared.room.RunWeights.{RunWeights}
use Rattle.measure_core.proofs.Filling.{filled_more}
use Rattle.measure_core.proofs.RunPairs.{at_within, at_next, met_pair}
use Rattle.measure_core.proofs.NextPair.{next_seen, not_new}
use Rattle.measure_core.specs.Bits.{AreBitsIn}
use Rattle.measure_core.specs.Ranks.{AreRanks}
use Rattle.measure_core.proofs.ranked_rows.ranked_cells.Goals as goal

abbrev no_weights : RunWeights
no_weights = record { relevant_low = 0; relevant_high = 0; possible_low = 0; possible_high = 0 }

abbrev no_sums : RunSums
no_sums = record { numbers = [] }

pub kept_pair-kept-requires-clause-weights : goal.kept_pair-kept-requires-clause-weights
kept_pair-kept-requires-clause-weights g c =
    let within = at_within (runs_on c.args.on.now.rankings.now) c.loop-place.place c.loop-place.at c.loop-place.invariant.at_pair (omega (arith, c.requires)) in
    omega (arith, within, c.weigh_runs.ensures.as_many_weights, c.runs-runs.ensures.count, c.if-runs-weights.false)

pub kept_pair-kept-requires-clause-sums : goal.kept_pair-kept-requires-clause-sums
kept_pair-kept-requires-clause-sums g c =
    let within = at_within (runs_on c.args.on.now.rankings.now) c.loop-place.place c.loop-place.at c.loop-place.invariant.at_pair (omega (arith, c.requires)) in
    omega (arith, within, c.weigh_runs.ensures.as_many_sums, c.runs-runs.ensures.count, c.if-runs-sums.false)

pub ranking-b-requires : goal.ranking-b-requires
ranking-b-requires g c = at_within (runs_on c.args.on.now.rankings.now) c.loop-place.place c.loop-place.at c.loop-place.invariant.at_pair (omega (arith, c.requires))

pub invariant_of-apart : goal.invariant_of-apart
invariant_of-apart g c =
    let marks = c.args.on.now.marks.now in
    let second = at_within (runs_on c.args.on.now.rankings.now) c.loop-place.place c.loop-place.at c.loop-place.invariant.at_pair (omega (arith, c.requires)) in
    let run = c.ranking-a.result.now in
    let set_bits : AreBitsIn run marks c.set_apart.new.bits =
    c.set_apart.ensures.bits (λ e. subst (λ (l : List ℕ). AreBitsIn l marks c.loop-place.bits) (sym c.ranking-a.ensures) (c.loop-place.invariant.bits_before (not_new c.loop-place.at e))) in
    let set_ranks : AreRanks run c.set_apart.new.ranks =
    c.set_apart.ensures.ranks (λ e. subst (λ (l : List ℕ). AreRanks l c.loop-place.ranks) (sym c.ranking-a.ensures) (c.loop-place.invariant.ranks_before (not_new c.loop-place.at e))) in
    record {
      met = rw (c.ranking-a.ensures, c.ranking-b.ensures)
          (met_pair marks c.args.on.now.rankings.now c.loop-place.at.first c.loop-place.at.second c.args.on.now.met (omega (arith, second, c.loop-place.invariant.at_pair.placed.order)) second);
      set_bits = set_bits;
      set_ranks = record { long = omega (arith, c.loop-place.invariant.ranks_long, c.set_apart.ensures.ranks_count); each = λ doc lt. set_ranks doc };
      topic = record { topic = record { least = c.all_documents-all.ensures.least; most = c.all_documents-all.ensures.most }; few = omega (arith, c.all_documents-all.ensures.few, c.args.on.now.met.small) };
    }

pub ranked_cell-requires-clause-first : goal.ranked_cell-requires-clause-first
ranked_cell-requires-clause-first g c =
    let within = at_within (runs_on c.args.on.now.rankings.now) c.loop-place.place c.loop-place.at c.loop-place.invariant.at_pair (omega (arith, c.requires)) in
    let order = c.loop-place.invariant.at_pair.placed.order in
    c.kept_pair-kept.ensures.first no_weights ∙ c.weigh_runs.ensures.weights c.loop-place.at.first (omega (arith, within, order)) no_weights
    ∙ ap (g.R.RankedMeasure.weights_of c.args.measure.now c.args.on.now.marks.now) (sym c.ranking-a.ensures)

pub ranked_cell-requires-clause-second : goal.ranked_cell-requires-clause-second
ranked_cell-requires-clause-second g c =
    let within = at_within (runs_on c.args.on.now.rankings.now) c.loop-place.place c.loop-place.at c.loop-place.invariant.at_pair (omega (arith, c.requires)) in
    c.kept_pair-kept.ensures.second no_weights ∙ c.weigh_runs.ensures.weights c.loop-place.at.second within no_weights
    ∙ ap (g.R.RankedMeasure.weights_of c.args.measure.now c.args.on.now.marks.now) (sym c.ranking-b.ensures)

pub ranked_cell-requires-clause-first_sums : goal.ranked_cell-requires-clause-first_sums
ranked_cell-requires-clause-first_sums g c =
    let within = at_within (runs_on c.args.on.now.rankings.now) c.loop-place.place c.loop-place.at c.loop-place.invariant.at_pair (omega (arith, c.requires)) in
    let order = c.loop-place.invariant.at_pair.placed.order in
    rw (c.ranking-a.ensures, c.kept_pair-kept.ensures.first_sums no_sums) (c.weigh_runs.ensures.sums c.loop-place.at.first (omega (arith, within, order)) no_sums)

pub ranked_cell-requires-clause-second_sums : goal.ranked_cell-requires-clause-second_sums
ranked_cell-requires-clause-second_sums g c =
    let within = at_within (runs_on c.args.on.now.rankings.now) c.loop-place.place c.loop-place.at c.loop-place.invariant.at_pair (omega (arith, c.requires)) in
    rw (c.ranking-b.ensures, c.kept_pair-kept.ensures.second_sums no_sums) (c.weigh_runs.ensures.sums c.loop-place.at.second within no_sums)

pub next-at-requires-clause-within : goal.next-at-requires-clause-within
next-at-requires-clause-within g c =
    let within = at_within (runs_on c.args.on.now.rankings.now) c.loop-place.place c.loop-place.at c.loop-place.invariant.at_pair (omega (arith, c.requires)) in
    omega (arith, within, c.runs-runs.ensures.count)

pub loop-place-preserved : goal.loop-place-preserved
loop-place-preserved g c =
    let t = c.args.on.now.rankings.now in
    let n = runs_on t in
    let cell : List ℕ → List ℕ → Cell = g.R.RankedMeasure.ranked_cell_of c.args.measure.now c.args.on.now.marks.now in
    let at = c.loop-place.at in
    let place = c.loop-place.place in
    let marks = c.args.on.now.marks.now in
    let run = c.ranking-a.result.now in
    let set_bits : AreBitsIn run marks c.set_apart.new.bits =
    c.set_apart.ensures.bits (λ e. subst (λ (l : List ℕ). AreBitsIn l marks c.loop-place.bits) (sym c.ranking-a.ensures) (c.loop-place.invariant.bits_before (not_new c.loop-place.at e))) in
    let set_ranks : AreRanks run c.set_apart.new.ranks =
    c.set_apart.ensures.ranks (λ e. subst (λ (l : List ℕ). AreRanks l c.loop-place.ranks) (sym c.ranking-a.ensures) (c.loop-place.invariant.ranks_before (not_new c.loop-place.at e))) in
    let next = at_next n place at c.loop-place.invariant.at_pair (omega (arith, c.requires)) in
    record {
      filled = filled_more (λ (pair : ℕ × ℕ). cell (ranking_on t pair.0) (ranking_on t pair.1)) CellIsModest (pairs_of (run_numbers n)) c.loop-place.cells place (at.first, at.second) c.of.result (omega (arith, c.requires))
          c.loop-place.invariant.filled next.0
          (c.of.ensures ∙ c.ranked_cell.ensures.cell ∙ ap (λ us. cell us c.ranking-b.result.now) c.ranking-a.ensures ∙ ap (cell (ranking_on t at.first)) c.ranking-b.ensures)
          (subst CellIsModest (sym c.of.ensures) c.ranked_cell.ensures.modest);
      at_pair = rw (c.next-at.ensures, c.runs-runs.ensures.count) next.1;
      bits_long = omega (arith, c.loop-place.invariant.bits_long, c.set_apart.ensures.bits_count);
      ranks_long = omega (arith, c.loop-place.invariant.ranks_long, c.set_apart.ensures.ranks_count);
      bits_before = rw c.next-at.ensures (next_seen c.runs-runs.result at (λ r. AreBitsIn (ranking_on t r) marks c.set_apart.new.bits) (subst (λ (l : List ℕ). AreBitsIn l marks c.set_apart.new.bits) c.ranking-a.ensures set_bits));
      ranks_before = rw c.next-at.ensures (next_seen c.runs-runs.result at (λ r. AreRanks (ranking_on t r) c.set_apart.new.ranks) (subst (λ (l : List ℕ). AreRanks l c.set_apart.new.ranks) c.ranking-a.ensures set_ranks));
      steps = omega (arith, c.loop-place.invariant.steps, c.tick.ensures);
    }
