use Rattle.std.proofs.Common.{◌≡◌, ℕ, List, sym, subst}
use Rattle.desk_model.specs.declared.types.Mark.{Mark}
use Rattle.desk_model.specs.declared.types.MeasureName.TheVariants.{Recall}
use Rattle.measure_core.specs.Laws.{AreMet, CellIsModest}
use Rattle.measure_core.proofs.Exact.{exact_laws}
use Rattle.topic_counts.specs.declared.counts.Counts.{Counts}
use Rattle.topic_counts.specs.declared.counts.OwnCounts.{OwnCounts}
use Rattle.measure_core.specs.Told.{AreTold}
use Rattle.recall.specs.LeastCase.{AreCounts}
use Rattle.recall.proofs.Ends.{counts_swapped, own_few, least_short, cell_is}
use Rattle.recall.proofs.own.RecallOwnMeasure.own_cell.Goals as goal

told_counts : (k depth : ℕ) (marks : List Mark) (a b : List ℕ) (own : OwnCounts) (all : Counts) → depth ≡ k → AreTold depth marks a b own all → AreCounts k marks a b own.first own.second all
told_counts k depth marks a b own all same told =
    subst (λ (n : ℕ). AreCounts n marks a b own.first own.second all) same (record {
      ranking_first = told.met.first;
      ranking_second = told.met.second;
      first = record { least = told.first.least; most = told.first.most };
      second = record { least = told.second.least; most = told.second.most };
      all = told.topic;
    })

pub least_span-requires-clause-within : goal.least_span-requires-clause-within
least_span-requires-clause-within c =
    let k : c.args.self.now ≡ c.self.inside.k = cc in
    own_few _ _ _ _ _ _ _ (told_counts c.self.inside.k _ _ _ _ c.args.own c.args.all k c.requires.3)

pub least_span-requires-2-clause-within : goal.least_span-requires-2-clause-within
least_span-requires-2-clause-within c =
    let k : c.args.self.now ≡ c.self.inside.k = cc in
    own_few _ _ _ _ _ _ _ (counts_swapped _ _ _ _ _ _ _ (told_counts c.self.inside.k _ _ _ _ c.args.own c.args.all k c.requires.3))

pub negate-requires : goal.negate-requires
negate-requires c =
    let k : c.args.self.now ≡ c.self.inside.k = cc in
    let marks = c.requires.0 in
    let a = c.requires.1 in
    let b = c.requires.2 in
    let told = c.requires.3 in
    let met : AreMet marks b a = record { first = told.met.second; second = told.met.first; small = told.met.small } in
    least_short c.self.inside.k marks b a c.least_span-2.result c.self.invariant met (c.least_span-2.ensures _ _ _ _ (counts_swapped _ _ _ _ _ _ _ (told_counts c.self.inside.k _ marks a b c.args.own c.args.all k told)))

pub returns-clause-cell : goal.returns-clause-cell
returns-clause-cell c = λ marks a b told.
    let k : c.args.self.now ≡ c.self.inside.k = cc in
    let counts = told_counts c.self.inside.k _ marks a b c.args.own c.args.all k told in
    rw k (cell_is c.self.inside.k marks a b c.least_span.result c.least_span-2.result c.negate.result (c.least_span.ensures _ _ _ _ counts) (c.least_span-2.ensures _ _ _ _ (counts_swapped _ _ _ _ _ _ _ counts)) c.negate.ensures.lo c.negate.ensures.hi)

pub returns-clause-modest : goal.returns-clause-modest
returns-clause-modest c =
    let k : c.args.self.now ≡ c.self.inside.k = cc in
    let marks = c.requires.0 in
    let a = c.requires.1 in
    let b = c.requires.2 in
    let told = c.requires.3 in
    let counts = told_counts c.self.inside.k _ marks a b c.args.own c.args.all k told in
    subst CellIsModest
    (sym (cell_is c.self.inside.k marks a b c.least_span.result c.least_span-2.result c.negate.result (c.least_span.ensures _ _ _ _ counts) (c.least_span-2.ensures _ _ _ _ (counts_swapped _ _ _ _ _ _ _ counts)) c.negate.ensures.lo c.negate.ensures.hi))
    ((exact_laws (Recall c.self.inside.k) c.self.invariant tt).cell_modest marks a b told.met)
