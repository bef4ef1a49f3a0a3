use Rattle.std.proofs.Common.{◌≡◌, ℕ, List, take, arith, ap, ◌∙◌, sym, subst}
use Rattle.desk_model.specs.declared.types.Mark.{Mark}
use Rattle.desk_model.specs.declared.types.MeasureName.TheVariants.{RPrecision}
use Rattle.measure_core.specs.Laws.{AreMet, CellIsModest}
use Rattle.measure_core.specs.Told.{AreTold}
use Rattle.measure_core.proofs.Exact.{exact_laws}
use Rattle.measure_laws.specs.Classes.{judged_count}
use Rattle.rprec.specs.declared.prefixes.Prefixes.{Prefixes}
use Rattle.rprec.specs.Greedy.{AreFew, IsLeast, best_beyond, candidate}
use Rattle.rprec.specs.Short.{short_cell}
use Rattle.rprec.proofs.Ends.{within_one}
use Rattle.rprec.proofs.ShortLists.{own_few, short_here, short_is, short_least, short_met, swapped_own, told_swapped, topic_told}
use Rattle.rprec.proofs.short.ShortListsOwnMeasure.own_cell.Goals as goal

pub least_of_all-requires : goal.least_of_all-requires
least_of_all-requires c = own_few _ _ _ _ _ _ c.requires.3

pub least_of_all-requires-2 : goal.least_of_all-requires-2
least_of_all-requires-2 c = subst (λ (f : Prefixes). AreFew f c.args.all) (sym c.swapped.ensures) (own_few _ _ _ _ _ _ (told_swapped _ _ _ _ _ _ c.requires.3))

-- as many documents are judged relevant as it looks at
same : (c : goal.After-negate) → c.args.all.relevant ≡ c.args.self.now.relevant
same c = omega (arith, c.if-all-self.false)

judged : (c : goal.After-negate) (marks : List Mark) (a b : List ℕ) → AreTold c.args.self.now.relevant marks a b c.args.own c.args.all → judged_count marks ≡ c.args.self.now.relevant
judged c marks a b told = omega (arith, same c, (topic_told c.args.self.now.relevant marks a b c.args.own c.args.all told).relevant)

-- the least candidate, and that of the swapped runs
least_first : (c : goal.After-negate) (marks : List Mark) (a b : List ℕ) → AreTold c.args.self.now.relevant marks a b c.args.own c.args.all → IsLeast marks (take c.args.self.now.relevant a) (take c.args.self.now.relevant b) c.least_of_all.result.candidate
least_first c marks a b told = short_least c.args.self.now.relevant marks a b c.args.own c.args.all c.least_of_all.result.candidate c.args.self.now.some (same c) told c.least_of_all.ensures

least_second : (c : goal.After-negate) (marks : List Mark) (a b : List ℕ) → AreTold c.args.self.now.relevant marks a b c.args.own c.args.all → IsLeast marks (take c.args.self.now.relevant b) (take c.args.self.now.relevant a) c.least_of_all-2.result.candidate
least_second c marks a b told =
    short_least c.args.self.now.relevant marks b a (swapped_own c.args.own) c.args.all c.least_of_all-2.result.candidate c.args.self.now.some (same c) (told_swapped c.args.self.now.relevant marks a b c.args.own c.args.all told)
    (c.least_of_all-2.ensures ∙ ap (λ (f : Prefixes). best_beyond f c.args.all 0 (candidate f c.args.all 0)) c.swapped.ensures)

cell_here : (c : goal.After-negate) (marks : List Mark) (a b : List ℕ) → AreTold c.args.self.now.relevant marks a b c.args.own c.args.all → record { least = c.span.result; most = c.negate.result } ≡ short_cell c.args.self.now.relevant marks a b
cell_here c marks a b told =
    short_is c.args.self.now.relevant marks a b c.span.result c.span-2.result c.negate.result (judged c marks a b told) (c.span.ensures.span _ _ _ (least_first c marks a b told)) (c.span-2.ensures.span _ _ _ (least_second c marks a b told)) c.negate.ensures.lo c.negate.ensures.hi

pub span-requires : goal.span-requires
span-requires c = within_one _ _ _ _ (short_least c.args.self.now.relevant _ _ _ c.args.own c.args.all c.least_of_all.result.candidate c.args.self.now.some (omega (arith, c.if-all-self.false)) c.requires.3 c.least_of_all.ensures)

pub span-requires-2 : goal.span-requires-2
span-requires-2 c =
    within_one _ _ _ _
    (short_least c.args.self.now.relevant _ _ _ (swapped_own c.args.own) c.args.all c.least_of_all-2.result.candidate c.args.self.now.some (omega (arith, c.if-all-self.false)) (told_swapped _ _ _ _ _ _ c.requires.3)
    (c.least_of_all-2.ensures ∙ ap (λ (f : Prefixes). best_beyond f c.args.all 0 (candidate f c.args.all 0)) c.swapped.ensures))

pub returns-clause-cell : goal.returns-clause-cell
returns-clause-cell c = cell_here c

pub returns-clause-modest : goal.returns-clause-modest
returns-clause-modest c =
    let k = c.args.self.now.relevant in
    let marks = c.requires.0 in
    let a = c.requires.1 in
    let b = c.requires.2 in
    let told = c.requires.3 in
    subst CellIsModest (sym (cell_here c marks a b told ∙ short_here k marks a b (judged c marks a b told))) ((exact_laws RPrecision tt tt).cell_modest marks (take k a) (take k b) (short_met k marks a b told.met))
