use Rattle.std.proofs.Common.{ℕ, List, length, refl, sym, subst, ◌∙◌}
use Rattle.desk_model.specs.Ranking.{IsRanking}
use Rattle.desk_model.specs.declared.types.Mark.{Mark}
use Rattle.average_precision.specs.Least.{IsLeast}
use Rattle.average_precision.specs.Pairs.{IsPairRun}
use Rattle.average_precision.proofs.Pairing.{pair_run_moved}
use Rattle.average_precision.proofs.pair.leasts_of.Goals as goal

pub pair_run-requires : goal.pair_run-requires
pair_run-requires g c =
    let b = c.chosen-2.result.now in
    subst (λ (ms : List Mark). IsRanking (length ms) b.on.docs.now) (c.chosen-2.ensures.marks ∙ c.requires) b.on.ranking

pub pair_run-requires-2 : goal.pair_run-requires-2
pair_run-requires-2 g c =
    let a = c.chosen.result.now in
    subst (λ (ms : List Mark). IsRanking (length ms) a.on.docs.now) (c.chosen.ensures.marks ∙ sym c.requires) a.on.ranking

pub returns-clause-least : goal.returns-clause-least
returns-clause-least g c =
    let marks = g.A.Classes.marks c.args.first.now in
    let a = c.chosen.result.now.on.docs.now in
    let b = c.chosen-2.result.now.on.docs.now in
    let one : IsPairRun marks a b c.pair_run.result = pair_run_moved marks marks (g.A.Classes.run c.args.first.now) a b c.pair_run.result refl (sym c.chosen.ensures.run) c.pair_run.ensures in
    let two : IsPairRun marks b a c.pair_run-2.result = pair_run_moved (g.B.Classes.marks c.args.second.now) marks (g.B.Classes.run c.args.second.now) b a c.pair_run-2.result c.requires (sym c.chosen-2.ensures.run) c.pair_run-2.ensures in
    subst (λ (ds : List ℕ). IsLeast marks ds (g.B.Classes.run c.args.second.now) c.leasts_between.result.least) c.chosen.ensures.run
    (subst (λ (ds : List ℕ). IsLeast marks a ds c.leasts_between.result.least) c.chosen-2.ensures.run (c.leasts_between.ensures.least marks one two))

pub returns-clause-swapped : goal.returns-clause-swapped
returns-clause-swapped g c =
    let marks = g.A.Classes.marks c.args.first.now in
    let a = c.chosen.result.now.on.docs.now in
    let b = c.chosen-2.result.now.on.docs.now in
    let one : IsPairRun marks a b c.pair_run.result = pair_run_moved marks marks (g.A.Classes.run c.args.first.now) a b c.pair_run.result refl (sym c.chosen.ensures.run) c.pair_run.ensures in
    let two : IsPairRun marks b a c.pair_run-2.result = pair_run_moved (g.B.Classes.marks c.args.second.now) marks (g.B.Classes.run c.args.second.now) b a c.pair_run-2.result c.requires (sym c.chosen-2.ensures.run) c.pair_run-2.ensures in
    subst (λ (ds : List ℕ). IsLeast marks ds (g.A.Classes.run c.args.first.now) c.leasts_between.result.swapped) c.chosen-2.ensures.run
    (subst (λ (ds : List ℕ). IsLeast marks b ds c.leasts_between.result.swapped) c.chosen.ensures.run (c.leasts_between.ensures.swapped marks one two))
