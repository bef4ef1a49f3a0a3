use Rattle.std.proofs.Common.{◌≡◌, ℕ, List, ◌++◌, ap, sym, subst, ◌∙◌}
use Rattle.std.proofs.lemmas.Result.{on_ok_weaker}
use Rattle.desk_model.specs.declared.types.Mark.{Mark}
use Rattle.measure_laws.specs.AverageEnds.{average_truth}
use Rattle.measure_core.specs.Lists.{added_documents}
use Rattle.measure_core.proofs.Pushing.{added_same}
use Rattle.average_precision.specs.Least.{IsLeast, case_truth}
use Rattle.average_precision.specs.declared.numbers.Least.{Least}
use Rattle.average_precision.proofs.average_precision.AveragePrecision.pushed_both.Goals as goal

-- the documents of a case of two runs are those of the least case
case_listed : (ms marks : List Mark) (x a y b : List ℕ) (least : Least) → ms ≡ marks → x ≡ a → y ≡ b → IsLeast ms x y least → added_documents ms (case_truth ms x y least.kind) ≡ added_documents marks (average_truth marks a b)
case_listed ms marks x a y b least e f g h =
    added_same ms (case_truth ms x y least.kind) (average_truth ms x y) (λ doc lt. h.case_is doc)
    ∙ ap (λ (m : List Mark). added_documents m (average_truth m x y)) e ∙ ap (λ (ds : List ℕ). added_documents marks (average_truth marks ds y)) f ∙ ap (λ (ds : List ℕ). added_documents marks (average_truth marks a ds)) g

pub returns-clause-most : goal.returns-clause-most
returns-clause-most c =
    let one = c.chosen_run-one in
    let two = c.chosen_run-two in
    let x = one.result.on in
    let y = two.result.on in
    let both = c.leasts_of-both in
    let swapped : IsLeast y.marks.now y.docs.now x.docs.now both.result.swapped =
    subst (λ (ms : List Mark). IsLeast ms y.docs.now x.docs.now both.result.swapped) (one.ensures.marks ∙ sym two.ensures.marks) both.ensures.swapped in
    let listed = case_listed y.marks.now c.args.marks.now y.docs.now c.args.b.now x.docs.now c.args.a.now both.result.swapped two.ensures.marks two.ensures.docs one.ensures.docs swapped in
    on_ok_weaker c.push_case-2.result (λ e. e ∙ ap (λ l. c.args.most.now.items ++ l) listed) c.push_case-2.ensures
