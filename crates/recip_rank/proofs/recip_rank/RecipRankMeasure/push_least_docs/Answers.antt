use Rattle.std.proofs.Common.{◌≡◌, ◌++◌, ap, sym, ◌∙◌}
use Rattle.std.specs.Option.{option_to_list}
use Rattle.std.proofs.lemmas.Result.{IfOk-weaker}
use Rattle.measure_laws.specs.ReciprocalCase.{with_choice, reciprocal_choice}
use Rattle.measure_core.specs.Lists.{added_documents}
use Rattle.recip_rank.proofs.Lists.{choice_listed, choice_open}
use Rattle.recip_rank.proofs.recip_rank.RecipRankMeasure.push_least_docs.Goals as goal

pub returns : goal.returns
returns c =
    let marks = c.args.marks.now in
    let choice = reciprocal_choice marks c.args.a.now c.args.b.now in
    let before = c.args.docs.now.items in
    let now = c.push_choice.new.docs.items in
    let listed : option_to_list c.least.result.choice ≡ added_documents marks (with_choice marks choice) = ap option_to_list c.least.ensures.choice ∙ sym (choice_listed marks choice (choice_open marks c.args.a.now c.args.b.now c.requires.second)) in
    IfOk-weaker c.push_choice.result (λ _. now ≡ before ++ option_to_list c.least.result.choice) (λ _. now ≡ before ++ added_documents marks (with_choice marks choice)) (λ _ is. is ∙ ap (λ ds. before ++ ds) listed) c.push_choice.ensures
