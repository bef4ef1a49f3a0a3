use Rattle.std.proofs.Common.{List, ℕ, true, [], rules, sym}
use Rattle.std.specs.Prelude.{slice_index_or}
use Rattle.std.proofs.lemmas.Fn.{always_returns_same}
use Rattle.desk_model.specs.Name.{name_cmp, is_same_name}
use Rattle.desk_model.proofs.Names.{found_number, no_number}
use Rattle.order_verifier.specs.Rows.{names_listed}
use Rattle.order_verifier.proofs.OnLists.{any_none, any_some}
use Rattle.order_verifier.proofs.documents.is_picked.Goals as goal

pub returns-in-Ok : goal.returns-in-Ok
returns-in-Ok c =
    let at : ℕ → List ℕ = λ k. slice_index_or c.args.names.now k [] in
    let picks = c.args.picks.now in
    let by = c.in-Ok.ensures.position (λ k. name_cmp (at k) c.args.name.now) (always_returns_same _ _ _ (λ a r g called. search rules)) in
    let number = found_number at picks c.requires c.args.name.now 0 _ c.in-Ok.ensures.bound by in
    sym (any_some (λ each. is_same_name each c.args.name.now) 0 _ (names_listed c.args.names.now picks true) number)

pub returns-in-Err : goal.returns-in-Err
returns-in-Err c =
    let at : ℕ → List ℕ = λ k. slice_index_or c.args.names.now k [] in
    let picks = c.args.picks.now in
    let by = c.in-Err.ensures.position (λ k. name_cmp (at k) c.args.name.now) (always_returns_same _ _ _ (λ a r g called. search rules)) in
    let number = no_number at picks c.requires c.args.name.now 0 _ c.in-Err.ensures.bound by in
    sym (any_none (λ each. is_same_name each c.args.name.now) 0 (names_listed c.args.names.now picks true) number)
