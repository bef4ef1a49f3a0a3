use Rattle.std.proofs.Common.{List, ℕ, [], map, sym}
use Rattle.std.proofs.lemmas.List.{map-id}
use Rattle.desk_model.specs.Name.{is_same_name, AreAscending}
use Rattle.desk_model.proofs.Names.{found_number, no_number}
use Rattle.order_verifier.proofs.OnLists.{any_none, any_some}
use Rattle.order_verifier.proofs.documents.find_name.Goals as goal

pub returns-in-Ok : goal.returns-in-Ok
returns-in-Ok c =
    let names = c.args.names.now in
    let up : AreAscending (map (λ (n : List ℕ). n) names) = rw (map-id names) c.requires in
    let number = found_number (λ (n : List ℕ). n) names up c.args.name.now [] _ c.in-Ok.ensures.bound c.in-Ok.ensures.place in
    sym (any_some (λ each. is_same_name each c.args.name.now) 0 _ names (rw (map-id names) at number))

pub returns-in-Err : goal.returns-in-Err
returns-in-Err c =
    let names = c.args.names.now in
    let up : AreAscending (map (λ (n : List ℕ). n) names) = rw (map-id names) c.requires in
    let number = no_number (λ (n : List ℕ). n) names up c.args.name.now [] _ c.in-Err.ensures.bound c.in-Err.ensures.place in
    sym (any_none (λ each. is_same_name each c.args.name.now) 0 names (rw (map-id names) at number))
