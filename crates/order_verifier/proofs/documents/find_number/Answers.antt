use Rattle.std.proofs.Common.{◌≡◌, ℕ, List, [], Option, Some, sym, ap, ◌∙◌}
use Rattle.std.specs.Prelude.{slice_index_or, unwrap_or}
use Rattle.desk_model.specs.Name.{number_of}
use Rattle.order_verifier.specs.Rows.{number_of_pick, numbers_of}
use Rattle.order_verifier.proofs.Numbered.{found_on, none_on, number_there}
use Rattle.order_verifier.proofs.documents.find_number.Goals as goal

numbered : (docs names : List (List ℕ)) (numbers : List (Option ℕ)) → numbers ≡ numbers_of docs names → (k n : ℕ) → number_of docs (slice_index_or names k []) ≡ Some n → number_of_pick docs numbers k ≡ n
numbered docs names numbers e k n found = ap (λ (o : Option ℕ). unwrap_or o 0) (number_there docs names numbers k e ∙ found)

pub returns-in-Ok : goal.returns-in-Ok
returns-in-Ok c = λ names e known.
    let docs = c.args.book.now.docs in
    let numbers = c.args.numbers.now in
    sym (found_on docs (λ k. slice_index_or names k []) (number_of_pick docs numbers) c.args.picks.now known (numbered docs names numbers e) c.args.doc _ c.requires c.in-Ok.ensures.bound c.in-Ok.ensures.place)

pub returns-in-Err : goal.returns-in-Err
returns-in-Err c = λ names e known.
    let docs = c.args.book.now.docs in
    let numbers = c.args.numbers.now in
    sym (none_on docs (λ k. slice_index_or names k []) (number_of_pick docs numbers) c.args.picks.now known (numbered docs names numbers e) c.args.doc _ c.requires c.in-Err.ensures.bound c.in-Err.ensures.place)
