use Rattle.std.proofs.Common.{List, ℕ, [], map, ap, ◌∙◌, sym, arith}
use Rattle.std.proofs.lemmas.List.{map-id}
use Rattle.desk_model.specs.Name.{name_cmp, AreAscending}
use Rattle.desk_model.proofs.Names.{found_number}
use Rattle.desk_model.proofs.Nested.{get_or-there}
use Rattle.order_verifier.proofs.search.order_of.Goals as goal

pub returns-then-doc-doc_count : goal.returns-then-doc-doc_count
returns-then-doc-doc_count c = λ equal.
    let docs = c.args.book.now.docs in
    let up : AreAscending (map (λ (n : List ℕ). n) docs) = rw (map-id docs) c.doc_count.ensures.book.ascending in
    let number = found_number (λ (n : List ℕ). n) docs up c.args.name.now [] _ (omega arith) (λ d. ap (λ (n : List ℕ). name_cmp n c.args.name.now) (get_or-there docs _ c.doc_name.result.now d c.doc_name.ensures) ∙ (sym c.compare.ensures ∙ equal)) in
    rw (map-id docs) at number
