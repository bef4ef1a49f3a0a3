use Rattle.std.proofs.Common.{[], ◌∷◌, Option, List, ℕ, sym, subst}
use Rattle.std.specs.Prelude.{ℤ}
use Rattle.desk_model.specs.Book.{IsBook}
use Rattle.session_trials.proofs.OneDocument.{one_book}
use Rattle.session_trials.proofs.one_document.one_topic.Goals as goal

pub new-requires : goal.new-requires
new-requires c =
    subst (λ (docs : List (List ℕ)). IsBook (record { name = c.args.name; docs = docs; grades = c.in_ok-grades.grades.items })) (sym c.in_ok-docs.ensures.items)
    (subst (λ (grades : List (Option ℤ)). IsBook (record { name = c.args.name; docs = c.args.doc ∷ []; grades = grades })) (sym c.in_ok-grades.ensures.items)
    (one_book c.args.name c.args.doc c.requires.name c.requires.doc))
