use Rattle.std.proofs.Common.{◌≡◌, ℕ, List, map, refl, sym, ◌∙◌, subst}
use Rattle.desk_model.specs.Book.{Book, IsBook}
use Rattle.file_rows.specs.Grouped.{TopicRows, rows_at}
use Rattle.file_rows.proofs.Mapped.{map-map}
use Rattle.topic_universe.specs.Sorted.{Numbered}
use Rattle.topic_universe.proofs.Placing.{name_of}
use Rattle.topics_pool.specs.Rows.{grade_in}
use Rattle.topics_pool.specs.Made.{book_over}
use Rattle.topics_pool.proofs.book.graded_book.Goals as goal

same_book : (qrels : List TopicRows) (t : ℕ) (name : List ℕ) (pairs : List Numbered) (book : Book) → book.name ≡ name → book.docs ≡ map name_of pairs → book.grades ≡ map (λ pair. grade_in (rows_at qrels t) pair.0.now) pairs → book ≡ book_over qrels t name (map name_of pairs)
same_book qrels t name pairs book named has graded =
    let grades = graded ∙ sym (map-map (grade_in (rows_at qrels t)) name_of (λ (pair : Numbered). grade_in (rows_at qrels t) pair.0.now) (λ pair. refl) pairs) in
    λ i. record { name = named i; docs = has i; grades = grades i }

pub of_blocks-requires : goal.of_blocks-requires
of_blocks-requires c =
    subst IsBook (sym (same_book c.args.qrels.now c.args.t c.args.name.now c.args.pairs.now _ c.in_ok-copy_of.ensures c.in_ok-docs.ensures c.in_ok-grades.ensures)) c.requires.book

pub returns : goal.returns
returns c = c.of_blocks.ensures ∙ same_book c.args.qrels.now c.args.t c.args.name.now c.args.pairs.now _ c.in_ok-copy_of.ensures c.in_ok-docs.ensures c.in_ok-grades.ensures
