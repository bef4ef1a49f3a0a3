use Rattle.std.proofs.Common.{sym, ap, ◌∙◌, subst}
use Rattle.std.specs.List.{list_any, IsDistinct}
use Rattle.std.specs.Str.{bytes_eq}
use Rattle.std.proofs.lemmas.List.Sorted.{list_any-IsPermutation}
use Rattle.std.proofs.lemmas.Map.Keys.{IsDistinct-IsPermutation}
use Rattle.file_rows.proofs.Seen.{laws}
use Rattle.topics_pool.proofs.Books.{are_books, named_as}
use Rattle.topics_pool.proofs.book.topic_books.Goals as goal

pub books_of-requires-clause-names : goal.books_of-requires-clause-names
books_of-requires-clause-names c m is =
    list_any-IsPermutation (bytes_eq m) c.in_ok-topics.topics c.in_ok-names.names.items c.in_ok-names.ensures.moved ∙ ap (list_any (bytes_eq m)) (sym c.deref.ensures.value) ∙ is

pub books_of-requires-clause-distinct : goal.books_of-requires-clause-distinct
books_of-requires-clause-distinct c =
    subst (IsDistinct bytes_eq) (sym c.deref.ensures.value) (IsDistinct-IsPermutation bytes_eq laws.symm c.in_ok-topics.topics c.in_ok-names.names.items c.in_ok-names.ensures.moved c.in_ok-topics.ensures.names.distinct)

pub returns-clause-books : goal.returns-clause-books
returns-clause-books c =
    are_books c.args.qrels.now c.args.runs.now c.in_ok-topics.topics c.in_ok-names.names.items c.books_of.result c.in_ok-topics.ensures.topics c.in_ok-names.ensures.moved c.in_ok-names.ensures.ascending
    c.books_of.ensures.books c.books_of.ensures.of_rows (named_as c.books_of.result _ _ c.deref.ensures.value c.books_of.ensures.names)
