-- The lines of the text are those of the rows.
use Rattle.std.proofs.Common.{◌≡◌, ℕ, List, [], ◌∷◌, ◌++◌, true, false, true≢false, cond, refl, ap, ap₂, sym, ◌∙◌, ℤ}
use Rattle.std.specs.Prelude.{Bool, ◌==◌, map, flat_map, Option, Some, None}
use Rattle.std.specs.List.{list_any, zip, AllByRecursion}
use Rattle.std.proofs.lemmas.Bool.{eqb-true}
use Rattle.std.proofs.lemmas.List.{map-append}
use Rattle.small_lemmas.proofs.Tests.{neither}
use Rattle.small_lemmas.proofs.Lists.{flat_map-nested}
use Rattle.desk_text.specs.Lines.{lines, onto_first, is_bad}
use Rattle.desk_model.specs.Book.{Book}
use Rattle.desk_model.specs.Desk.{Desk}
use Rattle.desk_report.specs.Table.{ended}
use Rattle.desk_report.specs.Judging.{qrels_lines_of, topic_qrels_lines, qrels_text}
use Rattle.file_rows.specs.Rows.{Row}
use Rattle.qrels_round_trip.specs.RoundTrip.{rows_of_document, rows_of_book, rows_in_force}
use Rattle.qrels_round_trip.proofs.Line.{IsWritable, line_of, line_good}

-- ---- ended lines
no_feed : (b : ℕ) → is_bad b ≡ false → (b == 10) ≡ false
no_feed b h = by (b == 10) refl
  where
    by : (t : Bool) → (b == 10) ≡ t → (b == 10) ≡ false
    by true e = absurd (true≢false (sym (ap is_bad (eqb-true b 10 e)) ∙ h))
    by false e = e

pub lines-ended : (l rest : List ℕ) → list_any is_bad l ≡ false → lines (ended l ++ rest) ≡ l ∷ lines rest
lines-ended [] rest h = refl
lines-ended (b ∷ bs) rest h =
    let parts = neither (is_bad b) (list_any is_bad bs) h in
    ap (λ t. cond t ([] ∷ lines (ended bs ++ rest)) (onto_first b (lines (ended bs ++ rest)))) (no_feed b parts.0)
    ∙ ap (onto_first b) (lines-ended bs rest parts.1)

pub lines-of_ended : (rows : List Row) → AllByRecursion IsWritable rows → lines (flat_map ended (map line_of rows)) ≡ map line_of rows
lines-of_ended [] h = refl
lines-of_ended (row ∷ rows) h = lines-ended (line_of row) (flat_map ended (map line_of rows)) (line_good row h.0) ∙ ap (λ ls. line_of row ∷ ls) (lines-of_ended rows h.1)

-- ---- the text
pub pulled : {A B C : Type 0} (f : A → List B) (g : B → C) (h : A → List C) → ((x : A) → h x ≡ map g (f x)) → (xs : List A) → flat_map h xs ≡ map g (flat_map f xs)
pulled f g h each [] = refl
pulled f g h each (x ∷ xs) = ap₂ (λ p q. p ++ q) (each x) (pulled f g h each xs) ∙ sym (map-append g (f x) (flat_map f xs))

document_lines : (topic doc : List ℕ) (file grade : Option ℤ) → qrels_lines_of topic doc file grade ≡ map line_of (rows_of_document topic doc file grade)
document_lines topic doc None None = refl
document_lines topic doc (Some f) None = refl
document_lines topic doc None (Some g) = refl
document_lines topic doc (Some f) (Some g) = refl

book_lines : (book : Book) (grades : List (Option ℤ)) → topic_qrels_lines book grades ≡ map line_of (rows_of_book book grades)
book_lines book grades =
    pulled (λ p. rows_of_document book.name p.0 p.1.0 p.1.1) line_of (λ p. qrels_lines_of book.name p.0 p.1.0 p.1.1) (λ p. document_lines book.name p.0 p.1.0 p.1.1) (zip book.docs (zip book.grades grades))

pub text_is : (desk : Desk) (grades : List (List (Option ℤ))) → qrels_text desk grades ≡ flat_map ended (map line_of (rows_in_force desk grades))
text_is desk grades =
    flat_map-nested (λ (p : Book × List (Option ℤ)). topic_qrels_lines p.0 p.1) ended (zip desk.topics grades)
    ∙ ap (flat_map ended) (pulled (λ (p : Book × List (Option ℤ)). rows_of_book p.0 p.1) line_of (λ p. topic_qrels_lines p.0 p.1) (λ p. book_lines p.0 p.1) (zip desk.topics grades))
