-- The lines of a topic's documents, one document after the other.
use Rattle.std.proofs.Common.{◌≡◌, ℕ, ◌+◌, ◌≤◌, List, [], ◌∷◌, ◌++◌, length, take, Option, Some, ℤ, ap, sym, ◌∙◌, append_assoc, append-nil, arith}
use Rattle.std.specs.Prelude.{flat_map, slice_get}
use Rattle.std.specs.List.{zip}
use Rattle.std.proofs.lemmas.List.{take_all}
use Rattle.std.proofs.lemmas.Grind.{flat_map-append}
use Rattle.small_lemmas.proofs.Lists.{slice_get-zip}
use Rattle.desk_model.specs.Book.{Book, IsBook}
use Rattle.desk_model.proofs.Nested.{length-zip, take-there}
use Rattle.desk_report.specs.Table.{ended}
use Rattle.desk_report.specs.Judging.{qrels_lines_of, topic_qrels_text}

-- the lines of the first documents
abbrev pub lines_to : Book → List (Option ℤ) → ℕ → List (List ℕ)
lines_to book grades n = flat_map (λ p. qrels_lines_of book.name p.0 p.1.0 p.1.1) (take n (zip book.docs (zip book.grades grades)))

flat_map-one : {A : Type 0} (f : A → List (List ℕ)) (xs : List A) (x : A) → flat_map ended (flat_map f (xs ++ x ∷ [])) ≡ flat_map ended (flat_map f xs) ++ flat_map ended (f x)
flat_map-one f xs x =
    ap (flat_map ended) (flat_map-append f xs (x ∷ []) ∙ ap (λ ls. flat_map f xs ++ ls) (append-nil (f x))) ∙ flat_map-append ended (flat_map f xs) (f x)

-- one more document
pub more_documents : (book : Book) (grades : List (Option ℤ)) (i : ℕ) (doc : List ℕ) (file grade : Option ℤ) (o before now : List ℕ) →
    slice_get book.docs i ≡ Some doc → slice_get book.grades i ≡ Some file → slice_get grades i ≡ Some grade → before ≡ o ++ flat_map ended (lines_to book grades i) →
    now ≡ before ++ flat_map ended (qrels_lines_of book.name doc file grade) → now ≡ o ++ flat_map ended (lines_to book grades (i + 1))
more_documents book grades i doc file grade o before now e f g h k =
    let all = zip book.docs (zip book.grades grades) in
    let lines = λ (p : List ℕ × (Option ℤ × Option ℤ)). qrels_lines_of book.name p.0 p.1.0 p.1.1 in
    let there = take-there all i (doc, (file, grade)) (slice_get-zip book.docs (zip book.grades grades) i doc (file, grade) e (slice_get-zip book.grades grades i file grade f g)) in
    k ∙ ap (λ t. t ++ flat_map ended (lines (doc, (file, grade)))) h ∙ append_assoc o (flat_map ended (lines_to book grades i)) (flat_map ended (lines (doc, (file, grade))))
    ∙ ap (λ t. o ++ t) (sym (flat_map-one lines (take i all) (doc, (file, grade))) ∙ ap (λ ps. flat_map ended (flat_map lines ps)) (sym there))

-- all documents
pub all_documents : (book : Book) (grades : List (Option ℤ)) (i : ℕ) (o now : List ℕ) → IsBook book → length grades ≡ length book.docs → length book.docs ≤ i →
    now ≡ o ++ flat_map ended (lines_to book grades i) → now ≡ o ++ topic_qrels_text book grades
all_documents book grades i o now sound same end h =
    let inner : length (zip book.grades grades) ≡ length book.docs = length-zip book.grades grades (same ∙ sym sound.graded) ∙ sound.graded in
    let all = zip book.docs (zip book.grades grades) in
    let whole : take i all ≡ all = take_all i all (omega (arith, length-zip book.docs (zip book.grades grades) inner)) in
    h ∙ ap (λ ps. o ++ flat_map ended (flat_map (λ p. qrels_lines_of book.name p.0 p.1.0 p.1.1) ps)) whole
