-- The judgements in force under a sheet, over a desk whose judgements these are.
use Rattle.std.proofs.Common.{◌≡◌, ℕ, List, [], ◌∷◌, map, Option, Some, None, ℤ, pos, negsuc, refl, ap₂, sym, ◌∙◌}
use Rattle.std.specs.List.{zip}
use Rattle.desk_model.specs.Book.{Book}
use Rattle.judge_session.specs.InForce.{counted_grade}
use Rattle.sheet_merge.specs.Sheet.{SheetEntry, SheetRow, greatest_on}
use Rattle.sheet_merge.specs.Placed.{counted, grade_over, grade_under, grades_under}
use Rattle.sheet_report.specs.Applied.{ApplyingAgainChangesNothing}

-- ---- one document
counts : (grade : Option ℤ) → counted grade ≡ counted_grade grade
counts None = refl
counts (Some (pos n)) = refl
counts (Some (negsuc n)) = refl

grade_again : (entry : Option SheetEntry) (file again : Option ℤ) → counted_grade again ≡ counted (grade_over file entry) → counted (grade_over again entry) ≡ counted (grade_over file entry)
grade_again None file again is = counts again ∙ is
grade_again (Some entry) file again is = refl

-- ---- the documents of a topic
topic_again : (rows : List SheetRow) (topic : List ℕ) (docs : List (List ℕ)) (file again : List (Option ℤ)) → map counted_grade again ≡ map (λ (p : List ℕ × Option ℤ). grade_under rows (topic, p.0) p.1) (zip docs file) →
    map (λ (p : List ℕ × Option ℤ). grade_under rows (topic, p.0) p.1) (zip docs again) ≡ map (λ (p : List ℕ × Option ℤ). grade_under rows (topic, p.0) p.1) (zip docs file)
topic_again rows topic [] file again is = refl
topic_again rows topic (doc ∷ docs) [] [] is = refl
topic_again rows topic (doc ∷ docs) [] (g ∷ again) is = absurd (cc)
topic_again rows topic (doc ∷ docs) (f ∷ file) [] is = absurd (cc)
topic_again rows topic (doc ∷ docs) (f ∷ file) (g ∷ again) is =
    let first : counted_grade g ≡ grade_under rows (topic, doc) f = cc in
    let later : map counted_grade again ≡ map (λ (p : List ℕ × Option ℤ). grade_under rows (topic, p.0) p.1) (zip docs file) = cc in
    ap₂ (λ x xs. x ∷ xs) (grade_again (greatest_on (topic, doc) rows) f g first) (topic_again rows topic docs file again later)

book_again : (rows : List SheetRow) (book again : Book) → again.name ≡ book.name → again.docs ≡ book.docs → map counted_grade again.grades ≡ grades_under book rows → grades_under again rows ≡ grades_under book rows
book_again rows book again named same is =
    ap₂ (λ (topic : List ℕ) (docs : List (List ℕ)). map (λ (p : List ℕ × Option ℤ). grade_under rows (topic, p.0) p.1) (zip docs again.grades)) named same
    ∙ topic_again rows book.name book.docs book.grades again.grades is

-- ---- all topics
all_again : (rows : List SheetRow) (books again : List Book) → map (λ (book : Book). book.name) again ≡ map (λ (book : Book). book.name) books → map (λ (book : Book). book.docs) again ≡ map (λ (book : Book). book.docs) books →
    map (λ (book : Book). map counted_grade book.grades) again ≡ map (λ (book : Book). grades_under book rows) books → map (λ (book : Book). grades_under book rows) again ≡ map (λ (book : Book). grades_under book rows) books
all_again rows [] [] named same is = refl
all_again rows [] (a ∷ again) named same is = absurd (cc)
all_again rows (b ∷ books) [] named same is = absurd (cc)
all_again rows (b ∷ books) (a ∷ again) named same is =
    let name_is : a.name ≡ b.name = cc in
    let names_are : map (λ (book : Book). book.name) again ≡ map (λ (book : Book). book.name) books = cc in
    let docs_is : a.docs ≡ b.docs = cc in
    let docs_are : map (λ (book : Book). book.docs) again ≡ map (λ (book : Book). book.docs) books = cc in
    let grades_is : map counted_grade a.grades ≡ grades_under b rows = cc in
    let grades_are : map (λ (book : Book). map counted_grade book.grades) again ≡ map (λ (book : Book). grades_under book rows) books = cc in
    ap₂ (λ x xs. x ∷ xs) (book_again rows b a name_is docs_is grades_is) (all_again rows books again names_are docs_are grades_are)

pub nothing_changes : ApplyingAgainChangesNothing
nothing_changes desk again rows has = all_again rows desk.topics again.topics has.topics has.universes has.judgements
