-- The lines of a judgements file have four fields, of which the last is a grade, and claim nothing of runs.
use Rattle.std.proofs.Common.{◌≡◌, ℕ, List, [], ◌∷◌, ◌++◌, length, ap, sym, ◌∙◌, arith, rules, append_assoc, ℤ, negsuc}
use Rattle.std.specs.Prelude.{codes, flat_map, true, Option, None, Some}
use Rattle.std.specs.Fmt.{signed_decimal}
use Rattle.std.specs.List.{AllByRecursion, zip}
use Rattle.std.proofs.lemmas.List.Elements.{recursion_from_All}
use Rattle.small_lemmas.proofs.Lists.{all-append, flat_map-nested}
use Rattle.desk_text.specs.Lines.{fields_of}
use Rattle.desk_model.specs.Book.{Book, IsBook}
use Rattle.desk_model.specs.Desk.{Desk, IsDesk}
use Rattle.desk_model.specs.Name.{is_name}
use Rattle.desk_model.specs.declared.types.Mark.{Mark}
use Rattle.desk_model.specs.declared.types.MeasureName.{MeasureName}
use Rattle.desk_report.specs.Judging.{qrels_line, qrels_lines_of, topic_qrels_lines, qrels_text}
use Rattle.desk_report.specs.Table.{ended}
use Rattle.desk_model.proofs.Words.{IsWord, name_word, fields_word, fields_last}
use Rattle.desk_report.proofs.Spelling.{ink_in_line, in_line-append, in_line-spaced}
use Rattle.desk_report.proofs.Texts.{signed_word, grade_not_decimal}
use Rattle.desk_report.proofs.Lines.{IsSound, word, other_line, field}

-- ---- the fields of a line
fields_qrels : (topic doc : List ℕ) (grade : ℤ) → IsWord topic → IsWord doc → fields_of (qrels_line topic doc grade) ≡ topic ∷ codes "0" ∷ doc ∷ signed_decimal grade ∷ []
fields_qrels topic doc grade wt wd =
    let text : List ℕ = signed_decimal grade in
    let listed : List ℕ = doc ++ 32 ∷ text in
    ap fields_of (append_assoc (topic ++ codes " 0 ") doc (32 ∷ text) ∙ append_assoc topic (codes " 0 ") listed)
    ∙ fields_word topic (codes "0" ++ 32 ∷ listed) wt
    ∙ ap (λ fs. topic ∷ fs) (fields_word (codes "0") listed (word _ (omega arith) (search rules))
    ∙ ap (λ fs. codes "0" ∷ fs) (fields_word doc text wd
    ∙ ap (λ fs. doc ∷ fs) (fields_last text (signed_word grade))))

abbrev pub HasFourFields : List ℕ → Type 0
HasFourFields line = length (fields_of line) ≡ 4

-- ---- nested lists
zip_firsts : {A B : Type 0} (P : A → Type 0) (xs : List A) (ys : List B) → AllByRecursion P xs → AllByRecursion (λ p. P p.0) (zip xs ys)
zip_firsts P [] ys h = tt
zip_firsts P (x ∷ xs) [] h = tt
zip_firsts P (x ∷ xs) (y ∷ ys) h = (h.0, zip_firsts P xs ys h.1)

all_flat_map : {A B : Type 0} (P : A → Type 0) (Q : B → Type 0) (f : A → List B) → ((x : A) → P x → AllByRecursion Q (f x)) → (xs : List A) → AllByRecursion P xs → AllByRecursion Q (flat_map f xs)
all_flat_map P Q f each [] h = tt
all_flat_map P Q f each (x ∷ xs) h = all-append Q (f x) (flat_map f xs) (each x h.0) (all_flat_map P Q f each xs h.1)

-- ---- the lines
-- all lines of a text of judgements
abbrev pub qrels_lines : Desk → List (List (Option ℤ)) → List (List ℕ)
qrels_lines desk grades = flat_map (λ p. topic_qrels_lines p.0 p.1) (zip desk.topics grades)

pub text_of_lines : (desk : Desk) (grades : List (List (Option ℤ))) → qrels_text desk grades ≡ flat_map ended (qrels_lines desk grades)
text_of_lines desk grades = flat_map-nested (λ (p : Book × List (Option ℤ)). topic_qrels_lines p.0 p.1) ended (zip desk.topics grades)

module _ (name : MeasureName) (desk : Desk) (marks : List (List Mark)) where
  abbrev pub IsQrelsLine : List ℕ → Type 0
  IsQrelsLine line = IsSound name desk marks line × HasFourFields line

  line_sound : (topic doc : List ℕ) (grade : ℤ) → IsWord topic → IsWord doc → IsQrelsLine (qrels_line topic doc grade)
  line_sound topic doc grade wt wd =
      let own = fields_qrels topic doc grade wt wd in
      let text = in_line-append (topic ++ codes " 0 ") doc (in_line-append topic (codes " 0 ") (ink_in_line topic wt.ink) (search rules)) (ink_in_line doc wd.ink) in (
        (
          in_line-spaced ((topic ++ codes " 0 ") ++ doc) (signed_decimal grade) text (ink_in_line (signed_decimal grade) (signed_word grade).ink),
          other_line name desk marks (qrels_line topic doc grade)
              (λ f s g l h e. let six : 4 ≡ 6 = ap length (sym own ∙ e) in omega (arith, six))
              (λ r l h e. absurd (grade_not_decimal h grade (sym (ap (field 3) (sym own ∙ e.0))) e.2)),
        ),
        ap length own,
      )

  document_sound : (topic doc : List ℕ) (file grade : Option ℤ) → IsWord topic → IsWord doc → AllByRecursion IsQrelsLine (qrels_lines_of topic doc file grade)
  document_sound topic doc None None wt wd = tt
  document_sound topic doc (Some f) None wt wd = (line_sound topic doc (negsuc 0) wt wd, tt)
  document_sound topic doc None (Some g) wt wd = (line_sound topic doc g wt wd, tt)
  document_sound topic doc (Some f) (Some g) wt wd = (line_sound topic doc g wt wd, tt)

  topic_sound : (book : Book) (grades : List (Option ℤ)) → IsBook book → AllByRecursion IsQrelsLine (topic_qrels_lines book grades)
  topic_sound book grades valid =
      all_flat_map (λ p. is_name p.0 ≡ true) IsQrelsLine (λ p. qrels_lines_of book.name p.0 p.1.0 p.1.1)
      (λ p named. document_sound book.name p.0 p.1.0 p.1.1 (name_word book.name valid.named) (name_word p.0 named)) (zip book.docs (zip book.grades grades))
      (zip_firsts (λ doc. is_name doc ≡ true) book.docs (zip book.grades grades) (recursion_from_All (λ doc. is_name doc ≡ true) book.docs valid.documents))

  pub qrels_sound : (grades : List (List (Option ℤ))) → IsDesk desk → AllByRecursion IsQrelsLine (qrels_lines desk grades)
  qrels_sound grades valid =
      all_flat_map (λ p. IsBook p.0) IsQrelsLine (λ p. topic_qrels_lines p.0 p.1) (λ p book. topic_sound p.0 p.1 book) (zip desk.topics grades)
      (zip_firsts IsBook desk.topics grades (recursion_from_All IsBook desk.topics valid.books))
