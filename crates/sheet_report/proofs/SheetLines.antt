-- The lines of a sheet have five fields and begin with a digit, and claim nothing of runs.
use Rattle.std.proofs.Common.{◌≡◌, ℕ, ◌≤◌, ◌<◌, ◌^◌, List, [], ◌∷◌, ◌++◌, length, get_or, take, true, ap, sym, subst, ◌∙◌, arith}
use Rattle.std.specs.Prelude.{decimal, flat_map, map, nat_le}
use Rattle.std.specs.Fmt.{signed_decimal}
use Rattle.std.specs.List.{AllByRecursion}
use Rattle.std.specs.Str.{all_ascii_digits}
use Rattle.std.specs.Char.{is_ascii_digit}
use Rattle.std.proofs.lemmas.Bool.{and_parts, leb-true}
use Rattle.std.proofs.lemmas.Fmt.{decimal_nonempty, digits_decimal}
use Rattle.std.proofs.lemmas.List.Elements.{recursion_from_All}
use Rattle.std.proofs.lemmas.List.Folds.{flat_map-map}
use Rattle.desk_text.proofs.Digits.{own}
use Rattle.desk_model.specs.Desk.{Desk}
use Rattle.desk_model.specs.declared.types.Mark.{Mark}
use Rattle.desk_model.specs.declared.types.MeasureName.{MeasureName}
use Rattle.desk_model.proofs.Words.{name_word}
use Rattle.desk_report.specs.Claims.{IsTrueText}
use Rattle.desk_report.specs.Table.{ended}
use Rattle.desk_report.proofs.Spelling.{AreInLine, ink_in_line, in_line-spaced}
use Rattle.desk_report.proofs.Texts.{decimal_ink, signed_word}
use Rattle.desk_report.proofs.Lines.{IsSound, other_line, prefix_true}
use Rattle.desk_report.proofs.Truths.{AreWritten, no_certificate}
use Rattle.sheet_merge.specs.Sheet.{SheetRow, IsSheetRow}
use Rattle.sheet_merge.specs.Text.{entry_text, sheet_text}
use Rattle.sheet_merge.proofs.RowLines.{line_fields}
use Rattle.sheet_report.specs.Claims.{SheetTextsAreTrue}

entry_in_line : (row : SheetRow) → IsSheetRow row → AreInLine (entry_text row)
entry_in_line row h =
    let grade : List ℕ = signed_decimal row.1.grade in
    let after_topic : List ℕ = row.0.1 ++ 32 ∷ grade in
    let after_who : List ℕ = row.0.0 ++ 32 ∷ after_topic in
    in_line-spaced (decimal row.1.stamp) (row.1.who ++ 32 ∷ after_who) (ink_in_line (decimal row.1.stamp) (decimal_ink row.1.stamp))
    (in_line-spaced row.1.who after_who (ink_in_line row.1.who (name_word row.1.who h.assessor).ink)
    (in_line-spaced row.0.0 after_topic (ink_in_line row.0.0 (name_word row.0.0 h.topic).ink)
    (in_line-spaced row.0.1 grade (ink_in_line row.0.1 (name_word row.0.1 h.document).ink) (ink_in_line grade (signed_word row.1.grade).ink))))

-- the text does not begin as that of a certificate
begins : (ds a b c : List ℕ) → 0 < length ds → all_ascii_digits ds ≡ true → get_or (((ds ++ a) ++ b) ++ c) 0 0 ≡ 100 → ⊥
begins [] a b c some all e = absurd (omega arith)
begins (d ∷ ds) a b c some all e =
    let high : d ≤ 57 = leb-true d 57 (and_parts (nat_le 48 d) (nat_le d 57) (and_parts (is_ascii_digit d) (all_ascii_digits ds) all).0).1 in
    let same : d ≡ 100 = e in
    omega (arith, high, same)

no_certificate_begins : (rows : List SheetRow) → AllByRecursion IsSheetRow rows → get_or (sheet_text rows) 0 0 ≡ 100 → ⊥
no_certificate_begins [] h e = let none : 0 ≡ 100 = e in omega (arith, none)
no_certificate_begins (row ∷ rows) h e =
    let last = h.0.last_stamp in
    let small : row.1.stamp < 2 ^ 64 = omega (arith, last) in
    begins (decimal row.1.stamp) (32 ∷ (row.1.who ++ 32 ∷ (row.0.0 ++ 32 ∷ (row.0.1 ++ 32 ∷ signed_decimal row.1.grade)))) (10 ∷ []) (sheet_text rows)
    (decimal_nonempty row.1.stamp small) (digits_decimal own row.1.stamp small) e

module _ (name : MeasureName) (desk : Desk) (marks : List (List Mark)) where
  entry_sound : (row : SheetRow) → IsSheetRow row → IsSound name desk marks (entry_text row)
  entry_sound row h =
      let fields = line_fields row h in (
        entry_in_line row h,
        other_line name desk marks (entry_text row)
            (λ f s g l k e. let six : 5 ≡ 6 = ap length (sym fields ∙ e) in omega (arith, six))
            (λ r l k e. let four : 5 ≡ 4 = ap length (sym fields ∙ e.0) in absurd (omega (arith, four))),
      )

  entries_sound : (rows : List SheetRow) → AllByRecursion IsSheetRow rows → AllByRecursion (IsSound name desk marks) (map entry_text rows)
  entries_sound [] h = tt
  entries_sound (row ∷ rows) h = (entry_sound row h.0, entries_sound rows h.1)

pub sheets_true : AreWritten → SheetTextsAreTrue
sheets_true written name desk marks rows received is =
    let right = recursion_from_All IsSheetRow rows is.right in
    let text : flat_map ended (map entry_text rows) ≡ sheet_text rows = flat_map-map ended entry_text rows in
    subst (λ text. IsTrueText name desk marks (take received text)) text (record {
      lines = prefix_true name desk marks (map entry_text rows) received (entries_sound name desk marks rows right);
      claim = λ c t. absurd (no_certificate written (flat_map ended (map entry_text rows)) received c (λ e. no_certificate_begins rows right (ap (λ t. get_or t 0 0) (sym text) ∙ e)) t);
    })
