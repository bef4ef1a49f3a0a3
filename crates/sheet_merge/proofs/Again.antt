-- The text of a sheet says the sheet.
use Rattle.std.proofs.Common.{◌≡◌, ℕ, ◌+◌, ◌≤◌, List, [], ◌∷◌, ◌++◌, length, true, false, true≢false, cond, refl, ap, sym, ◌∙◌, arith, append_assoc, length-append}
use Rattle.std.specs.Prelude.{Bool, ◌==◌, ◌&&◌, map, Some, None, is_none, Ok, Err}
use Rattle.std.specs.List.{list_any, AllByRecursion}
use Rattle.std.specs.Result.{result_map_both}
use Rattle.std.proofs.lemmas.Bool.{eqb-true, lt-leb}
use Rattle.std.proofs.lemmas.List.{append-nil}
use Rattle.small_lemmas.proofs.Tests.{neither}
use Rattle.desk_text.specs.Lines.{lines, onto_first, is_bad}
use Rattle.file_rows.specs.Reading.{and_then, unless, with_row}
use Rattle.sheet_merge.specs.declared.limits.TheConstants.{ENTRY_LIMIT}
use Rattle.sheet_merge.specs.declared.fault.SheetFault.TheVariants.{Line}
use Rattle.sheet_merge.specs.declared.fault.SheetLineFault.TheVariants.{TooManyEntries}
use Rattle.sheet_merge.specs.Sheet.{SheetRow, IsMap, IsSheet, IsSheetRow, greatest_on, map_of, merged}
use Rattle.sheet_merge.specs.Lines.{brings_too_many, read_entry, read_entry_line, entries_from, sheet_of, entry_of}
use Rattle.sheet_merge.specs.Text.{entry_text, sheet_text}
use Rattle.sheet_merge.proofs.Gathering.{All-to, length-map_of-le}
use Rattle.sheet_merge.proofs.Maps.{map_is_one}
use Rattle.sheet_merge.proofs.Raising.{map_of_is_map}
use Rattle.sheet_merge.proofs.RowLines.{line_good, line_not_blank, entry_is, form_right}

-- ---- the lines of the text
no_feed : (b : ℕ) → is_bad b ≡ false → (b == 10) ≡ false
no_feed b h = by (b == 10) refl
  where
    by : (t : Bool) → (b == 10) ≡ t → (b == 10) ≡ false
    by true e = absurd (true≢false (sym (ap is_bad (eqb-true b 10 e)) ∙ h))
    by false e = e

lines-ended : (l rest : List ℕ) → list_any is_bad l ≡ false → lines (l ++ 10 ∷ rest) ≡ l ∷ lines rest
lines-ended [] rest h = refl
lines-ended (b ∷ bs) rest h =
    let parts = neither (is_bad b) (list_any is_bad bs) h in
    ap (λ t. cond t ([] ∷ lines (bs ++ 10 ∷ rest)) (onto_first b (lines (bs ++ 10 ∷ rest)))) (no_feed b parts.0)
    ∙ ap (onto_first b) (lines-ended bs rest parts.1)

text_lines : (rows : List SheetRow) → AllByRecursion IsSheetRow rows → lines (sheet_text rows) ≡ map entry_text rows
text_lines [] h = refl
text_lines (row ∷ rows) h =
    ap lines (append_assoc (entry_text row) (10 ∷ []) (sheet_text rows)) ∙ lines-ended (entry_text row) (sheet_text rows) (line_good row h.0) ∙ ap (λ ls. entry_text row ∷ ls) (text_lines rows h.1)

-- ---- each line is read
-- the lines of rows, of which there are few, are read after others
read_lines : (number : ℕ) (before rows : List SheetRow) → AllByRecursion IsSheetRow rows → length before + length rows ≤ ENTRY_LIMIT → entries_from number before (map entry_text rows) ≡ Ok (before ++ rows)
read_lines number before [] h few = ap Ok (sym (append-nil before))
read_lines number before (row ∷ rows) h few =
    ap (λ r. and_then r (λ one. entries_from (number + 1) (with_row before one) (map entry_text rows))) read
    ∙ read_lines (number + 1) (before ++ row ∷ []) rows h.1 (omega (arith, few, length-append before (row ∷ [])))
    ∙ ap Ok (append_assoc before (row ∷ []) rows)
  where
    short : length (map_of before) ≤ length before
    short = length-map_of-le before

    within : brings_too_many row.0 before ≡ false
    within = both (is_none (greatest_on row.0 before)) (lt-leb ENTRY_LIMIT (length (map_of before)) (let le = short in omega (arith, few, le)))
      where
        both : (b : Bool) {c : Bool} → c ≡ false → (b && c) ≡ false
        both true e = e
        both false e = refl

    read : read_entry_line number before (entry_text row) ≡ Ok (Some row)
    read =
        ap (λ b. cond b (Ok None) (result_map_both Some (Line number) (read_entry before (entry_text row)))) (line_not_blank row h.0)
        ∙ ap (λ r. result_map_both Some (Line number) (and_then r (λ one. unless ((brings_too_many one.0 before, TooManyEntries) ∷ []) one))) (form_right row h.0 (entry_of (entry_text row)) ∙ ap Ok (entry_is row h.0))
        ∙ ap (λ b. result_map_both Some (Line number) (cond b (Err TooManyEntries) (Ok row))) within

-- a map is the map of its rows
map_of-map : (rows : List SheetRow) → IsMap rows → map_of rows ≡ rows
map_of-map rows h = let of = map_of_is_map rows in map_is_one (map_of rows) rows of.is_map h of.greatest

-- nothing and a map come to the map
pub merged-none : (had rows : List SheetRow) → IsMap rows → length had ≡ 0 → merged had rows ≡ rows
merged-none [] rows is none = map_of-map rows is
merged-none (row ∷ had) rows is none = absurd (omega (arith, none))

pub text_read : (rows : List SheetRow) → IsSheet rows → sheet_of (sheet_text rows) ≡ Ok rows
text_read rows h =
    let right = All-to IsSheetRow rows h.right in
    ap (λ ls. and_then (entries_from 1 [] ls) (λ read. Ok (map_of read))) (text_lines rows right)
    ∙ ap (λ r. and_then r (λ read. Ok (map_of read))) (read_lines 1 [] rows right (let few = h.few in omega (arith, few)))
    ∙ ap Ok (map_of-map rows h.is_map)
