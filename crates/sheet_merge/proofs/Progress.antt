-- A sheet that is read line by line.
use Rattle.std.proofs.Common.{◌≡◌, ℕ, ◌+◌, List, [], ◌∷◌, ◌++◌, length, false, true, ap, ap₂, sym, ◌∙◌, inl, inr, ◌⊎◌, arith, length-append}
use Rattle.std.specs.Prelude.{not, ◌||◌, ◌&&◌, ◌==◌, cond, nat_le, is_none, Option, Some, None, Result, Ok, Err, OnOk, IfErr}
use Rattle.std.specs.List.{list_all, list_any}
use Rattle.std.specs.Result.{result_map_both}
use Rattle.std.proofs.lemmas.Bool.{lt-ltb, lt-leb}
use Rattle.desk_text.specs.Lines.{lines, is_bad, is_blank, is_separator, fields_of}
use Rattle.desk_text.specs.declared.line.TheConstants.{LONGEST_LINE}
use Rattle.file_rows.specs.Reading.{IsTooLong, and_then, unless, field, is_long, with_row}
use Rattle.sheet_merge.specs.Sheet.{SheetEntry, SheetRow, entry_on, greatest_on, greater_of, map_of}
use Rattle.sheet_merge.specs.Table.{with_entry}
use Rattle.sheet_merge.specs.Lines.{stamp_of, sheet_grade_of, entry_of, entry_faults, brings_too_many, read_entry, read_entry_line, sheet_of, IsSheetUnlessMemory}
use Rattle.sheet_merge.specs.Reader.{HaveGreatest, ReadsEntry, GathersEntries, HasReadEntries}
use Rattle.sheet_merge.specs.declared.limits.TheConstants.{ENTRY_LIMIT}
use Rattle.sheet_merge.specs.declared.entry_reader.EntryReader.{EntryReader}
use Rattle.sheet_merge.specs.declared.fault.SheetFault.{SheetFault}
use Rattle.sheet_merge.specs.declared.fault.SheetFault.TheVariants.{Line, Memory}
use Rattle.sheet_merge.specs.declared.fault.SheetLineFault.TheVariants.{LineTooLong, BadByte, BadFieldCount, BadStamp, NameTooLong, BadGrade, TooManyEntries}
use Rattle.sheet_merge.proofs.Entries.{greater_of-none}
use Rattle.sheet_merge.proofs.Greatest.{greatest_by-append}
use Rattle.sheet_merge.proofs.Gathering.{with_entry_greatest, same_map}
use Rattle.sheet_merge.proofs.ReadOn.{read_on}

-- ---- a line of the right form
module _ (number : ℕ) (rows : List SheetRow) (line : List ℕ) (row : SheetRow) (table : List SheetRow) (blank : is_blank line ≡ false) (same : HaveGreatest table rows) (said : unless (entry_faults line) (entry_of line) ≡ Ok row) where
  beyond_is : brings_too_many row.0 rows ≡ brings_too_many row.0 table
  beyond_is = ap₂ (λ (o : Option SheetEntry) (n : ℕ). is_none o && nat_le ENTRY_LIMIT n) (sym (same row.0)) (ap length (sym (same_map table rows same)))

  read_is : read_entry_line number rows line ≡ result_map_both Some (Line number) (unless ((brings_too_many row.0 table, TooManyEntries) ∷ []) row)
  read_is =
      ap (λ b. cond b (Ok None) (result_map_both Some (Line number) (read_entry rows line))) blank
      ∙ ap (λ r. result_map_both Some (Line number) (and_then r (λ row. unless ((brings_too_many row.0 rows, TooManyEntries) ∷ []) row))) said
      ∙ ap (λ b. result_map_both Some (Line number) (cond b (Err TooManyEntries) (Ok row))) beyond_is

  kept_more : (table' : List SheetRow) → table' ≡ with_entry row table → HaveGreatest table' (rows ++ row ∷ [])
  kept_more table' added = λ p.
      ap (greatest_on p) added ∙ with_entry_greatest p row table ∙ ap (λ o. greater_of o (entry_on p row)) (same p)
      ∙ sym (greatest_by-append (entry_on p) rows (row ∷ []) ∙ ap (greater_of (greatest_on p rows)) (greater_of-none (entry_on p row)))

  pub read_formed : (table' : List SheetRow) (answer : Result (Unit {0}) SheetFault) → OnOk answer (brings_too_many row.0 table ≡ false) → OnOk answer (table' ≡ with_entry row table)
      → IfErr answer (λ e. (e ≡ Memory) ⊎ ((brings_too_many row.0 table ≡ true) × (e ≡ Line number TooManyEntries))) → ReadsEntry number rows line answer table'
  read_formed table' (Ok done) within added wrong =
      (Some row, read_is ∙ ap (λ b. result_map_both Some (Line number) (cond b (Err TooManyEntries) (Ok row))) within, kept_more table' added)
  read_formed table' (Err fault) within added (inl w) = inl w
  read_formed table' (Err fault) within added (inr w) = inr (read_is ∙ ap (λ b. result_map_both Some (Line number) (cond b (Err TooManyEntries) (Ok row))) w.0 ∙ ap Err (sym w.1))

-- ---- a line that is too long
read_too_long : (number : ℕ) (rows : List SheetRow) (line : List ℕ) → IsTooLong line → read_entry_line number rows line ≡ Err (Line number LineTooLong)
read_too_long number rows line long =
    ap (λ b. cond (b && list_all is_separator line) (Ok None) (result_map_both Some (Line number) (read_entry rows line))) (lt-leb (length line) LONGEST_LINE long)
    ∙ ap (λ b. result_map_both Some (Line number) (and_then (cond b (Err LineTooLong) (unless ((list_any is_bad line, BadByte) ∷ (not (length (fields_of line) == 5), BadFieldCount) ∷ (is_none (stamp_of (field line 0)), BadStamp)
    ∷ (is_long (field line 1) || (is_long (field line 2) || is_long (field line 3)), NameTooLong) ∷ (is_none (sheet_grade_of (field line 4)), BadGrade) ∷ []) (entry_of line))) (λ row. unless ((brings_too_many row.0 rows, TooManyEntries) ∷ []) row))) (lt-ltb LONGEST_LINE (length line) long)

-- ---- one more line
module _ (old new : EntryReader) (before : List (List ℕ)) (line : List ℕ) (h : GathersEntries old before) where
  number_is : old.lines + 1 ≡ 1 + length before
  number_is = omega (arith, h.number)

  pub gathered : ((rows : List SheetRow) → HaveGreatest old.table rows → ReadsEntry (old.lines + 1) rows line (Ok tt) new.table) → new.lines ≡ old.lines + 1 → GathersEntries new (before ++ line ∷ [])
  gathered reads count =
      let r = reads h.rows h.so_far in
      record {
        rows = with_row h.rows r.0;
        read = read_on 1 (old.lines + 1) [] h.rows before line (Ok r.0) number_is h.read r.1;
        so_far = r.2;
        number = omega (arith, count, h.number, length-append before (line ∷ []));
      }

  pub refused : (fault : SheetFault) (table : List SheetRow) → ((rows : List SheetRow) → HaveGreatest old.table rows → ReadsEntry (old.lines + 1) rows line (Err fault) table) → HasReadEntries (Some fault) new (before ++ line ∷ [])
  refused fault table reads = elim (reads h.rows h.so_far) [
    | inl w ↦ inl w
    | inr w ↦ inr (read_on 1 (old.lines + 1) [] h.rows before line (Err fault) number_is h.read w)
  ]

  pub too_long : (fault : SheetFault) → (fault ≡ Memory) ⊎ (fault ≡ Line (old.lines + 1) LineTooLong) → IsTooLong line → HasReadEntries (Some fault) new (before ++ line ∷ [])
  too_long fault (inl w) long = inl w
  too_long fault (inr w) long = inr (read_on 1 (old.lines + 1) [] h.rows before line (Err (Line (old.lines + 1) LineTooLong)) number_is h.read (read_too_long (old.lines + 1) h.rows line long) ∙ ap Err (sym w))

-- ---- at the end
module _ (reader : EntryReader) (text : List ℕ) where
  pub finished : GathersEntries reader (lines text) → Ok (map_of reader.table) ≡ sheet_of text
  finished h = ap Ok (same_map reader.table h.rows h.so_far) ∙ sym (ap (λ r. and_then r (λ rows. Ok (map_of rows))) h.read)

  pub told : (fault : SheetFault) → HasReadEntries (Some fault) reader (lines text) → IsSheetUnlessMemory {A = List SheetRow} (Err fault) (sheet_of text)
  told fault (inl w) = inl (ap Err w)
  told fault (inr w) = inr (sym (ap (λ r. and_then r (λ rows. Ok (map_of rows))) w))
