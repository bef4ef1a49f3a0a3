-- The lines of rows are read as the rows, one after the other, as long as the limits allow.
use Rattle.std.proofs.Common.{◌≡◌, ℕ, ◌+◌, List, [], ◌∷◌, ◌++◌, length, true, false, cond, refl, ap, ap₂, sym, subst, ◌∙◌, arith, append_assoc, append-nil, length-append, inl, inr}
use Rattle.std.specs.Prelude.{Bool, not, ◌&&◌, nat_le, nat_lt, map, Option, Some, None, Result, Ok, Err}
use Rattle.std.specs.List.{AllByRecursion}
use Rattle.std.specs.Result.{result_map_both}
use Rattle.std.proofs.lemmas.Bool.{leb-true, leb-false, ltb-true, ltb-false}
use Rattle.std.proofs.lemmas.List.Sums.{sum_by-append, sum_by-cons}
use Rattle.desk_text.specs.Lines.{is_blank}
use Rattle.file_rows.specs.Reading.{read_line, rows_from, and_then, unless, with_row}
use Rattle.file_rows.specs.Rows.{Row, name_bytes_of, has_topic, has_document, topics_of}
use Rattle.qrels_reader.specs.Rows.{row_of, form_faults, row_faults, read_row}
use Rattle.file_rows.specs.declared.fault.FileFault.{FileFault}
use Rattle.file_rows.specs.declared.fault.FileFault.TheVariants.{Line}
use Rattle.file_rows.specs.declared.fault.LineFault.{LineFault}
use Rattle.file_rows.specs.declared.fault.LineFault.TheVariants.{RepeatedDocument, TooManyTopics, TooManyRows, TooManyNameBytes}
use Rattle.qrels_reader.specs.declared.limits.TheConstants.{MOST_TOPICS, MOST_QRELS_ROWS}
use Rattle.file_rows.specs.declared.limits.TheConstants.{MOST_NAME_BYTES}
use Rattle.qrels_round_trip.specs.RoundTrip.{AreWithinLimits, IsLimitPassed}
use Rattle.qrels_round_trip.proofs.Line.{IsWritable, line_of, line_not_blank, form_right, row_is}

-- no row repeats a document of those before it, and no topic is one too many
abbrev pub AreNew : List Row → List Row → Type 0
AreNew before [] = Unit {0}
AreNew before (row ∷ rows) =
    (has_document row.topic row.document before ≡ false)
    × ((not (has_topic row.topic before) && nat_le MOST_TOPICS (length (topics_of before))) ≡ false)
    × AreNew (before ++ row ∷ []) rows

-- what is answered for rows: they are read, or a limit is passed
abbrev pub IsOutcome : List Row → Result (List Row) FileFault → Type 0
IsOutcome rows (Ok read) = (read ≡ rows) × AreWithinLimits rows
IsOutcome rows (Err fault) = IsLimitPassed rows fault

-- the answer for one row
abbrev pub room_for : List Row → Row → Result (Option Row) LineFault
room_for before row = unless ((nat_le MOST_QRELS_ROWS (length before), TooManyRows) ∷ (nat_lt MOST_NAME_BYTES (name_bytes_of before + length row.document), TooManyNameBytes) ∷ []) (Some row)

-- a line whose form is right
read_form : (number : ℕ) (before : List Row) (line : List ℕ) (row : Row) → is_blank line ≡ false → unless (form_faults line) (row_of line) ≡ Ok row →
    read_line read_row number before line ≡ result_map_both (λ row. row) (Line number) (unless (row_faults before row) (Some row))
read_form number before line row blank form =
    ap (λ b. cond b (Ok None) (result_map_both (λ row. row) (Line number) (read_row before line))) blank
    ∙ ap (λ r. result_map_both (λ row. row) (Line number) (and_then r (λ row. unless (row_faults before row) (Some row)))) form

read_one : (number : ℕ) (before : List Row) (row : Row) → IsWritable row → has_document row.topic row.document before ≡ false →
    (not (has_topic row.topic before) && nat_le MOST_TOPICS (length (topics_of before))) ≡ false →
    read_line read_row number before (line_of row) ≡ result_map_both (λ row. row) (Line number) (room_for before row)
read_one number before row h new few =
    read_form number before (line_of row) row (line_not_blank row h) (form_right row h (row_of (line_of row)) ∙ ap Ok (row_is row h))
    ∙ ap₂ (λ b d. result_map_both (λ row. row) (Line number) (cond b (Err RepeatedDocument) (cond d (Err TooManyTopics) (room_for before row)))) new few

-- no more than before and one row, where the limits are not passed
more_room : (before : List Row) (row : Row) → nat_le MOST_QRELS_ROWS (length before) ≡ false → nat_lt MOST_NAME_BYTES (name_bytes_of before + length row.document) ≡ false → AreWithinLimits (before ++ row ∷ [])
more_room before row few short =
    let low = leb-false MOST_QRELS_ROWS (length before) few in
    let bytes = ltb-false MOST_NAME_BYTES (name_bytes_of before + length row.document) short in
    record {
      count = omega (arith, length-append before (row ∷ []));
      name_bytes = omega (arith, sum_by-append (λ (r : Row). length r.document) before (row ∷ []));
    }

pub reads : (number : ℕ) (before rows : List Row) → AllByRecursion IsWritable rows → AreNew before rows → AreWithinLimits before → IsOutcome (before ++ rows) (rows_from read_row number before (map line_of rows))
reads number before [] h new room = (sym (append-nil before), subst AreWithinLimits (sym (append-nil before)) room)
reads number before (row ∷ rows) h new room =
    subst (IsOutcome (before ++ row ∷ rows)) (sym (ap (λ r. and_then r next) (read_one number before row h.0 new.0 new.1)))
    (by (nat_le MOST_QRELS_ROWS (length before)) refl (nat_lt MOST_NAME_BYTES (name_bytes_of before + length row.document)) refl (reads (number + 1) (before ++ row ∷ []) rows h.1 new.2))
  where
    next : Option Row → Result (List Row) FileFault
    next r = rows_from read_row (number + 1) (with_row before r) (map line_of rows)

    by : (b : Bool) → nat_le MOST_QRELS_ROWS (length before) ≡ b → (d : Bool) → nat_lt MOST_NAME_BYTES (name_bytes_of before + length row.document) ≡ d →
        (AreWithinLimits (before ++ row ∷ []) → IsOutcome ((before ++ row ∷ []) ++ rows) (next (Some row))) →
        IsOutcome (before ++ row ∷ rows) (and_then (result_map_both (λ row. row) (Line number) (unless ((b, TooManyRows) ∷ (d, TooManyNameBytes) ∷ []) (Some row))) next)
    by true e d f later = let high = leb-true MOST_QRELS_ROWS (length before) e in (number, inl (refl, omega (arith, length-append before (row ∷ rows))))
    by false e true f later =
        let high = ltb-true MOST_NAME_BYTES (name_bytes_of before + length row.document) f in
        (number, inr (refl, omega (arith, sum_by-append (λ (r : Row). length r.document) before (row ∷ rows), sum_by-cons (λ (r : Row). length r.document) row rows)))
    by false e false f later = subst (λ all. IsOutcome all (next (Some row))) (append_assoc before (row ∷ []) rows) (later (more_room before row e f))
