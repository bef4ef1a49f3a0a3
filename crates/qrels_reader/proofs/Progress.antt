-- A file that is read line by line.
use Rattle.std.proofs.Common.{◌≡◌, ℕ, ◌+◌, ◌<◌, List, [], ◌∷◌, ◌++◌, length, ap, ap₂, sym, subst, ◌∙◌, inl, inr, ◌⊎◌, arith, length-append}
use Rattle.std.specs.Prelude.{Some, Ok, Err, ◌==◌, cond}
use Rattle.desk_text.specs.Lines.{lines}
use Rattle.file_rows.specs.declared.fault.FileFault.{FileFault}
use Rattle.file_rows.specs.declared.fault.FileFault.TheVariants.{Memory, NoTopics, Line}
use Rattle.file_rows.specs.declared.fault.LineFault.TheVariants.{LineTooLong}
use Rattle.file_rows.specs.Reading.{IsTooLong, and_then, with_row, IsUnlessMemory}
use Rattle.file_rows.specs.Rows.{Row}
use Rattle.file_rows.specs.Grouped.{TopicRows, grouped, row_count}
use Rattle.file_rows.proofs.Grouping.{row_count-grouped}
use Rattle.file_rows.proofs.ReadOn.{read_on}
use Rattle.qrels_reader.specs.Rows.{read_row}
use Rattle.qrels_reader.specs.Grouped.{qrels_of, IsQrels}
use Rattle.qrels_reader.specs.Reader.{ReadsLine, Gathers, HasRead}
use Rattle.qrels_reader.specs.declared.row_reader.RowReader.{RowReader}
use Rattle.qrels_reader.proofs.Chains.{read_too_long}
use Rattle.qrels_reader.proofs.Right.{none_right, rows_right, is_qrels}

-- one more line
module _ (old new : RowReader) (before : List (List ℕ)) (line : List ℕ) (h : Gathers old before) where
  number_is : old.lines + 1 ≡ 1 + length before
  number_is = omega (arith, h.number)

  pub gathered : ((rows : List Row) → old.groups ≡ grouped rows → ReadsLine (old.lines + 1) rows line (Ok tt) new.groups) → new.lines ≡ old.lines + 1 → Gathers new (before ++ line ∷ [])
  gathered reads count =
      let r = reads h.rows h.so_far in
      record {
        rows = with_row h.rows r.0;
        read = read_on read_row 1 (old.lines + 1) [] h.rows before line (Ok r.0) number_is h.read r.1;
        so_far = r.2;
        number = omega (arith, count, h.number, length-append before (line ∷ []));
      }

  pub refused : (fault : FileFault) (topics : List TopicRows) → ((rows : List Row) → old.groups ≡ grouped rows → ReadsLine (old.lines + 1) rows line (Err fault) topics) → HasRead (Some fault) new (before ++ line ∷ [])
  refused fault topics reads = elim (reads h.rows h.so_far) [
    | inl w ↦ inl w
    | inr w ↦ inr (read_on read_row 1 (old.lines + 1) [] h.rows before line (Err fault) number_is h.read w)
  ]

  pub too_long : (fault : FileFault) → (fault ≡ Memory) ⊎ (fault ≡ Line (old.lines + 1) LineTooLong) → IsTooLong line → HasRead (Some fault) new (before ++ line ∷ [])
  too_long fault (inl w) long = inl w
  too_long fault (inr w) long = inr (read_on read_row 1 (old.lines + 1) [] h.rows before line (Err (Line (old.lines + 1) LineTooLong)) number_is h.read (read_too_long (old.lines + 1) h.rows line long) ∙ ap Err (sym w))

-- at the end
module _ (reader : RowReader) (text : List ℕ) where
  pub finished : Gathers reader (lines text) → cond (row_count reader.groups == 0) (Err NoTopics) (Ok reader.groups) ≡ qrels_of text
  finished h =
      ap₂ (λ n ts. cond (n == 0) (Err NoTopics) (Ok ts)) (ap row_count h.so_far ∙ row_count-grouped h.rows) h.so_far
      ∙ sym (ap (λ rows. and_then rows (λ rows. cond (length rows == 0) (Err NoTopics) (Ok (grouped rows)))) h.read)

  pub finished_right : Gathers reader (lines text) → 0 < row_count reader.groups → IsQrels reader.groups
  finished_right h some = subst IsQrels (sym h.so_far) (is_qrels h.rows (rows_right 1 [] h.rows (lines text) none_right h.read) (subst (λ ts. 0 < row_count ts) h.so_far some))

  pub told : (fault : FileFault) → HasRead (Some fault) reader (lines text) → IsUnlessMemory {A = List TopicRows} (Err fault) (qrels_of text)
  told fault (inl w) = inl (ap Err w)
  told fault (inr w) = inr (sym (ap (λ rows. and_then rows (λ rows. cond (length rows == 0) (Err NoTopics) (Ok (grouped rows)))) w))
