-- A run file that is read line by line.
use Rattle.std.proofs.Common.{◌≡◌, ℕ, ◌+◌, true, List, [], ◌∷◌, ◌++◌, length, refl, ap, sym, subst, ◌∙◌, inl, inr, ◌⊎◌, arith, length-append}
use Rattle.std.specs.Prelude.{IfSome, Option, Some, None, Result, Ok, Err}
use Rattle.desk_text.specs.Lines.{lines}
use Rattle.desk_model.specs.Name.{is_name}
use Rattle.file_rows.specs.declared.fault.FileFault.{FileFault}
use Rattle.file_rows.specs.declared.fault.FileFault.TheVariants.{Memory, Line}
use Rattle.file_rows.specs.declared.fault.LineFault.TheVariants.{LineTooLong}
use Rattle.file_rows.specs.Reading.{IsTooLong, and_then, with_row, rows_from, IsUnlessMemory}
use Rattle.file_rows.specs.Rows.{Row}
use Rattle.file_rows.specs.Grouped.{TopicRows, grouped}
use Rattle.file_rows.proofs.Grouping.{row_count-grouped, name_bytes_in-grouped}
use Rattle.file_rows.proofs.ReadOn.{read_on}
use Rattle.run_reader.specs.declared.used.Used.{Used}
use Rattle.run_reader.specs.declared.row_reader.Beside.{Beside}
use Rattle.run_reader.specs.declared.row_reader.RowReader.{RowReader}
use Rattle.run_reader.specs.Rows.{read_row}
use Rattle.run_reader.specs.Run.{Run, name_of, named, run_of, IsRun}
use Rattle.run_reader.specs.Reader.{ReadsLine, Gathers, HasRead, name_in, given_in, name_after, run_with}
use Rattle.run_reader.proofs.Chains.{read_too_long}
use Rattle.run_reader.proofs.Right.{name_of-next, name_of-none, none_right, rows_right, names_are_right, is_run}

-- the name of one more line
pub name_of-append : (name : Option (List ℕ)) (ls : List (List ℕ)) (line : List ℕ) → name_of name (ls ++ line ∷ []) ≡ name_after (name_of name ls) line
name_of-append name [] line = sym (name_of-next name line []) ∙ name_of-none (name_after name line) ∙ ap (λ n. name_after n line) (sym (name_of-none name))
name_of-append name (l ∷ ls) line = sym (name_of-next name l (ls ++ line ∷ [])) ∙ name_of-append (name_after name l) ls line ∙ ap (λ n. name_after n line) (name_of-next name l ls)

-- the run of topics is that of their rows
run_with-grouped : (name : Option (List ℕ)) (used : Used) (rows : List Row) → run_with name used (grouped rows) ≡ named name used rows
run_with-grouped None used rows = refl
run_with-grouped (Some n) used rows =
    λ i. Ok (record { name = n; topics = grouped rows; used = record { rows = used.rows + row_count-grouped rows i; name_bytes = used.name_bytes + name_bytes_in-grouped rows i } })

-- what lines come to beside something
abbrev rows_of_lines : Beside → List (List ℕ) → Result (List Row) FileFault
rows_of_lines beside ls = rows_from (read_row beside.qrels.now beside.used) 1 [] ls

-- one more line
module _ (old new : RowReader) (before : List (List ℕ)) (line : List ℕ) (same : new.beside ≡ old.beside) (h : Gathers old before) where
  number_is : old.lines + 1 ≡ 1 + length before
  number_is = omega (arith, h.number)

  pub gathered : ((rows : List Row) → old.gathered.kept ≡ grouped rows → ReadsLine old.beside.qrels.now old.beside.used (old.lines + 1) rows line (Ok tt) new.gathered.kept) → new.lines ≡ old.lines + 1 → name_in new ≡ name_after (name_in old) line → Gathers new (before ++ line ∷ [])
  gathered reads count name =
      let r = reads h.rows h.so_far in
      record {
        rows = with_row h.rows r.0;
        read = ap (λ b. rows_of_lines b (before ++ line ∷ [])) same ∙ read_on (read_row old.beside.qrels.now old.beside.used) 1 (old.lines + 1) [] h.rows before line (Ok r.0) number_is h.read r.1;
        so_far = r.2;
        number = omega (arith, count, h.number, length-append before (line ∷ []));
        name = name ∙ ap (λ n. name_after n line) h.name ∙ sym (name_of-append (given_in old.beside) before line) ∙ ap (λ b. name_of (given_in b) (before ++ line ∷ [])) (sym same);
      }

  pub refused : (fault : FileFault) (topics : List TopicRows) → ((rows : List Row) → old.gathered.kept ≡ grouped rows → ReadsLine old.beside.qrels.now old.beside.used (old.lines + 1) rows line (Err fault) topics) → HasRead (Some fault) new (before ++ line ∷ [])
  refused fault topics reads = elim (reads h.rows h.so_far) [
    | inl w ↦ inl w
    | inr w ↦ inr (ap (λ b. rows_of_lines b (before ++ line ∷ [])) same ∙ read_on (read_row old.beside.qrels.now old.beside.used) 1 (old.lines + 1) [] h.rows before line (Err fault) number_is h.read w)
  ]

  pub too_long : (fault : FileFault) → (fault ≡ Memory) ⊎ (fault ≡ Line (old.lines + 1) LineTooLong) → IsTooLong line → HasRead (Some fault) new (before ++ line ∷ [])
  too_long fault (inl w) long = inl w
  too_long fault (inr w) long =
      inr (ap (λ b. rows_of_lines b (before ++ line ∷ [])) same
      ∙ read_on (read_row old.beside.qrels.now old.beside.used) 1 (old.lines + 1) [] h.rows before line (Err (Line (old.lines + 1) LineTooLong)) number_is h.read (read_too_long old.beside.qrels.now old.beside.used (old.lines + 1) h.rows line long) ∙ ap Err (sym w))

-- at the end
module _ (reader : RowReader) (text : List ℕ) where
  pub finished : Gathers reader (lines text) → run_with (name_in reader) reader.beside.used reader.gathered.kept ≡ run_of (given_in reader.beside) reader.beside.qrels.now reader.beside.used text
  finished h =
      ap (run_with (name_in reader) reader.beside.used) h.so_far ∙ run_with-grouped (name_in reader) reader.beside.used h.rows ∙ ap (λ n. named n reader.beside.used h.rows) h.name
      ∙ sym (ap (λ rows. and_then rows (named (name_of (given_in reader.beside) (lines text)) reader.beside.used)) h.read)

  pub finished_run : Gathers reader (lines text) → IsRun reader.gathered.kept
  finished_run h = subst IsRun (sym h.so_far) (is_run reader.beside.qrels.now reader.beside.used h.rows (rows_right reader.beside.qrels.now reader.beside.used 1 [] h.rows (lines text) (none_right reader.beside.qrels.now reader.beside.used) h.read))

  pub finished_name : Gathers reader (lines text) → IfSome (given_in reader.beside) (λ n. is_name n ≡ true) → IfSome (name_in reader) (λ n. is_name n ≡ true)
  finished_name h given = subst (λ n. IfSome n (λ n. is_name n ≡ true)) (sym h.name) (names_are_right reader.beside.qrels.now reader.beside.used 1 [] h.rows (lines text) (given_in reader.beside) given h.read)

  pub told : (fault : FileFault) → HasRead (Some fault) reader (lines text) → IsUnlessMemory {A = Run} (Err fault) (run_of (given_in reader.beside) reader.beside.qrels.now reader.beside.used text)
  told fault (inl w) = inl (ap Err w)
  told fault (inr w) = inr (sym (ap (λ rows. and_then rows (named (name_of (given_in reader.beside) (lines text)) reader.beside.used)) w))
