-- A run that is read beside two files with the same topics.
use Rattle.std.proofs.Common.{◌≡◌, ℕ, ◌+◌, ◌≤◌, List, [], ◌∷◌, length, true, false, cond, refl, ap, ap₂, sym, subst, ◌∙◌, arith}
use Rattle.std.specs.Prelude.{Bool, nat_le, nat_lt, Option, Some, None, Result, Ok, Err}
use Rattle.std.specs.Result.{result_map_both}
use Rattle.std.proofs.lemmas.Bool.{lt-leb, leb-false}
use Rattle.desk_text.specs.Lines.{lines, is_blank}
use Rattle.file_rows.specs.Reading.{unless, and_then, read_line, rows_from, rows_of, with_row}
use Rattle.file_rows.specs.Grouped.{TopicRows, names_of, is_topic, grouped}
use Rattle.file_rows.specs.declared.fault.FileFault.{FileFault}
use Rattle.file_rows.specs.declared.fault.FileFault.TheVariants.{Line}
use Rattle.file_rows.specs.declared.fault.LineFault.{LineFault}
use Rattle.file_rows.specs.declared.fault.LineFault.TheVariants.{RepeatedDocument, TooDeep, TooManyRows, TooManyNameBytes}
use Rattle.file_rows.specs.declared.limits.TheConstants.{MOST_NAME_BYTES}
use Rattle.file_rows.proofs.Chains.{none_holds, parted, last, mapped}
use Rattle.run_reader.specs.declared.limits.TheConstants.{MOST_RUN_ROWS}
use Rattle.run_reader.specs.declared.used.Used.{Used}
use Rattle.file_rows.specs.Rows.{Row, name_bytes_of}
use Rattle.run_reader.specs.Rows.{formed, row_faults, read_row}
use Rattle.run_reader.specs.Run.{Run, name_of, named, used_with}
use Rattle.topic_universe.specs.Names.{HaveSameNames}
use Rattle.qrels_round_trip.specs.RoundTrip.{said_by, IsSameRun, RunsAreKept}

-- the value that was read, or the limit on the bytes of document names is passed
abbrev IsUnlessBytes : {X : Type 0} → X → Result X FileFault → Type 0
IsUnlessBytes value (Ok again) = again ≡ value
IsUnlessBytes value (Err fault) = (line : ℕ) × (fault ≡ Line line TooManyNameBytes)

module _ (qrels said : List TopicRows) (same : HaveSameNames (names_of said) (names_of qrels)) (used others : Used) (fewer : others.rows ≤ used.rows) where
  -- a row that was kept
  kept_again : (number : ℕ) (rows : List Row) (row : Row) (kept : Option Row) → unless (row_faults used rows row) (Some row) ≡ Ok kept →
      IsUnlessBytes kept (result_map_both (λ row. row) (Line number) (unless (row_faults others rows row) (Some row)))
  kept_again number rows row kept e =
      let fine = none_holds (row_faults used rows row) (Some row) kept e in
      let room = leb-false MOST_RUN_ROWS (used.rows + length rows) fine.1.1.0 in
      let rest : Result (Option Row) LineFault = unless ((nat_lt MOST_NAME_BYTES (others.name_bytes + name_bytes_of rows + length row.document), TooManyNameBytes) ∷ []) (Some row) in
      let first : unless (row_faults others rows row) (Some row) ≡ rest =
      ap₂ (λ b d. cond b (Err RepeatedDocument) (cond d (Err TooDeep) (cond (nat_le MOST_RUN_ROWS (others.rows + length rows)) (Err TooManyRows) rest))) fine.0 fine.1.0
      ∙ ap (λ b. cond b (Err TooManyRows) rest) (lt-leb MOST_RUN_ROWS (others.rows + length rows) (omega arith)) in
      subst (λ r. IsUnlessBytes kept (result_map_both (λ row. row) (Line number) r)) (sym first)
      (by (nat_lt MOST_NAME_BYTES (others.name_bytes + name_bytes_of rows + length row.document)) (last (row_faults used rows row) (Some row) kept e))
    where
      by : (b : Bool) → Some row ≡ kept → IsUnlessBytes kept (result_map_both (λ row. row) (Line number) (cond b (Err TooManyNameBytes) (Ok (Some row))))
      by true is = (number, refl)
      by false is = is

  line_again : (number : ℕ) (rows : List Row) (line : List ℕ) (kept : Option Row) → read_line (read_row qrels used) number rows line ≡ Ok kept → IsUnlessBytes kept (read_line (read_row said others) number rows line)
  line_again number rows line kept e = by (is_blank line) e
    where
      topic : (row : Row) (b : Bool) → is_topic row.topic qrels ≡ b → cond (is_topic row.topic qrels) (unless (row_faults used rows row) (Some row)) (Ok None) ≡ Ok kept →
          IsUnlessBytes kept (result_map_both (λ row. row) (Line number) (cond (is_topic row.topic said) (unless (row_faults others rows row) (Some row)) (Ok None)))
      topic row b f g =
          subst (λ t. IsUnlessBytes kept (result_map_both (λ row. row) (Line number) (cond t (unless (row_faults others rows row) (Some row)) (Ok None)))) (sym (same row.topic ∙ f))
          (on b (sym (ap (λ t. cond t (unless (row_faults used rows row) (Some row)) (Ok None)) f) ∙ g))
        where
          on : (b : Bool) → cond b (unless (row_faults used rows row) (Some row)) (Ok None) ≡ Ok kept → IsUnlessBytes kept (result_map_both (λ row. row) (Line number) (cond b (unless (row_faults others rows row) (Some row)) (Ok None)))
          on true h = kept_again number rows row kept h
          on false h = cc

      form : (r : Result Row LineFault) → and_then r (λ row. cond (is_topic row.topic qrels) (unless (row_faults used rows row) (Some row)) (Ok None)) ≡ Ok kept →
          IsUnlessBytes kept (result_map_both (λ row. row) (Line number) (and_then r (λ row. cond (is_topic row.topic said) (unless (row_faults others rows row) (Some row)) (Ok None))))
      form (Ok row) g = topic row (is_topic row.topic qrels) refl g
      form (Err fault) g = absurd (cc)

      by : (b : Bool) → cond b (Ok None) (result_map_both (λ row. row) (Line number) (read_row qrels used rows line)) ≡ Ok kept → IsUnlessBytes kept (cond b (Ok None) (result_map_both (λ row. row) (Line number) (read_row said others rows line)))
      by true g = cc
      by false g = form (formed line) (mapped (Line number) (read_row qrels used rows line) kept g)

  rows_again : (number : ℕ) (rows : List Row) (ls : List (List ℕ)) (all : List Row) → rows_from (read_row qrels used) number rows ls ≡ Ok all → IsUnlessBytes all (rows_from (read_row said others) number rows ls)
  rows_again number rows [] all e = cc
  rows_again number rows (line ∷ ls) all e =
      let made = parted (read_line (read_row qrels used) number rows line) (λ row. rows_from (read_row qrels used) (number + 1) (with_row rows row) ls) all e in
      by made.value (read_line (read_row said others) number rows line) (line_again number rows line made.value made.found) (rows_again (number + 1) (with_row rows made.value) ls all made.made)
    where
      next : Option Row → Result (List Row) FileFault
      next row = rows_from (read_row said others) (number + 1) (with_row rows row) ls

      by : (kept : Option Row) (r : Result (Option Row) FileFault) → IsUnlessBytes kept r → IsUnlessBytes all (next kept) → IsUnlessBytes all (and_then r next)
      by kept (Ok row) is later = subst (λ k. IsUnlessBytes all (next k)) (sym is) later
      by kept (Err fault) is later = is

  run_again : (name : Option (List ℕ)) (run : Run) (r s : Result (List Row) FileFault) → ((all : List Row) → r ≡ Ok all → IsUnlessBytes all s) → and_then r (named name used) ≡ Ok run → IsSameRun run (and_then s (named name others))
  run_again name run (Err fault) s again e = absurd (cc)
  run_again None run (Ok all) s again e = absurd (cc)
  run_again (Some name) run (Ok all) s again e = by s (again all refl)
    where
      made : Run
      made = record { name = name; topics = grouped all; used = used_with used all }

      by : (s : Result (List Row) FileFault) → IsUnlessBytes all s → IsSameRun run (and_then s (named (Some name) others))
      by (Ok rows) is = let own : made ≡ run = cc in ap (λ rows. (name, grouped rows)) is ∙ ap said_by own
      by (Err fault) is = is

pub runs_kept : RunsAreKept
runs_kept given qrels said used others bytes run same fewer e =
    run_again qrels said same used others fewer (name_of given (lines bytes)) run (rows_of (read_row qrels used) bytes) (rows_of (read_row said others) bytes)
    (λ all is. rows_again qrels said same used others fewer 1 [] (lines bytes) all is) e
