-- What a run used.
use Rattle.std.proofs.Common.{◌≡◌, ℕ, ◌+◌, List, Option, Some, None, Result, Ok, Err, inl, inr, ap, sym, ◌∙◌}
use Rattle.file_rows.specs.Reading.{and_then, rows_of, IsUnlessMemory}
use Rattle.file_rows.specs.Grouped.{TopicRows, row_count, grouped}
use Rattle.file_rows.specs.declared.fault.FileFault.{FileFault}
use Rattle.file_rows.specs.Rows.{Row}
use Rattle.run_reader.specs.Rows.{read_row}
use Rattle.run_reader.specs.Run.{Run, run_of, named, used_with}
use Rattle.run_reader.specs.declared.used.Used.{Used}
use Rattle.file_rows.proofs.Grouping.{row_count-grouped}

of_rows : (used : Used) (name : Option (List ℕ)) (rows : List Row) (run : Run) → named name used rows ≡ Ok run → run.used.rows ≡ used.rows + row_count run.topics
of_rows used None rows run h = absurd (cc)
of_rows used (Some name) rows run h =
    let made : Run = record { name = name; topics = grouped rows; used = used_with used rows } in
    let same : made ≡ run = cc in
    sym (ap (λ (r : Run). r.used.rows) same) ∙ ap (λ n. used.rows + n) (sym (row_count-grouped rows)) ∙ ap (λ (r : Run). used.rows + row_count r.topics) same

of_answer : (used : Used) (name : Option (List ℕ)) (answer : Result (List Row) FileFault) (run : Run) → and_then answer (named name used) ≡ Ok run → run.used.rows ≡ used.rows + row_count run.topics
of_answer used name (Ok rows) run h = of_rows used name rows run h
of_answer used name (Err fault) run h = absurd (cc)

pub added_up : (name : Option (List ℕ)) (qrels : List TopicRows) (used : Used) (bytes : List ℕ) (run : Run) → run_of name qrels used bytes ≡ Ok run → run.used.rows ≡ used.rows + row_count run.topics
added_up name qrels used bytes run h = of_answer used _ (rows_of (read_row qrels used) bytes) run h

-- a run that was read is the one that is wanted
pub answered : (run : Run) (wanted : Result Run FileFault) → IsUnlessMemory (Ok run) wanted → wanted ≡ Ok run
answered run wanted (inl bad) = absurd (cc)
answered run wanted (inr is) = sym is
