-- Lines of a sheet that are read after others.
use Rattle.std.proofs.Common.{◌≡◌, ℕ, ◌+◌, List, [], ◌∷◌, ◌++◌, length, refl, ap, sym, ◌∙◌, arith}
use Rattle.std.specs.Prelude.{Option, Result, Ok, Err}
use Rattle.file_rows.specs.Reading.{and_then, with_row}
use Rattle.sheet_merge.specs.Sheet.{SheetRow}
use Rattle.sheet_merge.specs.Lines.{read_entry_line, entries_from}
use Rattle.sheet_merge.specs.declared.fault.SheetFault.{SheetFault}

-- the rows of lines are those of the first, continued
pub entries_from-append : (number : ℕ) (rows : List SheetRow) (before after : List (List ℕ)) → entries_from number rows (before ++ after) ≡ and_then (entries_from number rows before) (λ rows. entries_from (number + length before) rows after)
entries_from-append number rows [] after = let none : number ≡ number + 0 = omega arith in ap (λ n. entries_from n rows after) none
entries_from-append number rows (line ∷ before) after = by (λ row. entries_from-append (number + 1) (with_row rows row) before after) (read_entry_line number rows line)
  where
    by : ((row : Option SheetRow) → entries_from (number + 1) (with_row rows row) (before ++ after) ≡ and_then (entries_from (number + 1) (with_row rows row) before) (λ rows. entries_from (number + 1 + length before) rows after)) → (row : Result (Option SheetRow) SheetFault)
        → and_then row (λ row. entries_from (number + 1) (with_row rows row) (before ++ after)) ≡ and_then (and_then row (λ row. entries_from (number + 1) (with_row rows row) before)) (λ rows. entries_from (number + length (line ∷ before)) rows after)
    by rest (Ok row) =
        let more : number + 1 + length before ≡ number + length (line ∷ before) = omega arith in
        rest row ∙ ap (λ n. and_then (entries_from (number + 1) (with_row rows row) before) (λ rows. entries_from n rows after)) more
    by rest (Err fault) = refl

-- one more line
pub read_on : (number next : ℕ) (rows so_far : List SheetRow) (before : List (List ℕ)) (line : List ℕ) (row : Result (Option SheetRow) SheetFault) → next ≡ number + length before → entries_from number rows before ≡ Ok so_far → read_entry_line next so_far line ≡ row
    → entries_from number rows (before ++ line ∷ []) ≡ and_then row (λ row. Ok (with_row so_far row))
read_on number next rows so_far before line row n e f =
    entries_from-append number rows before (line ∷ []) ∙ ap (λ r. and_then r (λ rows. entries_from (number + length before) rows (line ∷ []))) e
    ∙ ap (λ n. and_then (read_entry_line n so_far line) (λ row. Ok (with_row so_far row))) (sym n) ∙ ap (λ r. and_then r (λ row. Ok (with_row so_far row))) f
