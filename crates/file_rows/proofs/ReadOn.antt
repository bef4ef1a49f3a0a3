-- Lines that are read after others.
use Rattle.std.proofs.Common.{◌≡◌, ℕ, ◌+◌, List, [], ◌∷◌, ◌++◌, length, true, inl, inr, refl, ap, sym, ◌∙◌, arith}
use Rattle.std.specs.Prelude.{Option, Some, None, Result, Ok, Err, is_some}
use Rattle.file_rows.specs.declared.fault.LineFault.{LineFault}
use Rattle.file_rows.specs.declared.fault.FileFault.{FileFault}
use Rattle.file_rows.specs.Reading.{and_then, with_row, read_line, rows_from, IsReadTo}

module _ {R : Type 0} (read : List R → List ℕ → Result (Option R) LineFault) where
  -- the rows of lines are those of the first, continued
  pub rows_from-append : (number : ℕ) (rows : List R) (before after : List (List ℕ)) → rows_from read number rows (before ++ after) ≡ and_then (rows_from read number rows before) (λ rows. rows_from read (number + length before) rows after)
  rows_from-append number rows [] after = let none : number ≡ number + 0 = omega arith in ap (λ n. rows_from read n rows after) none
  rows_from-append number rows (line ∷ before) after = by (λ row. rows_from-append (number + 1) (with_row rows row) before after) (read_line read number rows line)
    where
      by : ((row : Option R) → rows_from read (number + 1) (with_row rows row) (before ++ after) ≡ and_then (rows_from read (number + 1) (with_row rows row) before) (λ rows. rows_from read (number + 1 + length before) rows after)) → (row : Result (Option R) FileFault)
          → and_then row (λ row. rows_from read (number + 1) (with_row rows row) (before ++ after)) ≡ and_then (and_then row (λ row. rows_from read (number + 1) (with_row rows row) before)) (λ rows. rows_from read (number + length (line ∷ before)) rows after)
      by rest (Ok row) =
          let more : number + 1 + length before ≡ number + length (line ∷ before) = omega arith in
          rest row ∙ ap (λ n. and_then (rows_from read (number + 1) (with_row rows row) before) (λ rows. rows_from read n rows after)) more
      by rest (Err fault) = refl

  -- a fault stays
  pub refused_on : (number : ℕ) (rows : List R) (before after : List (List ℕ)) (fault : FileFault) → rows_from read number rows before ≡ Err fault → rows_from read number rows (before ++ after) ≡ Err fault
  refused_on number rows before after fault e = rows_from-append number rows before after ∙ ap (λ r. and_then r (λ rows. rows_from read (number + length before) rows after)) e

  -- lines after one that has a fault change nothing
  pub stays : (Gathers : List (List ℕ) → Type 0) (fault : Option FileFault) (before more : List (List ℕ)) → is_some fault ≡ true → IsReadTo read Gathers fault before → IsReadTo read Gathers fault (before ++ more)
  stays Gathers None before more e h = absurd (cc)
  stays Gathers (Some fault) before more e (inl w) = inl w
  stays Gathers (Some fault) before more e (inr w) = inr (refused_on 1 [] before more fault w)

  -- one more line
  pub read_on : (number next : ℕ) (rows so_far : List R) (before : List (List ℕ)) (line : List ℕ) (row : Result (Option R) FileFault) → next ≡ number + length before → rows_from read number rows before ≡ Ok so_far → read_line read next so_far line ≡ row
      → rows_from read number rows (before ++ line ∷ []) ≡ and_then row (λ row. Ok (with_row so_far row))
  read_on number next rows so_far before line row n e f =
      rows_from-append number rows before (line ∷ []) ∙ ap (λ r. and_then r (λ rows. rows_from read (number + length before) rows (line ∷ []))) e
      ∙ ap (λ n. and_then (read_line read n so_far line) (λ row. Ok (with_row so_far row))) (sym n) ∙ ap (λ r. and_then r (λ row. Ok (with_row so_far row))) f
