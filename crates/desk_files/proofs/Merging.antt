-- Sheets that are merged one after the other.
use Rattle.std.proofs.Common.{◌≡◌, ℕ, suc, ◌<◌, ◌≤◌, List, [], ◌∷◌, length, cond, refl, ap, sym, subst, ◌∙◌, arith}
use Rattle.std.proofs.lemmas.Bool.{le-leb, lt-leb}
use Rattle.std.proofs.lemmas.List.{map-id}
use Rattle.std.specs.Prelude.{Option, Some, None, Result, Ok, Err, IfSome}
use Rattle.desk_outside.specs.Outside.{Files}
use Rattle.sheet_merge.specs.Sheet.{SheetRow, merged}
use Rattle.sheet_merge.specs.declared.limits.TheConstants.{ENTRY_LIMIT}
use Rattle.desk_files.specs.Files.{Stop, Refused, TooManyEntries, ◌>>=◌}
use Rattle.desk_files.specs.Load.{MayOpen, Opens}
use Rattle.desk_files.specs.Sheets.{sheet_in, joined_to, with_sheet_in, merge_of, sheets_in_turn, sheets_to_open, SheetsMayOpen}
use Rattle.desk_files.proofs.Opening.{Opened}
use Rattle.desk_files.proofs.Stopping.{after_ok}

-- ---- one sheet
module _ (path : List ℕ) (had rows : List SheetRow) where
  pub joins_few : (now : List SheetRow) → now ≡ merged had rows → length (merged had rows) ≤ ENTRY_LIMIT → joined_to path had rows ≡ Ok now
  joins_few now is few =
      let refused : Result (List SheetRow) Stop = Err (Refused (TooManyEntries path)) in
      ap (λ b. cond b refused (Ok (merged had rows))) (lt-leb (suc ENTRY_LIMIT) (length (merged had rows)) (omega (arith, few))) ∙ ap Ok (sym is)

  pub joins_many : ENTRY_LIMIT < length (merged had rows) → joined_to path had rows ≡ Err (Refused (TooManyEntries path))
  joins_many many =
      let whole : Result (List SheetRow) Stop = Ok (merged had rows) in
      ap (λ b. cond b (Err (Refused (TooManyEntries path))) whole) (le-leb (suc ENTRY_LIMIT) (length (merged had rows)) (omega (arith, many)))

  -- what they come to where the file says them
  pub with_sheet : (told : Option Files) (r : Result (List SheetRow) Stop) → IfSome told (λ held. sheet_in held path ≡ Ok rows) → joined_to path had rows ≡ r → IfSome told (λ held. with_sheet_in held had path ≡ r)
  with_sheet None r read is = tt
  with_sheet (Some held) r read is = after_ok (sheet_in held path) (λ rows. joined_to path had rows) rows r read is

-- ---- sheets
-- the names of sheets are their paths
pub opens_sheets : (told : Option Files) (paths : List (List ℕ)) (had has : List (List ℕ)) → Opened sheets_in_turn [] paths told had has → Opens (SheetsMayOpen told paths) had has
opens_sheets told paths had has opens = subst (λ names. Opens (MayOpen told (λ held. sheets_to_open held [] paths) names) had has) (map-id paths) opens

-- the merge of all is that of the rows so far and the sheets that are left
abbrev pub MergesOn : Option Files → List (List ℕ) → List SheetRow → List (List ℕ) → Type 0
MergesOn told all had paths = IfSome told (λ held. merge_of held [] all ≡ merge_of held had paths)

pub merges_first : (told : Option Files) (all : List (List ℕ)) → MergesOn told all [] all
merges_first None all = tt
merges_first (Some held) all = refl

module _ (all : List (List ℕ)) (had : List SheetRow) (path : List ℕ) (paths : List (List ℕ)) where
  -- one more sheet
  pub merges_more : (told : Option Files) (rows : List SheetRow) → MergesOn told all had (path ∷ paths) → IfSome told (λ held. with_sheet_in held had path ≡ Ok rows) → MergesOn told all rows paths
  merges_more None rows h k = tt
  merges_more (Some held) rows h k = h ∙ ap (λ (r : Result (List SheetRow) Stop). r >>= (λ rows. merge_of held rows paths)) k

  -- a sheet that stops the merge
  pub merge_stops : (held : Files) (why : Stop) → merge_of held [] all ≡ merge_of held had (path ∷ paths) → with_sheet_in held had path ≡ Err why → merge_of held [] all ≡ Err why
  merge_stops held why h k = h ∙ ap (λ (r : Result (List SheetRow) Stop). r >>= (λ rows. merge_of held rows paths)) k
