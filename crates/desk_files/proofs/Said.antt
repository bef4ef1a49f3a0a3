-- Merging the sheets of files is merging what they say.
use Rattle.std.proofs.Common.{◌≡◌, ℕ, suc, ◌<◌, ◌≤◌, Bool, true, false, List, [], ◌∷◌, length, cond, refl, ap, ap₂, sym, ◌∙◌, arith, inl, inr}
use Rattle.std.proofs.lemmas.Bool.{leb-true, leb-false}
use Rattle.std.specs.Prelude.{Option, Some, None, Result, Ok, Err, nat_le, nat_lt}
use Rattle.desk_outside.specs.Outside.{Files}
use Rattle.sheet_merge.specs.Sheet.{SheetRow, IsMap, merged}
use Rattle.sheet_merge.specs.Lines.{sheet_of}
use Rattle.sheet_merge.specs.Merging.{MergesTo}
use Rattle.sheet_merge.specs.declared.limits.TheConstants.{ENTRY_LIMIT}
use Rattle.sheet_merge.specs.declared.fault.SheetFault.{SheetFault}
use Rattle.sheet_merge.specs.declared.fault.SheetFault.TheVariants as sheet_faults
use Rattle.sheet_merge.proofs.Raising.{merged_is_merge}
use Rattle.desk_files.specs.Files.{Stop, Refused, FileTooLong, TooManyEntries, ◌>>=◌, or_stop, sheet_stop_at, whole_file}
use Rattle.desk_files.specs.Sheets.{sheet_in, joined_to, merge_of, SaySheets, IsRefusedAt}
use Rattle.desk_files.specs.declared.limits.TheConstants.{LONGEST_FILE}

-- the files of paths say sheets that merge to these rows
abbrev Merges : Files → List SheetRow → List (List ℕ) → List SheetRow → Type 0
Merges files had paths rows = (sheets : List (List SheetRow)) × SaySheets files paths sheets × MergesTo ENTRY_LIMIT had sheets (Some rows)

-- the file of a sheet is not refused since there are too many entries in all
never_too_many : (path other : List ℕ) (held : Option (List ℕ)) → (whole_file path held >>= (λ bytes. or_stop (sheet_stop_at path) (sheet_of bytes))) ≡ Err (Refused (TooManyEntries other)) → ⊥
never_too_many path other None e = absurd (cc)
never_too_many path other (Some bytes) e = by (nat_le (length bytes) LONGEST_FILE) e
  where
    read : (r : Result (List SheetRow) SheetFault) → or_stop (sheet_stop_at path) r ≡ Err (Refused (TooManyEntries other)) → ⊥
    read (Ok rows) e = absurd (cc)
    read (Err (sheet_faults.Line line fault)) e = absurd (cc)
    read (Err sheet_faults.Memory) e = absurd (cc)

    by : (b : Bool) → (cond b (Ok bytes) (Err (Refused (FileTooLong path))) >>= (λ bytes. or_stop (sheet_stop_at path) (sheet_of bytes))) ≡ Err (Refused (TooManyEntries other)) → ⊥
    by true e = read (sheet_of bytes) e
    by false e = absurd (cc)

module _ (files : Files) where
  pub merge_is_of_sheets : (had : List SheetRow) (paths : List (List ℕ)) (rows : List SheetRow) → IsMap had → merge_of files had paths ≡ Ok rows → Merges files had paths rows
  merge_is_of_sheets had [] rows is e = let own : had ≡ rows = cc in ([], refl, sym own)
  merge_is_of_sheets had (path ∷ paths) rows is e = by (sheet_in files path) (λ sheet. merge_is_of_sheets (merged had sheet) paths rows) refl e
    where
      Rest : Type 0
      Rest = (sheet : List SheetRow) → IsMap (merged had sheet) → merge_of files (merged had sheet) paths ≡ Ok rows → Merges files (merged had sheet) paths rows

      joined : (sheet : List SheetRow) → Rest → sheet_in files path ≡ Ok sheet → (b : Bool) → nat_lt ENTRY_LIMIT (length (merged had sheet)) ≡ b →
          (cond b (Err (Refused (TooManyEntries path))) (Ok (merged had sheet)) >>= (λ rows. merge_of files rows paths)) ≡ Ok rows → Merges files had (path ∷ paths) rows
      joined sheet rest read true many e = absurd (cc)
      joined sheet rest read false few e =
          let merge = merged_is_merge had sheet is in
          let next = rest sheet merge.is_map e in
          let le : length (merged had sheet) ≤ ENTRY_LIMIT = omega (arith, leb-false (suc ENTRY_LIMIT) (length (merged had sheet)) few) in
          (sheet ∷ next.0, ap₂ (λ r rs. r ∷ rs) read next.1, (merged had sheet, merge, inl (le, next.2)))

      by : (r : Result (List SheetRow) Stop) → Rest → sheet_in files path ≡ r → ((r >>= (λ rows. joined_to path had rows)) >>= (λ rows. merge_of files rows paths)) ≡ Ok rows → Merges files had (path ∷ paths) rows
      by (Err why) rest read e = absurd (cc)
      by (Ok sheet) rest read e = joined sheet rest read (nat_lt ENTRY_LIMIT (length (merged had sheet))) refl e

  pub refusal_is_of_sheets : (had : List SheetRow) (paths : List (List ℕ)) (other : List ℕ) → IsMap had → merge_of files had paths ≡ Err (Refused (TooManyEntries other)) → IsRefusedAt files had paths other
  refusal_is_of_sheets had [] other is e = absurd (cc)
  refusal_is_of_sheets had (path ∷ paths) other is e = by (sheet_in files path) (λ sheet. refusal_is_of_sheets (merged had sheet) paths other) refl e
    where
      Rest : Type 0
      Rest = (sheet : List SheetRow) → IsMap (merged had sheet) → merge_of files (merged had sheet) paths ≡ Err (Refused (TooManyEntries other)) → IsRefusedAt files (merged had sheet) paths other

      joined : (sheet : List SheetRow) → Rest → sheet_in files path ≡ Ok sheet → (b : Bool) → nat_lt ENTRY_LIMIT (length (merged had sheet)) ≡ b →
          (cond b (Err (Refused (TooManyEntries path))) (Ok (merged had sheet)) >>= (λ rows. merge_of files rows paths)) ≡ Err (Refused (TooManyEntries other)) → IsRefusedAt files had (path ∷ paths) other
      joined sheet rest read true many e =
          let same : path ≡ other = cc in
          let lt : ENTRY_LIMIT < length (merged had sheet) = omega (arith, leb-true (suc ENTRY_LIMIT) (length (merged had sheet)) many) in
          record {
            before = [];
            after = paths;
            split = ap (λ p. p ∷ paths) same;
            sheets = sheet ∷ [];
            said = ap (λ r. r ∷ []) (ap (sheet_in files) (sym same) ∙ read);
            refused = (merged had sheet, merged_is_merge had sheet is, inr (lt, refl));
          }
      joined sheet rest read false few e =
          let merge = merged_is_merge had sheet is in
          let next = rest sheet merge.is_map e in
          let le : length (merged had sheet) ≤ ENTRY_LIMIT = omega (arith, leb-false (suc ENTRY_LIMIT) (length (merged had sheet)) few) in
          record {
            before = path ∷ next.before;
            after = next.after;
            split = ap (λ ps. path ∷ ps) next.split;
            sheets = sheet ∷ next.sheets;
            said = ap₂ (λ r rs. r ∷ rs) read next.said;
            refused = (merged had sheet, merge, inl (le, next.refused));
          }

      by : (r : Result (List SheetRow) Stop) → Rest → sheet_in files path ≡ r → ((r >>= (λ rows. joined_to path had rows)) >>= (λ rows. merge_of files rows paths)) ≡ Err (Refused (TooManyEntries other)) → IsRefusedAt files had (path ∷ paths) other
      by (Err why) rest read e =
          let same : why ≡ Refused (TooManyEntries other) = cc in
          absurd (never_too_many path other (files path) (read ∙ ap Err same))
      by (Ok sheet) rest read e = joined sheet rest read (nat_lt ENTRY_LIMIT (length (merged had sheet))) refl e
