-- What files that were read say.
use Rattle.std.proofs.Common.{◌≡◌, ℕ, List, Bool, true, false, length, cond, refl, ap, subst, ◌∙◌}
use Rattle.std.specs.Prelude.{nat_le, nat_lt, Option, Some, None, Result, Ok, Err}
use Rattle.desk_outside.specs.Outside.{Files}
use Rattle.file_rows.specs.Grouped.{TopicRows}
use Rattle.qrels_reader.specs.Grouped.{qrels_of}
use Rattle.file_rows.specs.declared.fault.FileFault.{FileFault}
use Rattle.run_reader.specs.Run.{Run}
use Rattle.topics_pool.specs.Rows.{run_names, first_repeated}
use Rattle.topics_pool.specs.declared.limits.TheConstants.{MOST_CELLS}
use Rattle.desk_files.specs.Files.{Stop, Refused, FileTooLong, TooManyCells, ◌>>=◌, whole_file, or_faulty, file_as}
use Rattle.desk_files.specs.Load.{Sources, Loaded, loaded, runs_of, used_by, cells_in_all, within}
use Rattle.desk_files.specs.declared.limits.TheConstants.{LONGEST_FILE}

-- ---- two steps
pub record HasSteps {A B : Type 0} (r : Result A Stop) (next : A → Result B Stop) (y : B) : Type 0 where
  pub value : A
  pub found : r ≡ Ok value
  pub made : next value ≡ Ok y

pub steps : {A B : Type 0} (r : Result A Stop) (next : A → Result B Stop) (y : B) → (r >>= next) ≡ Ok y → HasSteps r next y
steps (Ok x) next y e = record { value = x; found = refl; made = e }
steps (Err why) next y e = absurd (cc)

-- ---- one file
-- the bytes of a file, where they are few enough
abbrev pub if_short : List ℕ → List ℕ → Bool → Result (List ℕ) Stop
if_short path bytes short = cond short (Ok bytes) (Err (Refused (FileTooLong path)))

pub record IsRead {X : Type 0} (read : List ℕ → Result X FileFault) (files : Files) (path : List ℕ) (x : X) : Type 0 where
  pub bytes : List ℕ
  pub there : files path ≡ Some bytes
  pub short : nat_le (length bytes) LONGEST_FILE ≡ true
  pub says : read bytes ≡ Ok x

faultless : {X : Type 0} (path : List ℕ) (r : Result X FileFault) (x : X) → or_faulty path r ≡ Ok x → r ≡ Ok x
faultless path (Ok y) x e = cc
faultless path (Err fault) x e = absurd (cc)

pub file_read : {X : Type 0} (read : List ℕ → Result X FileFault) (files : Files) (path : List ℕ) (x : X) → file_as read files path ≡ Ok x → IsRead read files path x
file_read {X} read files path x e = by (files path) refl e
  where
    kept : (bytes : List ℕ) (b : Bool) → nat_le (length bytes) LONGEST_FILE ≡ b → files path ≡ Some bytes → (if_short path bytes b >>= (λ bytes. or_faulty path (read bytes))) ≡ Ok x → IsRead read files path x
    kept bytes true short there e = record { bytes = bytes; there = there; short = short; says = faultless path (read bytes) x e }
    kept bytes false short there e = absurd (cc)

    by : (o : Option (List ℕ)) → files path ≡ o → (whole_file path o >>= (λ bytes. or_faulty path (read bytes))) ≡ Ok x → IsRead read files path x
    by None there e = absurd (cc)
    by (Some bytes) there e = kept bytes (nat_le (length bytes) LONGEST_FILE) refl there e

-- the same bytes, elsewhere
pub file_again : {X Y : Type 0} (read : List ℕ → Result X FileFault) (other : List ℕ → Result Y FileFault) (files again : Files) (path : List ℕ) (x : X) (is : IsRead read files path x) → again path ≡ files path →
    file_as other again path ≡ or_faulty path (other is.bytes)
file_again read other files again path x is same =
    ap (λ o. whole_file path o >>= (λ bytes. or_faulty path (other bytes))) (same ∙ is.there)
    ∙ ap (λ b. if_short path is.bytes b >>= (λ bytes. or_faulty path (other bytes))) is.short

-- ---- all rows together
pub record AreWithin (tables : ℕ) (qrels : List TopicRows) (runs : List Run) : Type 0 where
  pub names : first_repeated (run_names runs) ≡ None
  pub cells : nat_lt MOST_CELLS (cells_in_all tables qrels runs) ≡ false

pub rows_within : (tables : ℕ) (qrels : List TopicRows) (runs : List Run) (rows : Loaded) → within tables qrels runs (first_repeated (run_names runs)) ≡ Ok rows → AreWithin tables qrels runs × (record { qrels = qrels; runs = runs } ≡ rows)
rows_within tables qrels runs rows e = by (first_repeated (run_names runs)) refl e
  where
    own : Loaded
    own = record { qrels = qrels; runs = runs }

    small : (b : Bool) → nat_lt MOST_CELLS (cells_in_all tables qrels runs) ≡ b → first_repeated (run_names runs) ≡ None → cond b (Err (Refused (TooManyCells (cells_in_all tables qrels runs)))) (Ok own) ≡ Ok rows → AreWithin tables qrels runs × (own ≡ rows)
    small true cells names e = absurd (cc)
    small false cells names e = (record { names = names; cells = cells }, cc)

    by : (o : Option ℕ) → first_repeated (run_names runs) ≡ o → within tables qrels runs o ≡ Ok rows → AreWithin tables qrels runs × (own ≡ rows)
    by (Some r) names e = absurd (cc)
    by None names e = small (nat_lt MOST_CELLS (cells_in_all tables qrels runs)) refl names e

pub within_again : (tables : ℕ) (qrels : List TopicRows) (runs : List Run) → AreWithin tables qrels runs → within tables qrels runs (first_repeated (run_names runs)) ≡ Ok (record { qrels = qrels; runs = runs })
within_again tables qrels runs h =
    let own : Loaded = record { qrels = qrels; runs = runs } in
    ap (within tables qrels runs) h.names ∙ ap (λ b. cond b (Err (Refused (TooManyCells (cells_in_all tables qrels runs)))) (Ok own)) h.cells

-- the files of a desk, taken apart
pub record AreLoaded (files : Files) (from : Sources) (rows : Loaded) : Type 0 where
  pub judgements : IsRead qrels_of files from.qrels rows.qrels
  pub runs : runs_of files rows.qrels (used_by rows.qrels) from.runs ≡ Ok rows.runs
  pub together : AreWithin from.tables rows.qrels rows.runs

pub taken_apart : (files : Files) (from : Sources) (rows : Loaded) → loaded files from ≡ Ok rows → AreLoaded files from rows
unfolding loaded
taken_apart files from rows e =
    let first = steps (file_as qrels_of files from.qrels) (λ qrels. runs_of files qrels (used_by qrels) from.runs >>= (λ runs. within from.tables qrels runs (first_repeated (run_names runs)))) rows e in
    let second = steps (runs_of files first.value (used_by first.value) from.runs) (λ runs. within from.tables first.value runs (first_repeated (run_names runs))) rows first.made in
    let both = rows_within from.tables first.value second.value rows second.made in
    subst (AreLoaded files from) both.1 (record { judgements = file_read qrels_of files from.qrels first.value first.found; runs = second.found; together = both.0 })
