-- Files that are read one after the other.
use Rattle.std.proofs.Common.{◌≡◌, ◌⊎◌, ℕ, List, [], ◌∷◌, ◌++◌, map, flat_map, refl, ap, sym, subst, ◌∙◌, append_assoc, append-nil, inl, inr}
use Rattle.std.specs.Prelude.{Result, Ok, Err, IfErr, IsErrAnd}
use Rattle.std.proofs.lemmas.Grind.{flat_map-append}
use Rattle.std.proofs.lemmas.List.{map-append}
use Rattle.desk_outside.specs.Calls.{ShelfCall, Opening, Reading, opened_in}
use Rattle.desk_outside.specs.declared.log.ReadCall.{ReadCall}
use Rattle.desk_outside.proofs.Logs.{opened_in-append, give_nothing}
use Rattle.file_rows.specs.declared.fault.FileFault.{FileFault}
use Rattle.file_rows.specs.declared.fault.FileFault.TheVariants as faults
use Rattle.desk_files.specs.declared.stop.Stop.{Stop as KeptStop}
use Rattle.desk_files.specs.declared.stop.Stop.TheVariants as kept
use Rattle.sheet_merge.specs.declared.fault.SheetFault.{SheetFault}
use Rattle.sheet_merge.specs.declared.fault.SheetFault.TheVariants as sheet_faults
use Rattle.desk_files.specs.Files.{Stop, stop_at, sheet_stop_at}
use Rattle.desk_files.specs.Views.{stop_of, answer_of}
use Rattle.desk_files.specs.Stopped.{IsStopOf}
use Rattle.desk_files.specs.Reads.{Extent, ToEnd, PastLimit, ToFailure, Somewhere, GoTo, FileReads, file_reads, calls_of, GoThrough, ReadsFile, ReadsFiles, extent_at, extent_of}
use Rattle.desk_files.proofs.Stopping.{handed_on}

-- ---- one file
no_opening : (reads : List ReadCall) → opened_in (map Reading reads) ≡ []
no_opening [] = refl
no_opening (read ∷ reads) = no_opening reads

-- its name was opened
pub file_opened : (name : List ℕ) (extent : Extent) (had has : List ShelfCall) → ReadsFile name extent had has → opened_in has ≡ opened_in had ++ name ∷ []
file_opened name extent had has file = ap opened_in file.added ∙ opened_in-append had (calls_of (file_reads name file.reads)) ∙ ap (λ names. opened_in had ++ name ∷ names) (no_opening file.reads)

-- the calls of one more read
pub calls_more : (had between has : List ShelfCall) (reads : List ReadCall) (read : ReadCall) → between ≡ had ++ map Reading reads → has ≡ between ++ Reading read ∷ [] → has ≡ had ++ map Reading (reads ++ read ∷ [])
calls_more had between has reads read before after =
    after ∙ ap (λ calls. calls ++ Reading read ∷ []) before ∙ append_assoc had (map Reading reads) (Reading read ∷ []) ∙ ap (λ calls. had ++ calls) (sym (map-append Reading reads (read ∷ [])))

module _ (name : List ℕ) (had between has : List ShelfCall) (opening : between ≡ had ++ Opening name ∷ []) where
  -- it was opened, and then read
  pub opened_and_read : (extent : Extent) (reads : List ReadCall) → has ≡ between ++ map Reading reads → GoTo extent reads → ReadsFile name extent had has
  opened_and_read extent reads added goes = record { reads = reads; added = added ∙ ap (λ calls. calls ++ map Reading reads) opening ∙ append_assoc had (Opening name ∷ []) (map Reading reads); goes = goes }

  -- it could not be opened
  pub not_opened : ReadsFile name ToFailure had between
  not_opened = record { reads = []; added = opening; goes = inl refl }

  -- memory ran out before it was read
  pub not_read : ReadsFile name Somewhere had between
  not_read = record { reads = []; added = opening; goes = inr (0, give_nothing) }

-- a file that is read to its end, after which memory may run out
pub to_end : (extent : Extent) (reads : List ReadCall) → (extent ≡ ToEnd) ⊎ (extent ≡ Somewhere) → GoTo ToEnd reads → GoTo extent reads
to_end extent reads (inl is) goes = subst (λ e. GoTo e reads) (sym is) goes
to_end extent reads (inr is) goes = subst (λ e. GoTo e reads) (sym is) (inl goes)

pub file_to_end : (name : List ℕ) (extent : Extent) (had has : List ShelfCall) → (extent ≡ ToEnd) ⊎ (extent ≡ Somewhere) → ReadsFile name ToEnd had has → ReadsFile name extent had has
file_to_end name extent had has far file = record { reads = file.reads; added = file.added; goes = to_end extent file.reads far file.goes }

-- a file with a fault is read to its end
is_stop : (why : Stop) (stop : KeptStop) → IsStopOf why stop → why ≡ stop_of stop
is_stop why (kept.Refused refusal) is = is
is_stop why kept.Outside is = absurd is
is_stop why kept.Memory is = is

pub goes_to_end : (why : Stop) (stop : KeptStop) (reads : List ReadCall) → (extent_at why ≡ ToEnd) ⊎ (extent_at why ≡ Somewhere) → IsStopOf why stop → GoTo ToEnd reads → GoTo (extent_at (stop_of stop)) reads
goes_to_end why stop reads far is goes = subst (λ why. GoTo (extent_at why) reads) (is_stop why stop is) (to_end (extent_at why) reads far goes)

pub fault_extent : (path : List ℕ) (fault : FileFault) → (extent_at (stop_at path fault) ≡ ToEnd) ⊎ (extent_at (stop_at path fault) ≡ Somewhere)
fault_extent path (faults.Line line why) = inl refl
fault_extent path faults.NoTopics = inl refl
fault_extent path faults.NoTag = inl refl
fault_extent path faults.Memory = inr refl

pub sheet_fault_extent : (path : List ℕ) (fault : SheetFault) → (extent_at (sheet_stop_at path fault) ≡ ToEnd) ⊎ (extent_at (sheet_stop_at path fault) ≡ Somewhere)
sheet_fault_extent path (sheet_faults.Line line why) = inl refl
sheet_fault_extent path sheet_faults.Memory = inr refl

-- a stop is handed on
pub file_handed_on : {X : Type 0} (name : List ℕ) (had has : List ShelfCall) (result : Result X KeptStop) (stop : KeptStop) → IsErrAnd result (λ e. e ≡ stop) → ReadsFile name (extent_at (stop_of stop)) had has → ReadsFile name (extent_of (answer_of result)) had has
file_handed_on name had has result stop is reads = handed_on (λ r. ReadsFile name (extent_of (answer_of r)) had has) result stop is reads

module _ {X : Type 0} (name : List ℕ) (had between : List ShelfCall) (result : Result X KeptStop) (stop : KeptStop) (is : IsErrAnd result (λ e. e ≡ stop)) (opening : between ≡ had ++ Opening name ∷ []) where
  -- it could not be opened
  pub opening_failed : stop ≡ kept.Outside → ReadsFile name (extent_of (answer_of result)) had between
  opening_failed outside = file_handed_on name had between result stop is (subst (λ e. ReadsFile name (extent_at (stop_of e)) had between) (sym outside) (not_opened name had between between opening))

  -- there was no memory to read it
  pub reading_failed : stop ≡ kept.Memory → ReadsFile name (extent_of (answer_of result)) had between
  reading_failed memory = file_handed_on name had between result stop is (subst (λ e. ReadsFile name (extent_at (stop_of e)) had between) (sym memory) (not_read name had between between opening))

-- ---- files one after the other
pub reads_none : (calls : List ShelfCall) → ReadsFiles ToEnd calls calls
reads_none calls = record { files = []; through = tt; added = sym (append-nil calls) }

pub reads_one : (name : List ℕ) (extent : Extent) (had has : List ShelfCall) → ReadsFile name extent had has → ReadsFiles extent had has
reads_one name extent had has one =
    let file = file_reads name one.reads in
    record { files = file ∷ []; through = one.goes; added = one.added ∙ ap (λ calls. had ++ calls) (sym (append-nil (calls_of file))) }

through_then : (files more : List FileReads) (extent : Extent) → GoThrough files ToEnd → GoThrough more extent → GoThrough (files ++ more) extent
through_then [] more extent whole next = next
through_then (file ∷ []) [] ToEnd whole next = whole
through_then (file ∷ []) [] Somewhere whole next = inl whole
through_then (file ∷ []) [] PastLimit whole next = absurd next
through_then (file ∷ []) [] ToFailure whole next = absurd next
through_then (file ∷ []) (other ∷ more) extent whole next = (whole, next)
through_then (file ∷ other ∷ files) more extent whole next = (whole.0, through_then (other ∷ files) more extent whole.1 next)

pub reads_then : (extent : Extent) (had between has : List ShelfCall) → ReadsFiles ToEnd had between → ReadsFiles extent between has → ReadsFiles extent had has
reads_then extent had between has first next = record {
  files = first.files ++ next.files;
  through = through_then first.files next.files extent first.through next.through;
  added = next.added ∙ ap (λ calls. calls ++ flat_map calls_of next.files) first.added ∙ append_assoc had (flat_map calls_of first.files) (flat_map calls_of next.files)
      ∙ ap (λ calls. had ++ calls) (sym (flat_map-append calls_of first.files next.files));
}

-- all were read, and then there may have been no memory
pub reads_all : (extent : Extent) (had has : List ShelfCall) → ReadsFiles ToEnd had has → (extent ≡ ToEnd) ⊎ (extent ≡ Somewhere) → ReadsFiles extent had has
reads_all extent had has whole (inl is) = subst (λ e. ReadsFiles e had has) (sym is) whole
reads_all extent had has whole (inr is) = subst (λ e. ReadsFiles e had has) (sym is) (reads_then Somewhere had has has whole (record { files = []; through = tt; added = sym (append-nil has) }))

pub files_handed_on : {X : Type 0} (had has : List ShelfCall) (result : Result X KeptStop) (stop : KeptStop) → IsErrAnd result (λ e. e ≡ stop) → ReadsFiles (extent_at (stop_of stop)) had has → ReadsFiles (extent_of (answer_of result)) had has
files_handed_on had has result stop is reads = handed_on (λ r. ReadsFiles (extent_of (answer_of r)) had has) result stop is reads

-- all were read, and then memory ran out
pub memory_after : {X : Type 0} (had has : List ShelfCall) (result : Result X KeptStop) → IsErrAnd result (λ e. e ≡ kept.Memory) → ReadsFiles ToEnd had has → ReadsFiles (extent_of (answer_of result)) had has
memory_after had has result is whole = files_handed_on had has result kept.Memory is (reads_all Somewhere had has whole (inr refl))

-- no file was read, and there may have been no memory
pub none_or_memory : {X : Type 0} (calls : List ShelfCall) (result : Result X KeptStop) → IfErr result (λ stop. stop ≡ kept.Memory) → ReadsFiles (extent_of (answer_of result)) calls calls
none_or_memory calls (Ok x) is = reads_none calls
none_or_memory calls (Err stop) is = subst (λ e. ReadsFiles (extent_at (stop_of e)) calls calls) (sym is) (reads_all Somewhere calls calls (reads_none calls) (inr refl))
