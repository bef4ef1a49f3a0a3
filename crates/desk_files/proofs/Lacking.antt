-- A desk, and then a sheet.
use Rattle.std.proofs.Common.{◌≡◌, ◌⊎◌, ℕ, ◌<◌, true, false, true≢false, is_some, List, [], ◌∷◌, length, take, refl, ap, ap₂, sym, subst, ◌∙◌, arith, inl, inr}
use Rattle.std.specs.Prelude.{All, Option, Some, None, Result, Ok, Err, IfSome}
use Rattle.std.proofs.Math.Nat.{le_refl}
use Rattle.std.proofs.lemmas.Bool.{cases_order}
use Rattle.std.proofs.lemmas.List.{length-take-le, get_or-take}
use Rattle.std.proofs.lemmas.List.Elements.{All-get_or}
use Rattle.desk_outside.specs.Outside.{Files}
use Rattle.desk_words.specs.declared.command.Placing.{Placing}
use Rattle.file_rows.specs.Grouped.{TopicRows}
use Rattle.run_reader.specs.Run.{Run}
use Rattle.desk_model.specs.Desk.{Desk}
use Rattle.topics_pool.specs.Rows.{IsDeskOf}
use Rattle.sheet_merge.specs.Sheet.{SheetPlace, SheetRow}
use Rattle.sheet_merge.specs.Packed.{no_row, row_at}
use Rattle.sheet_merge.specs.Placed.{is_document_of, is_placed, LacksPlace, IsFirstLack}
use Rattle.sheet_merge.specs.declared.sheet.NotPlaced.{NotPlaced}
use Rattle.sheet_merge.specs.declared.sheet.NotPlaced.TheVariants as lacks
use Rattle.desk_files.specs.declared.stop.Stop.{Stop as KeptStop}
use Rattle.desk_files.specs.declared.stop.Stop.TheVariants as kept
use Rattle.desk_files.specs.Files.{Stop, Refused, UnknownTopic, UnknownDocument}
use Rattle.desk_files.specs.Lacks.{TellsLack}
use Rattle.desk_files.specs.Load.{Loaded}
use Rattle.desk_files.specs.Outcome.{StopsAt, Stops}
use Rattle.desk_files.specs.Placings.{placing_sources, refusal_of_lack, HavePlaces, HasNoPlace, SheetComes, sheet_file, PlacingComes, PlacingMayOpen}
use Rattle.desk_files.specs.Reads.{ToEnd, Somewhere, extent_at}
use Rattle.desk_files.specs.Sheets.{sheet_in}
use Rattle.desk_files.specs.Views.{stop_of}
use Rattle.desk_files.proofs.Stopping.{stops_at_too}
use Rattle.desk_files.proofs.Then.{then_opens_qrels, same_stop, same_found, never_both, one_then}

-- the judgements' path alone may be opened
pub placing_opens_qrels : (known : Option Files) (placing : Placing) → PlacingMayOpen known placing (placing.qrels ∷ [])
placing_opens_qrels known placing = then_opens_qrels (placing_sources placing) placing.sheet known

-- ---- what the file of a sheet comes to
-- every row has its place
pub sheet_comes : (known : Option Files) (path : List ℕ) (rows : Loaded) (desk : Desk) (sheet : List SheetRow) → IsDeskOf rows.qrels rows.runs desk → IfSome known (λ files. sheet_in files path ≡ Ok sheet) → All (λ row. is_placed desk row.0 ≡ true) sheet →
    IfSome known (λ files. SheetComes path files rows (Ok sheet))
sheet_comes None path rows desk sheet ranked read all = tt
sheet_comes (Some files) path rows desk sheet ranked read all = (read, (desk, ranked, all))

-- it is missing or refused
pub sheet_missing : (known : Option Files) (before now : ℕ) (path : List ℕ) (rows : Loaded) (stop : KeptStop) → Stops known before now stop (λ held. sheet_in held path) → StopsAt known before now stop (λ files why. SheetComes path files rows (Err why))
sheet_missing known before now path rows stop stops =
    stops_at_too known before before now stop (λ files why. sheet_in files path ≡ Err why) (λ files why. SheetComes path files rows (Err why)) (le_refl before) stops (λ files why told stops. inl stops)

-- a row has none
pub sheet_stops : (known : Option Files) (before now : ℕ) (path : List ℕ) (rows : Loaded) (desk : Desk) (sheet : List SheetRow) (stop : KeptStop) → IsDeskOf rows.qrels rows.runs desk → IfSome known (λ files. sheet_in files path ≡ Ok sheet) → TellsLack path desk sheet stop →
    StopsAt known before now stop (λ files why. SheetComes path files rows (Err why))
sheet_stops None before now path rows desk sheet (kept.Refused refusal) ranked read tells = tt
sheet_stops (Some files) before now path rows desk sheet (kept.Refused refusal) ranked read tells = inr (sheet, read, (desk, ranked, tells.0, tells.1, ap Refused tells.2))
sheet_stops known before now path rows desk sheet kept.Outside ranked read tells = absurd tells
sheet_stops known before now path rows desk sheet kept.Memory ranked read tells = tt

-- its file is read to the end
pub lack_extent : (path : List ℕ) (desk : Desk) (sheet : List SheetRow) (stop : KeptStop) → TellsLack path desk sheet stop → (extent_at (stop_of stop) ≡ ToEnd) ⊎ (extent_at (stop_of stop) ≡ Somewhere)
lack_extent path desk sheet (kept.Refused refusal) tells = inl (ap (λ r. extent_at (Refused r)) tells.2 ∙ by tells.0)
  where
    by : (lack : NotPlaced) → extent_at (Refused (refusal_of_lack path lack)) ≡ ToEnd
    by (lacks.UnknownTopic topic) = refl
    by (lacks.UnknownDocument topic document) = refl
lack_extent path desk sheet kept.Outside tells = absurd tells
lack_extent path desk sheet kept.Memory tells = inr refl

-- ---- one row alone is the first that has no place
module _ (desk : Desk) (rows : List SheetRow) where
  no_place : (place : SheetPlace) (lack : NotPlaced) → LacksPlace desk place lack → is_placed desk place ≡ false
  no_place place (lacks.UnknownTopic topic) is = ap (is_document_of desk place.1) is.1
  no_place place (lacks.UnknownDocument topic document) is = is.3

  all_or_lack : (lack : NotPlaced) → All (λ (row : SheetRow). is_placed desk row.0 ≡ true) rows → IsFirstLack desk rows lack → ⊥
  all_or_lack lack all first =
      true≢false (sym (All-get_or (λ (row : SheetRow). is_placed desk row.0 ≡ true) rows first.number no_row first.within all) ∙ no_place (row_at rows first.number).0 lack first.lacks)

  none_before : (lack other : NotPlaced) (first : IsFirstLack desk rows lack) (next : IsFirstLack desk rows other) → first.number < next.number → ⊥
  none_before lack other first next lt =
      let n = next.number in
      let within = next.within in
      let long : first.number < length (take n rows) = omega (arith, lt, length-take-le n rows (omega (arith, within))) in
      let is : is_placed desk (row_at (take n rows) first.number).0 ≡ true = All-get_or (λ (row : SheetRow). is_placed desk row.0 ≡ true) (take n rows) first.number no_row long next.earlier in
      let same : row_at (take n rows) first.number ≡ row_at rows first.number = get_or-take n rows first.number no_row lt in
      true≢false (sym (subst (λ (row : SheetRow). is_placed desk row.0 ≡ true) same is) ∙ no_place (row_at rows first.number).0 lack first.lacks)

  same_lack : (path : List ℕ) (place : SheetPlace) (lack other : NotPlaced) → LacksPlace desk place lack → LacksPlace desk place other → refusal_of_lack path lack ≡ refusal_of_lack path other
  same_lack path place (lacks.UnknownTopic t) (lacks.UnknownTopic u) h k = ap (λ topic. UnknownTopic path topic) (h.0 ∙ sym k.0)
  same_lack path place (lacks.UnknownTopic t) (lacks.UnknownDocument u d) h k = absurd (true≢false (sym k.2 ∙ ap is_some h.1))
  same_lack path place (lacks.UnknownDocument t d) (lacks.UnknownTopic u) h k = absurd (true≢false (sym h.2 ∙ ap is_some k.1))
  same_lack path place (lacks.UnknownDocument t d) (lacks.UnknownDocument u e) h k = ap₂ (λ topic document. UnknownDocument path topic document) (h.0 ∙ sym k.0) (h.1 ∙ sym k.1)

  one_lack : (path : List ℕ) (lack other : NotPlaced) → IsFirstLack desk rows lack → IsFirstLack desk rows other → refusal_of_lack path lack ≡ refusal_of_lack path other
  one_lack path lack other first next =
      elim (cases_order first.number next.number) [
        | inl same ↦ same_lack path (row_at rows next.number).0 lack other (subst (λ n. LacksPlace desk (row_at rows n).0 lack) same first.lacks) next.lacks
        | inr (inl lt) ↦ absurd (none_before lack other first next lt)
        | inr (inr gt) ↦ absurd (none_before other lack next first gt)
      ]

-- ---- the files come to one thing alone, where rows make one desk
module _ (desk_one : (qrels : List TopicRows) (runs : List Run) (d e : Desk) → IsDeskOf qrels runs d → IsDeskOf qrels runs e → d ≡ e) where
  places_or_not : (path : List ℕ) (rows : Loaded) (sheet : List SheetRow) (why : Stop) → HavePlaces rows sheet → HasNoPlace path rows sheet why → ⊥
  places_or_not path rows sheet why (desk, ranked, all) (other, also, lack, first, is) =
      all_or_lack desk sheet lack all (subst (λ d. IsFirstLack d sheet lack) (desk_one rows.qrels rows.runs other desk also ranked) first)

  one_refusal : (path : List ℕ) (rows : Loaded) (sheet : List SheetRow) (why other : Stop) → HasNoPlace path rows sheet why → HasNoPlace path rows sheet other → why ≡ other
  one_refusal path rows sheet why other (desk, ranked, lack, first, is) (again, also, next, second, same) =
      let moved = subst (λ d. IsFirstLack d sheet lack) (desk_one rows.qrels rows.runs desk again ranked also) first in
      is ∙ ap Refused (one_lack again sheet path lack next moved second) ∙ sym same

  one_sheet : (path : List ℕ) (files : Files) (rows : Loaded) (x y : Result (List SheetRow) Stop) → SheetComes path files rows x → SheetComes path files rows y → x ≡ y
  one_sheet path files rows (Ok a) (Ok b) (read, places) (again, also) = ap Ok (same_found (sheet_in files path) a b read again)
  one_sheet path files rows (Ok a) (Err h) (read, places) (inl stops) = absurd (never_both (sheet_in files path) a h read stops)
  one_sheet path files rows (Ok a) (Err h) (read, places) (inr (b, again, none)) =
      absurd (places_or_not path rows b h (subst (λ sheet. HavePlaces rows sheet) (same_found (sheet_in files path) a b read again) places) none)
  one_sheet path files rows (Err h) (Ok b) (inl stops) (again, also) = absurd (never_both (sheet_in files path) b h again stops)
  one_sheet path files rows (Err h) (Ok b) (inr (a, read, none)) (again, places) =
      absurd (places_or_not path rows a h (subst (λ sheet. HavePlaces rows sheet) (same_found (sheet_in files path) b a again read) places) none)
  one_sheet path files rows (Err h) (Err k) (inl stops) (inl also) = ap Err (same_stop h k (sheet_in files path) stops also)
  one_sheet path files rows (Err h) (Err k) (inl stops) (inr (b, again, none)) = absurd (never_both (sheet_in files path) b h again stops)
  one_sheet path files rows (Err h) (Err k) (inr (a, read, none)) (inl stops) = absurd (never_both (sheet_in files path) a k read stops)
  one_sheet path files rows (Err h) (Err k) (inr (a, read, none)) (inr (b, again, also)) =
      ap Err (one_refusal path rows b h k (subst (λ sheet. HasNoPlace path rows sheet h) (same_found (sheet_in files path) a b read again) none) also)

  pub one_placing : (placing : Placing) (files : Files) (x y : Result (Loaded × List SheetRow) Stop) → PlacingComes files placing x → PlacingComes files placing y → x ≡ y
  one_placing placing files x y comes again = one_then files (placing_sources placing) (sheet_file placing) (λ rows x y. one_sheet placing.sheet files rows x y) x y comes again
