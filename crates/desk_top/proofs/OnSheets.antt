-- The meaning of the commands on sheets.
use Rattle.std.proofs.Common.{◌≡◌, ℕ, ◌<◌, List, [], ◌∷◌, length, take, refl, sym, subst, arith, inl, inr, Vec, Global}
use Rattle.std.specs.Prelude.{Option, Some, None, Result, Ok, Err, IfSome}
use Rattle.desk_outside.specs.Outside.{Files}
use Rattle.desk_model.specs.Desk.{Desk}
use Rattle.desk_words.specs.declared.command.Placing.{Placing}
use Rattle.desk_report.specs.Claims.{IsTrueText}
use Rattle.desk_report.specs.Judging.{qrels_text}
use Rattle.sheet_merge.specs.Sheet.{SheetRow, IsSheet}
use Rattle.sheet_merge.specs.Text.{sheet_text}
use Rattle.sheet_report.specs.Applied.{all_under}
use Rattle.desk_outside.specs.Seen.{Shelf}
use Rattle.desk_files.specs.Load.{Loaded}
use Rattle.desk_files.specs.Outcome.{Stops, StopsAt}
use Rattle.desk_files.specs.Placings.{PlacingComes, MakesPlacing}
use Rattle.desk_files.specs.Files.{Stop}
use Rattle.desk_files.specs.Sheets.{merge_of}
use Rattle.desk_files.specs.Views.{refusal_of}
use Rattle.desk_files.specs.declared.stop.Stop.{Stop as KeptStop}
use Rattle.desk_files.specs.declared.stop.Stop.TheVariants as kept
use Rattle.desk_top.specs.declared.outcome.Outcome.TheVariants as made
use Rattle.desk_top.specs.declared.status.Status.TheVariants.{Done}
use Rattle.desk_top.specs.Answer.{OfNothing}
use Rattle.desk_top.specs.Outcome.{Outcome, Prints}
use Rattle.desk_top.specs.Loading.{OpensFiles, sheets_loading, placing_loading}
use Rattle.desk_top.specs.Meaning.{merge_meaning, apply_meaning}
use Rattle.desk_top.specs.Meets.{IsTruthful}
use Rattle.desk_top.specs.Sheets.{PrintsMerge, PrintsApplied}
use Rattle.desk_top.specs.Truths.{PrintsTruth}
use Rattle.desk_top.specs.Works.{StopsLoading, Works}
use Rattle.desk_files.proofs.Lacking.{placing_opens_qrels}
use Rattle.desk_top.proofs.Reporting.{found_may_come, refusal_may_come, missing_may_come, stops_loading, makes_one_text}
use Rattle.desk_top.proofs.Truth.{IsTrueOutcome, outcome_is_true, one_text_is_true}

-- one text that speaks of nothing
abbrev one_text : List ℕ → Outcome
one_text text = Prints Done (record { about = OfNothing; text = text } ∷ [])

-- the first of some sheets may be opened
pub opens_first : (known : Option Files) (paths : List (List ℕ)) → 0 < length paths → OpensFiles (sheets_loading paths) known
opens_first known [] some = absurd (omega (arith, some))
opens_first None (path ∷ more) some = (path, (more, refl))
opens_first (Some files) (path ∷ more) some = (path, (_, refl))

-- ---- the merge of sheets
module _ (paths : List (List ℕ)) (some : 0 < length paths) (shelf : Shelf) (cells : ℕ) where
  abbrev Merges : Files → Result (List SheetRow) Stop → Type 0
  Merges files found = merge_of files [] paths ≡ found

  pub merge_works : (rows : List SheetRow) (text : Vec ℕ Global) → IfSome shelf.files (λ files. Merges files (Ok rows)) → IsSheet rows → text.items ≡ sheet_text rows → Works (merge_meaning paths) shelf cells cells (Ok (made.Prints text Done))
  merge_works rows text comes sheet is = (
    rows,
    (some, found_may_come Merges shelf.files rows comes),
    (
      makes_one_text (merge_meaning paths) rows OfNothing text.items Done tt (λ input. (one_text text.items, record { sheet = sheet; prints = (text.items, is, refl) }, refl)),
      (0, λ taken. refl, omega arith),
    ),
  )

  -- why nothing was made
  merge_stops : (stop : KeptStop) → Stops shelf.files shelf.before shelf.after stop (λ files. merge_of files [] paths) → StopsLoading (sheets_loading paths) shelf stop
  merge_stops (kept.Refused refusal) stops = (some, refusal_may_come Merges shelf.files (refusal_of refusal) stops)
  merge_stops kept.Outside (inl rose) = inl (opens_first shelf.files paths some, rose)
  merge_stops kept.Outside (inr missing) = inr (some, missing_may_come Merges shelf.files missing)
  merge_stops kept.Memory stops = tt

  pub merge_stopped : (stop : KeptStop) → Stops shelf.files shelf.before shelf.after stop (λ files. merge_of files [] paths) → Works (merge_meaning paths) shelf cells cells (Err stop)
  merge_stopped stop stops = (merge_stops stop stops, inl refl)

  pub merge_memory : (stop : KeptStop) → stop ≡ kept.Memory → Works (merge_meaning paths) shelf cells cells (Err stop)
  merge_memory stop is = (subst (StopsLoading (sheets_loading paths) shelf) (sym is) tt, inl refl)

-- ---- a sheet applied to judgements
module _ (placing : Placing) (shelf : Shelf) (cells : ℕ) where
  abbrev Places : Files → Result (Loaded × List SheetRow) Stop → Type 0
  Places files found = PlacingComes files placing found

  pub apply_works : (both : Desk × List SheetRow) (text : Vec ℕ Global) → MakesPlacing shelf.files shelf.before shelf.after placing (Ok both) → IsSheet both.1 → text.items ≡ qrels_text both.0 (all_under both.0 both.1) →
      Works (apply_meaning placing) shelf cells cells (Ok (made.Prints text Done))
  apply_works both text makes sheet is = (
    (makes.0, both.1),
    found_may_come Places shelf.files (makes.0, both.1) makes.1,
    (
      makes_one_text (apply_meaning placing) (makes.0, both.1) OfNothing text.items Done tt (λ input. (
        one_text text.items,
        record { desk = both.0; ranked = makes.2; sheet = sheet; prints = (text.items, is, refl) },
        refl,
      )),
      (0, λ taken. refl, omega arith),
    ),
  )

  pub apply_stopped : (stop : KeptStop) → StopsAt shelf.files shelf.before shelf.after stop (λ files why. PlacingComes files placing (Err why)) → Works (apply_meaning placing) shelf cells cells (Err stop)
  apply_stopped stop stops = (stops_loading Places (placing_loading placing).opens shelf stop (placing.qrels, placing_opens_qrels shelf.files placing) stops, inl refl)

  pub apply_memory : (stop : KeptStop) → stop ≡ kept.Memory → Works (apply_meaning placing) shelf cells cells (Err stop)
  apply_memory stop is = (subst (StopsLoading (placing_loading placing) shelf) (sym is) tt, inl refl)

-- ---- what they print claims nothing false
module _ (laws : PrintsTruth) where
  merge_true : (rows : List SheetRow) (outcome : Outcome) → PrintsMerge rows outcome → IsTrueOutcome outcome
  merge_true rows outcome is =
      one_text_is_true Done OfNothing (λ text. text ≡ sheet_text rows) (λ text n holds name desk marks. subst (λ t. IsTrueText name desk marks (take n t)) (sym holds) (laws.sheets name desk marks rows n is.sheet)) outcome is.prints

  pub merge_is_truthful : (paths : List (List ℕ)) → IsTruthful (merge_meaning paths)
  merge_is_truthful paths rows input answer is = outcome_is_true (PrintsMerge rows) (merge_true rows) answer is

  applied_true : (found : Loaded × List SheetRow) (outcome : Outcome) → PrintsApplied found outcome → IsTrueOutcome outcome
  applied_true found outcome is =
      one_text_is_true Done OfNothing (λ text. text ≡ qrels_text is.desk (all_under is.desk found.1))
      (λ text n holds name desk marks. subst (λ t. IsTrueText name desk marks (take n t)) (sym holds) (laws.judgements name is.desk desk marks (all_under is.desk found.1) n is.ranked.valid)) outcome is.prints

  pub apply_is_truthful : (placing : Placing) → IsTruthful (apply_meaning placing)
  apply_is_truthful placing found input answer is = outcome_is_true (PrintsApplied found) (applied_true found) answer is
