-- What holds of the commands on sheets.
use Rattle.std.proofs.Common.{◌≡◌, ℕ, List, [], ◌∷◌, refl, sym, subst, ◌∙◌, inl, arith}
use Rattle.std.specs.List.{Contains}
use Rattle.desk_words.specs.declared.command.Placing.{Placing}
use Rattle.desk_model.specs.Desk.{Desk}
use Rattle.desk_report.specs.Judging.{qrels_text}
use Rattle.sheet_merge.specs.Sheet.{SheetRow}
use Rattle.sheet_merge.specs.Text.{sheet_text}
use Rattle.sheet_report.specs.Applied.{all_under}
use Rattle.desk_top.specs.declared.status.Status.TheVariants.{Done}
use Rattle.desk_top.specs.Answer.{OfNothing}
use Rattle.desk_top.specs.Outcome.{Outcome, PrintsText}
use Rattle.desk_top.specs.Loading.{sheets_loading, placing_loading}
use Rattle.desk_top.specs.Meaning.{merge_meaning, apply_meaning}
use Rattle.desk_top.specs.Sheets.{PrintsMerge, PrintsApplied}
use Rattle.desk_top.proofs.OnSheets.{opens_first}
use Rattle.desk_files.proofs.Lacking.{placing_opens_qrels, one_placing}
use Rattle.desk_laws.specs.Fixed.{DeskIsOne}
use Rattle.desk_laws.proofs.LineEnds.{sheet_text_ends, qrels_text_ends}
use Rattle.desk_laws.proofs.Statuses.{IsLawfulLoading, HasEnds}
use Rattle.desk_laws.proofs.Answering.{HasLines, HasOneAnswer, outcome_ends, outcome_lines, outcome_one, text_status, text_lines, text_one}

done : Contains (Done ∷ []) Done
done = (0, omega arith, refl)

-- ---- the merge of sheets
module _ (paths : List (List ℕ)) where
  pub merge_lawful : IsLawfulLoading (sheets_loading paths)
  merge_lawful = record { one = λ files x y a b. sym a.1 ∙ b.1; opens = λ known refusal comes. opens_first known paths comes.0 }

  pub merge_ends : HasEnds (merge_meaning paths)
  merge_ends rows input answer is = inl (outcome_ends (Done ∷ []) (PrintsMerge rows) (λ outcome holds. text_status (Done ∷ []) Done OfNothing (λ text. text ≡ sheet_text rows) done outcome holds.prints) answer is)

  pub merge_lines : HasLines (merge_meaning paths)
  merge_lines rows input answer is = outcome_lines (PrintsMerge rows) (λ outcome holds. text_lines Done OfNothing (λ text. text ≡ sheet_text rows) (sheet_text_ends rows) outcome holds.prints) answer is

  pub merge_one : HasOneAnswer (merge_meaning paths)
  merge_one rows input first second is other = outcome_one (PrintsMerge rows) (λ o p h k. text_one Done OfNothing (λ text. text ≡ sheet_text rows) (λ t u x y. x ∙ sym y) o p h.prints k.prints) first second is other

-- ---- a sheet applied to judgements
module _ (desk_one : DeskIsOne) (placing : Placing) where
  pub placing_lawful : IsLawfulLoading (placing_loading placing)
  placing_lawful = record {
    one = λ files x y a b. one_placing desk_one placing files x y a b;
    opens = λ known refusal comes. (placing.qrels, placing_opens_qrels known placing);
  }

  -- on the desk of the rows
  abbrev OnDesk : List SheetRow → Desk → Outcome → Type 0
  OnDesk sheet desk outcome = PrintsText Done OfNothing (λ text. text ≡ qrels_text desk (all_under desk sheet)) outcome

  pub apply_ends : HasEnds (apply_meaning placing)
  apply_ends found input answer is =
      inl (outcome_ends (Done ∷ []) (PrintsApplied found) (λ outcome holds. text_status (Done ∷ []) Done OfNothing (λ text. text ≡ qrels_text holds.desk (all_under holds.desk found.1)) done outcome holds.prints) answer is)

  pub apply_lines : HasLines (apply_meaning placing)
  apply_lines found input answer is =
      outcome_lines (PrintsApplied found)
      (λ outcome holds. text_lines Done OfNothing (λ text. text ≡ qrels_text holds.desk (all_under holds.desk found.1)) (qrels_text_ends holds.desk (all_under holds.desk found.1)) outcome holds.prints) answer is

  pub apply_one : HasOneAnswer (apply_meaning placing)
  apply_one found input first second is other =
      outcome_one (PrintsApplied found)
      (λ o p h k. text_one Done OfNothing (λ text. text ≡ qrels_text h.desk (all_under h.desk found.1)) (λ t u x y. x ∙ sym y) o p h.prints
      (subst (λ d. OnDesk found.1 d p) (desk_one found.0.qrels found.0.runs k.desk h.desk k.ranked h.ranked) k.prints)) first second is other
