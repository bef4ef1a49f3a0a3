-- The totals of a session.
use Rattle.std.proofs.Common.{◌≡◌, ℕ, ◌<◌, List, [], length, map, get_or, Option, Some, None, ap, sym, subst, ◌∙◌}
use Rattle.std.specs.Prelude.{IfSome, is_some, false}
use Rattle.std.proofs.Math.ListN.{set}
use Rattle.std.proofs.lemmas.List.{length-map, length-set}
use Rattle.desk_model.specs.Desk.{Desk, IsDesk, topics_under}
use Rattle.desk_model.specs.Pairs.{pairs_of}
use Rattle.desk_model.specs.Verdict.{verdict}
use Rattle.desk_model.specs.declared.types.Mark.{Mark}
use Rattle.desk_model.specs.declared.types.MeasureName.{MeasureName}
use Rattle.topic_counts.specs.declared.span.Span.{Span}
use Rattle.measure_core.specs.declared.cell.Cell.{Cell}
use Rattle.next_document.specs.Kept.{HeldTotals as Weights, AreKeptFor}
use Rattle.next_document.proofs.Elsewhere.{were_kept}
use Rattle.desk_report.specs.Reports.{Subject, IsSubjectOf, AreWeightsOf}
use Rattle.desk_report.proofs.Reporting.{table_numbers}
use Rattle.pair_table.specs.Kept.{Kept, StandsFor, table_sums}
use Rattle.pair_table.specs.Sums.{pair_sums, run_numbers}
use Rattle.pair_table.proofs.PairNumbers.{length-pairs_of}
use Rattle.session_replies.specs.State.{Numbers, AreWeightsFor, WereWeightsFor}

-- a table has a verdict for each pair
pub verdict_each : {M : Type 0} (cell : List Mark → List ℕ → List ℕ → Cell) (bound : List Mark → List ℕ → Span) (desk : Desk) (marks : List (List Mark)) (table : Kept M) → StandsFor cell bound desk marks table →
    length (map verdict table.totals) ≡ length (pairs_of desk.runs)
verdict_each cell bound desk marks table h =
    length-map table.totals verdict ∙ ap length h.sums.totals
    ∙ length-map (pairs_of (run_numbers (length desk.runs))) (λ (pair : ℕ × ℕ). pair_sums cell (topics_under desk marks) pair.0 pair.1) ∙ length-pairs_of desk.runs 0

-- totals that are there were those of marks that differ in one topic, for the marks with another mark of one document
pub weights_were : {M : Type 0} (n : Numbers M) (desk : Desk) (marks : List (List Mark)) (topic doc : ℕ) (mark : Mark) (weights : Option Weights) (table : Option (Kept M)) → topic < length marks →
    IfSome table (λ t. StandsFor (n.cell t.measure) (n.bound t.measure) desk marks t) → AreWeightsFor n desk marks weights table →
    WereWeightsFor n topic desk (set marks topic (set (get_or marks topic []) doc mark)) weights table
weights_were n desk marks topic doc mark None table within stands h = tt
weights_were n desk marks topic doc mark (Some weights) None within stands h = absurd h
weights_were n desk marks topic doc mark (Some weights) (Some t) within stands h = (
  were_kept (n.name t.measure) desk marks topic (set (get_or marks topic []) doc mark) weights within (length-set (get_or marks topic []) doc mark) h.0,
  ap length h.1 ∙ verdict_each (n.cell t.measure) (n.bound t.measure) desk marks t stands,
)

-- where no table is there, there are no totals, and so none of another table
pub weights_where_none : {M : Type 0} (n : Numbers M) (desk : Desk) (marks : List (List Mark)) (weights : Option Weights) (table : Option (Kept M)) (made : Kept M) → is_some table ≡ false → AreWeightsFor n desk marks weights table →
    AreWeightsFor n desk marks weights (Some made)
weights_where_none n desk marks None table made none h = tt
weights_where_none n desk marks (Some weights) None made none h = absurd h
weights_where_none n desk marks (Some weights) (Some t) made none h = absurd (cc)

-- ---- what is said of totals that are there
pub weights_ready : {M : Type 0} (measured : MeasureName) (cell : List Mark → List ℕ → List ℕ → Cell) (bound : List Mark → List ℕ → Span) (desk : Desk) (marks : List (List Mark)) (table : Kept M) (weights : Weights) (s : Subject) → IsDesk desk →
    AreKeptFor measured desk marks weights × (weights.verdicts ≡ map verdict table.totals) → s.marks ≡ marks → IsSubjectOf measured cell bound desk (table_sums table) s → AreWeightsOf s weights
weights_ready measured cell bound desk marks table weights s valid h marked of = record {
  totals = table.totals;
  summed = (table_numbers measured cell bound desk valid (table_sums table) s of).pairs;
  decided = h.1;
  kept = subst (λ m. AreKeptFor m s.desk s.marks weights) of.on.made.named
      (subst (λ d. AreKeptFor measured d s.marks weights) (sym of.over) (subst (λ ms. AreKeptFor measured desk ms weights) (sym marked) h.0));
}
