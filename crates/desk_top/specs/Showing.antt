-- What `demo` makes.
use Rattle.std.specs.Prelude.{◌≡◌, ◌⊎◌, ℕ, ◌+◌, ◌≤◌, List, [], ◌∷◌, ◌++◌, map, flat_map, None}
use Rattle.desk_model.specs.Desk.{Desk, file_marks}
use Rattle.desk_model.specs.Verdict.{verdict}
use Rattle.desk_model.specs.declared.types.MeasureName.TheVariants.{Precision}
use Rattle.desk_model.specs.declared.types.Totals.{Totals}
use Rattle.pair_table.specs.Numbers.{AreAllPairNumbers}
use Rattle.desk_report.specs.Table.{ended}
use Rattle.desk_report.specs.Reports.{Subject, subject, IsNextText, cells_of}
use Rattle.demo_desk.specs.Demo.{IsDemoDesk}
use Rattle.demo_desk.specs.Summary.{summary_lines}
use Rattle.desk_top.specs.declared.status.Status.TheVariants.{Done}
use Rattle.desk_top.specs.Answer.{OfProposal, OfNothing, Saying}
use Rattle.desk_top.specs.Outcome.{Outcome, Prints}

-- the demo is by precision at 10, and grades from 1 are relevant
abbrev pub demo_subject : Desk → Subject
demo_subject desk = subject (Precision 10) 1 None desk (map (file_marks 1) desk.topics)

-- the lines of the summary of a demo over its desk, of which so many rows were kept, and the line of what is to be judged next
pub record AreDemoTexts (seed : ℕ) (desk : Desk) (rows : ℕ) (lines : List (List ℕ)) (next : List ℕ) : Type 0 where
  pub totals : List Totals
  pub numbers : AreAllPairNumbers (demo_subject desk).measure desk (demo_subject desk).marks totals
  pub summary : lines ≡ summary_lines seed rows (demo_subject desk).marks (map verdict totals)
  pub proposal : IsNextText (demo_subject desk) next

-- a text is those lines and that line
pub record IsShown (seed : ℕ) (desk : Desk) (rows : ℕ) (text : List ℕ) : Type 0 where
  pub lines : List (List ℕ)
  pub next : List ℕ
  pub texts : AreDemoTexts seed desk rows lines next
  pub is : text ≡ flat_map ended lines ++ next

-- the whole text of a demo of a seed
pub record IsDemoText (seed : ℕ) (text : List ℕ) : Type 0 where
  pub desk : Desk
  pub rows : ℕ
  pub made : IsDemoDesk seed desk rows
  pub shown : IsShown seed desk rows text

-- the lines of the summary, and then that of what is to be judged next
abbrev pub demo_sayings : Desk → List (List ℕ) → List ℕ → List Saying
demo_sayings desk lines next = map (λ line. record { about = OfNothing; text = ended line }) lines ++ record { about = OfProposal (demo_subject desk); text = next } ∷ []

-- the texts of a demo of a seed
pub record PrintsDemo (seed : ℕ) (outcome : Outcome) : Type 0 where
  pub desk : Desk
  pub rows : ℕ
  pub made : IsDemoDesk seed desk rows
  pub lines : List (List ℕ)
  pub next : List ℕ
  pub texts : AreDemoTexts seed desk rows lines next
  pub is : outcome ≡ Prints Done (demo_sayings desk lines next)

-- something holds of the desk of a seed
pub record HasDemoDesk (seed : ℕ) (fact : Desk → Type 0) : Type 0 where
  pub desk : Desk
  pub rows : ℕ
  pub made : IsDemoDesk seed desk rows
  pub holds : fact desk

-- no step was taken, or at most pairs times topics were
abbrev pub CountsDemo : ℕ → ℕ → ℕ → Type 0
CountsDemo seed before after = (after ≡ before) ⊎ HasDemoDesk seed (λ desk. after ≤ before + cells_of desk)
