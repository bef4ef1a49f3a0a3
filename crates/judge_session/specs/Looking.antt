-- What a search from the end of a list finds for an undo.
use Rattle.std.specs.Prelude.{◌≡◌, ℕ, ◌+◌, Bool, ◌&&◌, not, if◌then◌else◌, List, [], ◌∷◌, Option, None, Some, ℤ, is_some}
use Rattle.std.specs.Option.{option_or}
use Rattle.judge_session.specs.Session.{is_live_by}
use Rattle.judge_session.specs.InForce.{is_live_on, grade_after}
use Rattle.judge_session.specs.Tally.{changed_document, last_document}
use Rattle.judge_session.specs.declared.change.Change.{Change}
use Rattle.judge_session.specs.declared.looking.Found.{Found}
use Rattle.judge_session.specs.declared.steps.UndoneMark.{UndoneMark}

-- what is found with one more change, which stands before those looked at, by whether it is a live one of the caller
-- and of the document: the caller's last live change counts for its place alone
abbrev pub looked_as : Bool → Bool → ℕ → Change → Found → Found
looked_as mine same place change found =
    if mine && not (is_some found.place) then record { place = Some place; next = found.next; grade = found.grade } else record {
      place = found.place;
      next = option_or found.next (if mine then Some (changed_document change) else None);
      grade = option_or found.grade (if same then Some change.grade else None);
    }

abbrev pub looked : List ℕ → ℕ → ℕ → ℕ → Change → Found → Found
looked who topic doc place change found = looked_as (is_live_by who change) (is_live_on topic doc change) place change found

-- what is found in a list that begins at a place
abbrev pub looked_back : List ℕ → ℕ → ℕ → ℕ → List Change → Found
looked_back who topic doc place [] = record { place = None; next = None; grade = None }
looked_back who topic doc place (change ∷ changes) = looked who topic doc place change (looked_back who topic doc (place + 1) changes)

-- the document of the caller's last live change in the old list, and the grade of its last live change in the new one
pub record IsMarkOf (who : List ℕ) (old new : List Change) (mark : UndoneMark) : Type 0 where
  pub document : last_document who old ≡ Some (mark.topic, mark.doc)
  pub grade : (file : Option ℤ) → grade_after file mark.topic mark.doc new ≡ option_or mark.grade file
