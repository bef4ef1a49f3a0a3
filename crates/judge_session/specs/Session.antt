-- A session of judging: a list of changes, and what each step leaves of it.
use Rattle.std.specs.Prelude.{◌≡◌, ℕ, ◌≤◌, Bool, true, false, not, ◌&&◌, ◌||◌, if◌then◌else◌, filter, List, [], ◌∷◌, ◌++◌, length, Option, None, Some, ℤ}
use Rattle.std.specs.List.{list_any}
use Rattle.desk_model.specs.Name.{is_same_name}
use Rattle.judge_session.specs.declared.change.Change.{Change}

-- whether a change is this caller's
abbrev pub is_by : List ℕ → Change → Bool
is_by who change = is_same_name change.who who

-- whether it is a live change of this caller
abbrev pub is_live_by : List ℕ → Change → Bool
is_live_by who change = change.live && is_by who change

-- whether it is an undone change of this caller
abbrev pub is_undone_by : List ℕ → Change → Bool
is_undone_by who change = not change.live && is_by who change

-- the change, live or undone
abbrev pub with_live : Bool → Change → Change
with_live live change = record change { live = live }

-- the changes without the caller's undone ones
abbrev pub without_undone : List ℕ → List Change → List Change
without_undone who changes = filter (λ change. not (is_undone_by who change)) changes

-- a judgement drops its caller's undone changes and appends a live one
abbrev pub judged : List ℕ → ℕ → ℕ → ℤ → List Change → List Change
judged who topic doc grade changes = without_undone who changes ++ (record { who = who; topic = topic; doc = doc; grade = grade; live = true }) ∷ []

-- an undo marks the caller's last live change: the live one after which no other is live
abbrev pub undone : List ℕ → List Change → List Change
undone who [] = []
undone who (change ∷ changes) = (if is_live_by who change && not (list_any (is_live_by who) changes) then with_live false change else change) ∷ undone who changes

-- a redo makes the caller's first undone change live, at its place
abbrev pub redone : List ℕ → List Change → List Change
redone who [] = []
redone who (change ∷ changes) = if is_undone_by who change then with_live true change ∷ changes else change ∷ redone who changes

-- the last change that passes a test
abbrev pub last_that : (Change → Bool) → List Change → Option Change
last_that test [] = None
last_that test (change ∷ changes) = if list_any test changes then last_that test changes else if test change then Some change else None

-- the first change that passes a test
abbrev pub first_that : (Change → Bool) → List Change → Option Change
first_that test [] = None
first_that test (change ∷ changes) = if test change then Some change else first_that test changes

-- after an undone change no live one of its caller follows
abbrev pub is_in_turn : List Change → Bool
is_in_turn [] = true
is_in_turn (change ∷ changes) = (change.live || not (list_any (is_live_by change.who) changes)) && is_in_turn changes

-- the most changes of a session
abbrev pub CHANGE_LIMIT : ℕ
CHANGE_LIMIT = 1000000

-- the changes of a session: at most 1,000,000, and each caller's undone ones after that caller's live ones
pub record IsSession (changes : List Change) : Type 0 where
  pub small : length changes ≤ CHANGE_LIMIT
  pub in_turn : is_in_turn changes ≡ true
