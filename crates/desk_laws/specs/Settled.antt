-- Two `pair` lines of one session, where no document was judged anew between them.
use Rattle.std.specs.Prelude.{◌≡◌, ℕ, List, [], ◌∷◌, ◌++◌, slice_index_or, Ok, codes, ℤ}
use Rattle.desk_model.specs.Mark.{mark_at}
use Rattle.desk_model.specs.declared.types.Mark.TheVariants.{Unjudged}
use Rattle.desk_model.specs.declared.types.Verdict.{Verdict}
use Rattle.desk_model.specs.declared.types.Verdict.TheVariants.{Above, Below, Equal, Open, Close}
use Rattle.judge_session.specs.InForce.{judgeable}
use Rattle.judge_session.specs.declared.change.Change.{Change}
use Rattle.desk_report.specs.Table.{word_of, ended}
use Rattle.judge_session.specs.Request.{Judge, Pair, Heard, Asked, heard_of}
use Rattle.session_replies.specs.Replies.{Setting, marks_after, changes_after, accepted, IsReply}
use Rattle.session_replies.specs.State.{IsSetting}
use Rattle.session_stream.specs.Text.{changes_over}

-- a line is a judgement of a document whose mark is unjudged
pub record JudgesUnjudged (s : Setting) (heard : Heard) (changes : List Change) : Type 0 where
  pub who : List ℕ
  pub topic : List ℕ
  pub doc : List ℕ
  pub grade : ℤ
  pub asked : heard ≡ Asked (Judge who topic doc grade)
  pub place : ℕ × ℕ
  pub found : judgeable s.desk who topic doc changes ≡ Ok place
  pub unjudged : mark_at (slice_index_or (marks_after s changes) place.0 []) place.1 ≡ Unjudged

-- each line that is a change and is accepted is a judgement of such a document, by the changes before the line
abbrev pub OnlyJudgeUnjudged : Setting → List (List ℕ) → List Change → Type 0
OnlyJudgeUnjudged s [] changes = Unit {0}
OnlyJudgeUnjudged s (line ∷ lines) changes =
    (accepted s.desk (heard_of line) changes ≡ 1 → JudgesUnjudged s (heard_of line) changes) × OnlyJudgeUnjudged s lines (changes_after s.desk (heard_of line) changes)

-- a verdict says that one run is always above the other, or that both are always equal
abbrev pub IsSettled : Verdict → Type 0
IsSettled Above = Unit {0}
IsSettled Below = Unit {0}
IsSettled Equal = Unit {0}
IsSettled Open = ⊥
IsSettled Close = ⊥

-- the same said of the swapped runs
abbrev pub swapped : Verdict → Verdict
swapped Above = Below
swapped Below = Above
swapped Equal = Equal
swapped Open = Open
swapped Close = Close

-- a text is a pair line of two names with the word of a verdict
abbrev pub SaysOfPair : List ℕ → Verdict → List ℕ → List ℕ → Type 0
SaysOfPair first verdict second text = (ends : List ℕ) × (text ≡ ended (codes "pair " ++ first ++ 32 ∷ word_of verdict ++ 32 ∷ second ++ 32 ∷ ends))

-- a fact of the text of a later line of a session where an earlier line `pair FIRST SECOND` was replied with a settled word, and only unjudged
-- documents were judged between both
abbrev pub AfterSettled : (List ℕ → List ℕ → Heard) → (List ℕ → Verdict → List ℕ → List ℕ → Type 0) → Type 0
AfterSettled asked Says =
    (s : Setting) (changes : List Change) (lines : List (List ℕ)) (first second text later : List ℕ) (verdict : Verdict) →
    IsSetting s → IsSettled verdict → OnlyJudgeUnjudged s lines changes →
    IsReply s changes (Asked (Pair first second)) text → SaysOfPair first verdict second text →
    IsReply s (changes_over s.desk lines changes) (asked first second) later → Says first verdict second later

-- the same line again has the same word
abbrev pub SettledWordsStay : Type 0
SettledWordsStay = AfterSettled (λ first second. Asked (Pair first second)) SaysOfPair

-- the line of the swapped runs has the swapped word
abbrev pub SwappedWordsFollow : Type 0
SwappedWordsFollow = AfterSettled (λ first second. Asked (Pair second first)) (λ first verdict second text. SaysOfPair second (swapped verdict) first text)
