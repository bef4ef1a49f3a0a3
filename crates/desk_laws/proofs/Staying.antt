-- What a pair line says stays while only unjudged documents are judged.
use Rattle.std.proofs.Common.{◌≡◌, ℕ, ◌*◌, ◌<◌, List, [], ◌∷◌, ◌++◌, length, ap, sym, ◌∙◌}
use Rattle.std.specs.Prelude.{codes, Some}
use Rattle.desk_model.specs.Desk.{Desk, IsDesk, AreMarksOf, topics_under}
use Rattle.desk_model.specs.Name.{number_of}
use Rattle.desk_model.specs.Verdict.{verdict}
use Rattle.desk_model.specs.declared.types.Mark.{Mark}
use Rattle.desk_model.specs.declared.types.MeasureName.{MeasureName}
use Rattle.desk_model.specs.declared.types.Totals.{Totals}
use Rattle.desk_model.specs.declared.types.Verdict.{Verdict}
use Rattle.desk_model.specs.declared.types.Verdict.TheVariants.{Above, Below, Equal, Open, Close}
use Rattle.desk_model.specs.MeasureText.{IsMeasure}
use Rattle.desk_model.proofs.Nested.{get_or-there}
use Rattle.measure_laws.specs.Measures.{unit_of}
use Rattle.pair_table.specs.Refined.{AreAllRefinedBy}
use Rattle.pair_table.specs.Numbers.{ArePairNumbers}
use Rattle.pair_table.proofs.Listing.{there_number}
use Rattle.pair_table.proofs.Refining.{above_stays, below_stays, equal_stays}
use Rattle.desk_report.specs.Means.{ends_text}
use Rattle.desk_report.specs.Table.{word_of, pair_line, ended}
use Rattle.judge_session.specs.declared.change.Change.{Change}
use Rattle.desk_report.specs.Reports.{IsPairText, run_name}
use Rattle.judge_session.specs.Request.{Pair, Asked}
use Rattle.session_replies.specs.Replies.{Setting, marks_after, subject_after, IsReply}
use Rattle.session_replies.proofs.Marks.{marks_of_desk}
use Rattle.session_stream.specs.Text.{changes_over}
use Rattle.desk_laws.specs.Settled.{IsSettled, swapped, SaysOfPair, SettledWordsStay, SwappedWordsFollow}
use Rattle.desk_laws.proofs.PairTexts.{one_verdict, no_refusal, AreNumbered, numbered, of_numbers}
use Rattle.desk_laws.proofs.Swaps.{swapped_numbers}
use Rattle.desk_laws.proofs.Unjudged.{marks_refined}

swapped_settled : (v : Verdict) → IsSettled v → IsSettled (swapped v)
swapped_settled Above s = tt
swapped_settled Below s = tt
swapped_settled Equal s = tt
swapped_settled Open s = absurd s
swapped_settled Close s = absurd s

verdict_stays : (name : MeasureName) (desk : Desk) (marks later : List (List Mark)) (a b : ℕ) (before after : Totals) (v : Verdict) →
    IsMeasure name → IsDesk desk → AreMarksOf desk marks → a < length desk.runs → b < length desk.runs → AreAllRefinedBy marks later →
    ArePairNumbers name (topics_under desk marks) a b before → ArePairNumbers name (topics_under desk later) a b after → IsSettled v → verdict before ≡ v → verdict after ≡ v
verdict_stays name desk marks later a b before after Above valid is_desk known in_a in_b h y z s is = above_stays name desk marks later a b before after valid is_desk known in_a in_b h y z is
verdict_stays name desk marks later a b before after Below valid is_desk known in_a in_b h y z s is = below_stays name desk marks later a b before after valid is_desk known in_a in_b h y z is
verdict_stays name desk marks later a b before after Equal valid is_desk known in_a in_b h y z s is = equal_stays name desk marks later a b before after valid is_desk known in_a in_b h y z is
verdict_stays name desk marks later a b before after Open valid is_desk known in_a in_b h y z s is = absurd s
verdict_stays name desk marks later a b before after Close valid is_desk known in_a in_b h y z s is = absurd s

named_so : (desk : Desk) (name : List ℕ) (a : ℕ) → number_of desk.runs name ≡ Some a → run_name desk a ≡ name
named_so desk name a e = get_or-there desk.runs a name [] (there_number desk.runs name a e)

-- what a pair line says of two runs, by their names
module _ (s : Setting) (changes : List Change) (first second : List ℕ) (a b : ℕ) (text : List ℕ) (v : Verdict) (of_first : number_of s.desk.runs first ≡ Some a) (of_second : number_of s.desk.runs second ≡ Some b) (h : IsPairText (subject_after s changes) a b text) where
  line_is : text ≡ ended (pair_line (unit_of s.measure * length s.desk.topics) first second h.totals)
  line_is =
      h.is ∙ ap (λ name. ended (pair_line (unit_of s.measure * length s.desk.topics) name (run_name s.desk b) h.totals)) (named_so s.desk first a of_first)
      ∙ ap (λ name. ended (pair_line (unit_of s.measure * length s.desk.topics) first name h.totals)) (named_so s.desk second b of_second)

  pub verdict_said : SaysOfPair first v second text → verdict h.totals ≡ v
  verdict_said said = one_verdict first (verdict h.totals) v (32 ∷ second) (32 ∷ second) (32 ∷ ends_text (unit_of s.measure * length s.desk.topics) h.totals.least_lo h.totals.most_hi) (32 ∷ said.0)
      (sym line_is ∙ said.1)

  pub says_verdict : verdict h.totals ≡ v → SaysOfPair first v second text
  says_verdict is = (
    ends_text (unit_of s.measure * length s.desk.topics) h.totals.least_lo h.totals.most_hi,
    line_is ∙ ap (λ w. ended (codes "pair " ++ first ++ 32 ∷ word_of w ++ 32 ∷ second ++ 32 ∷ ends_text (unit_of s.measure * length s.desk.topics) h.totals.least_lo h.totals.most_hi)) is,
  )

-- two runs by their names, where a line says a verdict of them
said_of : (s : Setting) (changes : List Change) (first second text : List ℕ) (v : Verdict) → IsReply s changes (Asked (Pair first second)) text → SaysOfPair first v second text →
    AreNumbered (number_of s.desk.runs first) (number_of s.desk.runs second) (IsPairText (subject_after s changes)) text
said_of s changes first second text v reply said =
    numbered (number_of s.desk.runs first) (number_of s.desk.runs second) (IsPairText (subject_after s changes)) text
    (λ reason e. no_refusal first v (32 ∷ second) (32 ∷ said.0) reason (sym said.1 ∙ e)) reply

pub words_stay : SettledWordsStay
words_stay s changes lines first second text later v setting settled only reply said again =
    let now = changes_over s.desk lines changes in
    let runs = said_of s changes first second text v reply said in
    let h = runs.holds in
    let k = of_numbers (number_of s.desk.runs first) (number_of s.desk.runs second) runs.a runs.b (IsPairText (subject_after s now)) later runs.first runs.second h.runs.different again in
    says_verdict s now first second runs.a runs.b later v runs.first runs.second k
    (verdict_stays s.measure s.desk (marks_after s changes) (marks_after s now) runs.a runs.b h.totals k.totals v setting.measure h.valid (marks_of_desk s changes h.valid) h.runs.first h.runs.second
    (marks_refined s lines changes h.valid only) h.summed k.summed settled (verdict_said s changes first second runs.a runs.b text v runs.first runs.second h said))

pub swapped_words : SwappedWordsFollow
swapped_words s changes lines first second text later v setting settled only reply said again =
    let now = changes_over s.desk lines changes in
    let runs = said_of s changes first second text v reply said in
    let h = runs.holds in
    let k = of_numbers (number_of s.desk.runs second) (number_of s.desk.runs first) runs.b runs.a (IsPairText (subject_after s now)) later runs.second runs.first (λ e. h.runs.different (sym e)) again in
    let turned = swapped_numbers s.measure s.desk (marks_after s changes) runs.a runs.b h.totals v setting.measure h.valid (marks_of_desk s changes h.valid) h.runs.first h.runs.second settled h.summed (verdict_said s changes first second runs.a runs.b text v runs.first runs.second h said) in
    says_verdict s now second first runs.b runs.a later (swapped v) runs.second runs.first k
    (verdict_stays s.measure s.desk (marks_after s changes) (marks_after s now) runs.b runs.a turned.totals k.totals (swapped v) setting.measure h.valid (marks_of_desk s changes h.valid) h.runs.second h.runs.first
    (marks_refined s lines changes h.valid only) turned.summed k.summed (swapped_settled v settled) turned.says)
