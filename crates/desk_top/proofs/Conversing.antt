-- The meaning of a session.
use Rattle.std.proofs.Common.{◌≡◌, ℕ, ◌<◌, List, [], ◌∷◌, ◌++◌, length, refl, ap, sym, subst, ◌∙◌, inl, inr}
use Rattle.std.specs.Prelude.{◌⊎◌, Ok, Err, Result, flat_map}
use Rattle.desk_outside.specs.Inputs.{Input, IsInput, IsPart}
use Rattle.desk_outside.specs.Seen.{Shelf, ReceivedAll, ReceivedPrefix}
use Rattle.desk_words.specs.declared.command.Job.{Job}
use Rattle.desk_model.specs.Desk.{Desk}
use Rattle.topics_pool.specs.Rows.{IsDeskOf}
use Rattle.desk_files.specs.Load.{Loaded, loaded, Reads}
use Rattle.desk_files.specs.Outcome.{Stops}
use Rattle.desk_files.specs.Reads.{ToEnd, ReadsFiles}
use Rattle.desk_files.specs.declared.stop.Stop.{Stop as KeptStop}
use Rattle.judge_session.specs.declared.change.Change.{Change}
use Rattle.judge_session.specs.Request.{heard_of}
use Rattle.session_replies.specs.Replies.{Setting, changes_after}
use Rattle.session_stream.specs.Hearing.{End, Done, InputTooLong, Failed, hearing_of}
use Rattle.session_stream.specs.NoMore.{ReadsNoMore}
use Rattle.session_stream.specs.Text.{AreReplies, joined, HasReplies, EndsSession, EvaluatesWithin}
use Rattle.session_stream.specs.declared.stream.Ended.{Ended}
use Rattle.session_stream.specs.declared.stream.Ended.TheVariants as ended
use Rattle.session_stream.specs.declared.stream.Fault.{Fault}
use Rattle.session_stream.specs.declared.stream.Fault.TheVariants as faults
use Rattle.desk_top.specs.declared.outcome.Outcome.TheVariants as made
use Rattle.desk_top.specs.declared.status.Status.{Status}
use Rattle.desk_top.specs.declared.status.Status.TheVariants as statuses
use Rattle.desk_top.specs.Told.{WritesLine}
use Rattle.desk_top.specs.Answer.{Answer, Saying, text_of}
use Rattle.desk_top.specs.Conversation.{sayings, status_at, told_at, status_by, told_by, session_cells, AnswersSession}
use Rattle.desk_top.specs.Report.{IsAsked, grading_of, sources_of}
use Rattle.desk_top.specs.Loading.{OpensWithin}
use Rattle.desk_top.specs.Meaning.{Meaning, session_meaning}
use Rattle.desk_top.specs.Works.{HoldsSession, Works}
use Rattle.desk_top.specs.Meets.{Call, HasAnswer, IsGiven, GivesAnswer, GivesOn, CountsCells, ReadsAsked, Meets}
use Rattle.desk_top.proofs.Meeting.{meets_given, meets_outside, meets_memory, reads_found}
use Rattle.desk_top.proofs.Reporting.{found_may_come, desk_stops}

-- the sayings of a session are its replies
text_of_sayings : (s : Setting) (c : List Change) (ls texts : List (List ℕ)) → AreReplies s c ls texts → flat_map (λ (one : Saying). one.text) (sayings s c ls texts) ≡ joined texts
text_of_sayings s c [] [] are = refl
text_of_sayings s c [] (t ∷ ts) are = absurd are
text_of_sayings s c (l ∷ ls) [] are = absurd are
text_of_sayings s c (l ∷ ls) (t ∷ ts) are = ap (λ more. t ++ more) (text_of_sayings s (changes_after s.desk (heard_of l) c) ls ts are.1)

-- ---- the desk on which it is held
pub session_holds : (job : Job) (shelf : Shelf) (cells : ℕ) (rows : Loaded) (desk : Desk) → IsAsked 1 job → Reads shelf.files (sources_of job) rows → IsDeskOf rows.qrels rows.runs desk → Works (session_meaning job) shelf cells cells (Ok (made.Holds desk job.measure (grading_of job)))
session_holds job shelf cells rows desk asked read ranked = (
  rows,
  found_may_come (λ files found. loaded files (sources_of job) ≡ found) shelf.files rows read,
  (
    record {
      setting = record { measure = asked.measure; grading = asked.grading };
      reads = tt;
      answers = λ input answer is. record { desk = desk; ranked = ranked; holds = is };
      cells = λ taken. record { desk = desk; ranked = ranked; holds = refl };
    },
    refl,
  ),
)

pub session_stopped : (job : Job) (shelf : Shelf) (cells : ℕ) (stop : KeptStop) → Stops shelf.files shelf.before shelf.after stop (λ held. loaded held (sources_of job)) → Works (session_meaning job) shelf cells cells (Err stop)
session_stopped job shelf cells stop stops = (desk_stops (sources_of job) shelf stop stops, inl refl)

-- ---- a session that is held
module _ (meaning : Meaning) (call : Call) (found : meaning.loading.Found) (comes : meaning.loading.comes call.files.files (Ok found)) (s : Setting) (holds : HoldsSession meaning found s) where
  module _ (is_input : Input → Type 0) (fact : End → List ℕ → Type 0) (h : HasReplies s is_input fact) where
    abbrev the_answer : Answer
    the_answer = record { status = status_at (hearing_of h.input).end; said = sayings s [] (hearing_of h.input).lines h.texts; told = told_at (hearing_of h.input).end }

    its_text : text_of the_answer.said ≡ joined h.texts
    its_text = text_of_sayings s [] (hearing_of h.input).lines h.texts h.replies

    -- the answer that replies are
    as_answer : (wanted : Answer → Type 0) → wanted the_answer → HasAnswer meaning call.files.files is_input wanted
    as_answer wanted w = record {
      input = h.input;
      met = h.met;
      answer = the_answer;
      is = record { found = Ok found; comes = comes; is = holds.answers h.input the_answer (record { texts = h.texts; replies = h.replies; is = refl }) };
      holds = w;
    }

  -- it was given
  given_as : (status : Status) (end : End) (h : HasReplies s (IsInput call.input) (λ e text. (e ≡ end) × ReceivedAll call.out text)) → status ≡ status_at end → WritesLine call.err (told_at end) → IsGiven call status (the_answer (IsInput call.input) (λ e text. (e ≡ end) × ReceivedAll call.out text) h)
  given_as status end h is line = record {
    ended = is ∙ ap status_at (sym h.holds.0);
    text = subst (ReceivedAll call.out) (sym (its_text (IsInput call.input) (λ e text. (e ≡ end) × ReceivedAll call.out text) h)) h.holds.1;
    line = subst (λ e. WritesLine call.err (told_at e)) (sym h.holds.0) line;
  }

  gives_answer : (status : Status) (end : End) → HasReplies s (IsInput call.input) (λ e text. (e ≡ end) × ReceivedAll call.out text) → status ≡ status_at end → WritesLine call.err (told_at end) → GivesAnswer meaning call status
  gives_answer status end h is line =
      as_answer (IsInput call.input) (λ e text. (e ≡ end) × ReceivedAll call.out text) h (IsGiven call status) (given_as status end h is line)

  gives_on : (status : Status) (end : End) → HasReplies s (IsInput call.input) (λ e text. (e ≡ end) × ReceivedAll call.out text) → status ≡ status_at end → WritesLine call.err (told_at end) → GivesOn meaning call status found
  gives_on status end h is line =
      let answer = the_answer (IsInput call.input) (λ e text. (e ≡ end) × ReceivedAll call.out text) h in
      (h.input, answer, holds.answers h.input answer (record { texts = h.texts; replies = h.replies; is = refl }), given_as status end h is line)

  pub meets_held : (status : Status) → AnswersSession s call.input call.out call.err status → EvaluatesWithin s call.input call.had_cells call.has_cells → OpensWithin meaning.loading call.files → ReadsFiles ToEnd call.files.had call.files.has → ReadsNoMore call.input → Meets meaning call status
  meets_held status a cells opened files heard = at a.ended a.ends a.is a.line
    where
      counted : CountsCells meaning call
      counted = inr (found, comes, cells.0, cells.1, session_cells s.desk cells.0, holds.cells cells.0, cells.2)

      reads : GivesOn meaning call status found ⊎ (status ≡ statuses.Outside) ⊎ (status ≡ statuses.Memory) → ReadsAsked meaning call status
      reads led = reads_found meaning call status found comes led files (inr (holds.reads, heard))

      at : (result : Result Ended Fault) → EndsSession s call.input call.out result → status ≡ status_by result → WritesLine call.err (told_by result) → Meets meaning call status
      at (Ok ended.Done) h is line = meets_given meaning call status (λ e. let no : statuses.Done ≡ statuses.Outside = sym is ∙ e in cc) (λ e. let no : statuses.Done ≡ statuses.Memory = sym is ∙ e in cc) (gives_answer status Done h is line) counted opened (reads (inl (gives_on status Done h is line)))
      at (Ok ended.InputTooLong) h is line = meets_given meaning call status (λ e. let no : statuses.Refused ≡ statuses.Outside = sym is ∙ e in cc) (λ e. let no : statuses.Refused ≡ statuses.Memory = sym is ∙ e in cc) (gives_answer status InputTooLong h is line) counted opened (reads (inl (gives_on status InputTooLong h is line)))
      at (Err faults.Input) h is line = meets_outside meaning call status is (inl (gives_answer status Failed h is line)) line counted opened (reads (inr (inl is)))
      at (Err faults.Output) h is line =
          let fact : End → List ℕ → Type 0 = λ end text. (0 < length text) × ReceivedPrefix call.out text in
          let broken = as_answer (IsPart call.input) fact h.1 (λ answer. (0 < length (text_of answer.said)) × ReceivedPrefix call.out (text_of answer.said))
          (subst (λ text. (0 < length text) × ReceivedPrefix call.out text) (sym (its_text (IsPart call.input) fact h.1)) h.1.holds) in
          meets_outside meaning call status is (inr (inl (h.0, broken))) line counted opened (reads (inr (inl is)))
      at (Err faults.Memory) h is line =
          let fact : End → List ℕ → Type 0 = λ end text. ReceivedAll call.out text in
          let stopped = as_answer (IsPart call.input) fact h (λ answer. ReceivedAll call.out (text_of answer.said)) (subst (ReceivedAll call.out) (sym (its_text (IsPart call.input) fact h)) h.holds) in
          meets_memory meaning call status is (inr (holds.reads, stopped)) line counted opened (reads (inr (inr is)))
