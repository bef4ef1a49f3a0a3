-- What is asked of each command beside its statuses: one answer, in whole lines.
use Rattle.std.proofs.Common.{◌≡◌, ◌≢◌, ℕ, List, [], ◌∷◌, length, map, refl, ap, ap₂, sym, subst, ◌∙◌, inl, inr, arith}
use Rattle.std.specs.Prelude.{Result, Ok, Err, None}
use Rattle.std.specs.List.{AllByRecursion, Contains}
use Rattle.desk_outside.specs.Inputs.{Input}
use Rattle.desk_words.specs.declared.command.Job.{Job}
use Rattle.desk_model.specs.Desk.{Desk, IsDesk, topics_under}
use Rattle.desk_model.specs.Pairs.{pairs_of}
use Rattle.desk_model.specs.Verdict.{verdict}
use Rattle.desk_model.specs.declared.types.MeasureName.TheVariants.{Biased}
use Rattle.desk_model.specs.declared.types.Totals.{Totals}
use Rattle.file_rows.specs.Grouped.{TopicRows}
use Rattle.run_reader.specs.Run.{Run}
use Rattle.run_reader.specs.declared.used.Used.{Used}
use Rattle.topics_pool.specs.Rows.{IsDeskOf, total_rows}
use Rattle.next_document.specs.Laws.{NextIsOne}
use Rattle.order_certificate.specs.declared.certificate.Certificate.{Certificate}
use Rattle.order_bundle.specs.declared.scoped.Scoped.{Scoped}
use Rattle.bundle_verifier.specs.Either.{IsAnyVerified}
use Rattle.bundle_verifier.specs.declared.rejected.BundleRejected.{BundleRejected}
use Rattle.pair_table.specs.Numbers.{ArePairNumbers}
use Rattle.pair_table.specs.Sums.{run_numbers}
use Rattle.pair_table.specs.declared.evidence.EvidenceFault.{EvidenceFault}
use Rattle.pair_table.specs.declared.evidence.EvidenceFault.TheVariants.{Close as CloseTotals, Memory}
use Rattle.pair_table.proofs.Answered.{one_answer}
use Rattle.pair_table.proofs.Named.{pair_unique}
use Rattle.pair_table.proofs.Zips.{zip_unique}
use Rattle.order_bundle.specs.Bundle.{Bundle}
use Rattle.bundle_report.specs.Bundled.{HasTooManyBytes, IsAllPairsText, IsBundleOn, text_on}
use Rattle.desk_top.specs.Told.{too_long_line}
use Rattle.desk_report.specs.Reports.{Subject, IsCertificateText, IsCloseText}
use Rattle.demo_desk.specs.Demo.{SayRuns, IsDemoDesk, demo_runs, used_before_runs}
use Rattle.demo_desk.specs.Summary.{summary_lines}
use Rattle.judge_session.specs.declared.change.Change.{Change}
use Rattle.judge_session.specs.Request.{heard_of}
use Rattle.session_replies.specs.Laws.{RepliesAreOne}
use Rattle.session_replies.specs.Replies.{Setting, changes_after}
use Rattle.session_replies.proofs.Unique.{one_certified, one_next}
use Rattle.session_stream.specs.Hearing.{hearing_of}
use Rattle.session_stream.specs.Text.{AreReplies}
use Rattle.desk_files.specs.Load.{Loaded}
use Rattle.desk_top.specs.declared.status.Status.{Status}
use Rattle.desk_top.specs.declared.status.Status.TheVariants as statuses
use Rattle.graded_rbp.specs.Score.{GradedMeasure}
use Rattle.desk_top.specs.Answer.{About, OfRuns, OfGrades, Saying, Answer, marks_for}
use Rattle.desk_top.specs.Outcome.{Outcome, Prints, Refuses, answer_of, IsOutcome, PrintsText}
use Rattle.desk_top.specs.Report.{subject_of, HasDeskOf, IsMeasureByGrades, IsGradedText}
use Rattle.desk_top.specs.Verification.{PrintsCheck, verification}
use Rattle.desk_top.specs.Conversation.{setting_on, IsSession, sayings, status_at, told_at}
use Rattle.desk_top.specs.Showing.{demo_subject, AreDemoTexts, PrintsDemo, demo_sayings}
use Rattle.desk_top.specs.Meaning.{Meaning, desk_meaning, graded_meaning, PrintsCertificate, PrintsAllPairs, PrintsGraded}
use Rattle.desk_top.proofs.Marking.{marks_known}
use Rattle.desk_laws.specs.Answered.{EndsLastLine}
use Rattle.desk_laws.specs.Fixed.{BundleIsOne, DeskIsOne, VerifierIsOne}
use Rattle.desk_laws.proofs.LineEnds.{graded_text_ends, replies_end, told_ends}

-- an answer's texts and its line end with their last line
pub record EndsLines (answer : Answer) : Type 0 where
  pub said : AllByRecursion (λ (one : Saying). EndsLastLine one.text) answer.said
  pub told : EndsLastLine answer.told

-- the answers of a command are in whole lines
abbrev pub HasLines : Meaning → Type 0
HasLines meaning = (found : meaning.loading.Found) (input : Input) (answer : Answer) → meaning.answers found input answer → EndsLines answer

-- there is one answer to what its files came to, over an input
abbrev pub HasOneAnswer : Meaning → Type 0
HasOneAnswer meaning = (found : meaning.loading.Found) (input : Input) (first second : Answer) → meaning.answers found input first → meaning.answers found input second → first ≡ second

-- ---- outcomes
pub outcome_ends : (ends : List Status) (fact : Outcome → Type 0) → ((outcome : Outcome) → fact outcome → Contains ends (answer_of outcome).status) → (answer : Answer) → IsOutcome fact answer → Contains ends answer.status
outcome_ends ends fact each answer (outcome, holds, is) = subst (λ (a : Answer). Contains ends a.status) (sym is) (each outcome holds)

pub outcome_lines : (fact : Outcome → Type 0) → ((outcome : Outcome) → fact outcome → EndsLines (answer_of outcome)) → (answer : Answer) → IsOutcome fact answer → EndsLines answer
outcome_lines fact each answer (outcome, holds, is) = subst EndsLines (sym is) (each outcome holds)

pub outcome_one : (fact : Outcome → Type 0) → ((first second : Outcome) → fact first → fact second → first ≡ second) → (first second : Answer) → IsOutcome fact first → IsOutcome fact second → first ≡ second
outcome_one fact each first second (o, h, e) (p, k, f) = e ∙ ap answer_of (each o p h k) ∙ sym f

-- one text
pub text_status : (ends : List Status) (status : Status) (about : About) (fact : List ℕ → Type 0) → Contains ends status → (outcome : Outcome) → PrintsText status about fact outcome → Contains ends (answer_of outcome).status
text_status ends status about fact there outcome (text, holds, is) = subst (λ o. Contains ends (answer_of o).status) (sym is) there

pub text_lines : (status : Status) (about : About) (fact : List ℕ → Type 0) → ((text : List ℕ) → fact text → EndsLastLine text) → (outcome : Outcome) → PrintsText status about fact outcome → EndsLines (answer_of outcome)
text_lines status about fact each outcome (text, holds, is) = subst (λ o. EndsLines (answer_of o)) (sym is) (record { said = (each text holds, tt); told = inl refl })

pub text_one : (status : Status) (about : About) (fact : List ℕ → Type 0) → ((t u : List ℕ) → fact t → fact u → t ≡ u) → (first second : Outcome) → PrintsText status about fact first → PrintsText status about fact second → first ≡ second
text_one status about fact each first second (t, h, e) (u, k, f) = e ∙ ap (λ text. Prints status (record { about = about; text = text } ∷ [])) (each t u h k) ∙ sym f

-- ---- on the desk of a job
-- what is made of a desk has one of these statuses, is in whole lines, and is one thing
pub record IsMadeLawfully (ends : List Status) (makes : Subject → Outcome → Type 0) : Type 0 where
  pub status : (s : Subject) (outcome : Outcome) → makes s outcome → Contains ends (answer_of outcome).status
  pub lines : (s : Subject) (outcome : Outcome) → makes s outcome → EndsLines (answer_of outcome)
  pub one : (s : Subject) (first second : Outcome) → makes s first → makes s second → first ≡ second

module _ (job : Job) (least : ℕ) (ends : List Status) (makes : Subject → Outcome → Type 0) (lawful : IsMadeLawfully ends makes) where
  abbrev on_desk : Meaning
  on_desk = desk_meaning job least ends makes

  abbrev on_rows : Loaded → Outcome → Type 0
  on_rows rows outcome = HasDeskOf rows (λ desk. makes (subject_of job desk) outcome)

  pub on_desk_ends : (rows : Loaded) (input : Input) (answer : Answer) → on_desk.answers rows input answer → Contains ends answer.status
  on_desk_ends rows input answer is = outcome_ends ends (on_rows rows) (λ outcome has. lawful.status (subject_of job has.desk) outcome has.holds) answer is

  pub on_desk_lines : HasLines on_desk
  on_desk_lines rows input answer is = outcome_lines (on_rows rows) (λ outcome has. lawful.lines (subject_of job has.desk) outcome has.holds) answer is

  pub on_desk_one : DeskIsOne → HasOneAnswer on_desk
  on_desk_one desk_one rows input first second is other =
      outcome_one (on_rows rows)
      (λ o p h k. lawful.one (subject_of job h.desk) o p h.holds (subst (λ d. makes (subject_of job d) p) (desk_one rows.qrels rows.runs k.desk h.desk k.ranked h.ranked) k.holds)) first second is other

-- the table by grades
module _ (job : Job) (greatest : ℕ) where
  -- a measure and a greatest grade are one
  measure_one : (m n : GradedMeasure) → IsMeasureByGrades job.measure greatest m → IsMeasureByGrades job.measure greatest n → m ≡ n
  measure_one m n h k =
      let named : Biased m.top m.bottom ≡ Biased n.top n.bottom = sym h.biased ∙ k.biased in
      let top : m.top ≡ n.top = cc in
      let bottom : m.bottom ≡ n.bottom = cc in
      λ i. record { top = top i; bottom = bottom i; greatest = (h.cut ∙ sym k.cut) i }

  graded_one : (desk : Desk) (first second : Outcome) → PrintsGraded job greatest desk first → PrintsGraded job greatest desk second → first ≡ second
  graded_one desk first second (m, h, printed) (n, k, other) =
      text_one statuses.Done (OfGrades m desk) (IsGradedText m desk) (λ t u x y. x ∙ sym y) first second printed (subst (λ n. PrintsText statuses.Done (OfGrades n desk) (IsGradedText n desk) second) (measure_one n m k h) other)

  abbrev graded_on : Loaded → Outcome → Type 0
  graded_on rows outcome = HasDeskOf rows (λ desk. PrintsGraded job greatest desk outcome)

  pub graded_status : (rows : Loaded) (input : Input) (answer : Answer) → (graded_meaning job greatest).answers rows input answer → Contains (statuses.Done ∷ []) answer.status
  graded_status rows input answer is =
      outcome_ends (statuses.Done ∷ []) (graded_on rows)
      (λ outcome has. text_status (statuses.Done ∷ []) statuses.Done (OfGrades has.holds.0 has.desk) (IsGradedText has.holds.0 has.desk) (0, omega arith, refl) outcome has.holds.2) answer is

  pub graded_whole : HasLines (graded_meaning job greatest)
  graded_whole rows input answer is =
      outcome_lines (graded_on rows) (λ outcome has. text_lines statuses.Done (OfGrades has.holds.0 has.desk) (IsGradedText has.holds.0 has.desk) (graded_text_ends has.holds.0 has.desk) outcome has.holds.2) answer is

  pub graded_answer_one : DeskIsOne → HasOneAnswer (graded_meaning job greatest)
  graded_answer_one desk_one rows input first second is other =
      outcome_one (graded_on rows)
      (λ o p h k. graded_one h.desk o p h.holds (subst (λ d. PrintsGraded job greatest d p) (desk_one rows.qrels rows.runs k.desk h.desk k.ranked h.ranked) k.holds)) first second is other

-- the certificate of two runs, or their close line
module _ (s : Subject) where
  not_close : (text other : List ℕ) → IsCertificateText s 0 1 text → IsCloseText s 0 1 other → ⊥
  not_close text other h k =
      let certified : Result Certificate EvidenceFault = Ok h.certificate in
      let close : Result Certificate EvidenceFault = Err (CloseTotals k.totals) in
      let memory : Result Certificate EvidenceFault = Err Memory in
      let not_memory : certified ≢ memory = λ e. absurd (cc) in
      let nor_that : close ≢ memory = λ e. absurd (cc) in
      let same : certified ≡ close = one_answer s.measure s.desk s.marks s.level 0 1 certified close h.of_pair (k.summed, k.close) not_memory nor_that in
      absurd (cc)

  pub certificate_one : (first second : Outcome) → PrintsCertificate s first → PrintsCertificate s second → first ≡ second
  certificate_one first second (inl h) (inl k) = text_one statuses.Done (OfRuns s) (IsCertificateText s 0 1) (λ t u x y. one_certified s 0 1 t u (inl x) (inl y)) first second h k
  certificate_one first second (inl h) (inr k) = absurd (not_close h.0 k.0 h.1 k.1)
  certificate_one first second (inr h) (inl k) = absurd (not_close k.0 h.0 k.1 h.1)
  certificate_one first second (inr h) (inr k) = text_one statuses.Close (OfRuns s) (IsCloseText s 0 1) (λ t u x y. one_certified s 0 1 t u (inr x) (inr y)) first second h k

-- the certificate of all pairs, or that its text would be too long
module _ (bundle_one : BundleIsOne) (s : Subject) where
  -- the texts of the bundle are as long
  one_length : (b other : Bundle) → IsBundleOn s b → IsBundleOn s other → length (text_on s b) ≡ length (text_on s other)
  one_length b other h k = ap (λ x. length (text_on s x)) (bundle_one s.measure s.desk s.marks s.level b other h.of_pairs k.of_pairs)

  one_bundle_text : (text other : List ℕ) → IsAllPairsText s text → IsAllPairsText s other → text ≡ other
  one_bundle_text text other h k = h.is ∙ ap (text_on s) (bundle_one s.measure s.desk s.marks s.level h.bundle k.bundle h.on.of_pairs k.on.of_pairs) ∙ sym k.is

  not_too_long : (text : List ℕ) (bytes : ℕ) → IsAllPairsText s text → HasTooManyBytes s bytes → ⊥
  not_too_long text bytes h k = omega (arith, h.short, k.long, k.counted, ap length h.is, one_length h.bundle k.bundle h.on k.on)

  pub all_pairs_one : (first second : Outcome) → PrintsAllPairs s first → PrintsAllPairs s second → first ≡ second
  all_pairs_one first second (inl h) (inl k) = text_one statuses.Done (OfRuns s) (IsAllPairsText s) one_bundle_text first second h k
  all_pairs_one first second (inl h) (inr k) = absurd (not_too_long h.0 k.0 h.1 k.1)
  all_pairs_one first second (inr h) (inl k) = absurd (not_too_long k.0 h.0 k.1 h.1)
  all_pairs_one first second (inr h) (inr k) =
      let same : h.0 ≡ k.0 = h.1.counted ∙ one_length h.1.bundle k.1.bundle h.1.on k.1.on ∙ sym k.1.counted in
      h.2 ∙ ap (λ bytes. Refuses (too_long_line bytes)) same ∙ sym k.2

-- ---- a check
abbrev IsVerificationOf : Scoped → Desk → Result (Unit {0}) BundleRejected → Outcome → Type 0
IsVerificationOf c desk answer outcome = IsAnyVerified c.body desk (marks_for c desk) answer × (outcome ≡ verification c desk answer)

pub check_one : DeskIsOne → VerifierIsOne → (found : Loaded × Scoped) (first second : Outcome) → PrintsCheck found first → PrintsCheck found second → first ≡ second
check_one desk_one verifier_one found first second h k =
    let same : k.desk ≡ h.desk = desk_one found.0.qrels found.0.runs k.desk h.desk k.ranked h.ranked in
    let other = subst (λ d. IsVerificationOf found.1 d k.answer second) same (k.verified, k.is) in
    h.is ∙ ap (verification found.1 h.desk) (verifier_one found.1.body h.desk (marks_for found.1 h.desk) h.answer k.answer h.verified other.0) ∙ sym other.1

-- ---- a session
replies_one : RepliesAreOne → (s : Setting) (changes : List Change) (lines texts others : List (List ℕ)) → AreReplies s changes lines texts → AreReplies s changes lines others → texts ≡ others
replies_one one s changes [] [] [] h k = refl
replies_one one s changes [] [] (o ∷ others) h k = absurd k
replies_one one s changes [] (t ∷ texts) others h k = absurd h
replies_one one s changes (l ∷ lines) [] others h k = absurd h
replies_one one s changes (l ∷ lines) (t ∷ texts) [] h k = absurd k
replies_one one s changes (l ∷ lines) (t ∷ texts) (o ∷ others) h k =
    ap₂ (λ x xs. x ∷ xs) (one s changes (heard_of l) t o h.0 k.0) (replies_one one s (changes_after s.desk (heard_of l) changes) lines texts others h.1 k.1)

pub session_lines : (s : Setting) (input : Input) (answer : Answer) → IsSession s input answer → EndsLines answer
session_lines s input answer is =
    subst EndsLines (sym is.is) (record { said = replies_end s [] (hearing_of input).lines is.texts is.replies; told = told_ends (hearing_of input).end })

session_same : RepliesAreOne → (s : Setting) (input : Input) (first second : Answer) → IsSession s input first → IsSession s input second → first ≡ second
session_same one s input first second h k =
    h.is
    ∙ ap (λ texts. record { status = status_at (hearing_of input).end; said = sayings s [] (hearing_of input).lines texts; told = told_at (hearing_of input).end })
    (replies_one one s [] (hearing_of input).lines h.texts k.texts h.replies k.replies)
    ∙ sym k.is

pub session_one : RepliesAreOne → DeskIsOne → (job : Job) (rows : Loaded) (input : Input) (first second : Answer) → HasDeskOf rows (λ desk. IsSession (setting_on job desk) input first) → HasDeskOf rows (λ desk. IsSession (setting_on job desk) input second) → first ≡ second
session_one one desk_one job rows input first second h k =
    session_same one (setting_on job h.desk) input first second h.holds (subst (λ d. IsSession (setting_on job d) input second) (desk_one rows.qrels rows.runs k.desk h.desk k.ranked h.ranked) k.holds)

-- ---- a demo
runs_one : (qrels : List TopicRows) (used : Used) (texts : List (List ℕ)) (runs others : List Run) → SayRuns qrels used texts runs → SayRuns qrels used texts others → runs ≡ others
runs_one qrels used [] [] [] h k = refl
runs_one qrels used [] [] (o ∷ others) h k = absurd k
runs_one qrels used [] (r ∷ runs) others h k = absurd h
runs_one qrels used (t ∷ texts) [] others h k = absurd h
runs_one qrels used (t ∷ texts) (r ∷ runs) [] h k = absurd k
runs_one qrels used (t ∷ texts) (r ∷ runs) (o ∷ others) h k =
    let both : Ok r ≡ Ok o = sym h.0 ∙ k.0 in
    let same : r ≡ o = cc in
    ap₂ (λ x xs. x ∷ xs) same (runs_one qrels r.used texts runs others h.1 (subst (λ (x : Run). SayRuns qrels x.used texts others) (sym same) k.1))

-- a seed has one desk and one number of rows
seed_one : DeskIsOne → (seed : ℕ) (d e : Desk) (m n : ℕ) → IsDemoDesk seed d m → IsDemoDesk seed e n → (e ≡ d) × (n ≡ m)
seed_one desk_one seed d e m n h k =
    let judged : Ok k.qrels ≡ Ok h.qrels = sym k.said.judged ∙ h.said.judged in
    let qrels : k.qrels ≡ h.qrels = cc in
    let runs : k.runs ≡ h.runs = runs_one h.qrels (used_before_runs h.qrels) (demo_runs seed) k.runs h.runs (subst (λ q. SayRuns q (used_before_runs q) (demo_runs seed) k.runs) qrels k.said.ranked) h.said.ranked in (
      desk_one h.qrels h.runs e d (subst (λ r. IsDeskOf h.qrels r e) runs (subst (λ q. IsDeskOf q k.runs e) qrels k.ranked)) h.ranked,
      k.kept ∙ ap total_rows runs ∙ sym h.kept,
    )

texts_one : NextIsOne → (seed : ℕ) (desk : Desk) → IsDesk desk → (rows : ℕ) (lines others : List (List ℕ)) (next last : List ℕ) → AreDemoTexts seed desk rows lines next → AreDemoTexts seed desk rows others last → (lines ≡ others) × (next ≡ last)
texts_one next_one seed desk valid rows lines others next last h k =
    let s = demo_subject desk in
    let topics = topics_under desk s.marks in
    let totals : h.totals ≡ k.totals =
    zip_unique (λ (pair : ℕ × ℕ) (sums : Totals). ArePairNumbers s.measure topics pair.0 pair.1 sums) (λ pair sums others. pair_unique s.measure topics pair.0 pair.1 sums others) (pairs_of (run_numbers (length desk.runs))) h.totals k.totals h.numbers k.numbers in (
      h.summary ∙ ap (λ (sums : List Totals). summary_lines seed rows s.marks (map verdict sums)) totals ∙ sym k.summary,
      one_next next_one s next last (marks_known 1 None desk valid) h.proposal k.proposal,
    )

pub demo_one : DeskIsOne → NextIsOne → (seed : ℕ) (first second : Outcome) → PrintsDemo seed first → PrintsDemo seed second → first ≡ second
demo_one desk_one next_one seed first second h k =
    let same = seed_one desk_one seed h.desk k.desk h.rows k.rows h.made k.made in
    let moved = subst (λ n. AreDemoTexts seed h.desk n k.lines k.next) same.1 (subst (λ d. AreDemoTexts seed d k.rows k.lines k.next) same.0 k.texts) in
    let texts = texts_one next_one seed h.desk h.made.ranked.valid h.rows h.lines k.lines h.next k.next h.texts moved in
    h.is
    ∙ ap₂ (λ lines next. Prints statuses.Done (demo_sayings h.desk lines next)) texts.0 texts.1
    ∙ ap (λ desk. Prints statuses.Done (demo_sayings desk k.lines k.next)) (sym same.0)
    ∙ sym k.is
