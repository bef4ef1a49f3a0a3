-- What is received is true.
use Rattle.std.proofs.Common.{◌≡◌, ℕ, ◌≤◌, ◌+◌, ◌-◌, List, [], ◌∷◌, ◌++◌, length, take, drop, flat_map, ap, sym, subst, ◌∙◌, arith, length-take, inl, inr, zero, suc, get_or, refl}
use Rattle.std.proofs.Math.Seq.{take-append-add, take-append_seam, drop-append_seam}
use Rattle.std.proofs.lemmas.List.{take_all, drop_all, take-append-le}
use Rattle.std.proofs.lemmas.Bool.{cases_lt}
use Rattle.std.specs.Prelude.{Option, Result, codes, Ok, Err, ◌⊎◌}
use Rattle.desk_outside.proofs.Told.{append_known-nil, prefix_whole}
use Rattle.desk_outside.specs.Outside.{Files}
use Rattle.desk_outside.specs.Inputs.{Input, Whole, Cut, IsInput, IsPart}
use Rattle.desk_outside.specs.Seen.{ReceivedAll, ReceivedPrefix}
use Rattle.desk_words.specs.declared.command.Check.{Check}
use Rattle.desk_words.specs.declared.command.Job.{Job}
use Rattle.desk_model.specs.MeasureText.{IsMeasure}
use Rattle.desk_model.specs.Desk.{Desk, IsDesk, AreMarksOf}
use Rattle.desk_model.specs.Verdict.{verdict}
use Rattle.desk_model.specs.declared.types.Mark.{Mark}
use Rattle.desk_model.specs.declared.types.MeasureName.{MeasureName}
use Rattle.desk_model.specs.declared.types.Verdict.{Verdict}
use Rattle.desk_model.specs.declared.types.Verdict.TheVariants as verdicts
use Rattle.measure_core.specs.Made.{HasEnds}
use Rattle.order_certificate.specs.declared.certificate.Certificate.{Certificate}
use Rattle.order_bundle.specs.Either.{IsAnyEvidence, any_level, any_measure}
use Rattle.order_bundle.specs.Places.{IsAnyCertificate}
use Rattle.order_bundle.specs.declared.any_certificate.AnyCertificate.{AnyCertificate}
use Rattle.order_bundle.specs.declared.any_certificate.AnyCertificate.TheVariants.{One, Many}
use Rattle.bundle_verifier.specs.Either.{IsAnyVerified}
use Rattle.bundle_verifier.specs.declared.rejected.BundleRejected.{BundleRejected}
use Rattle.pair_table.specs.Numbers.{HaveEnds}
use Rattle.pair_table.specs.Evidence.{SaysOfVerdict}
use Rattle.order_bundle.specs.Bundle.{Bundle}
use Rattle.order_bundle.specs.Scoped.{scoped_text}
use Rattle.order_bundle.specs.declared.scoped.Scoped.{Scoped}
use Rattle.bundle_report.specs.Bundled.{IsAllPairsText}
use Rattle.desk_report.specs.Claims.{IsTrueText}
use Rattle.desk_report.specs.Reports.{Subject, IsTableText, IsCertificateText, IsCloseText, run_name}
use Rattle.desk_report.specs.Tiers.{IsTiersText}
use Rattle.desk_files.specs.Files.{Stop}
use Rattle.desk_files.specs.Load.{Loaded}
use Rattle.desk_top.specs.declared.status.Status.{Status}
use Rattle.desk_top.specs.declared.status.Status.TheVariants.{Done, Outside, Memory, Close}
use Rattle.desk_top.specs.Answer.{Answer, Saying, About, OfRuns, OfTiers, OfCheck, text_of, marks_for, IsTrueOf, AreTrue, AreAlwaysTrue}
use Rattle.desk_top.specs.Outcome.{Outcome, Prints, Refuses, answer_of, IsOutcome, PrintsText}
use Rattle.desk_top.specs.Report.{subject_of, HasDeskOf}
use Rattle.desk_top.specs.Verification.{rejection_text, verification_text, PrintsCheck}
use Rattle.desk_top.specs.Meaning.{Meaning, AnswersOn, IsAnswer, desk_meaning, check_meaning, PrintsTable, PrintsTiers, PrintsCertificate, PrintsAllPairs}
use Rattle.desk_top.specs.Meets.{Call, HasAnswer, IsGiven, GivesAnswer, OutputFailed, FilesFailed, Stopped, Meets, ReceivesPart, SaysTruth, IsTruthful}
use Rattle.desk_top.specs.Truths.{PrintsTruth}
use Rattle.desk_top.proofs.Marking.{marks_known}
use Rattle.desk_top.proofs.Checks.{rejection_in_line}
use Rattle.desk_top.proofs.Meeting.{sent_is}

-- texts that are always true are true as far as they were received
pub true_so_far : (said : List Saying) → AreAlwaysTrue said → (n : ℕ) → AreTrue said (take n (flat_map (λ (one : Saying). one.text) said))
true_so_far [] always n = tt
true_so_far (saying ∷ more) always n = elim (cases_lt (length saying.text) n) [
  | inl lt ↦ beyond (n - length saying.text) (omega (arith, lt)) (true_so_far more always.1 (n - length saying.text))
  | inr le ↦ within le (true_so_far more always.1 0)
]
  where
    beyond : (m : ℕ) → n ≡ length saying.text + m → AreTrue more (take m (flat_map (λ (one : Saying). one.text) more)) → AreTrue (saying ∷ more) (take n (saying.text ++ flat_map (λ (one : Saying). one.text) more))
    beyond m e next =
        let t = saying.text in
        let r = flat_map (λ (one : Saying). one.text) more in
        let split : take n (t ++ r) ≡ t ++ take m r = ap (λ k. take k (t ++ r)) e ∙ take-append-add t r m in
        let first : take (length t) (take n (t ++ r)) ≡ take (length t) t = ap (take (length t)) split ∙ take-append_seam t (take m r) ∙ sym (take_all (length t) t (omega arith)) in
        let second : drop (length t) (take n (t ++ r)) ≡ take m r = ap (drop (length t)) split ∙ drop-append_seam t (take m r) in
        (subst (IsTrueOf saying.about) (sym first) (always.0 (length t)), subst (AreTrue more) (sym second) next)

    within : n ≤ length saying.text → AreTrue more [] → AreTrue (saying ∷ more) (take n (saying.text ++ flat_map (λ (one : Saying). one.text) more))
    within le next =
        let t = saying.text in
        let r = flat_map (λ (one : Saying). one.text) more in
        let same : take n (t ++ r) ≡ take n t = take-append-le n t r le in
        let short : length (take n t) ≤ length t = omega (arith, length-take n t) in
        let first : take (length t) (take n (t ++ r)) ≡ take n t = ap (take (length t)) same ∙ take_all (length t) (take n t) short in
        let second : drop (length t) (take n (t ++ r)) ≡ [] = ap (drop (length t)) same ∙ drop_all (length t) (take n t) short in
        (subst (IsTrueOf saying.about) (sym first) (always.0 n), subst (AreTrue more) (sym second) next)

module _ (meaning : Meaning) (call : Call) where
  part_of_input : (i : Input) → IsInput call.input i → IsPart call.input i
  part_of_input (Whole bytes) is = is
  part_of_input (Cut bytes) is = (call.input.left, is.0)

  whole_part : (P : Input → Type 0) → ((i : Input) → P i → IsPart call.input i) → (fact : Answer → Type 0) → ((answer : Answer) → fact answer → ReceivedAll call.out (text_of answer.said)) → HasAnswer meaning call.files.files P fact → ReceivesPart meaning call
  whole_part P part fact whole has = inr (record { input = has.input; met = part has.input has.met; answer = has.answer; is = has.is; holds = prefix_whole call.out.had call.out.has (text_of has.answer.said) (whole has.answer has.holds) })

  given_part : (status : Status) → GivesAnswer meaning call status → ReceivesPart meaning call
  given_part status gives = whole_part (IsInput call.input) part_of_input (IsGiven call status) (λ answer is. is.text) gives

  -- a call received nothing, or a prefix of an answer
  receives_part : (status : Status) → Meets meaning call status → ReceivesPart meaning call
  receives_part status meets = at meets.answered
    where
      failed : GivesAnswer meaning call status ⊎ OutputFailed meaning call ⊎ FilesFailed meaning call → ReceivesPart meaning call
      failed (inl gives) = given_part status gives
      failed (inr (inl broken)) = let has = broken.1 in inr (record { input = has.input; met = has.met; answer = has.answer; is = has.is; holds = has.holds.1 })
      failed (inr (inr files)) = inl files.2

      stopped : Stopped meaning call → ReceivesPart meaning call
      stopped (inl nothing) = inl nothing
      stopped (inr part) = whole_part (IsPart call.input) (λ i is. is) (λ answer. ReceivedAll call.out (text_of answer.said)) (λ answer is. is) part.1

      at : GivesAnswer meaning call status ⊎ (status ≡ Outside) ⊎ (status ≡ Memory) → ReceivesPart meaning call
      at (inl gives) = given_part status gives
      at (inr (inl outside)) = failed (meets.outside outside)
      at (inr (inr memory)) = stopped (meets.memory memory)

  answer_is_true : IsTruthful meaning → (known : Option Files) (input : Input) (answer : Answer) → IsAnswer meaning known input answer → AreAlwaysTrue answer.said
  answer_is_true truthful known input answer is = at is.found is.is
    where
      at : (found : Result meaning.loading.Found Stop) → AnswersOn meaning input found answer → AreAlwaysTrue answer.said
      at (Ok found) own = truthful found input answer own
      at (Err why) own = subst (λ (a : Answer). AreAlwaysTrue a.said) (sym own) tt

  -- what a call put is true, where the answers are
  pub says_truth : (status : Status) → IsTruthful meaning → Meets meaning call status → SaysTruth meaning call
  says_truth status truthful meets had sent o e lt = at (receives_part status meets)
    where
      at : ReceivesPart meaning call → HasAnswer meaning call.files.files (IsPart call.input) (λ answer. ReceivedPrefix call.out (text_of answer.said) × AreTrue answer.said sent)
      at (inl nothing) = absurd (omega (arith, lt, ap length (sent_is call.out.had call.out.has had sent [] o e (nothing ∙ sym (append_known-nil call.out.had)))))
      at (inr has) =
          let count = has.holds.0 in
          let same : sent ≡ take count (text_of has.answer.said) = sent_is call.out.had call.out.has had sent (take count (text_of has.answer.said)) o e has.holds.1 in
          record {
            input = has.input;
            met = has.met;
            answer = has.answer;
            is = has.is;
            holds = (has.holds, subst (AreTrue has.answer.said) (sym same) (true_so_far has.answer.said (answer_is_true truthful call.files.files has.input has.answer has.is) count));
          }

-- ---- commands on files
-- an outcome says only what is true
abbrev pub IsTrueOutcome : Outcome → Type 0
IsTrueOutcome (Prints status said) = AreAlwaysTrue said
IsTrueOutcome (Refuses line) = Unit {0}

pub outcome_is_true : (fact : Outcome → Type 0) → ((outcome : Outcome) → fact outcome → IsTrueOutcome outcome) → (answer : Answer) → IsOutcome fact answer → AreAlwaysTrue answer.said
outcome_is_true fact true answer (outcome, holds, is) = subst (λ (a : Answer). AreAlwaysTrue a.said) (sym is) (at outcome (true outcome holds))
  where
    at : (outcome : Outcome) → IsTrueOutcome outcome → AreAlwaysTrue (answer_of outcome).said
    at (Prints status said) h = h
    at (Refuses line) h = tt

-- one text
pub one_text_is_true : (status : Status) (about : About) (fact : List ℕ → Type 0) → ((text : List ℕ) (n : ℕ) → fact text → IsTrueOf about (take n text)) → (outcome : Outcome) → PrintsText status about fact outcome → IsTrueOutcome outcome
one_text_is_true status about fact true outcome (text, holds, is) = subst IsTrueOutcome (sym is) (λ n. true text n holds, tt)

module _ (laws : PrintsTruth) where
  measure_answered : (Has : HaveEnds) (name : MeasureName) (desk : Desk) (marks : List (List Mark)) (level a b : ℕ) (c : Certificate) (v : Verdict) → SaysOfVerdict Has name desk marks level a b c v → c.measure ≡ name
  measure_answered Has name desk marks level a b c verdicts.Above says = says.compares.by_measure
  measure_answered Has name desk marks level a b c verdicts.Below says = says.compares.by_measure
  measure_answered Has name desk marks level a b c verdicts.Equal says = says.compares.by_measure
  measure_answered Has name desk marks level a b c verdicts.Open says = says.compares.by_measure
  measure_answered Has name desk marks level a b c verdicts.Close says = absurd says

  -- a prefix of a text of a table
  abbrev SubjectIsTrue : Subject → ℕ → List ℕ → Type 0
  SubjectIsTrue s n text = IsTrueText s.measure s.desk s.marks (take n text)

  pub table_is_true : (s : Subject) (text : List ℕ) (n : ℕ) → IsMeasure s.measure → AreMarksOf s.desk s.marks → IsTableText s text → SubjectIsTrue s n text
  table_is_true s text n m known is =
      subst (SubjectIsTrue s n) (sym is.is) (laws.tables s.measure s.desk s.marks s.level s.depth n is.bounds is.totals m is.valid known is.numbers)

  pub tiers_are_true : (s : Subject) (text : List ℕ) (n : ℕ) → IsMeasure s.measure → AreMarksOf s.desk s.marks → IsTiersText s text → IsTrueOf (OfTiers s) (take n text)
  tiers_are_true s text n m known is =
      subst (λ t. IsTrueOf (OfTiers s) (take n t)) (sym is.is) (laws.tiers s.measure s.desk s.marks s.level s.depth n is.order m is.valid known is.named)

  pub certificate_is_true : (s : Subject) (a b : ℕ) (text : List ℕ) (n : ℕ) → IsMeasure s.measure → AreMarksOf s.desk s.marks → IsCertificateText s a b text → SubjectIsTrue s n text
  certificate_is_true s a b text n m known is =
      let c = is.certificate in
      let shown = laws.evidence s.measure s.desk s.marks s.level a b c m is.valid known is.runs.different is.runs.first is.runs.second is.of_pair in
      let named : c.measure ≡ s.measure = measure_answered (HasEnds s.measure) s.measure s.desk s.marks s.level a b c (verdict is.of_pair.sums) is.of_pair.says in
      subst (SubjectIsTrue s n) (sym is.is) (subst (λ m. IsTrueText m s.desk s.marks (take n (scoped_text (record { depth = s.depth; body = One c })))) named (laws.certificates (record { depth = s.depth; body = One c }) s.desk s.marks n is.within is.valid known shown))

  pub all_pairs_are_true : (s : Subject) (text : List ℕ) (n : ℕ) → AreMarksOf s.desk s.marks → IsAllPairsText s text → SubjectIsTrue s n text
  all_pairs_are_true s text n known is =
      let b : Bundle = is.bundle in
      let of = is.on.of_pairs in
      let shown = laws.bundles s.measure s.desk s.marks s.level b is.on.valid known of in
      subst (SubjectIsTrue s n) (sym is.is) (subst (λ m. IsTrueText m s.desk s.marks (take n (scoped_text (record { depth = s.depth; body = Many b })))) of.by_measure (laws.certificates (record { depth = s.depth; body = Many b }) s.desk s.marks n is.within is.on.valid known shown))

  pub close_is_true : (s : Subject) (a b : ℕ) (text : List ℕ) (n : ℕ) → IsCloseText s a b text → SubjectIsTrue s n text
  close_is_true s a b text n is =
      subst (SubjectIsTrue s n) (sym is.is)
      (laws.close_lines s.measure s.desk s.marks (run_name s.desk a) (run_name s.desk b) is.totals n (is.valid.named a [] is.runs.first) (is.valid.named b [] is.runs.second))

  -- no prefix of a rejection begins as an acceptance does
  accepted_is_evidence : (c : AnyCertificate) (desk : Desk) (depth : Option ℕ) (marks : List (List Mark)) (answer : Result (Unit {0}) BundleRejected) (n : ℕ) (more : List ℕ) → take n (verification_text desk depth answer) ≡ codes "accepted\n" ++ more → IsAnyVerified c desk marks answer → IsAnyEvidence c desk marks
  accepted_is_evidence c desk depth marks (Ok _) n more e is = is
  accepted_is_evidence c desk depth marks (Err rejected) zero more e is = absurd (let bad : 0 ≡ 97 = ap (λ t. get_or t 0 0) e in omega (arith, bad))
  accepted_is_evidence c desk depth marks (Err rejected) (suc n) more e is = absurd (let bad : 114 ≡ 97 = ap (λ t. get_or t 0 0) e in omega (arith, bad))

  measure_within : (c : AnyCertificate) → IsAnyCertificate c → IsMeasure (any_measure c)
  measure_within (One c) within = within.measure
  measure_within (Many b) within = within.measure

  answer_text : (answer : Result (Unit {0}) BundleRejected) (name : MeasureName) (desk : Desk) (depth : Option ℕ) (marks : List (List Mark)) (n : ℕ) → IsDesk desk → IsTrueText name desk marks (take n (verification_text desk depth answer))
  answer_text (Ok _) name desk depth marks n valid = laws.answers name desk marks (codes "accepted") [] n (inl refl) tt
  answer_text (Err rejected) name desk depth marks n valid = laws.answers name desk marks (codes "rejected ") (rejection_text desk depth rejected) n (inr refl) (rejection_in_line desk valid depth rejected)

  -- ---- each command's outcome is true
  -- what is made of the desk of a job
  pub on_desk_true : (job : Job) (least : ℕ) (ends : List Status) (makes : Subject → Outcome → Type 0) → ((s : Subject) (outcome : Outcome) → AreMarksOf s.desk s.marks → IsMeasure s.measure → makes s outcome → IsTrueOutcome outcome) → IsMeasure job.measure →
      IsTruthful (desk_meaning job least ends makes)
  on_desk_true job least ends makes true m rows input answer is =
      outcome_is_true (λ outcome. HasDeskOf rows (λ desk. makes (subject_of job desk) outcome))
      (λ outcome has. true (subject_of job has.desk) outcome (marks_known job.level job.depth has.desk has.ranked.valid) m has.holds) answer is

  pub printed_table_true : (s : Subject) (outcome : Outcome) → AreMarksOf s.desk s.marks → IsMeasure s.measure → PrintsTable s outcome → IsTrueOutcome outcome
  printed_table_true s outcome known m is = one_text_is_true Done (OfRuns s) (IsTableText s) (λ text n holds. table_is_true s text n m known holds) outcome is

  pub printed_tiers_true : (s : Subject) (outcome : Outcome) → AreMarksOf s.desk s.marks → IsMeasure s.measure → PrintsTiers s outcome → IsTrueOutcome outcome
  printed_tiers_true s outcome known m is = one_text_is_true Done (OfTiers s) (IsTiersText s) (λ text n holds. tiers_are_true s text n m known holds) outcome is

  pub printed_certificate_true : (s : Subject) (outcome : Outcome) → AreMarksOf s.desk s.marks → IsMeasure s.measure → PrintsCertificate s outcome → IsTrueOutcome outcome
  printed_certificate_true s outcome known m (inl is) = one_text_is_true Done (OfRuns s) (IsCertificateText s 0 1) (λ text n holds. certificate_is_true s 0 1 text n m known holds) outcome is
  printed_certificate_true s outcome known m (inr is) = one_text_is_true Close (OfRuns s) (IsCloseText s 0 1) (λ text n holds. close_is_true s 0 1 text n holds) outcome is

  pub printed_all_pairs_true : (s : Subject) (outcome : Outcome) → AreMarksOf s.desk s.marks → IsMeasure s.measure → PrintsAllPairs s outcome → IsTrueOutcome outcome
  printed_all_pairs_true s outcome known m (inl is) = one_text_is_true Done (OfRuns s) (IsAllPairsText s) (λ text n holds. all_pairs_are_true s text n known holds) outcome is
  printed_all_pairs_true s outcome known m (inr (bytes, long, is)) = subst IsTrueOutcome (sym is) tt

  -- the line of a check: where it is `accepted`, all that the certificate claims holds
  check_true : (found : Loaded × Scoped) (outcome : Outcome) → PrintsCheck found outcome → IsTrueOutcome outcome
  check_true found outcome is = subst IsTrueOutcome (sym is.is) (at, tt)
    where
      at : (n : ℕ) → IsTrueOf (OfCheck found.1 is.desk) (take n (verification_text is.desk found.1.depth is.answer))
      at n =
          let c = found.1 in
          let marks = marks_for c is.desk in
          let known = marks_known (any_level c.body) c.depth is.desk is.ranked.valid in (
            answer_text is.answer (any_measure c.body) is.desk c.depth marks n is.ranked.valid,
            λ more e. laws.claims c.body is.desk marks (measure_within c.body is.within.body) is.ranked.valid known (accepted_is_evidence c.body is.desk c.depth marks is.answer n more e is.verified),
          )

  pub check_is_truthful : (check : Check) → IsTruthful (check_meaning check)
  check_is_truthful check found input answer is = outcome_is_true (PrintsCheck found) (check_true found) answer is
