-- Evidence for a desk is evidence for that desk again, and what is evidence is accepted.
use Rattle.std.proofs.Common.{◌≡◌, ℕ, List, [], ◌∷◌, map, Option, Result, Ok, Err, ℤ, refl, ap, ap₂, sym, subst, ◌∙◌}
use Rattle.std.specs.List.{zip}
use Rattle.desk_model.specs.Book.{Book}
use Rattle.desk_model.specs.Closing.{closed_under}
use Rattle.desk_model.specs.Desk.{Desk, topics_under, file_marks}
use Rattle.desk_model.specs.Name.{number_of}
use Rattle.desk_model.specs.Order.{Topic}
use Rattle.desk_model.specs.declared.types.Mark.{Mark}
use Rattle.desk_model.specs.declared.types.Verdict.{Verdict}
use Rattle.desk_model.specs.declared.types.Verdict.TheVariants.{Above, Below, Equal, Open, Close}
use Rattle.order_certificate.specs.Claim.{NamedTopic, named_topics}
use Rattle.order_certificate.specs.Evidence.{IsEvidence, Shows}
use Rattle.order_certificate.specs.declared.certificate.Certificate.{Certificate}
use Rattle.order_bundle.specs.Bundle.{Bundle}
use Rattle.order_bundle.specs.Evidence.{IsBundleEvidence}
use Rattle.order_bundle.specs.Scoped.{IsScoped, IsScopedText, scoped_text}
use Rattle.order_bundle.specs.declared.scoped.Scoped.{Scoped}
use Rattle.order_bundle.specs.declared.any_certificate.AnyCertificate.TheVariants.{One, Many}
use Rattle.measure_core.specs.Made.{HasEnds}
use Rattle.pair_table.specs.Evidence.{SaysOfVerdict}
use Rattle.pair_table.proofs.Evident.{answered_evidence}
use Rattle.judge_session.specs.declared.change.Change.{Change}
use Rattle.bundle_verifier.specs.Either.{IsAnyVerified}
use Rattle.bundle_verifier.specs.declared.rejected.BundleRejected.{BundleRejected}
use Rattle.order_verifier.proofs.Answers.{rejected_no_evidence}
use Rattle.bundle_verifier.proofs.Refused.{reason_refused}
use Rattle.desk_top.specs.Answer.{marks_for}
use Rattle.desk_top.specs.Report.{marks_in}
use Rattle.desk_top.specs.Truths.{BundlesAreEvidence}
use Rattle.desk_top.proofs.Marking.{marks_known}
use Rattle.session_replies.specs.Replies.{Setting, all_in_force, marks_after}
use Rattle.session_replies.proofs.Marks.{marks_of_desk}
use Rattle.desk_laws.specs.Replaced.{IsJudgedDesk, IsDeskAgain, AreFilesWith, ComesAgain, marks_by}
use Rattle.desk_laws.specs.Accepted.{CertificatesAreAccepted}
use Rattle.desk_laws.specs.AllPairs.{AllPairsAreAccepted}
use Rattle.session_stream.specs.Text.{changes_over}
use Rattle.desk_laws.proofs.Again.{come_again}
use Rattle.desk_laws.proofs.Grading.{grades_of_session}

-- ---- the topics with their names
abbrev named : Book × Topic → NamedTopic
named p = record { docs = p.0.docs; topic = p.1 }

same_named : (books others : List Book) (topics : List Topic) → map (λ (book : Book). book.docs) others ≡ map (λ (book : Book). book.docs) books → map named (zip others topics) ≡ map named (zip books topics)
same_named [] [] topics e = refl
same_named [] (o ∷ others) topics e = absurd (cc)
same_named (b ∷ books) [] topics e = absurd (cc)
same_named (b ∷ books) (o ∷ others) [] e = refl
same_named (b ∷ books) (o ∷ others) (t ∷ topics) e =
    let first : o.docs ≡ b.docs = cc in
    let later : map (λ (book : Book). book.docs) others ≡ map (λ (book : Book). book.docs) books = cc in
    ap₂ (λ docs ts. (record { docs = docs; topic = t }) ∷ ts) first (same_named books others topics later)

same_topics : (desk again : Desk) (marks : List (List Mark)) → again.rankings ≡ desk.rankings → topics_under again marks ≡ topics_under desk marks
same_topics desk again marks e =
    ap (λ rankings. topics_under (record { topics = desk.topics; runs = desk.runs; rankings = rankings }) marks) e

evidence_again : (c : Certificate) (desk again : Desk) (grades : List (List (Option ℤ))) (level : ℕ) (depth : Option ℕ) → IsDeskAgain desk grades again → IsEvidence c desk (closed_under desk depth (marks_by level grades)) →
    IsEvidence c again (closed_under again depth (map (file_marks level) again.topics))
evidence_again c desk again grades level depth is h =
    let marks = closed_under desk depth (marks_by level grades) in
    let topics : named_topics again marks ≡ named_topics desk marks =
    same_named desk.topics again.topics (topics_under again marks) is.same.universes ∙ ap (λ ts. map named (zip desk.topics ts)) (same_topics desk again marks is.same.rankings) in
    subst (IsEvidence c again) (sym (is.marks level depth)) (record {
      first = h.first;
      second = h.second;
      runs = (ap (λ runs. number_of runs c.first) is.same.runs ∙ h.runs.0, ap (λ runs. number_of runs c.second) is.same.runs ∙ h.runs.1);
      two_runs = h.two_runs;
      topics = h.topics ∙ sym is.same.topics;
      shows = subst (λ ts. Shows c.measure ts h.first h.second c.evidence) (sym topics) h.shows;
    })

-- ---- the level of a certificate
level_said : (s : Setting) (changes : List Change) (a b : ℕ) (c : Certificate) (v : Verdict) → SaysOfVerdict (HasEnds s.measure) s.measure s.desk (marks_after s changes) s.level a b c v → c.level ≡ s.level
level_said s changes a b c Above h = h.compares.at_level
level_said s changes a b c Below h = h.compares.at_level
level_said s changes a b c Equal h = h.compares.at_level
level_said s changes a b c Open h = h.compares.at_level
level_said s changes a b c Close h = absurd h

-- what is evidence is accepted
accepted : (c : Certificate) (desk : Desk) (marks : List (List Mark)) (answer : Result (Unit {0}) BundleRejected) → IsEvidence c desk marks → IsAnyVerified (One c) desk marks answer → answer ≡ Ok tt
accepted c desk marks (Ok done) h is = refl
accepted c desk marks (Err rejected) h is = absurd (rejected_no_evidence c desk marks rejected.why is.1 h)

accepted_bundle : (b : Bundle) (desk : Desk) (marks : List (List Mark)) (answer : Result (Unit {0}) BundleRejected) → IsBundleEvidence b desk marks → IsAnyVerified (Many b) desk marks answer → answer ≡ Ok tt
accepted_bundle b desk marks (Ok done) h is = refl
accepted_bundle b desk marks (Err rejected) h is = absurd (reason_refused b desk marks is.0 is.1 h)

-- ---- the law
module _ (one : (bytes : List ℕ) (c d : Scoped) → IsScopedText bytes c → IsScopedText bytes d → c ≡ d) (texts : (c : Scoped) → IsScoped c → IsScopedText (scoped_text c) c) where
  -- the text of a certificate is of no other one
  its_own : (text : List ℕ) (c d : Scoped) → IsScoped d → text ≡ scoped_text d → IsScopedText text c → c ≡ d
  its_own text c d within is of_text = one text c d of_text (subst (λ t. IsScopedText t d) (sym is) (texts d within))

  pub all_accepted : CertificatesAreAccepted
  all_accepted s lines files again from path desk a b text c answer setting taken h of_text verified =
      let changes = changes_over s.desk lines [] in
      let marks = marks_after s changes in
      let grades = all_in_force s.desk changes in
      let d = h.certificate in
      let judged : IsJudgedDesk files from taken.rows s.desk grades = record { loads = taken.loads; of_rows = taken.of_rows; in_force = grades_of_session files from taken.rows s.desk lines taken.loads taken.of_rows } in
      let comes = come_again files again from path taken.rows s.desk grades judged (subst (λ t. AreFilesWith files again path t from.runs) taken.replied taken.with_text) in
      let is : IsDeskAgain s.desk grades desk = subst (ComesAgain (record from { qrels = path }) _ s.desk grades) taken.loads_again comes desk taken.of_later in
      let evidence = answered_evidence s.measure s.desk marks s.level a b d setting.measure h.valid (marks_of_desk s changes h.valid) h.runs.different h.runs.first h.runs.second h.of_pair in
      let level : d.level ≡ s.level = level_said s changes a b d _ h.of_pair.says in
      let own : Scoped = record { depth = s.depth; body = One d } in
      accepted d desk (closed_under desk s.depth (map (file_marks d.level) desk.topics)) answer
      (subst (λ l. IsEvidence d desk (closed_under desk s.depth (map (file_marks l) desk.topics))) (sym level) (evidence_again d s.desk desk grades s.level s.depth is evidence))
      (subst (λ (e : Scoped). IsAnyVerified e.body desk (marks_for e desk) answer) (its_own text c own h.within h.is of_text) verified)

  pub all_pairs_accepted : BundlesAreEvidence → AllPairsAreAccepted
  all_pairs_accepted evident job desk text c answer h of_text verified =
      let b : Bundle = h.bundle in
      let of = h.on.of_pairs in
      let own : Scoped = record { depth = job.depth; body = Many b } in
      let shown = evident job.measure desk (marks_in job desk) job.level b h.on.valid (marks_known job.level job.depth desk h.on.valid) of in
      accepted_bundle b desk (closed_under desk job.depth (map (file_marks b.level) desk.topics)) answer
      (subst (λ l. IsBundleEvidence b desk (closed_under desk job.depth (map (file_marks l) desk.topics))) (sym of.at_level) shown)
      (subst (λ (e : Scoped). IsAnyVerified e.body desk (marks_for e desk) answer) (its_own text c own h.within h.is of_text) verified)
