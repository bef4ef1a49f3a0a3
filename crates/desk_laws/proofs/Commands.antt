-- What holds of each command: a row each.
use Rattle.std.proofs.Common.{◌≡◌, ℕ, List, [], ◌∷◌, ap, sym, subst, ◌∙◌, inl, inr, refl, arith}
use Rattle.std.specs.Prelude.{Result, Ok, Err, Bool, true, false, cond, nat_lt, length}
use Rattle.std.specs.List.{Contains}
use Rattle.desk_outside.specs.Inputs.{Input, Whole, Cut, bytes_in}
use Rattle.desk_words.specs.declared.command.Check.{Check}
use Rattle.desk_words.specs.declared.command.Job.{Job}
use Rattle.desk_words.specs.declared.command.Placing.{Placing}
use Rattle.desk_words.specs.declared.command.Command.{Command}
use Rattle.desk_words.specs.declared.command.Command.TheVariants.{Table, Certify, CertifyAll, Session, Verify, Demo, Graded, Tiers, Merge, Apply}
use Rattle.bundle_verifier.specs.declared.rejected.BundleRejected.{BundleRejected}
use Rattle.bundle_report.specs.Bundled.{IsAllPairsText}
use Rattle.desk_report.specs.Reports.{Subject, IsTableText, IsCertificateText, IsCloseText}
use Rattle.desk_report.specs.Table.{ended}
use Rattle.desk_report.specs.Tiers.{IsTiersText, tiers_text}
use Rattle.session_replies.proofs.Unique.{one_table}
use Rattle.session_stream.specs.Hearing.{End, Done, InputTooLong, has_quit, before_quit, ended_lines, heard_to_end, hearing_of}
use Rattle.session_stream.specs.declared.stream.TheConstants.{LONGEST_INPUT}
use Rattle.desk_files.specs.Load.{Sources}
use Rattle.desk_files.proofs.Opening.{may_open_qrels}
use Rattle.desk_files.proofs.Checking.{check_opens_qrels}
use Rattle.desk_top.specs.declared.status.Status.{Status}
use Rattle.desk_top.specs.declared.status.Status.TheVariants as statuses
use Rattle.desk_top.specs.Answer.{OfRuns, OfTiers, OfNothing, Answer}
use Rattle.desk_top.specs.Outcome.{Outcome, answer_of}
use Rattle.desk_top.specs.Report.{sources_of, graded_sources}
use Rattle.desk_top.specs.Verification.{PrintsCheck, verification_status}
use Rattle.desk_top.specs.Conversation.{status_at}
use Rattle.desk_top.specs.Showing.{PrintsDemo}
use Rattle.desk_top.specs.Loading.{loading_from, check_loading, no_loading}
use Rattle.desk_top.specs.Meaning.{Meaning, check_meaning, session_meaning, demo_meaning, desk_meaning, graded_meaning, merge_meaning, apply_meaning, meaning_of, PrintsTable, PrintsTiers, PrintsCertificate, PrintsAllPairs}
use Rattle.desk_laws.specs.Fixed.{BundleIsOne, CheckIsOne, OrderIsOne, AnswersAreFixed}
use Rattle.desk_laws.proofs.LineEnds.{all_pairs_text_ends, too_long_ends, table_text_ends, tiers_text_ends, certificate_text_ends, close_text_ends, next_text_ends, verification_ends, summary_ends, line_ends}
use Rattle.desk_laws.proofs.Sheets.{merge_lawful, merge_ends, merge_lines, merge_one, placing_lawful, apply_ends, apply_lines, apply_one}
use Rattle.desk_laws.proofs.Statuses.{IsLawfulLoading, HasEnds, EndsIn}
use Rattle.desk_laws.proofs.Answering.{EndsLines, HasLines, HasOneAnswer, IsMadeLawfully, outcome_ends, outcome_lines, outcome_one, text_status, text_lines, text_one, on_desk_ends, on_desk_lines, on_desk_one, graded_status, graded_whole, graded_answer_one, all_pairs_one, certificate_one, check_one, session_lines, session_one, demo_one}

-- what holds of a command: of what it reads, of its statuses, of its lines, and that it has one answer
pub record IsLawful (meaning : Meaning) : Type 0 where
  pub loading : IsLawfulLoading meaning.loading
  pub ends : HasEnds meaning
  pub lines : HasLines meaning
  pub one : HasOneAnswer meaning

-- ---- files
desk_lawful : (from : Sources) → IsLawfulLoading (loading_from from)
desk_lawful from = record { one = λ files x y a b. sym a ∙ b; opens = λ known refusal comes. (from.qrels, may_open_qrels known from) }

pub check_lawful : CheckIsOne → (check : Check) → IsLawfulLoading (check_loading check)
check_lawful one check = record { one = λ files x y a b. one check files x y a b; opens = λ known refusal comes. (check.qrels, check_opens_qrels known check) }

no_lawful : IsLawfulLoading no_loading
no_lawful = record { one = λ files x y a b. a ∙ sym b; opens = λ known refusal comes. absurd (cc) }

-- ---- what is made
the_first : {X : Type 0} (x : X) (xs : List X) → Contains (x ∷ xs) x
the_first x xs = (0, omega arith, refl)

the_second : {X : Type 0} (w x : X) (xs : List X) → Contains (w ∷ x ∷ xs) x
the_second w x xs = (1, omega arith, refl)

prints_table : IsMadeLawfully (statuses.Done ∷ []) PrintsTable
prints_table = record {
  status = λ s outcome is. text_status (statuses.Done ∷ []) statuses.Done (OfRuns s) (IsTableText s) (the_first statuses.Done []) outcome is;
  lines = λ s outcome is. text_lines statuses.Done (OfRuns s) (IsTableText s) (table_text_ends s) outcome is;
  one = λ s first second h k. text_one statuses.Done (OfRuns s) (IsTableText s) (one_table s) first second h k;
}

-- the tiers of the runs
module _ (order_one : OrderIsOne) where
  one_tiers : (s : Subject) (text other : List ℕ) → IsTiersText s text → IsTiersText s other → text ≡ other
  one_tiers s text other h k = h.is ∙ ap (tiers_text s.desk s.measure s.level s.depth) (order_one s.measure s.desk s.marks h.order k.order h.named k.named) ∙ sym k.is

  prints_tiers : IsMadeLawfully (statuses.Done ∷ []) PrintsTiers
  prints_tiers = record {
    status = λ s outcome is. text_status (statuses.Done ∷ []) statuses.Done (OfTiers s) (IsTiersText s) (the_first statuses.Done []) outcome is;
    lines = λ s outcome is. text_lines statuses.Done (OfTiers s) (IsTiersText s) (tiers_text_ends s) outcome is;
    one = λ s first second h k. text_one statuses.Done (OfTiers s) (IsTiersText s) (one_tiers s) first second h k;
  }

prints_certificate : IsMadeLawfully (statuses.Done ∷ statuses.Close ∷ []) PrintsCertificate
prints_certificate = record { status = status; lines = lines; one = certificate_one }
  where
    status : (s : Subject) (outcome : Outcome) → PrintsCertificate s outcome → Contains (statuses.Done ∷ statuses.Close ∷ []) (answer_of outcome).status
    status s outcome (inl is) = text_status (statuses.Done ∷ statuses.Close ∷ []) statuses.Done (OfRuns s) (IsCertificateText s 0 1) (the_first statuses.Done (statuses.Close ∷ [])) outcome is
    status s outcome (inr is) = text_status (statuses.Done ∷ statuses.Close ∷ []) statuses.Close (OfRuns s) (IsCloseText s 0 1) (the_second statuses.Done statuses.Close []) outcome is

    lines : (s : Subject) (outcome : Outcome) → PrintsCertificate s outcome → EndsLines (answer_of outcome)
    lines s outcome (inl is) = text_lines statuses.Done (OfRuns s) (IsCertificateText s 0 1) (certificate_text_ends s 0 1) outcome is
    lines s outcome (inr is) = text_lines statuses.Close (OfRuns s) (IsCloseText s 0 1) (close_text_ends s 0 1) outcome is

prints_all_pairs : BundleIsOne → IsMadeLawfully (statuses.Done ∷ statuses.Refused ∷ []) PrintsAllPairs
prints_all_pairs bundle_one = record { status = status; lines = lines; one = all_pairs_one bundle_one }
  where
    status : (s : Subject) (outcome : Outcome) → PrintsAllPairs s outcome → Contains (statuses.Done ∷ statuses.Refused ∷ []) (answer_of outcome).status
    status s outcome (inl is) = text_status (statuses.Done ∷ statuses.Refused ∷ []) statuses.Done (OfRuns s) (IsAllPairsText s) (the_first statuses.Done (statuses.Refused ∷ [])) outcome is
    status s outcome (inr (bytes, long, is)) = subst (λ o. Contains (statuses.Done ∷ statuses.Refused ∷ []) (answer_of o).status) (sym is) (the_second statuses.Done statuses.Refused [])

    lines : (s : Subject) (outcome : Outcome) → PrintsAllPairs s outcome → EndsLines (answer_of outcome)
    lines s outcome (inl is) = text_lines statuses.Done (OfRuns s) (IsAllPairsText s) (all_pairs_text_ends s) outcome is
    lines s outcome (inr (bytes, long, is)) = subst (λ o. EndsLines (answer_of o)) (sym is) (record { said = tt; told = too_long_ends bytes })

-- ---- statuses
check_ends : (check : Check) → HasEnds (check_meaning check)
check_ends check found input answer is = inl (outcome_ends (statuses.Done ∷ statuses.Rejected ∷ []) (PrintsCheck found) (λ outcome holds. subst (λ o. Contains (statuses.Done ∷ statuses.Rejected ∷ []) (answer_of o).status) (sym holds.is) (at holds.answer)) answer is)
  where
    at : (result : Result (Unit {0}) BundleRejected) → Contains (statuses.Done ∷ statuses.Rejected ∷ []) (verification_status result)
    at (Ok _) = the_first statuses.Done (statuses.Rejected ∷ [])
    at (Err rejected) = the_second statuses.Done statuses.Rejected []

demo_ends : (seed : ℕ) → HasEnds (demo_meaning seed)
demo_ends seed found input answer is = inl (outcome_ends (statuses.Done ∷ []) (PrintsDemo seed) (λ outcome holds. subst (λ o. Contains (statuses.Done ∷ []) (answer_of o).status) (sym holds.is) (the_first statuses.Done [])) answer is)

-- an input ends a session in one of its statuses, or it failed
module _ (job : Job) where
  abbrev Ends : Input → End → Type 0
  Ends input end = EndsIn (session_meaning job) input (status_at end)

  last : (input : Input) → Ends input (heard_to_end input).end
  last (Whole bytes) = inl (the_first statuses.Done (statuses.Refused ∷ []))
  last (Cut bytes) = inr (refl, tt, tt)

  hearing_ends : (input : Input) → Ends input (hearing_of input).end
  hearing_ends input = at (has_quit (ended_lines input)) (nat_lt LONGEST_INPUT (length (bytes_in input)))
    where
      at : (quits long : Bool) → Ends input (cond quits (record { lines = before_quit (ended_lines input); end = Done }) (cond long (record { lines = ended_lines input; end = InputTooLong }) (heard_to_end input))).end
      at true long = inl (the_first statuses.Done (statuses.Refused ∷ []))
      at false true = inl (the_second statuses.Done statuses.Refused [])
      at false false = last input

session_ends : (job : Job) → HasEnds (session_meaning job)
session_ends job rows input answer is = subst (λ (a : Answer). EndsIn (session_meaning job) input a.status) (sym is.holds.is) (hearing_ends job input)

-- ---- whole lines
check_lines : (check : Check) → HasLines (check_meaning check)
check_lines check found input answer is =
    outcome_lines (PrintsCheck found) (λ outcome holds. subst (λ o. EndsLines (answer_of o)) (sym holds.is) (record { said = (verification_ends holds.desk found.1.depth holds.answer, tt); told = inl refl })) answer is

demo_lines : (seed : ℕ) → HasLines (demo_meaning seed)
demo_lines seed found input answer is =
    outcome_lines (PrintsDemo seed)
    (λ outcome holds. subst (λ o. EndsLines (answer_of o)) (sym holds.is) (record { said = summary_ends (λ line. record { about = OfNothing; text = ended line }) (λ line. line_ends line) holds.lines _ (next_text_ends _ holds.next holds.texts.proposal); told = inl refl })) answer is

-- ---- each command
-- one that makes an outcome of the desk of a job
on_desk : AnswersAreFixed → (job : Job) (least : ℕ) (ends : List Status) (makes : Subject → Outcome → Type 0) → IsMadeLawfully ends makes → IsLawful (desk_meaning job least ends makes)
on_desk fixed job least ends makes made = record {
  loading = desk_lawful (sources_of job);
  ends = λ rows input answer is. inl (on_desk_ends job least ends makes made rows input answer is);
  lines = on_desk_lines job least ends makes made;
  one = on_desk_one job least ends makes made fixed.desk;
}

session : AnswersAreFixed → (job : Job) → IsLawful (session_meaning job)
session fixed job = record {
  loading = desk_lawful (sources_of job);
  ends = session_ends job;
  lines = λ rows input answer is. session_lines _ input answer is.holds;
  one = λ rows input first second is other. session_one fixed.replies fixed.desk job rows input first second is other;
}

check_of : AnswersAreFixed → (check : Check) → IsLawful (check_meaning check)
check_of fixed check = record {
  loading = check_lawful fixed.check check;
  ends = check_ends check;
  lines = check_lines check;
  one = λ found input first second is other. outcome_one (PrintsCheck found) (check_one fixed.desk fixed.verifier found) first second is other;
}

demo : AnswersAreFixed → (seed : ℕ) → IsLawful (demo_meaning seed)
demo fixed seed = record {
  loading = no_lawful;
  ends = demo_ends seed;
  lines = demo_lines seed;
  one = λ found input first second is other. outcome_one (PrintsDemo seed) (demo_one fixed.desk fixed.next seed) first second is other;
}

graded : AnswersAreFixed → (job : Job) (greatest : ℕ) → IsLawful (graded_meaning job greatest)
graded fixed job greatest = record {
  loading = desk_lawful (graded_sources job greatest);
  ends = λ rows input answer is. inl (graded_status job greatest rows input answer is);
  lines = graded_whole job greatest;
  one = graded_answer_one job greatest fixed.desk;
}

merge : (paths : List (List ℕ)) → IsLawful (merge_meaning paths)
merge paths = record { loading = merge_lawful paths; ends = merge_ends paths; lines = merge_lines paths; one = merge_one paths }

apply : AnswersAreFixed → (placing : Placing) → IsLawful (apply_meaning placing)
apply fixed placing = record {
  loading = placing_lawful fixed.desk placing;
  ends = apply_ends fixed.desk placing;
  lines = apply_lines fixed.desk placing;
  one = apply_one fixed.desk placing;
}

pub command_is_lawful : AnswersAreFixed → (command : Command) → IsLawful (meaning_of command)
command_is_lawful fixed (Table job) = on_desk fixed job 1 (statuses.Done ∷ []) PrintsTable prints_table
command_is_lawful fixed (Certify job) = on_desk fixed job 2 (statuses.Done ∷ statuses.Close ∷ []) PrintsCertificate prints_certificate
command_is_lawful fixed (CertifyAll job) = on_desk fixed job 2 (statuses.Done ∷ statuses.Refused ∷ []) PrintsAllPairs (prints_all_pairs fixed.bundle)
command_is_lawful fixed (Session job) = session fixed job
command_is_lawful fixed (Verify check) = check_of fixed check
command_is_lawful fixed (Demo seed) = demo fixed seed
command_is_lawful fixed (Graded job greatest) = graded fixed job greatest
command_is_lawful fixed (Tiers job) = on_desk fixed job 1 (statuses.Done ∷ []) PrintsTiers (prints_tiers fixed.order)
command_is_lawful fixed (Merge sheets) = merge sheets
command_is_lawful fixed (Apply placing) = apply fixed placing
