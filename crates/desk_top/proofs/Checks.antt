-- The meaning of a check.
use Rattle.std.proofs.Common.{◌≡◌, ℕ, zero, suc, ◌<◌, ◌≤◌, true, rules, List, [], ◌∷◌, ◌++◌, length, refl, ap, ap₂, sym, subst, ◌∙◌, arith, inl}
use Rattle.std.specs.Prelude.{Bool, false, ◌==◌, if◌then◌else◌, Option, Result, Ok, Err, IfErr, slice_get, unwrap_or, Some, codes, decimal, slice_index_or}
use Rattle.std.specs.List.{AllByRecursion, zip}
use Rattle.std.proofs.Math.Nat.{min-le_left, min-le_right}
use Rattle.desk_words.specs.declared.command.Check.{Check}
use Rattle.desk_model.specs.Book.{Book, IsBook}
use Rattle.desk_model.specs.Desk.{Desk, IsDesk}
use Rattle.desk_model.specs.Name.{is_name}
use Rattle.order_certificate.specs.declared.certificate.Certificate.{Certificate}
use Rattle.order_verifier.specs.declared.rejected.Rejected.{Rejected}
use Rattle.order_verifier.specs.declared.rejected.Rejected.TheVariants.{WrongNames, BoundTooGreat, NoSum, NotCompletion, NoDifference}
use Rattle.std.proofs.lemmas.List.Elements.{recursion_from_All}
use Rattle.topics_pool.specs.Rows.{topic_names}
use Rattle.desk_report.specs.Claims.{IsInLine}
use Rattle.desk_report.proofs.Spelling.{AreInLine, ink_in_line, in_line-append}
use Rattle.desk_model.proofs.Words.{name_word}
use Rattle.desk_report.proofs.Texts.{decimal_ink}
use Rattle.desk_report.proofs.Others.{in_line_back}
use Rattle.std.proofs.lemmas.List.{length-map}
use Rattle.std.proofs.lemmas.Option.{slice_get_within, unwrap_or-slice_get}
use Rattle.std.proofs.lemmas.Slice.Zip.{length-zip}
use Rattle.small_lemmas.proofs.Lists.{map_there}
use Rattle.desk_model.specs.Desk.{topics_under}
use Rattle.desk_model.specs.declared.types.Mark.{Mark}
use Rattle.order_certificate.specs.Claim.{named_topics}
use Rattle.order_certificate.specs.declared.certificate.Evidence.{Evidence}
use Rattle.order_certificate.specs.declared.certificate.Evidence.TheVariants.{Above, Equal, Open}
use Rattle.order_verifier.specs.Refusal.{Compared, topics_in, HasBoundTooGreat}
use Rattle.order_bundle.specs.Bundle.{Bundle}
use Rattle.order_bundle.specs.Evidence.{written_out}
use Rattle.order_bundle.specs.Scoped.{IsScoped}
use Rattle.order_bundle.specs.declared.scoped.Scoped.{Scoped}
use Rattle.order_bundle.specs.declared.any_certificate.AnyCertificate.{AnyCertificate}
use Rattle.order_bundle.specs.declared.any_certificate.AnyCertificate.TheVariants.{One, Many}
use Rattle.order_verifier.specs.Verified.{IsRejected}
use Rattle.order_verifier.specs.declared.failure.Failure.TheVariants as failed
use Rattle.bundle_verifier.specs.Either.{IsAnyVerified}
use Rattle.bundle_verifier.specs.Lines.{told}
use Rattle.bundle_verifier.specs.Verified.{IsReason}
use Rattle.bundle_verifier.specs.declared.reason.BundleReason.{BundleReason}
use Rattle.bundle_verifier.specs.declared.reason.BundleReason.TheVariants.{WrongName, ClaimFails}
use Rattle.bundle_verifier.specs.declared.rejected.BundleRejected.{BundleRejected}
use Rattle.topics_pool.specs.Rows.{IsDeskOf}
use Rattle.desk_files.specs.Checks.{CheckComes, MakesCheck}
use Rattle.desk_files.specs.Load.{Loaded}
use Rattle.desk_files.specs.Outcome.{StopsAt}
use Rattle.desk_files.specs.declared.stop.Stop.{Stop as KeptStop}
use Rattle.desk_files.specs.declared.stop.Stop.TheVariants as kept
use Rattle.desk_outside.specs.Seen.{Shelf}
use Rattle.desk_top.specs.declared.outcome.Outcome.{Outcome as Made}
use Rattle.desk_top.specs.declared.outcome.Outcome.TheVariants as made
use Rattle.desk_top.specs.Status.{GoesWithText}
use Rattle.desk_top.specs.Answer.{OfCheck}
use Rattle.desk_top.specs.Outcome.{Prints}
use Rattle.desk_top.specs.Loading.{check_loading}
use Rattle.desk_top.specs.Meaning.{check_meaning}
use Rattle.desk_top.specs.Verification.{IsReasonOn, claim_text, file_line, reason_text, rejection_text, verification_status, IsChecked}
use Rattle.desk_top.specs.Works.{MakesOutcome, StopsLoading, Works}
use Rattle.desk_top.proofs.Reporting.{found_may_come, check_stops, makes_one_text}

-- ---- what was made
made_as : (check : Check) (cells : ℕ) (found : Loaded × Scoped) (desk : Desk) → IsDeskOf found.0.qrels found.0.runs desk → IsScoped found.1 → (outcome : Made) → IsChecked found.1 desk outcome → MakesOutcome (check_meaning check) cells cells found outcome
made_as check cells found desk ranked within (made.Prints text status) is =
    let goes : GoesWithText status = subst GoesWithText (sym is.text.1) (goes_with is.answer) in (
      makes_one_text (check_meaning check) found (OfCheck found.1 desk) text.items status goes (λ input. (
        Prints status (record { about = OfCheck found.1 desk; text = text.items } ∷ []),
        record {
          desk = desk;
          ranked = ranked;
          within = within;
          answer = is.answer;
          verified = is.verified;
          is = ap₂ (λ s t. Prints s (record { about = OfCheck found.1 desk; text = t } ∷ [])) is.text.1 is.text.0;
        },
        refl,
      )),
      (0, λ taken. refl, omega arith),
    )
  where
    goes_with : (answer : Result (Unit {0}) BundleRejected) → GoesWithText (verification_status answer)
    goes_with (Ok _) = tt
    goes_with (Err rejected) = tt
made_as check cells found desk ranked within (made.Refuses line) is = absurd is.text
made_as check cells found desk ranked within (made.Holds other measure grading) is = absurd is.text

pub check_works : (check : Check) (shelf : Shelf) (cells : ℕ) (made : Desk × Scoped) (outcome : Made) → MakesCheck shelf.files shelf.before shelf.after check (Ok made) → IsScoped made.1 → IsChecked made.1 made.0 outcome → Works (check_meaning check) shelf cells cells (Ok outcome)
check_works check shelf cells made outcome makes within is =
    ((makes.0, made.1), found_may_come (λ files found. CheckComes files check found) shelf.files (makes.0, made.1) makes.1, made_as check cells (makes.0, made.1) made.0 makes.2 within outcome is)

-- why nothing was made
pub check_stopped : (check : Check) (shelf : Shelf) (cells : ℕ) (stop : KeptStop) → StopsAt shelf.files shelf.before shelf.after stop (λ files why. CheckComes files check (Err why)) → Works (check_meaning check) shelf cells cells (Err stop)
check_stopped check shelf cells stop stops = (check_stops check shelf stop stops, inl refl)

pub check_memory : (check : Check) (shelf : Shelf) (cells : ℕ) (stop : KeptStop) → stop ≡ kept.Memory → Works (check_meaning check) shelf cells cells (Err stop)
check_memory check shelf cells stop is = (subst (StopsLoading (check_loading check) shelf) (sym is) tt, inl refl)

-- ---- a reason in a line
name_there : (names : List (List ℕ)) (i : ℕ) → AllByRecursion (λ name. is_name name ≡ true) names → IsInLine (slice_index_or names i [])
name_there [] i h = tt
name_there (x ∷ names) zero h = in_line_back x (ink_in_line x (name_word x h.0).ink)
name_there (x ∷ names) (suc i) h = name_there names i h.1

topics_named : (books : List Book) → AllByRecursion IsBook books → AllByRecursion (λ name. is_name name ≡ true) (topic_names books)
topics_named [] h = tt
topics_named (b ∷ books) h = (h.0.named, topics_named books h.1)

number_in_line : (word : List ℕ) (n : ℕ) → AreInLine word → IsInLine (word ++ decimal n)
number_in_line word n w = in_line_back (word ++ decimal n) (in_line-append word (decimal n) w (ink_in_line (decimal n) (decimal_ink n)))

joined_in_line : (word name : List ℕ) → AreInLine word → IsInLine name → IsInLine (word ++ name)
joined_in_line [] name w h = h
joined_in_line (b ∷ bs) name w h = (w.0, joined_in_line bs name w.1 h)

reason_in_line : (desk : Desk) → IsDesk desk → (depth : Option ℕ) (why : Rejected) → IsInLine (reason_text desk depth why)
reason_in_line desk valid depth (WrongNames line) = number_in_line (codes "WrongNames line ") (file_line depth line) (search rules)
reason_in_line desk valid depth (BoundTooGreat topic) = joined_in_line (codes "BoundTooGreat topic ") _ (search rules) (name_there (topic_names desk.topics) topic (topics_named desk.topics (recursion_from_All IsBook desk.topics valid.books)))
reason_in_line desk valid depth NoSum = search rules
reason_in_line desk valid depth (NotCompletion line) = number_in_line (codes "NotCompletion line ") (file_line depth line) (search rules)
reason_in_line desk valid depth NoDifference = search rules

claim_in_line : (claim : ℕ) (rest : List ℕ) → IsInLine rest → IsInLine (claim_text claim ++ rest)
claim_in_line claim rest h = at (claim == 0)
  where
    word : AreInLine (codes "claim " ++ decimal claim ++ 32 ∷ [])
    word = in_line-append (codes "claim " ++ decimal claim) (32 ∷ []) (in_line-append (codes "claim ") (decimal claim) (search rules) (ink_in_line (decimal claim) (decimal_ink claim))) (omega arith, tt)

    at : (none : Bool) → IsInLine ((if none then [] else (codes "claim " ++ decimal claim ++ 32 ∷ [])) ++ rest)
    at true = h
    at false = joined_in_line (codes "claim " ++ decimal claim ++ 32 ∷ []) rest word h

pub rejection_in_line : (desk : Desk) → IsDesk desk → (depth : Option ℕ) (rejected : BundleRejected) → IsInLine (rejection_text desk depth rejected)
rejection_in_line desk valid depth rejected = claim_in_line rejected.claim (reason_text desk depth rejected.why) (reason_in_line desk valid depth rejected.why)

-- ---- the topic of a reason
pub topic_name_there : (books : List Book) (t : ℕ) (book : Book) → slice_get books t ≡ Some book → slice_index_or (topic_names books) t [] ≡ book.name
topic_name_there books t book e = sym (unwrap_or-slice_get (topic_names books) t []) ∙ ap (λ o. unwrap_or o []) (map_there (λ (b : Book). b.name) books t book e)

bound_within : (c : Compared) (evidence : Evidence) (topic : ℕ) → HasBoundTooGreat c evidence topic → topic < length (topics_in c)
bound_within c (Above bounds) topic h = omega (arith, slice_get_within (zip bounds (topics_in c)) topic h.item h.there, length-zip bounds (topics_in c), min-le_right (length bounds) (length (topics_in c)))
bound_within c (Equal bounds) topic h = omega (arith, slice_get_within (zip bounds (topics_in c)) topic h.item h.there, length-zip bounds (topics_in c), min-le_right (length bounds) (length (topics_in c)))
bound_within c (Open witnesses) topic h = absurd h

topics_within : (desk : Desk) (marks : List (List Mark)) → length (named_topics desk marks) ≤ length desk.topics
topics_within desk marks =
    let pairs = zip desk.topics (topics_under desk marks) in
    let same : length (named_topics desk marks) ≡ length pairs = length-map pairs _ in
    omega (arith, same, length-zip desk.topics (topics_under desk marks), min-le_left (length desk.topics) (length (topics_under desk marks)))

rejected_on_desk : (c : Certificate) (desk : Desk) (marks : List (List Mark)) (why : Rejected) → IsRejected c desk marks why → IsReasonOn desk why
rejected_on_desk c desk marks (WrongNames line) is = tt
rejected_on_desk c desk marks (BoundTooGreat topic) is = let within = bound_within (record { measure = c.measure; desk = desk; marks = marks; first = is.0; second = is.1 }) c.evidence topic is.4 in omega (arith, within, topics_within desk marks)
rejected_on_desk c desk marks NoSum is = tt
rejected_on_desk c desk marks (NotCompletion line) is = tt
rejected_on_desk c desk marks NoDifference is = tt

-- a claim's reason is that against the certificate of one pair for which it stands
told_on_desk : (b : Bundle) (desk : Desk) (marks : List (List Mark)) (reason : BundleReason) → IsReason b desk marks reason → IsReasonOn desk (told b reason).why
told_on_desk b desk marks (WrongName name) is = tt
told_on_desk b desk marks (ClaimFails claim (failed.BoundTooGreat topic)) is = rejected_on_desk (written_out b is.1.item) desk marks (BoundTooGreat topic) is.1.fails
told_on_desk b desk marks (ClaimFails claim failed.NoSum) is = tt
told_on_desk b desk marks (ClaimFails claim (failed.NotCompletion place)) is = tt
told_on_desk b desk marks (ClaimFails claim failed.NoDifference) is = tt

pub reason_on_desk : (c : AnyCertificate) (desk : Desk) (marks : List (List Mark)) (answer : Result (Unit {0}) BundleRejected) → IsAnyVerified c desk marks answer → IfErr answer (λ rejected. IsReasonOn desk rejected.why)
reason_on_desk c desk marks (Ok _) is = tt
reason_on_desk (One c) desk marks (Err rejected) is = rejected_on_desk c desk marks rejected.why is.1
reason_on_desk (Many b) desk marks (Err rejected) is = subst (λ (r : BundleRejected). IsReasonOn desk r.why) (sym is.2) (told_on_desk b desk marks is.0 is.1)
