-- Texts whose last line is ended.
use Rattle.std.proofs.Common.{◌≡◌, ℕ, List, [], ◌∷◌, ◌++◌, flat_map, map, refl, ap, sym, subst, ◌∙◌, inl, inr, append-nil, append_assoc}
use Rattle.std.specs.Prelude.{codes, decimal, length, slice_index_or, ◌*◌, Option, Some, None, Result, Ok, Err, Bool, true, false, MatchBool, nat_eq, ℤ}
use Rattle.std.specs.List.{AllByRecursion, zip}
use Rattle.desk_model.specs.Book.{Book}
use Rattle.desk_model.specs.Desk.{Desk}
use Rattle.desk_model.specs.Name.{number_of}
use Rattle.order_bundle.specs.Scoped.{scoped_lines, scoped_text}
use Rattle.order_bundle.specs.declared.any_certificate.AnyCertificate.TheVariants.{One, Many}
use Rattle.bundle_report.specs.Bundled.{IsAllPairsText}
use Rattle.bundle_verifier.specs.declared.rejected.BundleRejected.{BundleRejected}
use Rattle.judge_session.specs.Request.{Judge, Undo, Redo, Table, Pair, Certify, Pool, Next, Qrels, Quit, Heard, Blank, TooLong, Bad, Asked, heard_of}
use Rattle.judge_session.specs.InForce.{judgeable, grade_in_force}
use Rattle.judge_session.specs.Session.{undone, redone, last_that, first_that, is_live_by, is_undone_by}
use Rattle.judge_session.specs.declared.change.Change.{Change}
use Rattle.judge_session.specs.declared.answers.JudgeFault.{JudgeFault}
use Rattle.measure_laws.specs.Measures.{unit_of}
use Rattle.desk_model.specs.Named.{book_at}
use Rattle.graded_rbp.specs.Kept.{all_graded_totals, all_graded_bounds}
use Rattle.graded_rbp.specs.Score.{GradedMeasure, binary}
use Rattle.desk_report.specs.ByGrades.{graded_text, graded_lines}
use Rattle.desk_report.specs.Close.{close_line}
use Rattle.desk_report.specs.Table.{table_text, table_lines, pair_line, ended}
use Rattle.sheet_merge.specs.Sheet.{SheetRow}
use Rattle.sheet_merge.specs.Text.{entry_text, sheet_text}
use Rattle.desk_report.specs.Judging.{topic_qrels_lines, qrels_text, changed_line, pool_line, next_line}
use Rattle.desk_report.specs.Reports.{Subject, IsTableText, IsCertificateText, IsCloseText, IsPairText, IsNextText, run_name}
use Rattle.desk_report.specs.Tiers.{IsTiersText, tiers_lines, tiers_text}
use Rattle.session_replies.specs.Replies.{Setting, OnNumbers, IsCertified, IsPoolReply, IsReply, judge_reply, undo_reply, redo_reply, subject_after, changes_after, all_in_force, refusal, change_reply, fault_word}
use Rattle.session_stream.specs.Text.{AreReplies}
use Rattle.session_stream.specs.Hearing.{End, Done, InputTooLong, Failed}
use Rattle.desk_files.specs.Files.{Stop, Outside, Memory, Refused}
use Rattle.desk_top.specs.Answer.{Saying, text_of, stop_line}
use Rattle.desk_top.specs.Conversation.{sayings, told_at}
use Rattle.desk_top.specs.Verification.{rejection_text, verification_text}
use Rattle.desk_top.specs.Report.{IsGradedText}
use Rattle.desk_top.specs.Told.{refusal_text, too_long_line}
use Rattle.desk_laws.specs.Answered.{EndsLastLine}

-- a text after a text
after : (first second : List ℕ) → EndsLastLine first → EndsLastLine second → EndsLastLine (first ++ second)
after first second h (inl none) = subst EndsLastLine (sym (append-nil first) ∙ ap (λ t. first ++ t) (sym none)) h
after first second h (inr some) = inr (first ++ some.0, ap (λ t. first ++ t) some.1 ∙ sym (append_assoc first some.0 (10 ∷ [])))

one_after_the_other : {X : Type 0} (f : X → List ℕ) → ((x : X) → EndsLastLine (f x)) → (xs : List X) → EndsLastLine (flat_map f xs)
one_after_the_other f each [] = inl refl
one_after_the_other f each (x ∷ xs) = after (f x) (flat_map f xs) (each x) (one_after_the_other f each xs)

pub line_ends : (line : List ℕ) → EndsLastLine (ended line)
line_ends line = inr (line, refl)

lines_end : (lines : List (List ℕ)) → EndsLastLine (flat_map ended lines)
lines_end lines = one_after_the_other ended line_ends lines

pub text_ends : (said : List Saying) → AllByRecursion (λ (one : Saying). EndsLastLine one.text) said → EndsLastLine (text_of said)
text_ends [] h = inl refl
text_ends (one ∷ more) h = after one.text (text_of more) h.0 (text_ends more h.1)

-- ---- the texts of a desk
table_ends : (desk : Desk) (measure : _) (level : ℕ) (depth : _) (unit : _) (bounds : _) (totals : _) → EndsLastLine (table_text desk measure level depth unit bounds totals)
unfolding table_text
table_ends desk measure level depth unit bounds totals = lines_end (table_lines desk measure level depth unit bounds totals)

certificate_ends : (c : _) → EndsLastLine (scoped_text c)
unfolding scoped_text
certificate_ends c = lines_end (scoped_lines c)

pub all_pairs_text_ends : (s : Subject) (text : List ℕ) → IsAllPairsText s text → EndsLastLine text
all_pairs_text_ends s text is = subst EndsLastLine (sym is.is) (certificate_ends (record { depth = s.depth; body = Many is.bundle }))

pub table_text_ends : (s : Subject) (text : List ℕ) → IsTableText s text → EndsLastLine text
table_text_ends s text is = subst EndsLastLine (sym is.is) (table_ends _ _ _ _ _ _ _)

tiers_end : (desk : Desk) (measure : _) (level : ℕ) (depth : _) (order : _) → EndsLastLine (tiers_text desk measure level depth order)
unfolding tiers_text
tiers_end desk measure level depth order = lines_end (tiers_lines desk measure level depth order)

pub tiers_text_ends : (s : Subject) (text : List ℕ) → IsTiersText s text → EndsLastLine text
tiers_text_ends s text is = subst EndsLastLine (sym is.is) (tiers_end _ _ _ _ _)

graded_ends : (desk : Desk) (measure : _) (greatest : ℕ) (bounds : _) (totals : _) → EndsLastLine (graded_text desk measure greatest bounds totals)
unfolding graded_text
graded_ends desk measure greatest bounds totals = lines_end (graded_lines desk measure greatest bounds totals)

pub graded_text_ends : (m : GradedMeasure) (desk : Desk) (text : List ℕ) → IsGradedText m desk text → EndsLastLine text
graded_text_ends m desk text is = subst EndsLastLine (sym is) (graded_ends desk (binary m) m.greatest (all_graded_bounds m desk) (all_graded_totals m desk))

pub certificate_text_ends : (s : Subject) (a b : ℕ) (text : List ℕ) → IsCertificateText s a b text → EndsLastLine text
certificate_text_ends s a b text is = subst EndsLastLine (sym is.is) (certificate_ends (record { depth = s.depth; body = One is.certificate }))

pub close_text_ends : (s : Subject) (a b : ℕ) (text : List ℕ) → IsCloseText s a b text → EndsLastLine text
close_text_ends s a b text is = subst EndsLastLine (sym is.is) (line_ends (close_line (run_name s.desk a) (run_name s.desk b) is.totals))

pub next_text_ends : (s : Subject) (text : List ℕ) → IsNextText s text → EndsLastLine text
next_text_ends s text is = subst EndsLastLine (sym is.is) (line_ends (next_line s.desk is.proposal))

pub verification_ends : (desk : Desk) (depth : Option ℕ) (answer : Result (Unit {0}) BundleRejected) → EndsLastLine (verification_text desk depth answer)
verification_ends desk depth (Ok _) = inr (codes "accepted", refl)
verification_ends desk depth (Err rejected) = inr (codes "rejected " ++ rejection_text desk depth rejected, refl)

pub sheet_text_ends : (rows : List SheetRow) (text : List ℕ) → text ≡ sheet_text rows → EndsLastLine text
sheet_text_ends rows text is = subst EndsLastLine (sym is) (one_after_the_other _ (λ row. inr (entry_text row, refl)) rows)

pub qrels_text_ends : (desk : Desk) (grades : List (List (Option ℤ))) (text : List ℕ) → text ≡ qrels_text desk grades → EndsLastLine text
qrels_text_ends desk grades text is = subst EndsLastLine (sym is) (one_after_the_other _ (λ p. lines_end (topic_qrels_lines p.0 p.1)) (zip desk.topics grades))

pub summary_ends : (f : List ℕ → Saying) → ((line : List ℕ) → EndsLastLine (f line).text) → (lines : List (List ℕ)) (last : Saying) → EndsLastLine last.text → AllByRecursion (λ (one : Saying). EndsLastLine one.text) (map f lines ++ last ∷ [])
summary_ends f each [] last h = (h, tt)
summary_ends f each (line ∷ lines) last h = (each line, summary_ends f each lines last h)

-- ---- the lines that are told
pub stop_line_ends : (why : Stop) → EndsLastLine (stop_line why)
stop_line_ends Outside = inr (codes "fault: outside", refl)
stop_line_ends Memory = inr (codes "fault: memory", refl)
stop_line_ends (Refused refusal) = inr (codes "refused: " ++ refusal_text refusal, refl)

pub told_ends : (end : End) → EndsLastLine (told_at end)
told_ends Done = inl refl
told_ends InputTooLong = inr (codes "refused: input: InputTooLong", refl)
told_ends Failed = inr (codes "fault: outside", refl)

pub too_long_ends : (bytes : ℕ) → EndsLastLine (too_long_line bytes)
too_long_ends bytes = inr (codes "refused: certificate: TooLong " ++ decimal bytes, refl)

-- ---- the replies of a session
refusal_ends : (reason : List ℕ) → EndsLastLine (refusal reason)
refusal_ends reason = line_ends (codes "no " ++ reason)

change_ends : (desk : Desk) (word : List ℕ) (topic doc : ℕ) (now : List Change) → EndsLastLine (change_reply desk word topic doc now)
change_ends desk word topic doc now = line_ends (changed_line word (book_at desk topic).name (slice_index_or (book_at desk topic).docs doc []) (grade_in_force desk topic doc now))

judge_ends : (desk : Desk) (now : List Change) (place : Result (ℕ × ℕ) JudgeFault) → EndsLastLine (judge_reply desk now place)
judge_ends desk now (Ok place) = change_ends desk (codes "judged") place.0 place.1 now
judge_ends desk now (Err fault) = refusal_ends (fault_word fault)

undo_ends : (desk : Desk) (now : List Change) (change : Option Change) → EndsLastLine (undo_reply desk now change)
undo_ends desk now None = refusal_ends (codes "NothingToUndo")
undo_ends desk now (Some change) = change_ends desk (codes "undone") change.topic change.doc now

redo_ends : (desk : Desk) (now : List Change) (change : Option Change) → EndsLastLine (redo_reply desk now change)
redo_ends desk now None = refusal_ends (codes "NothingToRedo")
redo_ends desk now (Some change) = change_ends desk (codes "redone") change.topic change.doc now

runs_end : (first second : Option ℕ) (fact : ℕ → ℕ → List ℕ → Type 0) (text : List ℕ) → ((a b : ℕ) → fact a b text → EndsLastLine text) → OnNumbers first second fact text → EndsLastLine text
runs_end None second fact text f is = subst EndsLastLine (sym is) (refusal_ends (codes "UnknownRun"))
runs_end (Some a) None fact text f is = subst EndsLastLine (sym is) (refusal_ends (codes "UnknownRun"))
runs_end (Some a) (Some b) fact text f is = at (nat_eq a b) is
  where
    at : (same : Bool) → MatchBool same (text ≡ refusal (codes "SameRun")) (fact a b text) → EndsLastLine text
    at true same = subst EndsLastLine (sym same) (refusal_ends (codes "SameRun"))
    at false is = f a b is

pool_ends : (s : Setting) (changes : List Change) (depth : ℕ) (topic : Option ℕ) (text : List ℕ) → IsPoolReply s changes depth topic text → EndsLastLine text
pool_ends s changes depth None text is = subst EndsLastLine (sym is) (refusal_ends (codes "UnknownTopic"))
pool_ends s changes depth (Some topic) text is = subst EndsLastLine (sym is.2) (line_ends (pool_line is.0))

pair_ends : (s : Subject) (a b : ℕ) (text : List ℕ) → IsPairText s a b text → EndsLastLine text
pair_ends s a b text is = subst EndsLastLine (sym is.is) (line_ends (pair_line (unit_of s.measure * length s.desk.topics) (run_name s.desk a) (run_name s.desk b) is.totals))

certified_ends : (s : Subject) (a b : ℕ) (text : List ℕ) → IsCertified s a b text → EndsLastLine text
certified_ends s a b text (inl is) = certificate_text_ends s a b text is
certified_ends s a b text (inr is) = close_text_ends s a b text is

reply_ends : (s : Setting) (changes : List Change) (heard : Heard) (text : List ℕ) → IsReply s changes heard text → EndsLastLine text
reply_ends s changes Blank text is = inl is
reply_ends s changes TooLong text is = subst EndsLastLine (sym is) (refusal_ends (codes "LineTooLong"))
reply_ends s changes Bad text is = subst EndsLastLine (sym is) (refusal_ends (codes "BadLine"))
reply_ends s changes (Asked (Judge who topic doc grade)) text is = subst EndsLastLine (sym is) (judge_ends s.desk (changes_after s.desk (Asked (Judge who topic doc grade)) changes) (judgeable s.desk who topic doc changes))
reply_ends s changes (Asked (Undo who)) text is = subst EndsLastLine (sym is) (undo_ends s.desk (undone who changes) (last_that (is_live_by who) changes))
reply_ends s changes (Asked (Redo who)) text is = subst EndsLastLine (sym is) (redo_ends s.desk (redone who changes) (first_that (is_undone_by who) changes))
reply_ends s changes (Asked Table) text is = table_text_ends (subject_after s changes) text is
reply_ends s changes (Asked (Pair first second)) text is = runs_end (number_of s.desk.runs first) (number_of s.desk.runs second) (IsPairText (subject_after s changes)) text (λ a b pair. pair_ends (subject_after s changes) a b text pair) is
reply_ends s changes (Asked (Certify first second)) text is = runs_end (number_of s.desk.runs first) (number_of s.desk.runs second) (IsCertified (subject_after s changes)) text (λ a b shown. certified_ends (subject_after s changes) a b text shown) is
reply_ends s changes (Asked (Pool topic depth)) text is = pool_ends s changes depth (number_of (map (λ (book : Book). book.name) s.desk.topics) topic) text is
reply_ends s changes (Asked Next) text is = next_text_ends (subject_after s changes) text is
reply_ends s changes (Asked Qrels) text is = qrels_text_ends s.desk (all_in_force s.desk changes) text is
reply_ends s changes (Asked Quit) text is = inl is

pub replies_end : (s : Setting) (changes : List Change) (lines texts : List (List ℕ)) → AreReplies s changes lines texts → AllByRecursion (λ (one : Saying). EndsLastLine one.text) (sayings s changes lines texts)
replies_end s changes [] texts are = tt
replies_end s changes (line ∷ lines) [] are = absurd are
replies_end s changes (line ∷ lines) (text ∷ texts) are = (reply_ends s changes (heard_of line) text are.0, replies_end s (changes_after s.desk (heard_of line) changes) lines texts are.1)
