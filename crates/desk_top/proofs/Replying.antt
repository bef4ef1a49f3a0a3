-- The replies of a session are true.
use Rattle.std.proofs.Common.{◌≡◌, ℕ, suc, Bool, true, false, List, [], ◌∷◌, ◌++◌, length, take, refl, sym, subst, arith, rules, inl, inr, ℤ, pos, negsuc}
use Rattle.std.specs.Prelude.{codes, decimal, Option, Some, None, Result, Ok, Err, slice_index_or, nat_eq, map, MatchBool}
use Rattle.std.specs.Fmt.{signed_decimal}
use Rattle.std.proofs.lemmas.Bool.{cases_lt}
use Rattle.std.proofs.lemmas.List.{get_or_past}
use Rattle.desk_model.specs.Book.{Book}
use Rattle.desk_model.specs.Desk.{Desk, IsDesk}
use Rattle.desk_model.specs.MeasureText.{IsMeasure}
use Rattle.desk_model.specs.Name.{is_name, number_of}
use Rattle.desk_model.specs.declared.pool.PoolCount.{PoolCount}
use Rattle.judge_session.specs.InForce.{judgeable, grade_in_force}
use Rattle.desk_model.specs.Named.{book_at}
use Rattle.judge_session.specs.Session.{last_that, first_that, is_live_by, is_undone_by, undone, redone}
use Rattle.judge_session.specs.declared.change.Change.{Change}
use Rattle.judge_session.specs.declared.answers.JudgeFault.{JudgeFault}
use Rattle.judge_session.specs.declared.answers.JudgeFault.TheVariants.{UnknownTopic, UnknownDocument, HistoryFull, Memory}
use Rattle.desk_report.specs.Judging.{grade_text}
use Rattle.desk_report.specs.Reports.{IsPairText, IsNextText}
use Rattle.desk_report.specs.Claims.{IsTrueText, IsInLine, IsTrueProposal, IsOtherWord}
use Rattle.desk_report.proofs.Spelling.{AreInLine, in_line-spaced, ink_in_line}
use Rattle.desk_model.proofs.Words.{name_word}
use Rattle.desk_report.proofs.Texts.{decimal_ink}
use Rattle.desk_report.proofs.Others.{in_line_back, other_word}
use Rattle.judge_session.specs.Request.{Judge, Undo, Redo, Table, Pair, Certify, Pool, Next, Qrels, Quit, Heard, Blank, TooLong, Bad, Asked, heard_of}
use Rattle.session_replies.specs.Replies.{Setting, IsReply, IsCertified, IsPoolReply, OnNumbers, refusal, fault_word, judge_reply, undo_reply, redo_reply, marks_after, subject_after, changes_after, all_in_force}
use Rattle.session_replies.proofs.Marks.{marks_of_desk}
use Rattle.desk_top.specs.Answer.{IsTrueOf, AreAlwaysTrue}
use Rattle.desk_top.specs.Conversation.{about_reply, sayings}
use Rattle.desk_top.specs.Truths.{PrintsTruth}
use Rattle.session_stream.specs.Text.{AreReplies}
use Rattle.desk_top.proofs.Truth.{table_is_true, certificate_is_true, close_is_true}

-- ---- what stands in a reply ends no line
signed_in_line : (z : ℤ) → AreInLine (signed_decimal z)
signed_in_line (pos n) = ink_in_line (decimal n) (decimal_ink n)
signed_in_line (negsuc n) = (omega arith, ink_in_line (decimal (suc n)) (decimal_ink (suc n)))

grade_in_line : (grade : Option ℤ) → AreInLine (grade_text grade)
grade_in_line None = search rules
grade_in_line (Some grade) = signed_in_line grade

name_in_line : (text : List ℕ) → is_name text ≡ true → AreInLine text
name_in_line text h = ink_in_line text (name_word text h).ink

module _ (desk : Desk) (valid : IsDesk desk) where
  -- the name of a topic by its number, and none where there is no such topic
  topic_in_line : (topic : ℕ) → AreInLine (book_at desk topic).name
  topic_in_line topic = elim (cases_lt topic (length desk.topics)) [
    | inl lt ↦ name_in_line (book_at desk topic).name (valid.books topic (record { name = []; docs = []; grades = [] }) lt).named
    | inr le ↦ subst (λ (b : Book). AreInLine b.name) (sym (get_or_past desk.topics topic (record { name = []; docs = []; grades = [] }) le)) tt
  ]

  doc_in_line : (topic doc : ℕ) → AreInLine (slice_index_or (book_at desk topic).docs doc [])
  doc_in_line topic doc = elim (cases_lt topic (length desk.topics)) [
    | inl lt ↦ elim (cases_lt doc (length (book_at desk topic).docs)) [
      | inl in_docs ↦ name_in_line (slice_index_or (book_at desk topic).docs doc []) ((valid.books topic (record { name = []; docs = []; grades = [] }) lt).documents doc [] in_docs)
      | inr le ↦ subst AreInLine (sym (get_or_past (book_at desk topic).docs doc [] le)) tt
    ]
    | inr le ↦ subst (λ (b : Book). AreInLine (slice_index_or b.docs doc [])) (sym (get_or_past desk.topics topic (record { name = []; docs = []; grades = [] }) le)) tt
  ]

  -- what follows the word of a change
  abbrev change_rest : ℕ → ℕ → List Change → List ℕ
  change_rest topic doc now = (book_at desk topic).name ++ 32 ∷ slice_index_or (book_at desk topic).docs doc [] ++ 32 ∷ grade_text (grade_in_force desk topic doc now)

  change_in_line : (topic doc : ℕ) (now : List Change) → IsInLine (change_rest topic doc now)
  change_in_line topic doc now =
      in_line_back (change_rest topic doc now)
      (in_line-spaced ((book_at desk topic).name ++ 32 ∷ slice_index_or (book_at desk topic).docs doc []) (grade_text (grade_in_force desk topic doc now))
      (in_line-spaced (book_at desk topic).name (slice_index_or (book_at desk topic).docs doc []) (topic_in_line topic) (doc_in_line topic doc)) (grade_in_line (grade_in_force desk topic doc now)))

abbrev pool_rest : PoolCount → List ℕ
pool_rest count = decimal count.size ++ 32 ∷ decimal count.judged ++ 32 ∷ decimal count.relevant ++ 32 ∷ decimal count.unjudged

pool_in_line : (count : PoolCount) → IsInLine (pool_rest count)
pool_in_line count =
    in_line_back (pool_rest count)
    (in_line-spaced (decimal count.size ++ 32 ∷ decimal count.judged ++ 32 ∷ decimal count.relevant) (decimal count.unjudged)
    (in_line-spaced (decimal count.size ++ 32 ∷ decimal count.judged) (decimal count.relevant)
    (in_line-spaced (decimal count.size) (decimal count.judged) (ink_in_line (decimal count.size) (decimal_ink count.size)) (ink_in_line (decimal count.judged) (decimal_ink count.judged)))
    (ink_in_line (decimal count.relevant) (decimal_ink count.relevant))) (ink_in_line (decimal count.unjudged) (decimal_ink count.unjudged)))

module _ (laws : PrintsTruth) (s : Setting) (changes : List Change) (m : IsMeasure s.measure) (valid : IsDesk s.desk) where
  -- a prefix of a reply claims nothing false under the judgements in force
  abbrev ReplyIsTrue : ℕ → List ℕ → Type 0
  ReplyIsTrue n text = IsTrueText s.measure s.desk (marks_after s changes) (take n text)

  line_true : (n : ℕ) (word rest : List ℕ) → IsOtherWord word → IsInLine rest → ReplyIsTrue n (word ++ 32 ∷ rest ++ codes "\n")
  line_true n word rest is line = laws.others s.measure s.desk (marks_after s changes) word rest n is line

  refusal_true : (n : ℕ) (reason : List ℕ) → IsInLine reason → ReplyIsTrue n (refusal reason)
  refusal_true n reason line = line_true n (codes "no") reason (other_word (codes "no") refl refl refl refl) line

  fault_true : (n : ℕ) (fault : JudgeFault) → ReplyIsTrue n (refusal (fault_word fault))
  fault_true n UnknownTopic = refusal_true n (codes "UnknownTopic") (search rules)
  fault_true n UnknownDocument = refusal_true n (codes "UnknownDocument") (search rules)
  fault_true n HistoryFull = refusal_true n (codes "HistoryFull") (search rules)
  fault_true n Memory = refusal_true n [] tt

  judge_true : (n : ℕ) (now : List Change) (place : Result (ℕ × ℕ) JudgeFault) → ReplyIsTrue n (judge_reply s.desk now place)
  judge_true n now (Ok place) = line_true n (codes "judged") (change_rest s.desk valid place.0 place.1 now) (other_word (codes "judged") refl refl refl refl) (change_in_line s.desk valid place.0 place.1 now)
  judge_true n now (Err fault) = fault_true n fault

  undo_true : (n : ℕ) (now : List Change) (change : Option Change) → ReplyIsTrue n (undo_reply s.desk now change)
  undo_true n now None = refusal_true n (codes "NothingToUndo") (search rules)
  undo_true n now (Some change) = line_true n (codes "undone") (change_rest s.desk valid change.topic change.doc now) (other_word (codes "undone") refl refl refl refl) (change_in_line s.desk valid change.topic change.doc now)

  redo_true : (n : ℕ) (now : List Change) (change : Option Change) → ReplyIsTrue n (redo_reply s.desk now change)
  redo_true n now None = refusal_true n (codes "NothingToRedo") (search rules)
  redo_true n now (Some change) = line_true n (codes "redone") (change_rest s.desk valid change.topic change.doc now) (other_word (codes "redone") refl refl refl refl) (change_in_line s.desk valid change.topic change.doc now)

  pool_true : (n depth : ℕ) (topic : Option ℕ) (text : List ℕ) → IsPoolReply s changes depth topic text → ReplyIsTrue n text
  pool_true n depth None text is = subst (ReplyIsTrue n) (sym is) (refusal_true n (codes "UnknownTopic") (search rules))
  pool_true n depth (Some topic) text is = subst (ReplyIsTrue n) (sym is.2) (line_true n (codes "pool") (pool_rest is.0) (other_word (codes "pool") refl refl refl refl) (pool_in_line is.0))

  -- a reply on two runs
  runs_true : (n : ℕ) (first second : Option ℕ) (fact : ℕ → ℕ → List ℕ → Type 0) (text : List ℕ) → ((a b : ℕ) → fact a b text → ReplyIsTrue n text) → OnNumbers first second fact text → ReplyIsTrue n text
  runs_true n None second fact text f is = subst (ReplyIsTrue n) (sym is) (refusal_true n (codes "UnknownRun") (search rules))
  runs_true n (Some a) None fact text f is = subst (ReplyIsTrue n) (sym is) (refusal_true n (codes "UnknownRun") (search rules))
  runs_true n (Some a) (Some b) fact text f is = at (nat_eq a b) is
    where
      at : (same : Bool) → MatchBool same (text ≡ refusal (codes "SameRun")) (fact a b text) → ReplyIsTrue n text
      at true same = subst (ReplyIsTrue n) (sym same) (refusal_true n (codes "SameRun") (search rules))
      at false is = f a b is

  pair_true : (n a b : ℕ) (text : List ℕ) → IsPairText (subject_after s changes) a b text → ReplyIsTrue n text
  pair_true n a b text is =
      subst (ReplyIsTrue n) (sym is.is) (laws.pair_lines s.measure s.desk (marks_after s changes) a b is.totals n m valid (marks_of_desk s changes valid) is.runs.first is.runs.second is.runs.different is.summed)

  certified_true : (n a b : ℕ) (text : List ℕ) → IsCertified (subject_after s changes) a b text → ReplyIsTrue n text
  certified_true n a b text (inl is) = certificate_is_true laws (subject_after s changes) a b text n m (marks_of_desk s changes valid) is
  certified_true n a b text (inr is) = close_is_true laws (subject_after s changes) a b text n is

  next_true : (n : ℕ) (text : List ℕ) → IsNextText (subject_after s changes) text → ReplyIsTrue n text × IsTrueProposal s.measure s.desk (marks_after s changes) (take n text)
  next_true n text is =
      subst (λ t. ReplyIsTrue n t × IsTrueProposal s.measure s.desk (marks_after s changes) (take n t)) (sym is.is)
      (laws.next s.measure s.desk (marks_after s changes) is.totals is.proposal n valid (marks_of_desk s changes valid) is.summed is.next)

  -- each reply is true of what it speaks of
  pub reply_is_true : (heard : Heard) (text : List ℕ) (n : ℕ) → IsReply s changes heard text → IsTrueOf (about_reply s changes heard) (take n text)
  reply_is_true Blank text n is = subst (ReplyIsTrue n) (sym is) (laws.no_text s.measure s.desk (marks_after s changes) n)
  reply_is_true TooLong text n is = subst (ReplyIsTrue n) (sym is) (refusal_true n (codes "LineTooLong") (search rules))
  reply_is_true Bad text n is = subst (ReplyIsTrue n) (sym is) (refusal_true n (codes "BadLine") (search rules))
  reply_is_true (Asked (Judge who topic doc grade)) text n is =
      subst (ReplyIsTrue n) (sym is) (judge_true n (changes_after s.desk (Asked (Judge who topic doc grade)) changes) (judgeable s.desk who topic doc changes))
  reply_is_true (Asked (Undo who)) text n is = subst (ReplyIsTrue n) (sym is) (undo_true n (undone who changes) (last_that (is_live_by who) changes))
  reply_is_true (Asked (Redo who)) text n is = subst (ReplyIsTrue n) (sym is) (redo_true n (redone who changes) (first_that (is_undone_by who) changes))
  reply_is_true (Asked Table) text n is = table_is_true laws (subject_after s changes) text n m (marks_of_desk s changes valid) is
  reply_is_true (Asked (Pair first second)) text n is = runs_true n (number_of s.desk.runs first) (number_of s.desk.runs second) (IsPairText (subject_after s changes)) text (λ a b. pair_true n a b text) is
  reply_is_true (Asked (Certify first second)) text n is = runs_true n (number_of s.desk.runs first) (number_of s.desk.runs second) (IsCertified (subject_after s changes)) text (λ a b. certified_true n a b text) is
  reply_is_true (Asked (Pool topic depth)) text n is = pool_true n depth (number_of (map (λ (book : Book). book.name) s.desk.topics) topic) text is
  reply_is_true (Asked Next) text n is = next_true n text is
  reply_is_true (Asked Qrels) text n is = subst (ReplyIsTrue n) (sym is) (laws.qrels s.measure s.desk (marks_after s changes) (all_in_force s.desk changes) n valid)
  reply_is_true (Asked Quit) text n is = subst (ReplyIsTrue n) (sym is) (laws.no_text s.measure s.desk (marks_after s changes) n)

-- the replies of a session are true, each of the judgements in force before its line
pub replies_are_true : PrintsTruth → (s : Setting) → IsMeasure s.measure → IsDesk s.desk → (c : List Change) (ls texts : List (List ℕ)) → AreReplies s c ls texts → AreAlwaysTrue (sayings s c ls texts)
replies_are_true laws s m valid c [] texts are = tt
replies_are_true laws s m valid c (l ∷ ls) [] are = absurd are
replies_are_true laws s m valid c (l ∷ ls) (t ∷ ts) are =
    (λ n. reply_is_true laws s c m valid (heard_of l) t n are.0, replies_are_true laws s m valid (changes_after s.desk (heard_of l) c) ls ts are.1)
