-- The marks while only unjudged documents are judged.
use Rattle.std.proofs.Common.{◌≡◌, ℕ, ◌<◌, List, [], ◌∷◌, Bool, true, false, length, map, get_or, Option, Some, None, Result, Ok, Err, ℤ, refl, ap, sym, subst, ◌∙◌, arith}
use Rattle.std.specs.Prelude.{if◌then◌else◌, nat_lt}
use Rattle.std.specs.List.{list_any}
use Rattle.std.proofs.Math.ListN.{set}
use Rattle.std.proofs.lemmas.List.{length-map}
use Rattle.desk_model.specs.Book.{Book}
use Rattle.desk_model.specs.Desk.{Desk, IsDesk}
use Rattle.desk_model.specs.Closing.{closed, is_within}
use Rattle.desk_model.specs.Mark.{mark_of, mark_at}
use Rattle.desk_model.specs.Name.{is_same_name, number_of}
use Rattle.desk_model.specs.Named.{book_at}
use Rattle.desk_model.specs.declared.types.Mark.{Mark}
use Rattle.desk_model.specs.declared.types.Mark.TheVariants.{Unjudged, Relevant, Other}
use Rattle.measure_laws.specs.Refinement.{MayBecome, AreRefinedBy}
use Rattle.judge_session.specs.Session.{without_undone, judged, undone, redone, last_that, first_that, is_live_by, is_undone_by, CHANGE_LIMIT}
use Rattle.judge_session.specs.InForce.{grade_in_force, document_in, document_of, found_document, with_room, judgeable}
use Rattle.judge_session.specs.declared.change.Change.{Change}
use Rattle.judge_session.specs.declared.answers.JudgeFault.{JudgeFault}
use Rattle.judge_session.specs.declared.answers.JudgeFault.TheVariants.{HistoryFull}
use Rattle.judge_session.proofs.Finding.{found_within}
use Rattle.judge_session.proofs.Undoing.{undone-none, redone-none}
use Rattle.pair_table.specs.Refined.{AreAllRefinedBy}
use Rattle.judge_session.specs.Request.{Judge, Undo, Redo, Heard, Asked, heard_of}
use Rattle.session_replies.specs.Replies.{Setting, marks_after, changes_after, after_judging, accepted, one_if_ok, one_if_some}
use Rattle.session_replies.proofs.Elsewhere.{not_both, judged_elsewhere}
use Rattle.session_replies.proofs.Marks.{marks_set}
use Rattle.session_stream.specs.Text.{changes_over}
use Rattle.desk_laws.specs.Settled.{JudgesUnjudged, OnlyJudgeUnjudged}
use Rattle.desk_laws.proofs.Beside.{beside_itself, beside_both, beside_set}

-- ---- refined marks
may_stay : (m : Mark) → MayBecome m m
may_stay Unjudged = tt
may_stay Relevant = refl
may_stay Other = refl

may_become : (l m n : Mark) → MayBecome l m → MayBecome m n → MayBecome l n
may_become Unjudged m n h k = tt
may_become Relevant m n h k = subst (λ x. MayBecome x n) h k
may_become Other m n h k = subst (λ x. MayBecome x n) h k

row_stays : (row : List Mark) → AreRefinedBy row row
row_stays = beside_itself MayBecome may_stay

pub all_stay : (marks : List (List Mark)) → AreAllRefinedBy marks marks
all_stay = beside_itself AreRefinedBy row_stays

all_become : (xs ys zs : List (List Mark)) → AreAllRefinedBy xs ys → AreAllRefinedBy ys zs → AreAllRefinedBy xs zs
all_become = beside_both AreRefinedBy (beside_both MayBecome may_become)

-- one unjudged document gets a mark
one_mark : (marks : List (List Mark)) (topic doc : ℕ) (m : Mark) → mark_at (get_or marks topic []) doc ≡ Unjudged → AreAllRefinedBy marks (set marks topic (set (get_or marks topic []) doc m))
one_mark marks topic doc m is =
    beside_set AreRefinedBy row_stays [] marks topic (set (get_or marks topic []) doc m)
    (beside_set MayBecome may_stay Unjudged (get_or marks topic []) doc m (subst (λ x. MayBecome x m) (sym is) tt))

-- ---- a document that may be judged is on the desk
record IsThere (desk : Desk) (place : ℕ × ℕ) : Type 0 where
  pub topic : place.0 < length desk.topics
  pub doc : place.1 < length (book_at desk place.0).docs

numbered_within : (names : List (List ℕ)) (name : List ℕ) (i : ℕ) → number_of names name ≡ Some i → i < length names
numbered_within names name i e = let below = found_within (λ each. is_same_name each name) 0 names i e in omega (arith, below)

doc_there : (desk : Desk) (topic : ℕ) (doc : List ℕ) (place : ℕ × ℕ) (o : Option ℕ) → topic < length desk.topics → number_of (book_at desk topic).docs doc ≡ o → document_in topic o ≡ Ok place → IsThere desk place
doc_there desk topic doc place None lt is e = absurd (cc)
doc_there desk topic doc place (Some d) lt is e =
    let own : (topic, d) ≡ place = cc in
    subst (IsThere desk) own (record { topic = lt; doc = numbered_within (book_at desk topic).docs doc d is })

topic_there : (desk : Desk) (topic doc : List ℕ) (place : ℕ × ℕ) (o : Option ℕ) → number_of (map (λ (book : Book). book.name) desk.topics) topic ≡ o → document_of desk o doc ≡ Ok place → IsThere desk place
topic_there desk topic doc place None is e = absurd (cc)
topic_there desk topic doc place (Some t) is e =
    let names = map (λ (book : Book). book.name) desk.topics in
    let below : t < length desk.topics = omega (arith, numbered_within names topic t is, length-map desk.topics (λ (book : Book). book.name)) in
    doc_there desk t doc place (number_of (book_at desk t).docs doc) below refl e

abbrev if_room : Bool → ℕ × ℕ → Result (ℕ × ℕ) JudgeFault
if_room b own = if b then Ok own else Err HistoryFull

with_room_ok : (who : List ℕ) (changes : List Change) (r : Result (ℕ × ℕ) JudgeFault) (place : ℕ × ℕ) → with_room who changes r ≡ Ok place → r ≡ Ok place
with_room_ok who changes (Err fault) place e = absurd (cc)
with_room_ok who changes (Ok own) place e = by (nat_lt (length (without_undone who changes)) CHANGE_LIMIT) e
  where
    by : (b : Bool) → if_room b own ≡ Ok place → if_room true own ≡ Ok place
    by true e = e
    by false e = absurd (cc)

there : (desk : Desk) (who topic doc : List ℕ) (changes : List Change) (place : ℕ × ℕ) → judgeable desk who topic doc changes ≡ Ok place → IsThere desk place
there desk who topic doc changes place e =
    topic_there desk topic doc place (number_of (map (λ (book : Book). book.name) desk.topics) topic) refl (with_room_ok who changes (found_document desk topic doc) place e)

-- ---- one line
judged_step : (s : Setting) (who : List ℕ) (place : ℕ × ℕ) (grade : ℤ) (changes : List Change) → IsDesk s.desk → IsThere s.desk place → mark_at (get_or (marks_after s changes) place.0 []) place.1 ≡ Unjudged →
    AreAllRefinedBy (marks_after s changes) (marks_after s (judged who place.0 place.1 grade changes))
judged_step s who place grade changes valid on is =
    let now = judged who place.0 place.1 grade changes in
    subst (AreAllRefinedBy (marks_after s changes))
    (marks_set s valid changes now place.0 place.1 on.topic on.doc (λ file t d apart. judged_elsewhere who place.0 place.1 grade changes file t d (not_both place.0 t place.1 d apart)))
    (one_mark (marks_after s changes) place.0 place.1 (closed (is_within s.desk s.depth place.0 place.1) (mark_of (grade_in_force s.desk place.0 place.1 now) s.level)) is)

none_last : (test : Change → Bool) (xs : List Change) → last_that test xs ≡ None → list_any test xs ≡ false
none_last test [] is = refl
none_last test (x ∷ xs) is = by (none_last test xs) (list_any test xs) (test x) refl refl
  where
    by : (last_that test xs ≡ None → list_any test xs ≡ false) → (a b : Bool) → list_any test xs ≡ a → test x ≡ b → list_any test (x ∷ xs) ≡ false
    by rest true b ea eb =
        let last : last_that test xs ≡ None = sym (ap (λ c. if c then last_that test xs else if test x then Some x else None) ea) ∙ is in
        let none : true ≡ false = sym ea ∙ rest last in
        absurd (cc)
    by rest false true ea eb =
        let some : Some x ≡ None = sym (ap (λ c. if c then Some x else None) eb) ∙ sym (ap (λ c. if c then last_that test xs else if test x then Some x else None) ea) ∙ is in
        absurd (cc)
    by rest false false ea eb = rw (eb, ea)

none_first : (test : Change → Bool) (xs : List Change) → first_that test xs ≡ None → list_any test xs ≡ false
none_first test [] is = refl
none_first test (x ∷ xs) is = by (none_first test xs) (test x) refl
  where
    by : (first_that test xs ≡ None → list_any test xs ≡ false) → (b : Bool) → test x ≡ b → list_any test (x ∷ xs) ≡ false
    by rest true e = let some : Some x ≡ None = sym (ap (λ c. if c then Some x else first_that test xs) e) ∙ is in absurd (cc)
    by rest false e = rw e (rest (sym (ap (λ c. if c then Some x else first_that test xs) e) ∙ is))

step : (s : Setting) (heard : Heard) (changes : List Change) → IsDesk s.desk → (accepted s.desk heard changes ≡ 1 → JudgesUnjudged s heard changes) → AreAllRefinedBy (marks_after s changes) (marks_after s (changes_after s.desk heard changes))
step s (Asked (Judge who topic doc grade)) changes valid h = by (judgeable s.desk who topic doc changes) refl
  where
    by : (r : Result (ℕ × ℕ) JudgeFault) → judgeable s.desk who topic doc changes ≡ r → AreAllRefinedBy (marks_after s changes) (marks_after s (after_judging who grade changes r))
    by (Err fault) is = all_stay (marks_after s changes)
    by (Ok place) is =
        let j : JudgesUnjudged s (Asked (Judge who topic doc grade)) changes = h (ap one_if_ok is) in
        let asked = j.asked in
        let own_who : who ≡ j.who = cc in
        let own_topic : topic ≡ j.topic = cc in
        let own_doc : doc ≡ j.doc = cc in
        let found : Ok place ≡ Ok j.place =
        sym is ∙ ap (λ w. judgeable s.desk w topic doc changes) own_who ∙ ap (λ t. judgeable s.desk j.who t doc changes) own_topic ∙ ap (λ d. judgeable s.desk j.who j.topic d changes) own_doc ∙ j.found in
        let same : place ≡ j.place = cc in
        judged_step s who place grade changes valid (there s.desk who topic doc changes place is)
        (subst (λ (p : ℕ × ℕ). mark_at (get_or (marks_after s changes) p.0 []) p.1 ≡ Unjudged) (sym same) j.unjudged)
step s (Asked (Undo who)) changes valid h = by (last_that (is_live_by who) changes) refl
  where
    by : (o : Option Change) → last_that (is_live_by who) changes ≡ o → AreAllRefinedBy (marks_after s changes) (marks_after s (undone who changes))
    by None is = subst (λ now. AreAllRefinedBy (marks_after s changes) (marks_after s now)) (sym (undone-none who changes (none_last (is_live_by who) changes is))) (all_stay (marks_after s changes))
    by (Some change) is = let j : JudgesUnjudged s (Asked (Undo who)) changes = h (ap one_if_some is) in let asked = j.asked in absurd (cc)
step s (Asked (Redo who)) changes valid h = by (first_that (is_undone_by who) changes) refl
  where
    by : (o : Option Change) → first_that (is_undone_by who) changes ≡ o → AreAllRefinedBy (marks_after s changes) (marks_after s (redone who changes))
    by None is = subst (λ now. AreAllRefinedBy (marks_after s changes) (marks_after s now)) (sym (redone-none who changes (none_first (is_undone_by who) changes is))) (all_stay (marks_after s changes))
    by (Some change) is = let j : JudgesUnjudged s (Asked (Redo who)) changes = h (ap one_if_some is) in let asked = j.asked in absurd (cc)
step s heard changes valid h = all_stay (marks_after s changes)

-- ---- all lines
pub marks_refined : (s : Setting) (lines : List (List ℕ)) (changes : List Change) → IsDesk s.desk → OnlyJudgeUnjudged s lines changes → AreAllRefinedBy (marks_after s changes) (marks_after s (changes_over s.desk lines changes))
marks_refined s [] changes valid h = all_stay (marks_after s changes)
marks_refined s (line ∷ lines) changes valid h =
    let now = changes_after s.desk (heard_of line) changes in
    all_become (marks_after s changes) (marks_after s now) (marks_after s (changes_over s.desk lines now)) (step s (heard_of line) changes valid h.0) (marks_refined s lines now valid h.1)
