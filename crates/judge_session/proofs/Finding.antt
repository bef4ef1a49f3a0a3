-- The places of changes, of topics and of documents.
use Rattle.std.proofs.Common.{◌≡◌, ℕ, zero, suc, ◌+◌, ◌<◌, ◌≤◌, List, [], ◌∷◌, ◌++◌, true, false, true≢false, Bool, length, get_or, refl, ap, sym, subst, ◌∙◌, arith, cond, Some, None, Result, Ok, Err}
use Rattle.std.specs.Prelude.{◌↔◌, map, not, ◌&&◌, if◌then◌else◌, ℤ, nat_lt, IfErr, OnOk, Option, IsOk}
use Rattle.std.specs.List.{list_any, position_from}
use Rattle.std.proofs.lemmas.Bool.Decides.{nat_tests}
use Rattle.desk_model.specs.Book.{Book}
use Rattle.desk_model.specs.Desk.{Desk}
use Rattle.desk_model.specs.Name.{number_of}
use Rattle.judge_session.specs.declared.change.Change.{Change}
use Rattle.judge_session.specs.declared.answers.Changed.{Changed}
use Rattle.judge_session.specs.declared.answers.JudgeFault.{JudgeFault}
use Rattle.judge_session.specs.declared.answers.JudgeFault.TheVariants.{HistoryFull}
use Rattle.judge_session.specs.Session.{is_live_by, is_undone_by, with_live, without_undone, judged, undone, redone, last_that, first_that, IsSession}
use Rattle.judge_session.specs.InForce.{IsOnDesk, IsSessionOf, document_in, document_of, found_document, judgeable, with_room}
use Rattle.desk_model.specs.Named.{book_at}
use Rattle.judge_session.specs.Marking.{IsFirstThat}
use Rattle.std.proofs.lemmas.List.Folds.{list_any_at}
use Rattle.small_lemmas.proofs.Tests.{neither}
use Rattle.judge_session.proofs.Numbers.{length-without}

pub last_that-none : (test : Change → Bool) (xs : List Change) → list_any test xs ≡ false → last_that test xs ≡ None
last_that-none test [] h = refl
last_that-none test (x ∷ xs) h =
    let parts = neither (test x) (list_any test xs) h in
    ap (λ b. if b then last_that test xs else if test x then Some x else None) parts.1 ∙ ap (λ b. if b then Some x else None) parts.0

first_at : (test : Change → Bool) (xs : List Change) (i : ℕ) (d : Change) → i < length xs → test (get_or xs i d) ≡ true → ((k : ℕ) (e : Change) → k < i → test (get_or xs k e) ≡ false) → first_that test xs ≡ Some (get_or xs i d)
first_at test [] i d lt here before = absurd (omega arith)
first_at test (x ∷ xs) zero d lt here before = ap (λ b. if b then Some x else first_that test xs) here
first_at test (x ∷ xs) (suc i) d lt here before =
    ap (λ b. if b then Some x else first_that test xs) (before 0 x (omega arith)) ∙ first_at test xs i d (omega arith) here (λ k e below. before (suc k) e (omega arith))

pub first_that-at : (test : Change → Bool) (xs : List Change) (i : ℕ) (d : Change) → IsFirstThat test xs i → first_that test xs ≡ Some (get_or xs i d)
first_that-at test xs i d first = first_at test xs i d first.within (first.here d) first.before

pub first_that-some : (test : Change → Bool) (xs : List Change) (i : ℕ) (d : Change) → IsFirstThat test xs i → list_any test xs ≡ true
first_that-some test xs i d first = list_any_at test xs i d first.within (first.here d)

pub first_that-none : (test : Change → Bool) (xs : List Change) → list_any test xs ≡ false → first_that test xs ≡ None
first_that-none test [] h = refl
first_that-none test (x ∷ xs) h =
    let parts = neither (test x) (list_any test xs) h in
    ap (λ b. if b then Some x else first_that test xs) parts.0 ∙ first_that-none test xs parts.1

module _ (desk : Desk) where
  marked_on_desk : (b : Bool) (x : Change) → IsOnDesk desk x → IsOnDesk desk (with_live b x)
  marked_on_desk b x h = record { topic = h.topic; doc = h.doc }

  pub on_desk-undone : (who : List ℕ) (xs : List Change) → IsSessionOf desk xs → IsSessionOf desk (undone who xs)
  on_desk-undone who [] h = tt
  on_desk-undone who (x ∷ xs) h = (by (is_live_by who x && not (list_any (is_live_by who) xs)), on_desk-undone who xs h.1)
    where
      by : (b : Bool) → IsOnDesk desk (if b then with_live false x else x)
      by true = marked_on_desk false x h.0
      by false = h.0

  pub on_desk-redone : (who : List ℕ) (xs : List Change) → IsSessionOf desk xs → IsSessionOf desk (redone who xs)
  on_desk-redone who [] h = tt
  on_desk-redone who (x ∷ xs) h = by (is_undone_by who x) (on_desk-redone who xs h.1)
    where
      by : (b : Bool) → IsSessionOf desk (redone who xs) → IsSessionOf desk (if b then with_live true x ∷ xs else x ∷ redone who xs)
      by true rest = (marked_on_desk true x h.0, h.1)
      by false rest = (h.0, rest)

  pub on_desk-judged : (who : List ℕ) (topic doc : ℕ) (grade : ℤ) (xs : List Change) → topic < length desk.topics → doc < length (book_at desk topic).docs → IsSessionOf desk xs → IsSessionOf desk (judged who topic doc grade xs)
  on_desk-judged who topic doc grade [] t d h = (record { topic = t; doc = d }, tt)
  on_desk-judged who topic doc grade (x ∷ xs) t d h = by (is_undone_by who x) (on_desk-judged who topic doc grade xs t d h.1)
    where
      by : (b : Bool) → IsSessionOf desk (judged who topic doc grade xs) → IsSessionOf desk (cond (not b) (x ∷ without_undone who xs) (without_undone who xs) ++ (record { who = who; topic = topic; doc = doc; grade = grade; live = true }) ∷ [])
      by true rest = rest
      by false rest = (h.0, rest)

-- a number that was found is within
pub found_within : {K : Type 0} (test : K → Bool) (n : ℕ) (xs : List K) (i : ℕ) → position_from test n xs ≡ Some i → i < n + length xs
found_within test n [] i h = absurd (cc)
found_within test n (x ∷ xs) i h = by (test x) h (found_within test (n + 1) xs i)
  where
    by : (b : Bool) → cond b (Some n) (position_from test (n + 1) xs) ≡ Some i → (position_from test (n + 1) xs ≡ Some i → i < n + 1 + length xs) → i < n + length (x ∷ xs)
    by true h rest = let e : n ≡ i = cc in omega arith
    by false h rest = omega (arith, rest h)

-- what is said of a judgement
pub said_err : (P : Type 0) (j : Result (ℕ × ℕ) JudgeFault) (r : Result Changed JudgeFault) (fault : JudgeFault) → j ≡ Err fault → r ≡ Err fault → IfErr j (λ f. r ≡ Err f) × OnOk j P
said_err P j r fault e h = subst (λ k. IfErr k (λ f. r ≡ Err f) × OnOk k P) (sym e) (h, tt)

pub said_ok : (j : Result (ℕ × ℕ) JudgeFault) (r : Result Changed JudgeFault) (place : ℕ × ℕ) → j ≡ Ok place → IfErr j (λ f. r ≡ Err f)
said_ok j r place e = subst (λ k. IfErr k (λ f. r ≡ Err f)) (sym e) tt

pub room_left : (who : List ℕ) (xs : List Change) (place : ℕ × ℕ) → length (without_undone who xs) < 1000000 → with_room who xs (Ok place) ≡ Ok place
room_left who xs place h =
    let e : nat_lt (length (without_undone who xs)) 1000000 ≡ true = grind (arith, nat_tests) in
    ap (λ b. if b then Ok place else Err HistoryFull) e

pub no_room : (who : List ℕ) (xs : List Change) (place : ℕ × ℕ) → 1000000 ≤ length (without_undone who xs) → with_room who xs (Ok place) ≡ Err HistoryFull
no_room who xs place h =
    let e : nat_lt (length (without_undone who xs)) 1000000 ≡ false = grind (arith, nat_tests) in
    ap (λ b. if b then Ok place else Err HistoryFull) e

-- the history is full exactly where the document is there and so many changes would be left
pub full_at_limit : (desk : Desk) (who topic doc : List ℕ) (xs : List Change) → IsSession xs →
    (judgeable desk who topic doc xs ≡ Err HistoryFull) ↔ (IsOk (found_document desk topic doc) × (length (without_undone who xs) ≡ 1000000))
full_at_limit desk who topic doc xs session = by_topic (number_of (map (λ (book : Book). book.name) desk.topics) topic)
  where
    none_left : nat_lt (length (without_undone who xs)) 1000000 ≡ false → length (without_undone who xs) ≡ 1000000
    none_left e =
        let many : 1000000 ≤ length (without_undone who xs) = grind (arith, nat_tests) in
        omega (arith, many, length-without who xs, session.small)

    is_full : (t d : ℕ) (b : Bool) → nat_lt (length (without_undone who xs)) 1000000 ≡ b → with_room who xs (Ok (t, d)) ≡ Err HistoryFull → length (without_undone who xs) ≡ 1000000
    is_full t d true e h = absurd (full_not_ok (sym (ap (λ b. if b then Ok (t, d) else Err HistoryFull) e) ∙ h))
      where
        full_not_ok : ((let r : Result (ℕ × ℕ) JudgeFault = Ok (t, d) in r) ≡ Err HistoryFull) → ⊥
        full_not_ok h = absurd (cc)
    is_full t d false e h = none_left e

    by_doc : (t : ℕ) (o : Option ℕ) → (with_room who xs (document_in t o) ≡ Err HistoryFull) ↔ (IsOk (document_in t o) × (length (without_undone who xs) ≡ 1000000))
    by_doc t None = (λ h. absurd (cc), λ h. absurd (true≢false (sym h.0)))
    by_doc t (Some d) = (
      λ h. (refl, is_full t d (nat_lt (length (without_undone who xs)) 1000000) refl h),
      λ h. no_room who xs (t, d) (omega (arith, h.1)),
    )

    by_topic : (o : Option ℕ) → (with_room who xs (document_of desk o doc) ≡ Err HistoryFull) ↔ (IsOk (document_of desk o doc) × (length (without_undone who xs) ≡ 1000000))
    by_topic None = (λ h. absurd (cc), λ h. absurd (true≢false (sym h.0)))
    by_topic (Some t) = by_doc t (number_of (book_at desk t).docs doc)
