-- The document of a caller's last live change, and what the steps make of it.
use Rattle.std.proofs.Common.{◌≡◌, ℕ, List, [], ◌∷◌, ◌++◌, ◌<◌, length, subst, true, false, true≢false, Bool, Option, None, Some, refl, ap, sym, ◌∙◌, cond}
use Rattle.std.specs.Prelude.{not, ◌&&◌, ◌||◌, if◌then◌else◌, option_map}
use Rattle.std.specs.Option.{option_or}
use Rattle.std.specs.List.{list_any}
use Rattle.desk_model.specs.Name.{is_same_name}
use Rattle.judge_session.specs.declared.change.Change.{Change}
use Rattle.judge_session.specs.Session.{is_by, is_live_by, is_undone_by, with_live, without_undone, undone, redone, last_that, first_that, is_in_turn}
use Rattle.judge_session.specs.Tally.{changed_document, last_document}
use Rattle.desk_model.specs.Desk.{Desk}
use Rattle.desk_model.specs.Named.{book_at}
use Rattle.judge_session.specs.declared.answers.Changed.{Changed}
use Rattle.judge_session.specs.InForce.{grade_in_force, told_of, IsOnDesk, IsSessionOf}
use Rattle.judge_session.proofs.Names.{same}
use Rattle.std.proofs.lemmas.Bool.{and_parts, not-true}
use Rattle.judge_session.proofs.Finding.{last_that-none}
use Rattle.judge_session.proofs.Turns.{turn_first, turn_rest}
use Rattle.judge_session.proofs.Owners.{live_counts, undone_not_live, undone_is_by}

last_or : (test : Change → Bool) (ys : List Change) → list_any test ys ≡ true → (z : Option Change) → option_or (last_that test ys) z ≡ last_that test ys
last_or test [] h z = absurd (true≢false (sym h))
last_or test (y ∷ ys) h z = by (list_any test ys) refl (test y) h (λ some. last_or test ys some z)
  where
    by : (b : Bool) → list_any test ys ≡ b → (c : Bool) → (c || b) ≡ true → (list_any test ys ≡ true → option_or (last_that test ys) z ≡ last_that test ys) →
        option_or (if b then last_that test ys else if c then Some y else None) z ≡ (if b then last_that test ys else if c then Some y else None)
    by true e c h rest = rest e
    by false e true h rest = refl
    by false e false h rest = absurd (true≢false (sym h))

last_first : (test : Change → Bool) (y : Change) (ys : List Change) → last_that test (y ∷ ys) ≡ option_or (last_that test ys) (if test y then Some y else None)
last_first test y ys = by (list_any test ys) refl (if test y then Some y else None)
  where
    by : (b : Bool) → list_any test ys ≡ b → (z : Option Change) → (if b then last_that test ys else z) ≡ option_or (last_that test ys) z
    by true e z = sym (last_or test ys e z)
    by false e z = sym (ap (λ o. option_or o z) (last_that-none test ys e))

-- without such a document no change of the caller is live
pub none_live : (who : List ℕ) (xs : List Change) → last_document who xs ≡ None → list_any (is_live_by who) xs ≡ false
none_live who [] h = refl
none_live who (x ∷ xs) h = by (list_any (is_live_by who) xs) refl (is_live_by who x) h (none_live who xs)
  where
    by : (b : Bool) → list_any (is_live_by who) xs ≡ b → (c : Bool) → option_map changed_document (if b then last_that (is_live_by who) xs else if c then Some x else None) ≡ None →
        (last_document who xs ≡ None → list_any (is_live_by who) xs ≡ false) → (c || b) ≡ false
    by true e c h rest = absurd (true≢false (sym e ∙ rest h))
    by false e true h rest = absurd (cc)
    by false e false h rest = refl

-- the document of a change that passes a test
abbrev pub document_if : Bool → Change → Option (ℕ × ℕ)
document_if b y = if b then Some (changed_document y) else None

-- a change before others counts where none of them does
pub last_document-first : (q : List ℕ) (y : Change) (ys : List Change) → last_document q (y ∷ ys) ≡ option_or (last_document q ys) (document_if (is_live_by q y) y)
last_document-first q y ys = ap (option_map changed_document) (last_first (is_live_by q) y ys) ∙ by (last_that (is_live_by q) ys) (is_live_by q y)
  where
    by : (o : Option Change) (b : Bool) → option_map changed_document (option_or o (if b then Some y else None)) ≡ option_or (option_map changed_document o) (document_if b y)
    by None true = refl
    by None false = refl
    by (Some x) true = refl
    by (Some x) false = refl

pub or_none : {X : Type 0} (o : Option X) → option_or o None ≡ o
or_none None = refl
or_none (Some x) = refl

-- heads that count alike
alike : (q : List ℕ) (x y : Change) (xs ys : List Change) → document_if (is_live_by q y) y ≡ document_if (is_live_by q x) x → last_document q ys ≡ last_document q xs → last_document q (y ∷ ys) ≡ last_document q (x ∷ xs)
alike q x y xs ys e rest =
    last_document-first q y ys ∙ ap (λ o. option_or o (document_if (is_live_by q y) y)) rest
    ∙ ap (option_or (last_document q xs)) e ∙ sym (last_document-first q x xs)

-- a head that doesn't count
uncounted : (q : List ℕ) (x : Change) (xs : List Change) → is_live_by q x ≡ false → last_document q (x ∷ xs) ≡ last_document q xs
uncounted q x xs e = last_document-first q x xs ∙ ap (λ b. option_or (last_document q xs) (document_if b x)) e ∙ or_none (last_document q xs)

-- a live change at the end
pub last_document-append : (q : List ℕ) (xs : List Change) (y : Change) → is_live_by q y ≡ true → last_document q (xs ++ y ∷ []) ≡ Some (changed_document y)
last_document-append q [] y h = ap (λ b. option_map changed_document (if b then Some y else None)) h
last_document-append q (x ∷ xs) y h =
    last_document-first q x (xs ++ y ∷ []) ∙ ap (λ o. option_or o (document_if (is_live_by q x) x)) (last_document-append q xs y h)

-- steps of another caller
module _ (who q : List ℕ) (other : is_same_name who q ≡ false) where
  pub last_document-judged : (xs : List Change) (y : Change) → is_live_by q y ≡ false → last_document q (without_undone who xs ++ y ∷ []) ≡ last_document q xs
  last_document-judged [] y h = ap (λ b. option_map changed_document (if b then Some y else None)) h
  last_document-judged (x ∷ xs) y h = by (is_undone_by who x) refl (last_document-judged xs y h)
    where
      by : (b : Bool) → is_undone_by who x ≡ b → last_document q (without_undone who xs ++ y ∷ []) ≡ last_document q xs →
          last_document q (cond (not b) (x ∷ without_undone who xs) (without_undone who xs) ++ y ∷ []) ≡ last_document q (x ∷ xs)
      by true e rest = rest ∙ sym (uncounted q x xs (undone_not_live who q x e))
      by false e rest = alike q x x xs (without_undone who xs ++ y ∷ []) refl rest

  pub last_document-undone : (xs : List Change) → last_document q (undone who xs) ≡ last_document q xs
  last_document-undone [] = refl
  last_document-undone (x ∷ xs) = by (is_live_by who x && not (list_any (is_live_by who) xs)) refl (last_document-undone xs)
    where
      by : (b : Bool) → (is_live_by who x && not (list_any (is_live_by who) xs)) ≡ b → last_document q (undone who xs) ≡ last_document q xs →
          last_document q ((if b then with_live false x else x) ∷ undone who xs) ≡ last_document q (x ∷ xs)
      by true e rest =
          let live = (and_parts (is_live_by who x) (not (list_any (is_live_by who) xs)) e).0 in
          alike q x (with_live false x) xs (undone who xs) (sym (ap (λ b. document_if b x) (live_counts who q x live ∙ other))) rest
      by false e rest = alike q x x xs (undone who xs) refl rest

  pub last_document-redone : (xs : List Change) → last_document q (redone who xs) ≡ last_document q xs
  last_document-redone [] = refl
  last_document-redone (x ∷ xs) = by (is_undone_by who x) refl (last_document-redone xs)
    where
      by : (b : Bool) → is_undone_by who x ≡ b → last_document q (redone who xs) ≡ last_document q xs →
          last_document q (if b then with_live true x ∷ xs else x ∷ redone who xs) ≡ last_document q (x ∷ xs)
      by true e rest = uncounted q (with_live true x) xs (undone_is_by who q x e ∙ other) ∙ sym (uncounted q x xs (undone_not_live who q x e))
      by false e rest = alike q x x xs (redone who xs) refl rest

-- a caller's own redo
pub last_document-own_redone : (who : List ℕ) (xs : List Change) (y : Change) → first_that (is_undone_by who) xs ≡ Some y → is_in_turn xs ≡ true → last_document who (redone who xs) ≡ Some (changed_document y)
last_document-own_redone who [] y h turn = absurd (cc)
last_document-own_redone who (x ∷ xs) y h turn = by (is_undone_by who x) refl h (λ first. last_document-own_redone who xs y first (turn_rest x xs turn))
  where
    by : (b : Bool) → is_undone_by who x ≡ b → (if b then Some x else first_that (is_undone_by who) xs) ≡ Some y →
        (first_that (is_undone_by who) xs ≡ Some y → last_document who (redone who xs) ≡ Some (changed_document y)) →
        last_document who (if b then with_live true x ∷ xs else x ∷ redone who xs) ≡ Some (changed_document y)
    by true e h rest =
        let parts = and_parts (not x.live) (is_by who x) e in
        let one : x.who ≡ who = same x.who who parts.1 in
        let mine : x ≡ y = cc in
        let dead : x.live ≡ false = not-true x.live parts.0 in
        let none : list_any (is_live_by who) xs ≡ false = ap (λ w. list_any (is_live_by w) xs) (sym one) ∙ turn_first x xs turn dead in
        last_document-first who (with_live true x) xs
        ∙ ap (λ o. option_or (option_map changed_document o) (document_if (is_by who x) x)) (last_that-none (is_live_by who) xs none)
        ∙ ap (λ b. document_if b x) parts.1 ∙ ap (λ (z : Change). Some (changed_document z)) mine
    by false e h rest = last_document-first who x (redone who xs) ∙ ap (λ o. option_or o (document_if (is_live_by who x) x)) (rest h)

module _ (desk : Desk) where
  on_desk-last : (test : Change → Bool) (xs : List Change) (y : Change) → IsSessionOf desk xs → last_that test xs ≡ Some y → IsOnDesk desk y
  on_desk-last test [] y h e = absurd (cc)
  on_desk-last test (x ∷ xs) y h e = by (list_any test xs) (test x) e (on_desk-last test xs y h.1)
    where
      by : (b c : Bool) → (if b then last_that test xs else if c then Some x else None) ≡ Some y → (last_that test xs ≡ Some y → IsOnDesk desk y) → IsOnDesk desk y
      by true c e rest = rest e
      by false true e rest = let one : x ≡ y = cc in subst (IsOnDesk desk) one h.0
      by false false e rest = absurd (cc)

  -- the document of a caller's last live change is one of the desk
  pub last_document-on_desk : (who : List ℕ) (xs : List Change) (topic doc : ℕ) → IsSessionOf desk xs → last_document who xs ≡ Some (topic, doc) →
      (topic < length desk.topics) × (doc < length (book_at desk topic).docs)
  last_document-on_desk who xs topic doc h e = by (last_that (is_live_by who) xs) (λ y. on_desk-last (is_live_by who) xs y h) e
    where
      by : (o : Option Change) → ((y : Change) → o ≡ Some y → IsOnDesk desk y) → option_map changed_document o ≡ Some (topic, doc) →
          (topic < length desk.topics) × (doc < length (book_at desk topic).docs)
      by None each e = absurd (cc)
      by (Some y) each e =
          let on = each y refl in
          let one : changed_document y ≡ (topic, doc) = cc in
          subst (λ (document : ℕ × ℕ). (document.0 < length desk.topics) × (document.1 < length (book_at desk document.0).docs)) one (on.topic, on.doc)

  abbrev pub told_as : List Change → ℕ × ℕ → Changed
  told_as new document = record { topic = document.0; doc = document.1; grade = grade_in_force desk document.0 document.1 new }

  pub told_by_document : (who : List ℕ) (xs new : List Change) → option_map (told_of desk new) (last_that (is_live_by who) xs) ≡ option_map (told_as new) (last_document who xs)
  told_by_document who xs new = by (last_that (is_live_by who) xs)
    where
      by : (o : Option Change) → option_map (told_of desk new) o ≡ option_map (told_as new) (option_map changed_document o)
      by None = refl
      by (Some y) = refl
