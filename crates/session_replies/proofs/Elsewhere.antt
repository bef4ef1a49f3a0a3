-- A change of one document leaves the grades of the others.
use Rattle.std.proofs.Common.{◌≡◌, ℕ, List, [], ◌∷◌, Bool, true, false, Option, Some, None, ℤ, refl, ap, sym, ◌∙◌}
use Rattle.std.specs.Prelude.{◌&&◌, nat_eq, if◌then◌else◌}
use Rattle.std.specs.List.{list_any}
use Rattle.std.proofs.lemmas.Bool.{and_parts, eqb-true}
use Rattle.judge_session.specs.declared.change.Change.{Change}
use Rattle.judge_session.specs.Session.{is_live_by, is_undone_by, with_live, judged, undone, redone, last_that, first_that}
use Rattle.judge_session.specs.InForce.{grade_after, is_live_on}
use Rattle.judge_session.proofs.Grades.{grade_after-judged}
use Rattle.judge_session.proofs.Undoing.{undone-later, undone-here}

pub not_both : (a t b d : ℕ) → (a ≡ t → b ≡ d → ⊥) → (nat_eq a t && nat_eq b d) ≡ false
not_both a t b d apart = by (nat_eq a t && nat_eq b d) refl
  where
    by : (both : Bool) → (nat_eq a t && nat_eq b d) ≡ both → (nat_eq a t && nat_eq b d) ≡ false
    by false e = e
    by true e = let parts = and_parts (nat_eq a t) (nat_eq b d) e in absurd (apart (eqb-true a t parts.0) (eqb-true b d parts.1))

and_false : (b c : Bool) → c ≡ false → (b && c) ≡ false
and_false true c h = h
and_false false c h = refl

-- a change of another document is none of this one's
module _ (t d : ℕ) (c : Change) (other : (nat_eq c.topic t && nat_eq c.doc d) ≡ false) where
  skipped : (file : Option ℤ) (x : Change) (xs : List Change) → x ≡ c → grade_after file t d (x ∷ xs) ≡ grade_after file t d xs
  skipped file x xs same =
      ap (λ b. grade_after (if b then Some x.grade else file) t d xs)
      (and_false x.live (nat_eq x.topic t && nat_eq x.doc d) (ap (λ (y : Change). nat_eq y.topic t && nat_eq y.doc d) same ∙ other))

  marked_skipped : (file : Option ℤ) (live : Bool) (x : Change) (xs : List Change) → x ≡ c → grade_after file t d (with_live live x ∷ xs) ≡ grade_after file t d xs
  marked_skipped file live x xs same =
      ap (λ b. grade_after (if b then Some x.grade else file) t d xs)
      (and_false live (nat_eq x.topic t && nat_eq x.doc d) (ap (λ (y : Change). nat_eq y.topic t && nat_eq y.doc d) same ∙ other))

  pub undone_elsewhere : (who : List ℕ) (xs : List Change) (file : Option ℤ) → last_that (is_live_by who) xs ≡ Some c → grade_after file t d (undone who xs) ≡ grade_after file t d xs
  undone_elsewhere who [] file is = refl
  undone_elsewhere who (x ∷ xs) file is = by (λ f. undone_elsewhere who xs f) (list_any (is_live_by who) xs) (is_live_by who x) refl refl
    where
      by : ((f : Option ℤ) → last_that (is_live_by who) xs ≡ Some c → grade_after f t d (undone who xs) ≡ grade_after f t d xs) →
          (a l : Bool) → list_any (is_live_by who) xs ≡ a → is_live_by who x ≡ l → grade_after file t d (undone who (x ∷ xs)) ≡ grade_after file t d (x ∷ xs)
      by rest true l ea el =
          ap (grade_after file t d) (undone-later who x xs ea)
          ∙ rest (if is_live_on t d x then Some x.grade else file)
          (sym (ap (λ b. if b then last_that (is_live_by who) xs else if is_live_by who x then Some x else None) ea) ∙ is)
      by rest false true ea el =
          let here : Some x ≡ Some c =
          sym (ap (λ b. if b then Some x else None) el) ∙ sym (ap (λ b. if b then last_that (is_live_by who) xs else if is_live_by who x then Some x else None) ea) ∙ is in
          let same : x ≡ c = cc in
          ap (grade_after file t d) (undone-here who x xs el ea) ∙ marked_skipped file false x xs same ∙ sym (skipped file x xs same)
      by rest false false ea el =
          let none : None ≡ Some c =
          sym (ap (λ b. if b then Some x else None) el) ∙ sym (ap (λ b. if b then last_that (is_live_by who) xs else if is_live_by who x then Some x else None) ea) ∙ is in
          absurd (cc)

  pub redone_elsewhere : (who : List ℕ) (xs : List Change) (file : Option ℤ) → first_that (is_undone_by who) xs ≡ Some c → grade_after file t d (redone who xs) ≡ grade_after file t d xs
  redone_elsewhere who [] file is = refl
  redone_elsewhere who (x ∷ xs) file is = by (λ f. redone_elsewhere who xs f) (is_undone_by who x) refl
    where
      by : ((f : Option ℤ) → first_that (is_undone_by who) xs ≡ Some c → grade_after f t d (redone who xs) ≡ grade_after f t d xs) →
          (u : Bool) → is_undone_by who x ≡ u → grade_after file t d (redone who (x ∷ xs)) ≡ grade_after file t d (x ∷ xs)
      by rest true e =
          let here : Some x ≡ Some c = sym (ap (λ b. if b then Some x else first_that (is_undone_by who) xs) e) ∙ is in
          let same : x ≡ c = cc in
          ap (λ b. grade_after file t d (if b then with_live true x ∷ xs else x ∷ redone who xs)) e ∙ marked_skipped file true x xs same ∙ sym (skipped file x xs same)
      by rest false e =
          ap (λ b. grade_after file t d (if b then with_live true x ∷ xs else x ∷ redone who xs)) e
          ∙ rest (if is_live_on t d x then Some x.grade else file) (sym (ap (λ b. if b then Some x else first_that (is_undone_by who) xs) e) ∙ is)

pub judged_elsewhere : (who : List ℕ) (topic doc : ℕ) (grade : ℤ) (xs : List Change) (file : Option ℤ) (t d : ℕ) → (nat_eq topic t && nat_eq doc d) ≡ false → grade_after file t d (judged who topic doc grade xs) ≡ grade_after file t d xs
judged_elsewhere who topic doc grade xs file t d other = grade_after-judged file t d who topic doc grade xs ∙ ap (λ b. if b then Some grade else grade_after file t d xs) other
