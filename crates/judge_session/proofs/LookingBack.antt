-- What the search of an undo finds.
use Rattle.std.proofs.Common.{◌≡◌, ℕ, zero, suc, ◌+◌, ◌-◌, ◌<◌, ◌≤◌, List, [], ◌∷◌, true, false, true≢false, Bool, Option, None, Some, length, get_or, drop, is_some, refl, ap, sym, subst, ◌∙◌, arith}
use Rattle.std.specs.Prelude.{not, ◌&&◌, ◌||◌, if◌then◌else◌, ℤ}
use Rattle.std.specs.Option.{option_or}
use Rattle.std.specs.List.{list_any}
use Rattle.std.proofs.lemmas.List.Folds.{list_any_at}
use Rattle.judge_session.specs.declared.change.Change.{Change}
use Rattle.judge_session.specs.declared.looking.Found.{Found}
use Rattle.judge_session.specs.Session.{is_live_by, with_live, undone}
use Rattle.judge_session.specs.InForce.{grade_after, is_live_on}
use Rattle.judge_session.specs.Marking.{IsLastThat}
use Rattle.judge_session.specs.Tally.{last_document}
use Rattle.judge_session.specs.Looking.{looked, looked_as, looked_back}
use Rattle.judge_session.proofs.Lasts.{document_if, last_document-first, or_none}

-- where none passes, no change at a place does
none_at : (test : Change → Bool) (xs : List Change) → list_any test xs ≡ false → (k : ℕ) (d : Change) → k < length xs → test (get_or xs k d) ≡ false
none_at test xs h k d lt = by (test (get_or xs k d)) refl
  where
    by : (b : Bool) → test (get_or xs k d) ≡ b → b ≡ false
    by true e = absurd (true≢false (sym (list_any_at test xs k d lt e) ∙ h))
    by false e = refl

module _ (who : List ℕ) (topic doc : ℕ) where
  -- where all is found, a further change is not looked at
  full : (n : ℕ) (x : Change) (p : Option ℕ) (q : Option (ℕ × ℕ)) (g : Option ℤ) → (is_some p && (is_some q && is_some g)) ≡ true →
      looked who topic doc n x (record { place = p; next = q; grade = g }) ≡ record { place = p; next = q; grade = g }
  full n x None q g h = absurd (true≢false (sym h))
  full n x (Some p) None g h = absurd (true≢false (sym h))
  full n x (Some p) (Some q) None h = absurd (true≢false (sym h))
  full n x (Some p) (Some q) (Some g) h = by (is_live_by who x)
    where
      by : (b : Bool) → looked_as b (is_live_on topic doc x) n x (record { place = Some p; next = Some q; grade = Some g }) ≡ record { place = Some p; next = Some q; grade = Some g }
      by true = refl
      by false = refl

  pub all_found : (n m k : ℕ) (xs : List Change) (f : Found) → m ≡ n + k → f ≡ looked_back who topic doc m (drop k xs) → (is_some f.place && (is_some f.next && is_some f.grade)) ≡ true → f ≡ looked_back who topic doc n xs
  all_found n m zero xs f e h all = let same : m ≡ n = omega arith in h ∙ ap (λ j. looked_back who topic doc j xs) same
  all_found n m (suc k) [] f e h all = h
  all_found n m (suc k) (x ∷ xs) f e h all =
      sym (full n x f.place f.next f.grade all) ∙ ap (looked who topic doc n x) (all_found (n + 1) m k xs f (omega arith) h all)

  -- a place is found exactly where the caller has a live change
  any_place : (n : ℕ) (xs : List Change) → is_some (looked_back who topic doc n xs).place ≡ list_any (is_live_by who) xs
  any_place n [] = refl
  any_place n (x ∷ xs) =
      let f = looked_back who topic doc (n + 1) xs in
      by (is_live_by who x) f.place f.next f.grade (list_any (is_live_by who) xs) (any_place (n + 1) xs)
    where
      by : (b : Bool) (p : Option ℕ) (q : Option (ℕ × ℕ)) (g : Option ℤ) (any : Bool) → is_some p ≡ any →
          is_some (looked_as b (is_live_on topic doc x) n x (record { place = p; next = q; grade = g })).place ≡ (b || any)
      by true None q g any h = refl
      by true (Some p) q g any h = refl
      by false None q g any h = h
      by false (Some p) q g any h = h

  pub none_placed : (xs : List Change) → None ≡ (looked_back who topic doc 0 xs).place → list_any (is_live_by who) xs ≡ false
  none_placed xs h = sym (any_place 0 xs) ∙ sym (ap is_some h)

  placed : (n p : ℕ) (xs : List Change) → (looked_back who topic doc n xs).place ≡ Some p → (n ≤ p) × IsLastThat (is_live_by who) xs (p - n)
  placed n p [] h = absurd (cc)
  placed n p (x ∷ xs) h =
      let f = looked_back who topic doc (n + 1) xs in
      by (is_live_by who x) refl f.place f.next f.grade (any_place (n + 1) xs) (placed (n + 1) p xs) h
    where
      later : (n + 1 ≤ p) × IsLastThat (is_live_by who) xs (p - (n + 1)) → (n ≤ p) × IsLastThat (is_live_by who) (x ∷ xs) (p - n)
      later r =
          let i = p - (n + 1) in
          let at : suc i ≡ p - n = omega (arith, r.0) in
          let last = r.1 in
          (omega (arith, r.0), subst (IsLastThat (is_live_by who) (x ∷ xs)) at (record { within = omega (arith, last.within); here = last.here; after = after last.after }))
        where
          after : ((k : ℕ) (d : Change) → p - (n + 1) < k → k < length xs → is_live_by who (get_or xs k d) ≡ false) →
              (k : ℕ) (d : Change) → suc (p - (n + 1)) < k → k < length (x ∷ xs) → is_live_by who (get_or (x ∷ xs) k d) ≡ false
          after each zero d above lt = absurd (omega arith)
          after each (suc k) d above lt = each k d (omega arith) (omega arith)

      first : is_live_by who x ≡ true → list_any (is_live_by who) xs ≡ false → IsLastThat (is_live_by who) (x ∷ xs) 0
      first e none = record { within = omega arith; here = λ d. e; after = after }
        where
          after : (k : ℕ) (d : Change) → 0 < k → k < length (x ∷ xs) → is_live_by who (get_or (x ∷ xs) k d) ≡ false
          after zero d above lt = absurd (omega arith)
          after (suc k) d above lt = none_at (is_live_by who) xs none k d (omega arith)

      by : (b : Bool) → is_live_by who x ≡ b → (o : Option ℕ) (q : Option (ℕ × ℕ)) (g : Option ℤ) → is_some o ≡ list_any (is_live_by who) xs →
          (o ≡ Some p → (n + 1 ≤ p) × IsLastThat (is_live_by who) xs (p - (n + 1))) →
          (looked_as b (is_live_on topic doc x) n x (record { place = o; next = q; grade = g })).place ≡ Some p → (n ≤ p) × IsLastThat (is_live_by who) (x ∷ xs) (p - n)
      by true e None q g none rest h =
          let here : n ≡ p = cc in
          let at : 0 ≡ p - n = omega (arith, here) in
          (omega (arith, here), subst (IsLastThat (is_live_by who) (x ∷ xs)) at (first e (sym none)))
      by true e (Some m) q g some rest h = later (rest h)
      by false e o q g some rest h = later (rest h)

  -- the place that is found is that of the caller's last live change
  pub last_placed : (p : ℕ) (xs : List Change) → (looked_back who topic doc 0 xs).place ≡ Some p → IsLastThat (is_live_by who) xs p
  last_placed p xs h =
      let at : p - 0 ≡ p = omega arith in
      subst (IsLastThat (is_live_by who) xs) at (placed 0 p xs h).1

  -- the caller's last live change without that one
  pub next_found : (n : ℕ) (xs : List Change) → (looked_back who topic doc n xs).next ≡ last_document who (undone who xs)
  next_found n [] = refl
  next_found n (x ∷ xs) =
      let f = looked_back who topic doc (n + 1) xs in
      by (is_live_by who x) refl f.place f.next f.grade (any_place (n + 1) xs) (next_found (n + 1) xs)
    where
      kept : (b : Bool) → is_live_by who x ≡ b → (q : Option (ℕ × ℕ)) → q ≡ last_document who (undone who xs) → option_or q (document_if b x) ≡ last_document who (x ∷ undone who xs)
      kept b e q rest =
          ap (λ o. option_or o (document_if b x)) rest ∙ ap (λ m. option_or (last_document who (undone who xs)) (document_if m x)) (sym e)
          ∙ sym (last_document-first who x (undone who xs))

      by : (b : Bool) → is_live_by who x ≡ b → (o : Option ℕ) (q : Option (ℕ × ℕ)) (g : Option ℤ) → is_some o ≡ list_any (is_live_by who) xs → q ≡ last_document who (undone who xs) →
          (looked_as b (is_live_on topic doc x) n x (record { place = o; next = q; grade = g })).next
          ≡ last_document who ((if b && not (list_any (is_live_by who) xs) then with_live false x else x) ∷ undone who xs)
      by true e None q g none rest =
          rest ∙ sym (last_document-first who (with_live false x) (undone who xs) ∙ or_none (last_document who (undone who xs)))
          ∙ ap (λ any. last_document who ((if not any then with_live false x else x) ∷ undone who xs)) none
      by true e (Some m) q g some rest =
          kept true e q rest ∙ ap (λ any. last_document who ((if not any then with_live false x else x) ∷ undone who xs)) some
      by false e o q g some rest = kept false e q rest

  -- the grade of the document without that change
  pub grade_found : (n : ℕ) (xs : List Change) (file : Option ℤ) → grade_after file topic doc (undone who xs) ≡ option_or (looked_back who topic doc n xs).grade file
  grade_found n [] file = refl
  grade_found n (x ∷ xs) file =
      let f = looked_back who topic doc (n + 1) xs in
      by (is_live_by who x) f.place f.next f.grade (any_place (n + 1) xs) (grade_found (n + 1) xs)
    where
      kept : (s : Bool) (g : Option ℤ) → ((other : Option ℤ) → grade_after other topic doc (undone who xs) ≡ option_or g other) →
          grade_after (if s then Some x.grade else file) topic doc (undone who xs) ≡ option_or (option_or g (if s then Some x.grade else None)) file
      kept true None rest = rest (Some x.grade)
      kept true (Some v) rest = rest (Some x.grade)
      kept false None rest = rest file
      kept false (Some v) rest = rest file

      by : (b : Bool) (o : Option ℕ) (q : Option (ℕ × ℕ)) (g : Option ℤ) → is_some o ≡ list_any (is_live_by who) xs →
          ((other : Option ℤ) → grade_after other topic doc (undone who xs) ≡ option_or g other) →
          grade_after file topic doc ((if b && not (list_any (is_live_by who) xs) then with_live false x else x) ∷ undone who xs)
          ≡ option_or (looked_as b (is_live_on topic doc x) n x (record { place = o; next = q; grade = g })).grade file
      by true None q g none rest =
          ap (λ any. grade_after file topic doc ((if not any then with_live false x else x) ∷ undone who xs)) (sym none) ∙ rest file
      by true (Some m) q g some rest =
          ap (λ any. grade_after file topic doc ((if not any then with_live false x else x) ∷ undone who xs)) (sym some) ∙ kept (is_live_on topic doc x) g rest
      by false o q g some rest = kept (is_live_on topic doc x) g rest
