-- Totals of the documents of a list, one by one.
use Rattle.std.proofs.Common.{◌≡◌, ◌≢◌, ◌⊎◌, inl, inr, ℕ, zero, suc, ◌+◌, ◌<◌, ◌≤◌, Bool, true, false, cond, nat_eq, ◌&&◌, ◌||◌, List, [], ◌∷◌, drop, length, get_or, refl, ap, sym, ◌∙◌, subst, arith}
use Rattle.std.specs.List.{IsDistinct}
use Rattle.std.proofs.Math.ListN.{set}
use Rattle.std.proofs.Math.Seq.{drop-cons}
use Rattle.std.proofs.lemmas.Bool.Decides.{nat_tests}
use Rattle.std.proofs.lemmas.List.{length-set, get_or-set_same, get_or-set_other, drop_all}
use Rattle.desk_model.specs.Ranking.{is_in}
use Rattle.desk_model.proofs.Counts.{not_in}
use Rattle.measure_core.specs.Shifts.{HasRoom, IsShifted, HaveRoom, AreShifted}
use Rattle.measure_core.specs.declared.shift.Shift.{Shift}
use Rattle.measure_core.proofs.Walking.{IsBalanced, whole_left, room_left, step_balanced, balanced_end}

-- a document of a list counts where a test holds of it
abbrev pub listed : (ℕ → Bool) → List ℕ → ℕ → ℕ
listed keep docs doc = cond (is_in docs doc && keep doc) 1 0

unequal : (x y : ℕ) → nat_eq x y ≡ false → nat_eq y x ≡ false
unequal x y h = grind (arith, nat_tests)

equal : (x y : ℕ) → x ≡ y → nat_eq x y ≡ true
equal x y h = grind (arith, nat_tests)

differ : (x y : ℕ) → y ≢ x → nat_eq x y ≡ false
differ x y h = grind (arith, nat_tests)

distinct_drop : (i : ℕ) (xs : List ℕ) → IsDistinct nat_eq xs → IsDistinct nat_eq (drop i xs)
unfolding IsDistinct
distinct_drop zero xs h = h
distinct_drop (suc i) [] h = tt
distinct_drop (suc i) (x ∷ xs) h = distinct_drop i xs h.1

head_not_in : (x : ℕ) (xs : List ℕ) → IsDistinct nat_eq (x ∷ xs) → is_in xs x ≡ false
unfolding IsDistinct
head_not_in x xs h = not_in x xs h.0

-- the list from a place on
from_place : (i : ℕ) (xs : List ℕ) → i < length xs → drop i xs ≡ get_or xs i 0 ∷ drop (i + 1) xs
from_place i xs lt = let next : suc i ≡ i + 1 = omega arith in drop-cons xs i 0 lt ∙ ap (λ (n : ℕ). get_or xs i 0 ∷ drop n xs) next

module _ (keep : ℕ → Bool) (ps : List ℕ) (shift : Shift) (before : List ℕ) where
  -- the totals where the documents from a place on are left
  pub record AreBalancedFrom (i : ℕ) (now : List ℕ) : Type 0 where
    pub count : length now ≡ length before
    pub each : (doc : ℕ) → doc < length before → IsBalanced shift (listed keep (drop i ps) doc) (listed keep ps doc) (get_or before doc 0) (get_or now doc 0)

  pub none_yet : AreBalancedFrom 0 before
  none_yet = record { count = refl; each = λ doc lt. whole_left shift (listed keep ps doc) (get_or before doc 0) }

  others_left : (i doc : ℕ) → i < length ps → doc ≢ get_or ps i 0 → listed keep (drop i ps) doc ≡ listed keep (drop (i + 1) ps) doc
  others_left i doc lt ne =
      ap (λ (xs : List ℕ). listed keep xs doc) (from_place i ps lt) ∙ ap (λ (b : Bool). cond ((b || is_in (drop (i + 1) ps) doc) && keep doc) 1 0) (differ (get_or ps i 0) doc ne)

  left_here : (i : ℕ) → i < length ps → keep (get_or ps i 0) ≡ true → listed keep (drop i ps) (get_or ps i 0) ≡ 1
  left_here i lt kept =
      ap (λ (xs : List ℕ). listed keep xs (get_or ps i 0)) (from_place i ps lt)
      ∙ ap (λ (b : Bool). cond ((b || is_in (drop (i + 1) ps) (get_or ps i 0)) && keep (get_or ps i 0)) 1 0) (equal (get_or ps i 0) (get_or ps i 0) refl) ∙ ap (λ (b : Bool). cond b 1 0) kept

  none_after : (i : ℕ) → IsDistinct nat_eq ps → i < length ps → listed keep (drop (i + 1) ps) (get_or ps i 0) ≡ 0
  none_after i distinct lt =
      ap (λ (b : Bool). cond (b && keep (get_or ps i 0)) 1 0) (head_not_in (get_or ps i 0) (drop (i + 1) ps) (subst (IsDistinct nat_eq) (from_place i ps lt) (distinct_drop i ps distinct)))

  both_false : (b : Bool) → let none : ℕ = cond (b && false) 1 0 in none ≡ 0
  both_false true = refl
  both_false false = refl

  not_kept : (i j : ℕ) → keep (get_or ps i 0) ≡ false → listed keep (drop j ps) (get_or ps i 0) ≡ 0
  not_kept i j e = ap (λ (b : Bool). cond (is_in (drop j ps) (get_or ps i 0) && b) 1 0) e ∙ both_false (is_in (drop j ps) (get_or ps i 0))

  same_or_not : (m n : ℕ) → (m ≡ n) ⊎ (m ≢ n)
  same_or_not m n = grind arith

  -- a document that does not count
  pub passed_over : (i : ℕ) (now : List ℕ) → AreBalancedFrom i now → i < length ps → keep (get_or ps i 0) ≡ false → AreBalancedFrom (i + 1) now
  passed_over i now h lt e = record {
    count = h.count;
    each = λ doc below. subst (λ (w : ℕ). IsBalanced shift w (listed keep ps doc) (get_or before doc 0) (get_or now doc 0))
        (elim (same_or_not doc (get_or ps i 0)) [
          | inl is ↦ subst (λ (z : ℕ). listed keep (drop i ps) z ≡ listed keep (drop (i + 1) ps) z) (sym is) (not_kept i i e ∙ sym (not_kept i (i + 1) e))
          | inr ne ↦ others_left i doc lt ne
        ])
        (h.each doc below);
  }

  balanced_here : (i : ℕ) (now : List ℕ) → AreBalancedFrom i now → i < length ps → get_or ps i 0 < length before → keep (get_or ps i 0) ≡ true →
      IsBalanced shift 1 (listed keep ps (get_or ps i 0)) (get_or before (get_or ps i 0) 0) (get_or now (get_or ps i 0) 0)
  balanced_here i now h lt within kept =
      subst (λ (w : ℕ). IsBalanced shift w (listed keep ps (get_or ps i 0)) (get_or before (get_or ps i 0) 0) (get_or now (get_or ps i 0) 0)) (left_here i lt kept) (h.each (get_or ps i 0) within)

  pub room_for_one : (i : ℕ) (now : List ℕ) → AreBalancedFrom i now → i < length ps → get_or ps i 0 < length before → keep (get_or ps i 0) ≡ true → HaveRoom shift (listed keep ps) before → HasRoom shift 1 (get_or now (get_or ps i 0) 0)
  room_for_one i now h lt within kept room = room_left shift 1 (listed keep ps (get_or ps i 0)) (get_or before (get_or ps i 0) 0) (get_or now (get_or ps i 0) 0) (balanced_here i now h lt within kept) (room (get_or ps i 0) within)

  -- a document that counts
  pub one_shifted : (i total : ℕ) (now : List ℕ) → IsDistinct nat_eq ps → AreBalancedFrom i now → i < length ps → get_or ps i 0 < length before → keep (get_or ps i 0) ≡ true → IsShifted shift 1 (get_or now (get_or ps i 0) 0) total →
      AreBalancedFrom (i + 1) (set now (get_or ps i 0) total)
  one_shifted i total now distinct h lt within kept is =
      let d = get_or ps i 0 in
      let inside : d < length now = omega (arith, within, h.count) in
      let done : IsBalanced shift 0 (listed keep ps d) (get_or before d 0) total = step_balanced shift 1 (listed keep ps d) (get_or before d 0) (get_or now d 0) total (balanced_here i now h lt within kept) is in
      let here : IsBalanced shift (listed keep (drop (i + 1) ps) d) (listed keep ps d) (get_or before d 0) (get_or (set now d total) d 0) =
      subst (λ (w : ℕ). IsBalanced shift w (listed keep ps d) (get_or before d 0) (get_or (set now d total) d 0)) (sym (none_after i distinct lt))
      (subst (λ (t : ℕ). IsBalanced shift 0 (listed keep ps d) (get_or before d 0) t) (sym (get_or-set_same now d total 0 inside)) done) in
      record {
        count = length-set now d total ∙ h.count;
        each = λ doc below. elim (same_or_not doc d) [
          | inl e ↦ subst (λ (z : ℕ). IsBalanced shift (listed keep (drop (i + 1) ps) z) (listed keep ps z) (get_or before z 0) (get_or (set now d total) z 0)) (sym e) here
          | inr ne ↦
              subst (λ (t : ℕ). IsBalanced shift (listed keep (drop (i + 1) ps) doc) (listed keep ps doc) (get_or before doc 0) t) (sym (get_or-set_other now d doc total 0 ne))
              (subst (λ (w : ℕ). IsBalanced shift w (listed keep ps doc) (get_or before doc 0) (get_or now doc 0)) (others_left i doc lt ne) (h.each doc below))
        ];
      }

  pub all_done : (i : ℕ) (now : List ℕ) → AreBalancedFrom i now → length ps ≤ i → AreShifted shift (listed keep ps) before now
  all_done i now h end = record {
    count = h.count;
    each = λ doc lt. balanced_end shift (listed keep (drop i ps) doc) (listed keep ps doc) (get_or before doc 0) (get_or now doc 0) (ap (λ (xs : List ℕ). listed keep xs doc) (drop_all i ps end)) (h.each doc lt);
  }
