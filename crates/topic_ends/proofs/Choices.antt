-- The choices of an unjudged document of a ranking, as they are seen one by one.
use Rattle.std.proofs.Common.{◌≡◌, ℕ, zero, suc, ◌^◌, ◌≤◌, min, nat_le, MatchOption, Bool, true, false, ◌||◌, nat_eq, List, [], ◌∷◌, ◌++◌, length, take, Option, Some, None, ◌⊎◌, inl, inr, ℤ, arith, refl, ap, ◌∙◌, sym, subst}
use Rattle.std.proofs.Math.Bool.{or-true}
use Rattle.std.proofs.lemmas.Bool.{eq-eqb}
use Rattle.std.proofs.lemmas.Bool.Decides.{nat_tests}
use Rattle.std.proofs.lemmas.List.{take_all}
use Rattle.desk_model.specs.Extremes.{IsGreatest}
use Rattle.desk_model.specs.Fraction.{IsAtMost}
use Rattle.desk_model.specs.Mark.{is_unjudged, mark_at}
use Rattle.desk_model.specs.Ranking.{is_in, rank}
use Rattle.desk_model.specs.Score.{reciprocal}
use Rattle.desk_model.specs.declared.types.Mark.{Mark}
use Rattle.desk_model.specs.declared.types.Mark.TheVariants.{Relevant, Other}
use Rattle.desk_model.proofs.Counts.{nat_eq-true}
use Rattle.desk_model.proofs.Topics.{reciprocal-den}
use Rattle.measure_laws.specs.LeastDifference.{IsChoiceOf, choice_den, choice_num, first_rank}
use Rattle.measure_laws.specs.Ranks.{IsRankWithin, earlier}
use Rattle.measure_laws.proofs.LeastEnds.{at_most_no_greater}
use Rattle.measure_laws.proofs.Ranks.{rank_within}
use Rattle.measure_laws.proofs.ReciprocalEnds.{IsAtMostOther, from_parts, rank_order, same_order, zero_least}
use Rattle.topic_counts.proofs.Prefixes.{is_by, rank_by}
use Rattle.topic_ends.specs.Differences.{IsDifferenceOf, IsLowered, lead_of, whole_of, rank_lead, rank_whole}
use Rattle.topic_ends.specs.declared.difference.Difference.{Difference}
use Rattle.topic_ends.proofs.Smallest.{IsBelow, IsOneMore, IsUnder, low_first, low_more, low_same}

-- the greatest number of units that is at most the difference of each choice among some documents
abbrev pub IsLowOf : List Mark → List ℕ → List ℕ → List ℕ → ℤ → Type 0
IsLowOf marks a b seen = IsGreatest (IsBelow (IsChoiceOf marks seen) (choice_num marks a b) (choice_den marks a b))

is_in-push : (xs : List ℕ) (x d : ℕ) → is_in (xs ++ x ∷ []) d ≡ (is_in xs d || nat_eq x d)
is_in-push [] x d = or_none (nat_eq x d)
  where
    or_none : (b : Bool) → (b || false) ≡ b
    or_none true = refl
    or_none false = refl
is_in-push (y ∷ ys) x d = ap (λ b. nat_eq y d || b) (is_in-push ys x d) ∙ grouped (nat_eq y d) (is_in ys d) (nat_eq x d)
  where
    grouped : (b c e : Bool) → (b || (c || e)) ≡ ((b || c) || e)
    grouped true c e = refl
    grouped false c e = refl

-- a choice among one more document
old_choice : (marks : List Mark) (xs : List ℕ) (x : ℕ) (choice : Option ℕ) → IsChoiceOf marks xs choice → IsChoiceOf marks (xs ++ x ∷ []) choice
old_choice marks xs x None h = tt
old_choice marks xs x (Some d) h = (is_in-push xs x d ∙ ap (λ b. b || nat_eq x d) h.0, h.1)

choice_among : (marks : List Mark) (xs : List ℕ) (x : ℕ) (choice : Option ℕ) → IsChoiceOf marks (xs ++ x ∷ []) choice → IsChoiceOf marks xs choice ⊎ (Some x ≡ choice)
choice_among marks xs x None h = inl tt
choice_among marks xs x (Some d) h = at (nat_eq x d) refl
  where
    either : (b c : Bool) → (b || c) ≡ true → c ≡ false → b ≡ true
    either true c e f = refl
    either false c e f = sym f ∙ e

    at : (b : Bool) → nat_eq x d ≡ b → IsChoiceOf marks xs (Some d) ⊎ (Some x ≡ Some d)
    at true e = inr (ap (λ n. Some n) (nat_eq-true x d e))
    at false e = inl (either (is_in xs d) (nat_eq x d) (sym (is_in-push xs x d) ∙ h.0) e, h.1)

-- the difference that a choice gives
pub record IsOfChoice (marks : List Mark) (a b : List ℕ) (choice : Option ℕ) (d : Difference) : Type 0 where
  pub lead : lead_of d ≡ choice_num marks a b choice
  pub whole : whole_of d ≡ choice_den marks a b choice

pub of_choice : (marks : List Mark) (a b : List ℕ) (choice x y : Option ℕ) (d : Difference) → IsDifferenceOf x y d → x ≡ first_rank marks choice a → y ≡ first_rank marks choice b → IsOfChoice marks a b choice d
of_choice marks a b choice x y d h ex ey = record {
  lead = h.lead ∙ ap (λ o. rank_lead o y) ex ∙ ap (λ o. rank_lead (first_rank marks choice a) o) ey;
  whole = h.whole ∙ ap (λ o. rank_whole o y) ex ∙ ap (λ o. rank_whole (first_rank marks choice a) o) ey;
}

-- ---- the walk over the documents
pub low_none : (marks : List Mark) (a b : List ℕ) (d : Difference) (z : ℤ) → IsOfChoice marks a b None d → IsGreatest (IsUnder (lead_of d) (whole_of d)) z → IsLowOf marks a b [] z
low_none marks a b d z h floor = low_first (IsChoiceOf marks []) None (choice_num marks a b) (choice_den marks a b) d z tt only h.lead h.whole floor
  where
    only : (choice : Option ℕ) → IsChoiceOf marks [] choice → None ≡ choice
    only None k = refl
    only (Some e) k = absurd (let no = k.0 in cc)

pub low_judged : (marks : List Mark) (a b xs : List ℕ) (x : ℕ) (z : ℤ) → is_unjudged (mark_at marks x) ≡ false → IsLowOf marks a b xs z → IsLowOf marks a b (xs ++ x ∷ []) z
low_judged marks a b xs x z judged h = low_same (IsChoiceOf marks xs) (IsChoiceOf marks (xs ++ x ∷ [])) (choice_num marks a b) (choice_den marks a b) z (old_choice marks xs x) back h
  where
    back : (choice : Option ℕ) → IsChoiceOf marks (xs ++ x ∷ []) choice → IsChoiceOf marks xs choice
    back choice k = elim (choice_among marks xs x choice k) [
      | inl old ↦ old
      | inr same ↦ let here = subst (IsChoiceOf marks (xs ++ x ∷ [])) (sym same) k in absurd (let no = sym judged ∙ here.1 in cc)
    ]

pub low_unjudged : (marks : List Mark) (a b xs : List ℕ) (x : ℕ) (d : Difference) (low next : ℤ) → is_unjudged (mark_at marks x) ≡ true → IsOfChoice marks a b (Some x) d → IsLowered d low next → IsLowOf marks a b xs low → IsLowOf marks a b (xs ++ x ∷ []) next
low_unjudged marks a b xs x d low next unjudged of lowered h =
    let more : IsOneMore (IsChoiceOf marks xs) (IsChoiceOf marks (xs ++ x ∷ [])) (Some x) = record {
      old = old_choice marks xs x;
      new = (is_in-push xs x x ∙ ap (λ b. is_in xs x || b) (eq-eqb x x refl) ∙ or-true (is_in xs x), unjudged);
      only = choice_among marks xs x;
    } in
    low_more (IsChoiceOf marks xs) (IsChoiceOf marks (xs ++ x ∷ [])) (Some x) (choice_num marks a b) (choice_den marks a b) d low next more h of.lead of.whole lowered

pub judged_is : (m : Mark) → (m ≡ Relevant) ⊎ (m ≡ Other) → is_unjudged m ≡ false
judged_is m (inl e) = ap is_unjudged e
judged_is m (inr e) = ap is_unjudged e

-- ---- the documents that are not seen
is_in_take : (k : ℕ) (xs : List ℕ) (d : ℕ) → is_in (take k xs) d ≡ true → is_in xs d ≡ true
is_in_take zero xs d h = absurd (cc)
is_in_take (suc k) [] d h = h
is_in_take (suc k) (x ∷ xs) d h = either_more (nat_eq x d) (is_in (take k xs) d) (is_in xs d) (is_in_take k xs d) h
  where
    either_more : (b c e : Bool) → (c ≡ true → e ≡ true) → (b || c) ≡ true → (b || e) ≡ true
    either_more true c e f h = refl
    either_more false c e f h = f h

earlier_more : (m n : ℕ) (p q : Option ℕ) → IsRankWithin m p → IsRankWithin n q → IsAtMostOther (reciprocal p) (reciprocal (earlier p q))
earlier_more m n None q h k = zero_least q
earlier_more m n (Some x) None h k = same_order (reciprocal (Some x))
earlier_more m n (Some x) (Some y) h k = rank_order (min x y) x (omega (arith, h.0, k.0)) (omega arith)

-- a choice that leaves b's first relevant rank as it is does not lower the difference
under_none : (marks : List Mark) (a b : List ℕ) (d : ℕ) (z : ℤ) → length a ≤ 10000 → IsRankWithin 10000 (first_rank marks None a) → first_rank marks (Some d) b ≡ first_rank marks None b → IsUnder (choice_num marks a b None) (choice_den marks a b None) z → IsUnder (choice_num marks a b (Some d)) (choice_den marks a b (Some d)) z
under_none marks a b d z few first same h =
    let p = first_rank marks None a in
    let y = first_rank marks None b in
    let more = earlier_more 10000 10000 p (rank a d) first (rank_within a 10000 d few) in
    let there : IsAtMost z (10 ^ 18) (reciprocal (earlier p (rank a d))) (reciprocal y) =
    at_most_no_greater z (10 ^ 18) (reciprocal p) (reciprocal y) (reciprocal (earlier p (rank a d))) (reciprocal y) (reciprocal-den p) (reciprocal-den y) h (from_parts (reciprocal p) (reciprocal y) (reciprocal (earlier p (rank a d))) (reciprocal y) more (same_order (reciprocal y))) in
    subst (λ (o : Option ℕ). IsUnder (rank_lead (earlier p (rank a d)) o) (rank_whole (earlier p (rank a d)) o) z) (sym same) there

-- a document that is not among the first k is ranked after them
after_first : (k d : ℕ) (docs : List ℕ) (o : Option ℕ) → o ≡ rank docs d → is_in (take k docs) d ≡ false → earlier (Some k) o ≡ Some k
after_first k d docs None e out = refl
after_first k d docs (Some r) e out =
    let later : nat_le r k ≡ false = ap (is_by k) e ∙ sym (rank_by k d docs) ∙ out in
    let least : min k r ≡ k = grind (arith, nat_tests, later) in ap (λ n. Some n) least

rank_same : (first : Option ℕ) (k d : ℕ) (docs : List ℕ) → MatchOption first (k ≡ length docs) (λ r. k ≡ r) → is_in docs d ≡ true → is_in (take k docs) d ≡ false → earlier first (rank docs d) ≡ first
rank_same None k d docs h here out =
    let whole : take k docs ≡ docs = take_all k docs (omega (arith, h)) in absurd (let no = sym out ∙ ap (λ xs. is_in xs d) whole ∙ here in cc)
rank_same (Some r) k d docs h here out =
    ap (λ n. earlier (Some n) (rank docs d)) (sym h) ∙ after_first k d docs (rank docs d) refl out ∙ ap (λ n. Some n) h

pub low_rest : (marks : List Mark) (a b : List ℕ) (k : ℕ) (first : Option ℕ) (z : ℤ) → length a ≤ 10000 → IsRankWithin 10000 (first_rank marks None a) → first ≡ first_rank marks None b → MatchOption first (k ≡ length b) (λ r. k ≡ r) → IsLowOf marks a b (take k b) z → IsLowOf marks a b b z
low_rest marks a b k first z few within e last low = record { so = so; others = λ w h. low.others w (λ choice known. h choice (longer choice known)) }
  where
    longer : (choice : Option ℕ) → IsChoiceOf marks (take k b) choice → IsChoiceOf marks b choice
    longer None h = tt
    longer (Some d) h = (is_in_take k b d h.0, h.1)

    so : (choice : Option ℕ) → IsChoiceOf marks b choice → IsUnder (choice_num marks a b choice) (choice_den marks a b choice) z
    so None h = low.so None tt
    so (Some d) h = at (is_in (take k b) d) refl
      where
        at : (t : Bool) → is_in (take k b) d ≡ t → IsUnder (choice_num marks a b (Some d)) (choice_den marks a b (Some d)) z
        at true s = low.so (Some d) (s, h.1)
        at false s = under_none marks a b d z few within (ap (λ o. earlier o (rank b d)) (sym e) ∙ rank_same first k d b last h.0 s ∙ e) (low.so None tt)
