-- The numbers of relevant documents that a topic can have, as they are seen one by one.
use Rattle.std.proofs.Common.{◌≡◌, ℕ, ◌+◌, ◌-◌, ◌≤◌, max, min, Bool, true, false, ◌&&◌, ◌⊎◌, List, length, take, count_by, inl, inr, ℤ, pos, ◌-ℤ◌, arith, refl, ap, ◌∙◌, sym}
use Rattle.std.specs.List.{range_with_len}
use Rattle.std.proofs.Math.Bool.{and-true}
use Rattle.std.proofs.lemmas.Bool.{cases_lt}
use Rattle.desk_model.specs.Completion.{with_picked}
use Rattle.desk_model.specs.Extremes.{IsGreatest}
use Rattle.desk_model.specs.declared.types.Mark.{Mark}
use Rattle.desk_model.proofs.Counts.{count_by-agree}
use Rattle.measure_laws.specs.Classes.{judged_count, open_in}
use Rattle.measure_laws.specs.LeastDifference.{possible_count, rprec_lead, unjudged_count, own_relevant, own_unjudged}
use Rattle.desk_model.specs.Ranking.{IsRanking}
use Rattle.measure_laws.specs.RprecStretches.{IsBeyond, IsCandidate, others_used, second_used}
use Rattle.measure_laws.proofs.RecallEnds.{every}
use Rattle.measure_laws.proofs.RprecEnds.{count_picked}
use Rattle.measure_laws.proofs.Stretches.{stretches_are}
use Rattle.topic_ends.specs.Differences.{IsLowered, lead_of, whole_of}
use Rattle.topic_ends.specs.Own.{CountsOwn}
use Rattle.topic_ends.specs.declared.difference.Difference.{Difference}
use Rattle.topic_ends.specs.declared.own.Own.{Own}
use Rattle.topic_ends.proofs.OwnSteps.{own_later}
use Rattle.topic_ends.proofs.Smallest.{IsBelow, IsOneMore, IsUnder, low_added, low_first, low_more, low_same}

-- a number of relevant documents with at most n unjudged ones
abbrev pub IsWithin : List Mark → ℕ → ℕ → Type 0
IsWithin marks n r = (judged_count marks ≤ r) × (r ≤ judged_count marks + n)

-- the greatest number of units that is at most the difference at each of them
abbrev pub IsLowTo : List Mark → List ℕ → List ℕ → ℕ → ℤ → Type 0
IsLowTo marks a b n = IsGreatest (IsBelow (IsWithin marks n) (rprec_lead marks a b) (max 1))

-- the unjudged documents are those that can be relevant and are not judged so
pub unjudged_is : (marks : List Mark) → unjudged_count marks ≡ possible_count marks - judged_count marks
unjudged_is marks =
    let zs = range_with_len 0 (length marks) in
    let whole : (taken : Bool) → count_by (λ d. with_picked marks (λ _. taken) d && true) zs ≡ count_by (with_picked marks (λ _. taken)) zs = λ taken. count_by-agree _ _ zs (every _ (λ d. and-true (with_picked marks (λ _. taken) d)) zs) in
    let open' : count_by (λ d. open_in marks (λ _. true) d && true) zs ≡ unjudged_count marks = count_by-agree _ _ zs (every _ (λ d. and-true (open_in marks (λ _. true) d)) zs) in
    omega (arith, count_picked marks (λ _. true) (λ _. true) zs, whole true, whole false, open')

-- the difference at a number of relevant documents
pub record IsAt (marks : List Mark) (a b : List ℕ) (r : ℕ) (d : Difference) : Type 0 where
  pub lead : lead_of d ≡ rprec_lead marks a b r
  pub whole : whole_of d ≡ max 1 r

pub is_at : (marks : List Mark) (a b : List ℕ) (relevant possible chosen r : ℕ) (own : Own) (d : Difference) → relevant ≡ judged_count marks → possible ≡ possible_count marks → r ≡ relevant + chosen → CountsOwn marks (take r a) (take r b) own →
    lead_of d ≡ pos (own.first.relevant + (chosen - (possible - relevant - (own.first.possible - own.first.relevant)))) -ℤ pos (own.second.relevant + min chosen (own.second.possible - own.second.relevant)) → whole_of d ≡ max 1 (relevant + chosen) →
    IsAt marks a b r d
is_at marks a b relevant possible chosen r own d ej ep er h lead whole =
    let c : chosen ≡ r - judged_count marks = omega (arith, ej, er) in
    let u : possible - relevant ≡ unjudged_count marks = omega (arith, ej, ep, unjudged_is marks) in
    let p : own.first.relevant ≡ own_relevant r marks a b = h.first_relevant in
    let pu : own.first.possible - own.first.relevant ≡ own_unjudged r marks a b = omega (arith, h.first_relevant, h.first_possible) in
    let q : own.second.relevant ≡ own_relevant r marks b a = h.second_relevant in
    let qu : own.second.possible - own.second.relevant ≡ own_unjudged r marks b a = omega (arith, h.second_relevant, h.second_possible) in
    record {
      lead = lead ∙ joined own.first.relevant (own.first.possible - own.first.relevant) own.second.relevant (own.second.possible - own.second.relevant) (possible - relevant) chosen _ _ _ _ _ _ p pu q qu u c;
      whole = whole ∙ ap (max 1) (sym er);
    }
  where
    joined : (p pu q qu u c p' pu' q' qu' u' c' : ℕ) → p ≡ p' → pu ≡ pu' → q ≡ q' → qu ≡ qu' → u ≡ u' → c ≡ c' → pos (p + (c - (u - pu))) -ℤ pos (q + min c qu) ≡ pos (p' + (c' - (u' - pu'))) -ℤ pos (q' + min c' qu')
    joined p pu q qu u c p' pu' q' qu' u' c' e1 e2 e3 e4 e5 e6 = rw (e1, e2, e3, e4, e5, e6) refl

-- ---- the walk over the numbers
pub low_judged : (marks : List Mark) (a b : List ℕ) (r : ℕ) (d : Difference) (z : ℤ) → r ≡ judged_count marks → IsAt marks a b r d → IsGreatest (IsUnder (lead_of d) (whole_of d)) z → IsLowTo marks a b 0 z
low_judged marks a b r d z e at floor = low_first (IsWithin marks 0) r (rprec_lead marks a b) (max 1) d z (omega (arith, e), omega (arith, e)) (λ s h. omega (arith, e, h.0, h.1)) at.lead at.whole floor

pub low_further : (marks : List Mark) (a b : List ℕ) (n r : ℕ) (d : Difference) (low next : ℤ) → r ≡ judged_count marks + (n + 1) → IsAt marks a b r d → IsLowered d low next → IsLowTo marks a b n low → IsLowTo marks a b (n + 1) next
low_further marks a b n r d low next e at lowered h =
    let more : IsOneMore (IsWithin marks n) (IsWithin marks (n + 1)) r = record {
      old = λ s k. (k.0, omega (arith, k.1));
      new = (omega (arith, e), omega (arith, e));
      only = λ s k. elim (cases_lt s r) [ inl less ↦ inl (k.0, omega (arith, less, e)) | inr more ↦ inr (omega (arith, more, e, k.1)) ];
    } in
    low_more (IsWithin marks n) (IsWithin marks (n + 1)) r (rprec_lead marks a b) (max 1) d low next more h at.lead at.whole lowered

-- ---- beyond both rankings
pub beyond_is : (marks : List Mark) (a b : List ℕ) (relevant possible steps : ℕ) → relevant ≡ judged_count marks → possible ≡ possible_count marks → relevant ≤ possible →
    steps ≡ min (max 1 (max (length a) (length b)) - relevant) (possible - relevant) → IsBeyond marks a b (relevant + steps)
beyond_is marks a b relevant possible steps ej ep order e =
    let open' : unjudged_count marks ≡ possible - relevant = omega (arith, ej, ep, unjudged_is marks) in
    record {
      possible = (omega (arith, ej), omega (arith, ej, open', e));
      positive = λ l. omega (arith, ej, open', e, l);
      first = λ l. omega (arith, ej, open', e, l);
      second = λ l. omega (arith, ej, open', e, l);
    }

-- the two numbers beyond, as the code finds them
pub record AreUsed (marks : List Mark) (a b : List ℕ) (relevant possible steps used left : ℕ) : Type 0 where
  pub second : relevant + used ≡ second_used marks a b (relevant + steps)
  pub others : relevant + left ≡ others_used marks a b (relevant + steps)
  pub order : used ≤ left
  pub last : relevant + left ≤ possible
  pub first : steps ≤ used

pub used_are : (marks : List Mark) (a b : List ℕ) (relevant possible steps used left : ℕ) (own : Own) → IsRanking (length marks) a → IsRanking (length marks) b → relevant ≡ judged_count marks → possible ≡ possible_count marks → relevant ≤ possible →
    IsBeyond marks a b (relevant + steps) → CountsOwn marks (take (relevant + steps) a) (take (relevant + steps) b) own → used ≡ max steps (own.second.possible - own.second.relevant) →
    left ≡ max steps (possible - relevant - (own.first.possible - own.first.relevant)) → AreUsed marks a b relevant possible steps used left
used_are marks a b relevant possible steps used left own ra rb ej ep order beyond h eu el =
    let open' : unjudged_count marks ≡ possible - relevant = omega (arith, ej, ep, unjudged_is marks) in
    let stretches = stretches_are marks a b (relevant + steps) ra rb beyond in
    let here : relevant + used ≡ second_used marks a b (relevant + steps) = omega (arith, ej, eu, h.second_relevant, h.second_possible) in
    let there : relevant + left ≡ others_used marks a b (relevant + steps) = omega (arith, ej, el, open', h.first_relevant, h.first_possible) in
    record {
      second = here;
      others = there;
      order = omega (arith, here, there, stretches.order);
      last = omega (arith, there, stretches.last, ej, open', order);
      first = omega (arith, eu);
    }

-- the difference at a number from there on
pub at_beyond : (marks : List Mark) (a b : List ℕ) (relevant possible steps chosen : ℕ) (own : Own) (d : Difference) → relevant ≡ judged_count marks → possible ≡ possible_count marks → relevant ≤ possible → IsBeyond marks a b (relevant + steps) → steps ≤ chosen → relevant + chosen ≤ possible →
    CountsOwn marks (take (relevant + steps) a) (take (relevant + steps) b) own →
    lead_of d ≡ pos (own.first.relevant + (chosen - (possible - relevant - (own.first.possible - own.first.relevant)))) -ℤ pos (own.second.relevant + min chosen (own.second.possible - own.second.relevant)) → whole_of d ≡ max 1 (relevant + chosen) →
    IsAt marks a b (relevant + chosen) d
at_beyond marks a b relevant possible steps chosen own d ej ep order beyond le most h lead whole =
    let open' : unjudged_count marks ≡ possible - relevant = omega (arith, ej, ep, unjudged_is marks) in
    let later = own_later marks a b (relevant + steps) (relevant + chosen) own (omega (arith, le)) (λ l. beyond.first (omega (arith, ej, open', order, most, l))) (λ l. beyond.second (omega (arith, ej, open', order, most, l))) h in
    is_at marks a b relevant possible chosen (relevant + chosen) own d ej ep refl later lead whole

-- the walk up to there and both numbers
pub low_beyond : (marks : List Mark) (a b : List ℕ) (relevant steps : ℕ) (d e : Difference) (low lower z : ℤ) → relevant ≡ judged_count marks → IsLowTo marks a b steps low →
    IsAt marks a b (second_used marks a b (relevant + steps)) d → IsLowered d low lower → IsAt marks a b (others_used marks a b (relevant + steps)) e → IsLowered e lower z →
    IsGreatest (IsBelow (IsCandidate marks a b (relevant + steps)) (rprec_lead marks a b) (max 1)) z
low_beyond marks a b relevant steps d e low lower z ej h at_used less at_left lowest =
    let r = relevant + steps in
    let used = second_used marks a b r in
    let left = others_used marks a b r in
    let with_used = low_added (IsWithin marks steps) used (rprec_lead marks a b) (max 1) d low lower h at_used.lead at_used.whole less in
    let with_left = low_added (λ s. IsWithin marks steps s ⊎ (used ≡ s)) left (rprec_lead marks a b) (max 1) e lower z with_used at_left.lead at_left.whole lowest in
    low_same (λ s. (IsWithin marks steps s ⊎ (used ≡ s)) ⊎ (left ≡ s)) (IsCandidate marks a b r) (rprec_lead marks a b) (max 1) z there back with_left
  where
    there : (s : ℕ) → (IsWithin marks steps s ⊎ (second_used marks a b (relevant + steps) ≡ s)) ⊎ (others_used marks a b (relevant + steps) ≡ s) → IsCandidate marks a b (relevant + steps) s
    there s (inl (inl k)) = inl (k.0, omega (arith, k.1, ej))
    there s (inl (inr k)) = inr (inl (sym k))
    there s (inr k) = inr (inr (sym k))

    back : (s : ℕ) → IsCandidate marks a b (relevant + steps) s → (IsWithin marks steps s ⊎ (second_used marks a b (relevant + steps) ≡ s)) ⊎ (others_used marks a b (relevant + steps) ≡ s)
    back s (inl k) = inl (inl (k.0, omega (arith, k.1, ej)))
    back s (inr (inl k)) = inl (inr (sym k))
    back s (inr (inr k)) = inr (sym k)
