-- The completions of a topic are those in which an unjudged document is relevant and those in which it is not.
use Rattle.std.proofs.Common.{◌≡◌, ◌≢◌, ℕ, ◌+◌, ◌*◌, ◌<◌, ◌≤◌, Bool, true, false, cond, List, length, set, ℤ, ◌≤ℤ◌, arith, refl, ap, sym, subst, ◌∙◌, inl, inr, ◌⊎◌}
use Rattle.std.specs.Int.{int_min, int_max}
use Rattle.std.proofs.Math.Nat.{mul-le-mul_right}
use Rattle.std.specs.Prelude.{int_lt}
use Rattle.std.proofs.lemmas.Int.{ints, int_min_is, int_max_is}
use Rattle.std.proofs.lemmas.List.{length-set, get_or-set_same, get_or-set_other, set-set, set-get_or}
use borrow.Author.Differences.{up, down}
use Rattle.desk_model.specs.Mark.{is_unjudged, mark_at}
use Rattle.desk_model.specs.Completion.{Allows, Completes}
use Rattle.desk_model.specs.Fraction.{Fraction, IsAtMost, IsAtLeast}
use Rattle.desk_model.specs.Score.{score}
use Rattle.desk_model.specs.Extremes.{IsGreatest, IsSmallest, InEvery, InSome, Ends, AreExtremes}
use Rattle.desk_model.specs.declared.types.Mark.{Mark}
use Rattle.desk_model.specs.declared.types.Mark.TheVariants.{Unjudged, Relevant, Other}
use Rattle.desk_model.specs.declared.types.MeasureName.{MeasureName}
use Rattle.desk_model.proofs.MarkTests.{unjudged_is}
use Rattle.desk_model.proofs.Fractions.{at_most_out, at_most_in, at_least_out, at_least_in}
use Rattle.every_completion.specs.Walk.{joined}

-- a smaller number is at most the difference too, and a greater one at least
at_most_smaller : (z w : ℤ) (u : ℕ) (x y : Fraction) → z ≤ℤ w → IsAtMost w u x y → IsAtMost z u x y
at_most_smaller z w u x y h k =
    let parts : up z + down w ≤ up w + down z = omega (arith, ints) in
    at_most_in z u x y (omega (arith, mul-le-mul_right (x.den * y.den) parts, at_most_out w u x y k))

at_least_greater : (z w : ℤ) (u : ℕ) (x y : Fraction) → z ≤ℤ w → IsAtLeast z u x y → IsAtLeast w u x y
at_least_greater z w u x y h k =
    let parts : up z + down w ≤ up w + down z = omega (arith, ints) in
    at_least_in w u x y (omega (arith, mul-le-mul_right (x.den * y.den) parts, at_least_out z u x y k))

-- two marks lists, of which the second judges one more document as its mark allows
pub record IsJudgedAt (marks judged : List Mark) (d : ℕ) (value : Bool) : Type 0 where
  pub length_is : length judged ≡ length marks
  pub narrower : (truth : ℕ → Bool) → Completes judged truth → Completes marks truth
  pub wider : (truth : ℕ → Bool) → truth d ≡ value → Completes marks truth → Completes judged truth

unjudged_allows : (mark : Mark) (b : Bool) → is_unjudged mark ≡ true → Allows mark b
unjudged_allows Unjudged b h = tt
unjudged_allows Relevant b h = absurd (cc)
unjudged_allows Other b h = absurd (cc)

same_or : (d doc : ℕ) → (doc ≡ d) ⊎ (doc ≢ d)
same_or d doc = grind arith

pub judged_at : (marks : List Mark) (d : ℕ) (mark : Mark) (value : Bool) → d < length marks → is_unjudged (mark_at marks d) ≡ true → Allows mark value → IsJudgedAt marks (set marks d mark) d value
judged_at marks d mark value h open_mark allowed =
    let here : mark_at (set marks d mark) d ≡ mark = get_or-set_same marks d mark Unjudged h in
    let long : length (set marks d mark) ≡ length marks = length-set marks d mark in
    record {
      length_is = long;
      narrower = λ truth c doc k. elim (same_or d doc) [
        | inl same ↦ subst (λ (i : ℕ). Allows (mark_at marks i) (truth i)) (sym same) (unjudged_allows (mark_at marks d) (truth d) open_mark)
        | inr apart ↦ subst (λ (v : Mark). Allows v (truth doc)) (get_or-set_other marks d doc mark Unjudged apart) (c doc (omega (arith, long)))
      ];
      wider = λ truth e c doc k. elim (same_or d doc) [
        | inl same ↦ subst (λ (i : ℕ). Allows (mark_at (set marks d mark) i) (truth i)) (sym same) (subst (λ (v : Mark). Allows v (truth d)) (sym here) (subst (Allows mark) (sym e) allowed))
        | inr apart ↦ subst (λ (v : Mark). Allows v (truth doc)) (sym (get_or-set_other marks d doc mark Unjudged apart)) (c doc (omega (arith, long)))
      ];
    }

every_narrow : (m : MeasureName) (marks judged : List Mark) (a b : List ℕ) (d : ℕ) (value : Bool) (fact : Fraction → Fraction → Type 0) → IsJudgedAt marks judged d value → InEvery m marks a b fact → InEvery m judged a b fact
every_narrow m marks judged a b d value fact j h truth ta tb c =
    subst (λ (n : ℕ). fact (score m n truth a ta) (score m n truth b tb)) (sym j.length_is) (h truth ta tb (j.narrower truth c))

some_widen : (m : MeasureName) (marks judged : List Mark) (a b : List ℕ) (d : ℕ) (value : Bool) (fact : Fraction → Fraction → Type 0) → IsJudgedAt marks judged d value → InSome m judged a b fact → InSome m marks a b fact
some_widen m marks judged a b d value fact j h =
    (h.0, h.1, h.2, j.narrower h.0 h.3, subst (λ (n : ℕ). fact (score m n h.0 a h.1) (score m n h.0 b h.2)) j.length_is h.4)

-- a fact of one completion, in the list that judges the document as it does
moved : (m : MeasureName) (marks judged : List Mark) (a b : List ℕ) (d : ℕ) (value : Bool) (fact : Fraction → Fraction → Type 0) → IsJudgedAt marks judged d value →
    (truth : ℕ → Bool) (ta tb : List Bool) → truth d ≡ value → Completes marks truth → InEvery m judged a b fact → fact (score m (length marks) truth a ta) (score m (length marks) truth b tb)
moved m marks judged a b d value fact j truth ta tb e c h =
    subst (λ (n : ℕ). fact (score m n truth a ta) (score m n truth b tb)) j.length_is (h truth ta tb (j.wider truth e c))

either : (b : Bool) → (b ≡ true) ⊎ (b ≡ false)
either true = inl refl
either false = inr refl

every_split : (m : MeasureName) (marks yes_marks no_marks : List Mark) (a b : List ℕ) (d : ℕ) (fact : Fraction → Fraction → Type 0) → IsJudgedAt marks yes_marks d true → IsJudgedAt marks no_marks d false →
    InEvery m yes_marks a b fact → InEvery m no_marks a b fact → InEvery m marks a b fact
every_split m marks yes_marks no_marks a b d fact j k h l truth ta tb c = elim (either (truth d)) [
  | inl e ↦ moved m marks yes_marks a b d true fact j truth ta tb e c h
  | inr e ↦ moved m marks no_marks a b d false fact k truth ta tb e c l
]

some_split : (m : MeasureName) (marks yes_marks no_marks : List Mark) (a b : List ℕ) (d : ℕ) (fact : Fraction → Fraction → Type 0) → IsJudgedAt marks yes_marks d true → IsJudgedAt marks no_marks d false →
    InSome m marks a b fact → InSome m yes_marks a b fact ⊎ InSome m no_marks a b fact
some_split m marks yes_marks no_marks a b d fact j k h = elim (either (h.0 d)) [
  | inl e ↦ inl (h.0, h.1, h.2, j.wider h.0 e h.3, subst (λ (n : ℕ). fact (score m n h.0 a h.1) (score m n h.0 b h.2)) (sym j.length_is) h.4)
  | inr e ↦ inr (h.0, h.1, h.2, k.wider h.0 e h.3, subst (λ (n : ℕ). fact (score m n h.0 a h.1) (score m n h.0 b h.2)) (sym k.length_is) h.4)
]

one_of : (b : Bool) (x y : ℤ) → (cond b x y ≡ y) ⊎ (cond b x y ≡ x)
one_of true x y = inr refl
one_of false x y = inl refl

swapped : {P Q : Type 0} → P ⊎ Q → Q ⊎ P
swapped (inl p) = inr p
swapped (inr q) = inl q

min_one : (x y : ℤ) → (int_min x y ≡ x) ⊎ (int_min x y ≡ y)
min_one x y = one_of (int_lt y x) y x

min_most : (x y : ℤ) → (int_min x y ≤ℤ x) × (int_min x y ≤ℤ y)
min_most x y = (omega (arith, ints, int_min_is x y), omega (arith, ints, int_min_is x y))

max_one : (x y : ℤ) → (int_max x y ≡ x) ⊎ (int_max x y ≡ y)
max_one x y = swapped (one_of (int_lt y x) x y)

max_least : (x y : ℤ) → (x ≤ℤ int_max x y) × (y ≤ℤ int_max x y)
max_least x y = (omega (arith, ints, int_max_is x y), omega (arith, ints, int_max_is x y))

min_greatest : (w x y : ℤ) → w ≤ℤ x → w ≤ℤ y → w ≤ℤ int_min x y
min_greatest w x y h k = elim (min_one x y) [ inl e ↦ subst (λ z. w ≤ℤ z) (sym e) h | inr e ↦ subst (λ z. w ≤ℤ z) (sym e) k ]

max_smallest : (w x y : ℤ) → x ≤ℤ w → y ≤ℤ w → int_max x y ≤ℤ w
max_smallest w x y h k = elim (max_one x y) [ inl e ↦ subst (λ z. z ≤ℤ w) (sym e) h | inr e ↦ subst (λ z. z ≤ℤ w) (sym e) k ]

-- the extremes over all completions, from those over the two kinds
pub split_extremes : (m : MeasureName) (u : ℕ) (marks yes_marks no_marks : List Mark) (a b : List ℕ) (d : ℕ) (x y : Ends) → IsJudgedAt marks yes_marks d true → IsJudgedAt marks no_marks d false →
    AreExtremes m u yes_marks a b x → AreExtremes m u no_marks a b y → AreExtremes m u marks a b (joined x y)
split_extremes m u marks yes_marks no_marks a b d x y j k h l = record {
  least_lo = record {
    so = every_split m marks yes_marks no_marks a b d (IsAtMost (int_min x.least_lo y.least_lo) u) j k
        (λ t ta tb c. at_most_smaller _ x.least_lo u _ _ (min_most x.least_lo y.least_lo).0 (h.least_lo.so t ta tb c))
        (λ t ta tb c. at_most_smaller _ y.least_lo u _ _ (min_most x.least_lo y.least_lo).1 (l.least_lo.so t ta tb c));
    others = λ w e. min_greatest w x.least_lo y.least_lo (h.least_lo.others w (every_narrow m marks yes_marks a b d true (IsAtMost w u) j e)) (l.least_lo.others w (every_narrow m marks no_marks a b d false (IsAtMost w u) k e));
  };
  least_hi = record {
    so = elim (min_one x.least_hi y.least_hi) [
      | inl e ↦ subst (λ z. InSome m marks a b (IsAtLeast z u)) (sym e) (some_widen m marks yes_marks a b d true (IsAtLeast x.least_hi u) j h.least_hi.so)
      | inr e ↦ subst (λ z. InSome m marks a b (IsAtLeast z u)) (sym e) (some_widen m marks no_marks a b d false (IsAtLeast y.least_hi u) k l.least_hi.so)
    ];
    others = λ w e. elim (some_split m marks yes_marks no_marks a b d (IsAtLeast w u) j k e) [
      | inl f ↦ below_either (min_most x.least_hi y.least_hi).0 (h.least_hi.others w f)
      | inr f ↦ below_either (min_most x.least_hi y.least_hi).1 (l.least_hi.others w f)
    ];
  };
  most_hi = record {
    so = every_split m marks yes_marks no_marks a b d (IsAtLeast (int_max x.most_hi y.most_hi) u) j k
        (λ t ta tb c. at_least_greater x.most_hi _ u _ _ (max_least x.most_hi y.most_hi).0 (h.most_hi.so t ta tb c))
        (λ t ta tb c. at_least_greater y.most_hi _ u _ _ (max_least x.most_hi y.most_hi).1 (l.most_hi.so t ta tb c));
    others = λ w e. max_smallest w x.most_hi y.most_hi (h.most_hi.others w (every_narrow m marks yes_marks a b d true (IsAtLeast w u) j e)) (l.most_hi.others w (every_narrow m marks no_marks a b d false (IsAtLeast w u) k e));
  };
  most_lo = record {
    so = elim (max_one x.most_lo y.most_lo) [
      | inl e ↦ subst (λ z. InSome m marks a b (IsAtMost z u)) (sym e) (some_widen m marks yes_marks a b d true (IsAtMost x.most_lo u) j h.most_lo.so)
      | inr e ↦ subst (λ z. InSome m marks a b (IsAtMost z u)) (sym e) (some_widen m marks no_marks a b d false (IsAtMost y.most_lo u) k l.most_lo.so)
    ];
    others = λ w e. elim (some_split m marks yes_marks no_marks a b d (IsAtMost w u) j k e) [
      | inl f ↦ below_either (h.most_lo.others w f) (max_least x.most_lo y.most_lo).0
      | inr f ↦ below_either (l.most_lo.others w f) (max_least x.most_lo y.most_lo).1
    ];
  };
}
  where
    below_either : {p q r : ℤ} → p ≤ℤ q → q ≤ℤ r → p ≤ℤ r
    below_either {p} {q} {r} h k = omega (arith, ints)

-- a document that was made relevant, then other, then unjudged again
pub restored : (marks first second : List Mark) (d : ℕ) → is_unjudged (mark_at marks d) ≡ true → first ≡ set marks d Relevant → second ≡ set first d Other → set second d Unjudged ≡ marks
restored marks first second d h e f =
    ap (λ (ms : List Mark). set ms d Unjudged) f ∙ set-set first d Other Unjudged ∙ ap (λ (ms : List Mark). set ms d Unjudged) e ∙ set-set marks d Relevant Unjudged
    ∙ ap (set marks d) (sym (unjudged_is (mark_at marks d) h)) ∙ set-get_or marks d Unjudged

-- one unjudged document made relevant, then other
pub walked : (m : MeasureName) (u : ℕ) (marks first : List Mark) (a b : List ℕ) (d : ℕ) (x y z : Ends) → d < length marks → is_unjudged (mark_at marks d) ≡ true → first ≡ set marks d Relevant →
    AreExtremes m u (set marks d Relevant) a b x → AreExtremes m u (set first d Other) a b y →
    z.least_lo ≡ int_min x.least_lo y.least_lo → z.least_hi ≡ int_min x.least_hi y.least_hi → z.most_lo ≡ int_max x.most_lo y.most_lo → z.most_hi ≡ int_max x.most_hi y.most_hi →
    AreExtremes m u marks a b z
walked m u marks first a b d x y z h open_mark e r o ell elh eml emh =
    let other : set first d Other ≡ set marks d Other = ap (λ (ms : List Mark). set ms d Other) e ∙ set-set marks d Relevant Other in
    let o' : AreExtremes m u (set marks d Other) a b y = subst (λ (ms : List Mark). AreExtremes m u ms a b y) other o in
    let s = split_extremes m u marks (set marks d Relevant) (set marks d Other) a b d x y (judged_at marks d Relevant true h open_mark refl) (judged_at marks d Other false h open_mark refl) r o' in
    record {
      least_lo = subst (IsGreatest (λ z. InEvery m marks a b (IsAtMost z u))) (sym ell) s.least_lo;
      least_hi = subst (IsSmallest (λ z. InSome m marks a b (IsAtLeast z u))) (sym elh) s.least_hi;
      most_hi = subst (IsSmallest (λ z. InEvery m marks a b (IsAtLeast z u))) (sym emh) s.most_hi;
      most_lo = subst (IsGreatest (λ z. InSome m marks a b (IsAtMost z u))) (sym eml) s.most_lo;
    }
