-- R-precision for one fixed number R of relevant documents, by counts of three classes.
use Rattle.std.proofs.Common.{◌≡◌, ℕ, zero, suc, ◌+◌, ◌-◌, ◌<◌, ◌≤◌, min, max, Bool, true, false, not, ◌&&◌, ◌||◌, nat_lt, List, [], ◌∷◌, ◌++◌, length, take, count_by, arith, refl, ap, ◌∙◌, sym, subst, inl, inr}
use Rattle.std.specs.List.{range_with_len, AllByRecursion}
use Rattle.std.proofs.Math.Nat.{mul-le-mul_right}
use Rattle.std.proofs.lemmas.Bool.{cases_lt}
use Rattle.std.proofs.lemmas.List.Sums.{sum_by_push}
use Rattle.std.proofs.lemmas.Bool.Decides.{nat_tests}
use Rattle.std.proofs.Math.Bool.{and-true}
use Rattle.desk_model.specs.Mark.{is_unjudged, mark_at}
use Rattle.desk_model.specs.Completion.{Completes, picked_value, with_picked}
use Rattle.desk_model.specs.Ranking.{IsRanking, is_in}
use Rattle.desk_model.specs.Fraction.{over}
use Rattle.desk_model.specs.Score.{true_among, true_count}
use Rattle.desk_model.proofs.Counts.{one_if, count_by-cons, count_by-agree, IsDistinct-take}
use Rattle.desk_model.proofs.Completions.{with_picked-Completes}
use Rattle.desk_model.proofs.PrecisionEnds.{difference_outside, prefix_within}
use Rattle.desk_model.proofs.Topics.{over-den}
use Rattle.measure_laws.specs.Prefixes.{only_second, neutral}
use Rattle.measure_laws.specs.Differences.{ArePositive, IsNoGreater, Scores, IsLeastCase}
use Rattle.measure_laws.specs.Classes.{is_among_first, open_in, size_of, judged_count}
use Rattle.measure_laws.specs.RprecCase.{greedy_pick, greedy_truth, greedy_scores, rprec_count, rprec_truth}
use Rattle.measure_laws.proofs.Picks.{NoGreater, NoGreater-trans, first_least-least, first_least-all}
use Rattle.measure_laws.proofs.RecallEnds.{every, class_count, class_least, class_most, range_below, count_le_universe, no_greater_of, three}
use Rattle.desk_model.specs.declared.types.Mark.{Mark}
use Rattle.desk_model.specs.declared.types.Mark.TheVariants.{Unjudged, Relevant, Other}
use Rattle.desk_model.specs.declared.types.MeasureName.TheVariants.{RPrecision}

pub range_push : (s n : ℕ) → range_with_len s (suc n) ≡ range_with_len s n ++ (s + n) ∷ []
range_push s zero = ap (λ k. k ∷ []) (omega arith)
range_push s (suc n) = ap (λ ks. s ∷ ks) (range_push (s + 1) n ∙ ap (λ k. range_with_len (s + 1) n ++ k ∷ []) (omega arith))

-- one document more
pub count_more : (p : ℕ → Bool) (n : ℕ) → count_by p (range_with_len 0 (suc n)) ≡ count_by p (range_with_len 0 n) + one_if (p n)
count_more p n = ap (count_by p) (range_push 0 n) ∙ sum_by_push (λ d. one_if (p d)) (range_with_len 0 n) (0 + n) ∙ ap (λ k. count_by p (range_with_len 0 n) + one_if (p k)) (omega arith)

min_more : (b : Bool) (c j : ℕ) (l : Bool) → l ≡ nat_lt c j → min j c + one_if (b && l) ≡ min j (c + one_if b)
min_more true c j true e = grind (arith, nat_tests)
min_more true c j false e = grind (arith, nat_tests)
min_more false c j l e = omega arith

-- as many are picked as are wanted, or all where there are fewer
pub count-is_among_first : (j : ℕ) (class : ℕ → Bool) (n : ℕ) → count_by (is_among_first j class) (range_with_len 0 n) ≡ min j (count_by class (range_with_len 0 n))
count-is_among_first j class zero = omega arith
count-is_among_first j class (suc n) =
    let before = count-is_among_first j class n in
    let step = min_more (class n) (count_by class (range_with_len 0 n)) j (nat_lt (count_by class (range_with_len 0 n)) j) refl in
    count_more (is_among_first j class) n ∙ ap (λ k. k + one_if (is_among_first j class n)) before ∙ step ∙ ap (min j) (sym (count_more class n))

-- for one R: p0, q0, v0 of the classes are judged relevant, p1, q1, v1 unjudged. No choice of R documents has a smaller difference than the greedy one
pub greedy_least : (r p q v p0 q0 v0 p1 q1 v1 : ℕ) → p0 ≤ p → p ≤ p0 + p1 → q0 ≤ q → q ≤ q0 + q1 → v0 ≤ v → v ≤ v0 + v1 → p + q + v ≡ r →
    let u = r - (p0 + q0 + v0) in p0 + (u - (q1 + v1)) + q ≤ p + (q0 + min u q1)
greedy_least r p q v p0 q0 v0 p1 q1 v1 a b c d e f s = omega arith

-- ---- a class of documents, given by where a document stands
pub one_if_picked : (b : Bool) (m : Mark) (e : Bool) → one_if (picked_value b m && e) ≡ one_if (picked_value false m && e) + one_if ((is_unjudged m && e) && b)
one_if_picked true Unjudged true = refl
one_if_picked true Unjudged false = refl
one_if_picked false Unjudged true = refl
one_if_picked false Unjudged false = refl
one_if_picked b Relevant true = refl
one_if_picked b Relevant false = refl
one_if_picked b Other e = refl

-- the true documents of a class: those judged relevant, and those picked
pub count_picked : (marks : List Mark) (pick e : ℕ → Bool) (zs : List ℕ) →
    count_by (λ d. with_picked marks pick d && e d) zs ≡ count_by (λ d. with_picked marks (λ _. false) d && e d) zs + count_by (λ d. open_in marks e d && pick d) zs
count_picked marks pick e [] = refl
count_picked marks pick e (z ∷ zs) =
    omega (
      arith,
      count_by-cons (λ d. with_picked marks pick d && e d) z zs,
      count_by-cons (λ d. with_picked marks (λ _. false) d && e d) z zs,
      count_by-cons (λ d. open_in marks e d && pick d) z zs,
      one_if_picked (pick z) (mark_at marks z) (e z),
      count_picked marks pick e zs,
    )

-- what the greedy pick picks in each class
in_second : (u i j l m k : Bool) → ((u && (j && not i)) && (((u && (j && not i)) && l) || (((u && (not (j && not i) && not (i && not j))) && m) || ((u && (i && not j)) && k)))) ≡ ((u && (j && not i)) && l)
in_second false i j l m k = refl
in_second true true true l m k = refl
in_second true true false l m k = refl
in_second true false true true m k = refl
in_second true false true false m k = refl
in_second true false false l m k = refl

in_both : (u i j l m k : Bool) → ((u && (not (j && not i) && not (i && not j))) && (((u && (j && not i)) && l) || (((u && (not (j && not i) && not (i && not j))) && m) || ((u && (i && not j)) && k)))) ≡ ((u && (not (j && not i) && not (i && not j))) && m)
in_both false i j l m k = refl
in_both true true true l true k = refl
in_both true true true l false k = refl
in_both true true false l m k = refl
in_both true false true l m k = refl
in_both true false false l true k = refl
in_both true false false l false k = refl

pub in_first : (u i j l m k : Bool) → ((u && (i && not j)) && (((u && (j && not i)) && l) || (((u && (not (j && not i) && not (i && not j))) && m) || ((u && (i && not j)) && k)))) ≡ ((u && (i && not j)) && k)
in_first false i j l m k = refl
in_first true true true l m k = refl
in_first true true false l m k = refl
in_first true false true l m k = refl
in_first true false false l m k = refl

-- three classes make the universe
pub count_three : (p : ℕ → Bool) (r : ℕ) (a b zs : List ℕ) → count_by p zs ≡ count_by (λ d. p d && only_second r b a d) zs + count_by (λ d. p d && only_second r a b d) zs + count_by (λ d. p d && neutral r a b d) zs
count_three p r a b [] = refl
count_three p r a b (z ∷ zs) =
    omega (
      arith,
      count_by-cons p z zs,
      count_by-cons (λ d. p d && only_second r b a d) z zs,
      count_by-cons (λ d. p d && only_second r a b d) z zs,
      count_by-cons (λ d. p d && neutral r a b d) z zs,
      three (p z) (is_in (take r a) z) (is_in (take r b) z),
      count_three p r a b zs,
    )

-- the sizes of the classes that the greedy choice picks
pub greedy_second : (marks : List Mark) (a b : List ℕ) (r : ℕ) (zs : List ℕ) → count_by (λ d. open_in marks (only_second r a b) d && greedy_pick marks a b r d) zs ≡ count_by (is_among_first (r - judged_count marks) (open_in marks (only_second r a b))) zs
greedy_second marks a b r zs =
    count_by-agree _ _ zs (every _ (λ d. in_second (is_unjudged (mark_at marks d)) (is_in (take r a) d) (is_in (take r b) d) _ _ _) zs)

greedy_both : (marks : List Mark) (a b : List ℕ) (r : ℕ) (zs : List ℕ) → count_by (λ d. open_in marks (neutral r a b) d && greedy_pick marks a b r d) zs ≡
    count_by (is_among_first (r - judged_count marks - size_of (length marks) (open_in marks (only_second r a b))) (open_in marks (neutral r a b))) zs
greedy_both marks a b r zs =
    count_by-agree _ _ zs (every _ (λ d. in_both (is_unjudged (mark_at marks d)) (is_in (take r a) d) (is_in (take r b) d) _ _ _) zs)

greedy_first : (marks : List Mark) (a b : List ℕ) (r : ℕ) (zs : List ℕ) → count_by (λ d. open_in marks (only_second r b a) d && greedy_pick marks a b r d) zs ≡
    count_by (is_among_first (r - judged_count marks - size_of (length marks) (open_in marks (only_second r a b)) - size_of (length marks) (open_in marks (neutral r a b))) (open_in marks (only_second r b a))) zs
greedy_first marks a b r zs =
    count_by-agree _ _ zs (every _ (λ d. in_first (is_unjudged (mark_at marks d)) (is_in (take r a) d) (is_in (take r b) d) _ _ _) zs)

-- the documents of a class that are true in a completion
abbrev true_in : (ℕ → Bool) → (ℕ → Bool) → ℕ → ℕ
true_in p class n = count_by (λ d. p d && class d) (range_with_len 0 n)

-- a class has at least those judged relevant, and at most the unjudged ones more
class_bounds : (marks : List Mark) (truth e : ℕ → Bool) → Completes marks truth →
    (true_in (with_picked marks (λ _. false)) e (length marks) ≤ true_in truth e (length marks)) ×
    (true_in truth e (length marks) ≤ true_in (with_picked marks (λ _. false)) e (length marks) + size_of (length marks) (open_in marks e))
class_bounds marks truth e c =
    let zs = range_with_len 0 (length marks) in
    let all : count_by (λ d. open_in marks e d && true) zs ≡ size_of (length marks) (open_in marks e) = count_by-agree _ _ zs (every _ (λ d. and-true (open_in marks e d)) zs) in
    (class_least marks truth e zs (range_below (length marks)) c, omega (arith, class_most marks truth e zs (range_below (length marks)) c, count_picked marks (λ _. true) e zs, all))

-- the numbers of a topic at r relevant documents
pub record Greedy (marks : List Mark) (a b : List ℕ) (r : ℕ) : Type 0 where
  pub total : true_count (greedy_truth marks a b r) (length marks) ≡ r
  pub least : (truth : ℕ → Bool) → Completes marks truth → true_count truth (length marks) ≡ r →
      true_in (greedy_truth marks a b r) (only_second r b a) (length marks) + true_in truth (only_second r a b) (length marks) ≤
      true_in truth (only_second r b a) (length marks) + true_in (greedy_truth marks a b r) (only_second r a b) (length marks)

greedy_numbers : (r p0 q0 v0 p1 q1 v1 p q v : ℕ) → p0 + q0 + v0 ≤ r → r ≤ p0 + q0 + v0 + (p1 + q1 + v1) →
    p ≡ p0 + min (r - (p0 + q0 + v0) - q1 - v1) p1 → q ≡ q0 + min (r - (p0 + q0 + v0)) q1 → v ≡ v0 + min (r - (p0 + q0 + v0) - q1) v1 → p + q + v ≡ r
greedy_numbers r p0 q0 v0 p1 q1 v1 p q v h k e f g = omega arith

greedy_beats : (r p0 q0 v0 p1 q1 v1 p q x y z : ℕ) → p ≡ p0 + min (r - (p0 + q0 + v0) - q1 - v1) p1 → q ≡ q0 + min (r - (p0 + q0 + v0)) q1 →
    p0 ≤ x → x ≤ p0 + p1 → q0 ≤ y → y ≤ q0 + q1 → v0 ≤ z → z ≤ v0 + v1 → x + y + z ≡ r → p + y ≤ x + q
greedy_beats r p0 q0 v0 p1 q1 v1 p q x y z e f a b c d g h s = omega arith

pub greedy_is : (marks : List Mark) (a b : List ℕ) (r : ℕ) → judged_count marks ≤ r → r ≤ judged_count marks + size_of (length marks) (open_in marks (λ _. true)) → Greedy marks a b r
greedy_is marks a b r h k =
    let n = length marks in
    let zs = range_with_len 0 n in
    let base = with_picked marks (λ _. false) in
    let best = greedy_truth marks a b r in
    let e1 = only_second r b a in
    let e2 = only_second r a b in
    let e3 = neutral r a b in
    let judged : judged_count marks ≡ true_in base e1 n + true_in base e2 n + true_in base e3 n = count_three base r a b zs in
    let open_all : size_of n (open_in marks (λ _. true)) ≡ size_of n (open_in marks e1) + size_of n (open_in marks e2) + size_of n (open_in marks e3) =
    count_by-agree _ _ zs (every _ (λ d. and-true (is_unjudged (mark_at marks d))) zs) ∙ count_three (λ d. is_unjudged (mark_at marks d)) r a b zs in
    let second : true_in best e2 n ≡ true_in base e2 n + min (r - judged_count marks) (size_of n (open_in marks e2)) =
    omega (arith, count_picked marks (greedy_pick marks a b r) e2 zs, greedy_second marks a b r zs, count-is_among_first (r - judged_count marks) (open_in marks e2) n) in
    let both : true_in best e3 n ≡ true_in base e3 n + min (r - judged_count marks - size_of n (open_in marks e2)) (size_of n (open_in marks e3)) =
    count_picked marks (greedy_pick marks a b r) e3 zs ∙ ap (λ s. true_in base e3 n + s) (greedy_both marks a b r zs ∙ count-is_among_first (r - judged_count marks - size_of n (open_in marks e2)) (open_in marks e3) n) in
    let first : true_in best e1 n ≡ true_in base e1 n + min (r - judged_count marks - size_of n (open_in marks e2) - size_of n (open_in marks e3)) (size_of n (open_in marks e1)) =
    count_picked marks (greedy_pick marks a b r) e1 zs ∙ ap (λ s. true_in base e1 n + s) (greedy_first marks a b r zs ∙ count-is_among_first (r - judged_count marks - size_of n (open_in marks e2) - size_of n (open_in marks e3)) (open_in marks e1) n) in
    let first' = first ∙ ap (λ j. true_in base e1 n + min (r - j - size_of n (open_in marks e2) - size_of n (open_in marks e3)) (size_of n (open_in marks e1))) judged in
    let second' = second ∙ ap (λ j. true_in base e2 n + min (r - j) (size_of n (open_in marks e2))) judged in
    let both' = both ∙ ap (λ j. true_in base e3 n + min (r - j - size_of n (open_in marks e2)) (size_of n (open_in marks e3))) judged in
    record {
      total = count_three best r a b zs ∙ greedy_numbers r (true_in base e1 n) (true_in base e2 n) (true_in base e3 n) (size_of n (open_in marks e1)) (size_of n (open_in marks e2)) (size_of n (open_in marks e3)) _ _ _
          (omega (arith, judged, h)) (omega (arith, judged, open_all, k)) first' second' both';
      least = λ truth c e.
          let b1 = class_bounds marks truth e1 c in
          let b2 = class_bounds marks truth e2 c in
          let b3 = class_bounds marks truth e3 c in
          greedy_beats r (true_in base e1 n) (true_in base e2 n) (true_in base e3 n) (size_of n (open_in marks e1)) (size_of n (open_in marks e2)) (size_of n (open_in marks e3)) _ _ (true_in truth e1 n) (true_in truth e2 n) (true_in truth e3 n)
          first' second' b1.0 b1.1 b2.0 b2.1 b3.0 b3.1 (sym (count_three truth r a b zs) ∙ e);
    }

-- ---- over every number of relevant documents
-- counts of two prefixes differ as those of the classes do
classes_differ : (p : ℕ → Bool) (n r : ℕ) (a b : List ℕ) → IsRanking n a → IsRanking n b → true_among p r a + true_in p (only_second r a b) n ≡ true_among p r b + true_in p (only_second r b a) n
classes_differ p n r a b ra rb =
    let dx = IsDistinct-take r a ra.distinct in
    let dy = IsDistinct-take r b rb.distinct in
    omega (arith, difference_outside p (take r a) (take r b) dx dy, class_count p n (take r a) (take r b) dx (prefix_within r n a ra), class_count p n (take r b) (take r a) dy (prefix_within r n b rb))

all_at : (P : ℕ → Type 0) (start n d : ℕ) → AllByRecursion P (range_with_len start n) → start ≤ d → d < start + n → P d
all_at P start zero d h k l = absurd (omega arith)
all_at P start (suc n) d h k l = elim (cases_lt start d) [
  | inl later ↦ all_at P (start + 1) n d h.1 (omega arith) (omega arith)
  | inr here ↦ let same : start ≡ d = omega arith in subst P same h.0
]

pub range_all : (P : ℕ → Type 0) (start n : ℕ) → ((d : ℕ) → start ≤ d → d < start + n → P d) → AllByRecursion P (range_with_len start n)
range_all P start zero f = tt
range_all P start (suc n) f = (f start (omega arith) (omega arith), range_all P (start + 1) n (λ d h k. f d (omega arith) (omega arith)))

from_first : (P : ℕ → Type 0) (j u d : ℕ) → P j → AllByRecursion P (range_with_len (j + 1) u) → j ≤ d → d ≤ j + u → P d
from_first P j u d h k l m = elim (cases_lt j d) [ inl later ↦ all_at P (j + 1) u d k (omega arith) (omega arith) | inr here ↦ let same : j ≡ d = omega arith in subst P same h ]

-- the number of true documents of a completion
pub total_bounds : (marks : List Mark) (truth : ℕ → Bool) → Completes marks truth →
    (judged_count marks ≤ true_count truth (length marks)) × (true_count truth (length marks) ≤ judged_count marks + size_of (length marks) (open_in marks (λ _. true)))
total_bounds marks truth c =
    let zs = range_with_len 0 (length marks) in
    let bounds = class_bounds marks truth (λ _. true) c in
    let same = λ (p : ℕ → Bool). let e : count_by (λ d. p d && true) zs ≡ count_by p zs = count_by-agree _ _ zs (every _ (λ d. and-true (p d)) zs) in e in
    (omega (arith, bounds.0, same (with_picked marks (λ _. false)), same truth), omega (arith, bounds.1, same (with_picked marks (λ _. false)), same truth))

pub greedy_positive : (marks : List Mark) (a b : List ℕ) (r : ℕ) → ArePositive (greedy_scores marks a b r)
greedy_positive marks a b r = record { first = over-den (true_among (greedy_truth marks a b r) r a) r; second = over-den (true_among (greedy_truth marks a b r) r b) r }

-- the greedy choice of as many documents is no greater than a completion
pub greedy_no_greater : (marks : List Mark) (a b : List ℕ) → IsRanking (length marks) a → IsRanking (length marks) b → (truth : ℕ → Bool) → Completes marks truth → (r : ℕ) → true_count truth (length marks) ≡ r → Greedy marks a b r →
    IsNoGreater (greedy_scores marks a b r).first (greedy_scores marks a b r).second (over (true_among truth r a) r) (over (true_among truth r b) r)
greedy_no_greater marks a b ra rb truth c r e g =
    let n = length marks in
    let best = greedy_truth marks a b r in
    let dx = IsDistinct-take r a ra.distinct in
    let dy = IsDistinct-take r b rb.distinct in
    let wx = prefix_within r n a ra in
    let wy = prefix_within r n b rb in
    let le : true_among best r a + true_among truth r b ≤ true_among truth r a + true_among best r b =
    omega (arith, classes_differ best n r a b ra rb, classes_differ truth n r a b ra rb, g.least truth c e) in
    no_greater_of (true_among truth r a) (true_among truth r b) r (true_among best r a) (true_among best r b) r
    (omega (arith, e, count_le_universe truth n (take r a) dx wx)) (omega (arith, e, count_le_universe truth n (take r b) dy wy)) (omega (arith, g.total, count_le_universe best n (take r a) dx wx)) (omega (arith, g.total, count_le_universe best n (take r b) dy wy))
    (omega (arith, mul-le-mul_right (max 1 r) le))

-- the number of relevant documents of the case is one that the topic can have
pub rprec_within : (marks : List Mark) (a b : List ℕ) → (judged_count marks ≤ rprec_count marks a b) × (rprec_count marks a b ≤ judged_count marks + size_of (length marks) (open_in marks (λ _. true)))
rprec_within marks a b =
    let j = judged_count marks in
    let u = size_of (length marks) (open_in marks (λ _. true)) in
    first_least-all (λ r. (j ≤ r) × (r ≤ j + u)) (greedy_scores marks a b) j (range_with_len (j + 1) u) (omega arith, omega arith) (range_all _ (j + 1) u (λ d h k. (omega (arith, h), omega (arith, k))))

-- the case of R-precision has the least difference
pub rprec_least_case : (marks : List Mark) (a b : List ℕ) → IsRanking (length marks) a → IsRanking (length marks) b → IsLeastCase RPrecision marks a b (rprec_truth marks a b)
rprec_least_case marks a b ra rb =
    let n = length marks in
    let j = judged_count marks in
    let u = size_of n (open_in marks (λ _. true)) in
    let value = greedy_scores marks a b in
    let chosen = rprec_count marks a b in
    let best = first_least-least value (greedy_positive marks a b) j (range_with_len (j + 1) u) in
    let within = rprec_within marks a b in
    let total : true_count (rprec_truth marks a b) n ≡ chosen = (greedy_is marks a b chosen within.0 within.1).total in
    record {
      completes = with_picked-Completes marks (greedy_pick marks a b chosen);
      least = λ truth _ _ c.
          let r = true_count truth n in
          let bounds = total_bounds marks truth c in
          let here = greedy_no_greater marks a b ra rb truth c r refl (greedy_is marks a b r bounds.0 bounds.1) in
          let beats : NoGreater (value chosen) (value r) = from_first (λ d. NoGreater (value chosen) (value d)) j u r best.0 best.1 bounds.0 bounds.1 in
          let target : Scores = record { first = over (true_among truth r a) r; second = over (true_among truth r b) r } in
          let joined : NoGreater (value chosen) target = NoGreater-trans (value chosen) (value r) target (greedy_positive marks a b r) beats here in
          subst (λ (s : ℕ). IsNoGreater (over (true_among (rprec_truth marks a b) s a) s) (over (true_among (rprec_truth marks a b) s b) s) target.first target.second) (sym total) joined;
    }
