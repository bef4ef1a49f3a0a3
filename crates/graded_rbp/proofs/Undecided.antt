-- Two completions by grades differ on the order of an open pair.
use Rattle.std.proofs.Common.{◌≡◌, ◌≢◌, ℕ, ◌^◌, ◌<◌, ◌≤◌, Bool, true, false, cond, nat_eq, List, [], ◌∷◌, All, map, length, replicate, Option, Some, None, ℤ, pos, negsuc, neg_ℤ, ◌≤ℤ◌, ◌<ℤ◌, arith, ap, refl, sym, subst, ◌∙◌, ◌⊎◌, inl, inr}
use Rattle.std.specs.Prelude.{if◌then◌else◌, nat_le, int_lt, int_le, ◌&&◌, ◌||◌}
use Rattle.std.specs.List.{AllByRecursion, AllZip}
use Rattle.std.proofs.lemmas.Bool.{le-leb, lt-leb, eq-eqb, ne_eqb}
use Rattle.std.proofs.lemmas.Int.{ints}
use Rattle.std.proofs.lemmas.List.{length-map, length-replicate}
use Rattle.std.proofs.lemmas.List.Elements.{All-map, All-replicate}
use Rattle.small_lemmas.proofs.Numbers.{neg_twice}
use Rattle.desk_model.specs.Completion.{picked_value}
use Rattle.desk_model.specs.Fraction.{Fraction, total, mean, IsAtMost, IsAtLeast, IsBelow}
use Rattle.desk_model.specs.Limits.{PARTS_OF_ONE}
use Rattle.desk_model.specs.Mark.{mark_of}
use Rattle.desk_model.specs.Order.{run_score}
use Rattle.desk_model.specs.Ranking.{rank}
use Rattle.desk_model.specs.Verdict.{differs, verdict}
use Rattle.desk_model.specs.declared.types.Mark.{Mark}
use Rattle.desk_model.specs.declared.types.Mark.TheVariants.{Relevant, Other}
use Rattle.desk_model.specs.declared.types.Totals.{Totals}
use Rattle.desk_model.specs.declared.types.Verdict.TheVariants.{Open}
use Rattle.desk_model.proofs.Fractions.{AllPositive, total-den, below_from_at_most, below_from_at_least, not_below_from_at_most, not_below_from_at_least, mean_below, mean_below_out}
use Rattle.desk_model.proofs.Topics.{at_least_adds}
use Rattle.measure_laws.specs.Cases.{least_truth, IsLongTail, HasLeastTails}
use Rattle.measure_laws.specs.Ranks.{comes_before}
use Rattle.measure_laws.proofs.CaseEnds.{upper_agree}
use Rattle.measure_laws.proofs.NamedEnds.{upper_holds}
use Rattle.measure_laws.proofs.Swapping.{at_least_swapped}
use Rattle.pair_table.proofs.Verdicts.{open_says}
use Rattle.graded_rbp.specs.Grades.{GradedTopic, GradedCompletion, AllowsNumber, IsGradedCompletion, grade_at}
use Rattle.graded_rbp.specs.Levels.{level_topic, level_completion}
use Rattle.graded_rbp.specs.Numbers.{ends_on, level_totals, graded_totals}
use Rattle.graded_rbp.specs.Orders.{case_number, IsLongGradedTail, IsLeastCaseByGrades, AreUndecidedByGrades}
use Rattle.graded_rbp.specs.Score.{GradedMeasure, IsGradedMeasure, binary, graded_unit, graded_scores}
use Rattle.graded_rbp.proofs.Holding.{AreRanked, scores-den, unit_positive}
use Rattle.graded_rbp.proofs.Levels.{reach_min, mark_level, ranked_level}
use Rattle.graded_rbp.proofs.LevelScores.{IsRankedIn, total_at, length-graded_scores}
use Rattle.graded_rbp.proofs.OverLevels.{above, over_levels}
use Rattle.graded_rbp.proofs.Swapped.{graded_swapped}

-- ---- the least case by grades is at each level the least case of that level
picked_level : (greatest level : ℕ) (grade : Option ℤ) (pick : Bool) → 1 ≤ level → level ≤ greatest →
    picked_value pick (mark_of grade level) ≡ nat_le level (case_number greatest grade (picked_value pick (mark_of grade 1)))
picked_level greatest level None true ge le = sym (le-leb level greatest le)
picked_level greatest level None false ge le = sym (lt-leb level 0 ge)
picked_level greatest level (Some (negsuc _)) true ge le = sym (le-leb level greatest le)
picked_level greatest level (Some (negsuc _)) false ge le = sym (lt-leb level 0 ge)
picked_level greatest level (Some (pos grade)) pick ge le = by (nat_le level grade) ∙ sym (reach_min level grade greatest le)
  where
    by : (t : Bool) → picked_value pick (if t then Relevant else Other) ≡ t
    by true = refl
    by false = refl

long_level : (greatest level : ℕ) (tail : List ℕ) → level ≤ greatest → IsLongGradedTail greatest tail → IsLongTail (map (nat_le level) tail)
long_level greatest level tail le h = record {
  relevant = All-map (λ gain. gain ≡ true) (nat_le level) tail (λ k d lt. ap (nat_le level) (h.full k d lt) ∙ le-leb level greatest le);
  length_is = length-map tail (nat_le level) ∙ h.length_is;
}

module _ (m : GradedMeasure) (valid : IsGradedMeasure m) (a b : ℕ) where
  case_agrees : (level : ℕ) (topic : GradedTopic) (c : GradedCompletion) → 1 ≤ level → level ≤ m.greatest → IsLeastCaseByGrades m a b topic c → (doc : ℕ) →
      least_truth (binary m) (level_topic level topic).marks (topic.ranking a) (topic.ranking b) doc ≡ (level_completion level c).truth doc
  case_agrees level topic c ge le h doc =
      let pick = comes_before (rank (topic.ranking b) doc) (rank (topic.ranking a) doc) in
      let grade = grade_at topic.grades doc in
      ap (picked_value pick) (mark_level topic.grades level doc)
      ∙ picked_level m.greatest level grade pick ge le
      ∙ ap (λ (mark : Mark). nat_le level (case_number m.greatest grade (picked_value pick mark))) (sym (mark_level topic.grades 1 doc))
      ∙ ap (nat_le level) (sym (h.numbers doc))

  case_tails : (level : ℕ) (topic : GradedTopic) (c : GradedCompletion) → level ≤ m.greatest → IsLeastCaseByGrades m a b topic c → HasLeastTails (binary m) ((level_completion level c).tail a) ((level_completion level c).tail b)
  case_tails level topic c le h = (ap (map (nat_le level)) h.none, long_level m.greatest level (c.tail b) le h.long)

  -- the upper ends of a level's least differences, and what the runs score in the least case
  upper_at : (level : ℕ) → 1 ≤ level → level ≤ m.greatest → (topics : List GradedTopic) (cs : List GradedCompletion) → AllByRecursion (IsRankedIn a) topics → AllByRecursion (IsRankedIn b) topics → AllZip (IsLeastCaseByGrades m a b) topics cs →
      IsAtLeast (level_totals m a b topics level).least_hi PARTS_OF_ONE (total_at m a topics cs level) (total_at m b topics cs level)
  upper_at level ge le [] [] ra rb h = (at_least_adds PARTS_OF_ONE).none
  upper_at level ge le [] (c ∷ cs) ra rb h = absurd h
  upper_at level ge le (t ∷ ts) [] ra rb h = absurd h
  upper_at level ge le (t ∷ ts) (c ∷ cs) ra rb h =
      let topic = level_topic level t in
      let lc = level_completion level c in
      let n = length topic.marks in
      let qa = ranked_level level a t ra.0 in
      let qb = ranked_level level b t rb.0 in
      let z = (ends_on m a b topic).least_hi in
      (at_least_adds PARTS_OF_ONE).step z (level_totals m a b ts level).least_hi
      (run_score (binary m) a topic lc) (run_score (binary m) b topic lc) (total_at m a ts cs level) (total_at m b ts cs level)
      (upper_holds (binary m) n lc.truth (t.ranking a) (t.ranking b) z (lc.tail a) (lc.tail b) valid.persistence qa qb
      (upper_agree (binary m) n (least_truth (binary m) topic.marks (t.ranking a) (t.ranking b)) lc.truth (t.ranking a) (t.ranking b) z qa qb (λ doc lt. case_agrees level t c ge le h.0 doc) refl) (case_tails level t c le h.0))
      (upper_at level ge le ts cs ra.1 rb.1 h.1)

  upper : (topics : List GradedTopic) (cs : List GradedCompletion) → IsGradedCompletion m.greatest topics cs → AllByRecursion (IsRankedIn a) topics → AllByRecursion (IsRankedIn b) topics → AllZip (IsLeastCaseByGrades m a b) topics cs →
      IsAtLeast (graded_totals m a b topics).least_hi (graded_unit m) (total (graded_scores m a topics cs)) (total (graded_scores m b topics cs))
  upper topics cs c ra rb h =
      over_levels (λ unit z. IsAtLeast z unit) above (λ (t : Totals). t.least_hi) (level_totals m a b topics) m valid topics cs c a b ra rb (λ level ge le. upper_at level ge le topics cs ra rb h)

-- the mirror image: the least case of the swapped runs
lower : (m : GradedMeasure) (valid : IsGradedMeasure m) (a b : ℕ) (topics : List GradedTopic) (cs : List GradedCompletion) → IsGradedCompletion m.greatest topics cs → AllByRecursion (IsRankedIn a) topics → AllByRecursion (IsRankedIn b) topics →
    AllZip (IsLeastCaseByGrades m b a) topics cs → IsAtMost (graded_totals m a b topics).most_lo (graded_unit m) (total (graded_scores m a topics cs)) (total (graded_scores m b topics cs))
lower m valid a b topics cs c ra rb h =
    let x = total (graded_scores m a topics cs) in
    let y = total (graded_scores m b topics cs) in
    let z = (graded_totals m a b topics).most_lo in
    let end : (graded_totals m b a topics).least_hi ≡ neg_ℤ z = ap (λ (t : Totals). t.least_hi) (graded_swapped m a b topics) in
    subst (λ w. IsAtMost w (graded_unit m) x y) (ap neg_ℤ end ∙ neg_twice z) (at_least_swapped (graded_totals m b a topics).least_hi (graded_unit m) y x (upper m valid b a topics cs c rb ra h))

-- ---- the least case is a completion by grades
long_list : (greatest n : ℕ) → (tail : List ℕ) × All (λ v. v ≡ greatest) tail × (length tail ≡ n)
long_list greatest n = (replicate n greatest, All-replicate (λ v. v ≡ greatest) n greatest refl, length-replicate n greatest)

long_tail : (greatest : ℕ) → (tail : List ℕ) × IsLongGradedTail greatest tail
long_tail greatest = let some = long_list greatest (10 ^ 24) in (some.0, record { full = some.1; length_is = some.2 })

allowed_case : (greatest : ℕ) (grade : Option ℤ) (pick : Bool) → AllowsNumber greatest grade (case_number greatest grade pick)
allowed_case greatest None true = omega arith
allowed_case greatest None false = omega arith
allowed_case greatest (Some (negsuc _)) true = omega arith
allowed_case greatest (Some (negsuc _)) false = omega arith
allowed_case greatest (Some (pos grade)) pick = refl

module _ (m : GradedMeasure) (a b : ℕ) (apart : a ≢ b) (long : List ℕ) (is_long : IsLongGradedTail m.greatest long) where
  abbrev case_of : GradedTopic → GradedCompletion
  case_of topic = record {
    number = λ doc. case_number m.greatest (grade_at topic.grades doc) (least_truth (binary m) (level_topic 1 topic).marks (topic.ranking a) (topic.ranking b) doc);
    tail = λ r. cond (nat_eq r b) long [];
  }

  small_tail : (t : Bool) → All (λ v. v ≤ m.greatest) (cond t long [])
  small_tail true k d lt = omega (arith, is_long.full k d lt)
  small_tail false k d lt = absurd (omega arith)

  case_completes : (topics : List GradedTopic) → IsGradedCompletion m.greatest topics (map case_of topics)
  case_completes [] = tt
  case_completes (t ∷ ts) = (record { allowed = λ doc lt. allowed_case m.greatest (grade_at t.grades doc) _; tails = λ r. small_tail (nat_eq r b) }, case_completes ts)

  case_is : (topics : List GradedTopic) → AllZip (IsLeastCaseByGrades m a b) topics (map case_of topics)
  case_is [] = tt
  case_is (t ∷ ts) = (
    record {
      numbers = λ doc. refl;
      none = ap (λ v. cond v long []) (ne_eqb a b apart);
      long = subst (IsLongGradedTail m.greatest) (sym (ap (λ v. cond v long []) (eq-eqb b b refl))) is_long;
    },
    case_is ts,
  )

pub some_completion : (m : GradedMeasure) (topics : List GradedTopic) → (cs : List GradedCompletion) × IsGradedCompletion m.greatest topics cs
some_completion m topics =
    let long = long_tail m.greatest in
    let apart : 0 ≢ 1 = λ e. omega (arith, e) in
    (map (case_of m 0 1 apart long.0 long.1) topics, case_completes m 0 1 apart long.0 long.1 topics)

-- ---- two lists of scores each, with sums on two sides of 0
sides : (p q r s : Bool) → (p && q) || (r && s) ≡ true → ((p ≡ true) × (q ≡ true)) ⊎ ((r ≡ true) × (s ≡ true))
sides true true r s h = inl (refl, refl)
sides true false true true h = inr (refl, refl)
sides true false true false h = absurd (cc)
sides true false false s h = absurd (cc)
sides false q true true h = inr (refl, refl)
sides false q true false h = absurd (cc)
sides false q false s h = absurd (cc)

differing : (low high : ℤ) → differs low high ≡ true → ((low <ℤ pos 0) × (pos 0 ≤ℤ high)) ⊎ ((low ≤ℤ pos 0) × (pos 0 <ℤ high))
differing low high h = elim (sides (int_lt low (pos 0)) (int_le (pos 0) high) (int_le low (pos 0)) (int_lt (pos 0) high) h) [
  | inl p ↦ inl (omega (arith, ints, p), omega (arith, ints, p))
  | inr p ↦ inr (omega (arith, ints, p), omega (arith, ints, p))
]

module _ (u t : ℕ) (unit : 0 < u) (some : 0 < t) (la lb ha hb : List Fraction) (ela : length la ≡ t) (elb : length lb ≡ t) (eha : length ha ≡ t) (ehb : length hb ≡ t)
    (pla : AllPositive la) (plb : AllPositive lb) (pha : AllPositive ha) (phb : AllPositive hb) (x y : ℤ) (at_low : IsAtLeast x u (total la) (total lb)) (at_high : IsAtMost y u (total ha) (total hb)) where
  means_differ : differs x y ≡ true → (IsBelow (mean la) (mean lb) × (IsBelow (mean ha) (mean hb) → ⊥)) ⊎ ((IsBelow (mean lb) (mean la) → ⊥) × IsBelow (mean hb) (mean ha))
  means_differ h = elim (differing x y h) [
    | inl p ↦ inl (
      mean_below la lb (omega (arith, ela, elb)) (omega (arith, ela, some)) (below_from_at_least x u (total la) (total lb) p.0 at_low (total-den la pla) (total-den lb plb)),
      (λ less. not_below_from_at_most y u (total ha) (total hb) p.1 unit at_high (mean_below_out ha hb (omega (arith, eha, ehb)) less)),
    )
    | inr p ↦ inr (
      (λ less. not_below_from_at_least x u (total la) (total lb) p.0 unit at_low (mean_below_out lb la (omega (arith, ela, elb)) less)),
      mean_below hb ha (omega (arith, eha, ehb)) (omega (arith, ehb, some)) (below_from_at_most y u (total ha) (total hb) p.1 at_high (total-den ha pha) (total-den hb phb)),
    )
  ]

-- ---- an open verdict
pub open_undecided : (m : GradedMeasure) (valid : IsGradedMeasure m) (a b : ℕ) (topics : List GradedTopic) → a ≢ b → AreRanked a b topics → verdict (graded_totals m a b topics) ≡ Open → AreUndecidedByGrades m topics a b
open_undecided m valid a b topics apart ranked v =
    let long = long_tail m.greatest in
    let swapped : b ≢ a = λ e. apart (sym e) in
    let low = map (case_of m a b apart long.0 long.1) topics in
    let high = map (case_of m b a swapped long.0 long.1) topics in
    let cl = case_completes m a b apart long.0 long.1 topics in
    let ch = case_completes m b a swapped long.0 long.1 topics in
    let kl = case_is m a b apart long.0 long.1 topics in
    let kh = case_is m b a swapped long.0 long.1 topics in
    let sums = graded_totals m a b topics in
    record {
      low = low;
      high = high;
      low_completes = cl;
      high_completes = ch;
      low_is = kl;
      high_is = kh;
      differ = means_differ (graded_unit m) (length topics) (unit_positive m valid) ranked.some_topic (graded_scores m a topics low) (graded_scores m b topics low) (graded_scores m a topics high) (graded_scores m b topics high)
          (length-graded_scores m valid a topics low cl) (length-graded_scores m valid b topics low cl) (length-graded_scores m valid a topics high ch) (length-graded_scores m valid b topics high ch)
          (scores-den m a topics low) (scores-den m b topics low) (scores-den m a topics high) (scores-den m b topics high)
          sums.least_hi sums.most_lo (upper m valid a b topics low cl ranked.first ranked.second kl) (lower m valid a b topics high ch ranked.first ranked.second kh) (open_says sums v);
    }
