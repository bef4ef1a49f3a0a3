-- Evidence implies the claim.
use borrow.Author.Differences.{up, down}
use Rattle.std.proofs.Common.{◌≡◌, ◌≢◌, ℕ, ◌+◌, ◌*◌, ◌<◌, ◌≤◌, Bool, true, false, List, [], ◌∷◌, map, length, cond, nat_eq, refl, ap, sym, subst, arith, ◌⊎◌, inl, inr, Some, ℤ, pos, ◌≤ℤ◌, ◌<ℤ◌}
use Rattle.std.specs.Prelude.{◌||◌, ◌&&◌, int_lt, int_le}
use Rattle.std.specs.List.{AllByRecursion, AllZip, position_from, zip}
use Rattle.std.proofs.lemmas.Int.{ints}
use Rattle.std.proofs.lemmas.Bool.{eq-eqb, ne_eqb}
use Rattle.std.proofs.lemmas.List.Elements.{recursion_from_All}
use Rattle.std.proofs.Math.Nat.{mul-le-mul_right}
use Rattle.desk_model.specs.Book.{Book}
use Rattle.desk_model.specs.Completion.{Completion, picked_value}
use Rattle.desk_model.specs.Desk.{Desk, IsDesk, AreMarksOf, topics_under}
use Rattle.desk_model.specs.Enclosure.{AreLowEnds, AreHighEnds}
use Rattle.desk_model.specs.Fraction.{Fraction, IsAtMost, IsAtLeast, total}
use Rattle.desk_model.specs.MeasureText.{IsMeasure}
use Rattle.desk_model.specs.Order.{Topic, IsCompletion, run_score, run_scores}
use Rattle.desk_model.specs.Ranking.{IsRanking}
use Rattle.desk_model.specs.Score.{score}
use Rattle.desk_model.specs.Verdict.{whole_sum, differs}
use Rattle.desk_model.specs.declared.types.Mark.{Mark}
use Rattle.desk_model.specs.declared.types.MeasureName.{MeasureName}
use Rattle.desk_model.proofs.Completions.{with_picked-Completes}
use Rattle.desk_model.proofs.DeskTopics.{length-topics_under, each_topic, ranking_at}
use Rattle.desk_model.proofs.Fractions.{at_most_out, at_most_in, at_least_out, at_least_in, below_from_at_most, below_from_at_least, not_below_from_at_most, not_below_from_at_least, mean_below, mean_below_out}
use Rattle.desk_model.proofs.Topics.{Adds, at_most_adds, at_least_adds, always_above, always_equal, total_scores-den, length-run_scores}
use Rattle.measure_laws.specs.Cases.{HasLeastTails}
use Rattle.measure_laws.specs.Ends.{IsUpperEnd, IsLowerEnd}
use Rattle.measure_laws.specs.Measures.{unit_of}
use Rattle.measure_laws.proofs.Biased.{least_tails}
use Rattle.measure_laws.proofs.NamedEnds.{low_encloses, high_encloses, upper_holds, lower_holds}
use Rattle.measure_laws.proofs.Weights.{unit-size}
use Rattle.order_certificate.specs.Claim.{NamedTopic, named_topics, is_listed, FollowsList, Differ, Claims, AreItsRuns, NamesTopics, ClaimHolds}
use Rattle.order_certificate.specs.Evidence.{AreLows, AreHighs, AreUnjudged, listed_truth, lows_of, highs_of, Shows, IsEvidence}
use Rattle.order_certificate.specs.declared.certificate.Certificate.{Certificate}
use Rattle.order_certificate.specs.declared.certificate.Evidence.{Evidence}
use Rattle.order_certificate.specs.declared.certificate.Evidence.TheVariants.{Above, Equal, Open}
use Rattle.order_certificate.specs.declared.certificate.TopicWitness.{TopicWitness}

-- a smaller number is at most what a greater one is at most
at_most_smaller : (z w : ℤ) (u : ℕ) (x y : Fraction) → z ≤ℤ w → IsAtMost w u x y → IsAtMost z u x y
at_most_smaller z w u x y le h =
    let sizes : up z + down w ≤ up w + down z = omega (arith, ints) in
    at_most_in z u x y (omega (arith, at_most_out w u x y h, mul-le-mul_right (x.den * y.den) sizes))

at_least_greater : (z w : ℤ) (u : ℕ) (x y : Fraction) → w ≤ℤ z → IsAtLeast w u x y → IsAtLeast z u x y
at_least_greater z w u x y le h =
    let sizes : up w + down z ≤ up z + down w = omega (arith, ints) in
    at_least_in z u x y (omega (arith, at_least_out w u x y h, mul-le-mul_right (x.den * y.den) sizes))

-- topics without the names of their documents
abbrev pub plain : List NamedTopic → List Topic
plain ts = map (λ (t : NamedTopic). t.topic) ts

-- rankings of two runs over the topic's universe
abbrev pub Ranked : ℕ → ℕ → Topic → Type 0
Ranked a b topic = IsRanking (length topic.marks) (topic.ranking a) × IsRanking (length topic.marks) (topic.ranking b)

module _ (m : MeasureName) (valid : IsMeasure m) (a b : ℕ) where
  lows_hold : (zs : List ℤ) (ts : List NamedTopic) → AllByRecursion (Ranked a b) (plain ts) → AreLows m a b zs ts → AreLowEnds m (unit_of m) (plain ts) a b zs
  lows_hold [] [] r h = tt
  lows_hold [] (t ∷ ts) r h = absurd h
  lows_hold (z ∷ zs) [] r h = absurd h
  lows_hold (z ∷ zs) (t ∷ ts) r h = (
    (λ truth tail_a tail_b c. at_most_smaller z h.0.0.least_lo (unit_of m) _ _ h.0.2 (low_encloses m t.topic.marks (t.topic.ranking a) (t.topic.ranking b) h.0.0 valid r.0.0 r.0.1 h.0.1 truth tail_a tail_b c)),
    lows_hold zs ts r.1 h.1,
  )

  highs_hold : (zs : List ℤ) (ts : List NamedTopic) → AllByRecursion (Ranked a b) (plain ts) → AreHighs m a b zs ts → AreHighEnds m (unit_of m) (plain ts) a b zs
  highs_hold [] [] r h = tt
  highs_hold [] (t ∷ ts) r h = absurd h
  highs_hold (z ∷ zs) [] r h = absurd h
  highs_hold (z ∷ zs) (t ∷ ts) r h = (
    (λ truth tail_a tail_b c. at_least_greater z h.0.0.most_hi (unit_of m) _ _ h.0.2 (high_encloses m t.topic.marks (t.topic.ranking a) (t.topic.ranking b) h.0.0 valid r.0.0 r.0.1 h.0.1 truth tail_a tail_b c)),
    highs_hold zs ts r.1 h.1,
  )

-- a completion of a topic with one tail for a and another for the others
abbrev listed : (ℕ → Bool) → ℕ → List Bool → List Bool → Completion
listed truth a tail_a tail_b = record { truth = truth; tail = λ r. cond (nat_eq r a) tail_a tail_b }

-- completions that follow lists of witnesses, with tails of their own, and a fact of the sums of both runs
record Built (m : MeasureName) (fact : ℤ → Fraction → Fraction → Type 0) (list_of : TopicWitness → List (List ℕ)) (a b first second : ℕ) (ws : List TopicWitness) (ts : List NamedTopic) (z : ℤ) : Type 0 where
  cs : List Completion
  completes : IsCompletion (plain ts) cs
  follows : AllZip (λ (c : Completion) (p : TopicWitness × NamedTopic). FollowsList p.1 (list_of p.0) c × HasLeastTails m (c.tail first) (c.tail second)) cs (zip ws ts)
  sums : fact z (total (run_scores m a (plain ts) cs)) (total (run_scores m b (plain ts) cs))

module _ (m : MeasureName) (fact : ℤ → Fraction → Fraction → Type 0) (adds : Adds fact) (list_of : TopicWitness → List (List ℕ)) (a b : ℕ) (apart : a ≢ b) (End : NamedTopic → (ℕ → Bool) → ℤ → Type 0) where
  module _ (tail_a tail_b : List Bool) (first second : ℕ) (tails : (c : Completion) → c.tail a ≡ tail_a → c.tail b ≡ tail_b → HasLeastTails m (c.tail first) (c.tail second))
      (holds : (t : NamedTopic) (truth : ℕ → Bool) (z : ℤ) → Ranked a b t.topic → End t truth z → fact z (score m (length t.topic.marks) truth (t.topic.ranking a) tail_a) (score m (length t.topic.marks) truth (t.topic.ranking b) tail_b)) where
    build : (ws : List TopicWitness) (ts : List NamedTopic) (zs : List ℤ) → AllByRecursion (Ranked a b) (plain ts) → AllZip (λ (w : TopicWitness) t. AreUnjudged t w.low × AreUnjudged t w.high) ws ts →
        AllZip (λ z (p : TopicWitness × NamedTopic). End p.1 (listed_truth p.1 (list_of p.0)) z) zs (zip ws ts) → Built m fact list_of a b first second ws ts (whole_sum zs)
    build [] [] [] r u h = record { cs = []; completes = tt; follows = tt; sums = adds.none }
    build [] [] (z ∷ zs) r u h = absurd h
    build [] (t ∷ ts) zs r u h = absurd u
    build (w ∷ ws) [] zs r u h = absurd u
    build (w ∷ ws) (t ∷ ts) [] r u h = absurd h
    build (w ∷ ws) (t ∷ ts) (z ∷ zs) r u h =
        let later = build ws ts zs r.1 u.1 h.1 in
        let truth = listed_truth t (list_of w) in
        let c = listed truth a tail_a tail_b in
        let at_a : c.tail a ≡ tail_a = ap (λ v. cond v tail_a tail_b) (eq-eqb a a refl) in
        let at_b : c.tail b ≡ tail_b = ap (λ v. cond v tail_a tail_b) (ne_eqb b a (λ e. apart (sym e))) in
        let n = length t.topic.marks in
        let score_a : run_score m a t.topic c ≡ score m n truth (t.topic.ranking a) tail_a = ap (score m n truth (t.topic.ranking a)) at_a in
        let score_b : run_score m b t.topic c ≡ score m n truth (t.topic.ranking b) tail_b = ap (score m n truth (t.topic.ranking b)) at_b in
        let one : fact z (run_score m a t.topic c) (run_score m b t.topic c) = rw (score_a, score_b) (holds t truth z r.0 h.0) in
        record {
          cs = c ∷ later.cs;
          completes = (with_picked-Completes t.topic.marks _, later.completes);
          follows = (((λ doc lt e. ap (λ mark. picked_value (is_listed t (list_of w) doc) mark) e), tails c at_a at_b), later.follows);
          sums = adds.step z (whole_sum zs) (run_score m a t.topic c) (run_score m b t.topic c) (total (run_scores m a (plain ts) later.cs)) (total (run_scores m b (plain ts) later.cs)) one later.sums;
        }

sides : (p q r s : Bool) → (p && q) || (r && s) ≡ true → ((p ≡ true) × (q ≡ true)) ⊎ ((r ≡ true) × (s ≡ true))
sides true true r s h = inl (refl, refl)
sides true false true true h = inr (refl, refl)
sides true false true false h = absurd (cc)
sides true false false s h = absurd (cc)
sides false q true true h = inr (refl, refl)
sides false q true false h = absurd (cc)
sides false q false s h = absurd (cc)

-- sums on two sides of 0, or one of them at 0
differing : (low high : ℤ) → differs low high ≡ true → ((low <ℤ pos 0) × (pos 0 ≤ℤ high)) ⊎ ((low ≤ℤ pos 0) × (pos 0 <ℤ high))
differing low high h = elim (sides (int_lt low (pos 0)) (int_le (pos 0) high) (int_le low (pos 0)) (int_lt (pos 0) high) h) [
  | inl p ↦ inl (omega (arith, ints, p), omega (arith, ints, p))
  | inr p ↦ inr (omega (arith, ints, p), omega (arith, ints, p))
]

module _ (m : MeasureName) (topics : List Topic) (a b : ℕ) (u : ℕ) (some : 0 < u) (filled : 0 < length topics) (low high : List Completion) (cl : IsCompletion topics low) (ch : IsCompletion topics high) (x y : ℤ)
    (at_low : IsAtLeast x u (total (run_scores m a topics low)) (total (run_scores m b topics low))) (at_high : IsAtMost y u (total (run_scores m a topics high)) (total (run_scores m b topics high))) where
  -- sums that differ on the order are of completions that do
  pub means_differ : differs x y ≡ true → Differ m topics a b low high
  means_differ h =
      let la = length-run_scores m a topics low cl in
      let lb = length-run_scores m b topics low cl in
      let ha = length-run_scores m a topics high ch in
      let hb = length-run_scores m b topics high ch in
      elim (differing x y h) [
        | inl p ↦ inl (
          mean_below (run_scores m a topics low) (run_scores m b topics low) (omega (arith, la, lb)) (omega (arith, la))
              (below_from_at_least x u (total (run_scores m a topics low)) (total (run_scores m b topics low)) p.0 at_low (total_scores-den m a topics low) (total_scores-den m b topics low)),
          (λ less. not_below_from_at_most y u (total (run_scores m a topics high)) (total (run_scores m b topics high)) p.1 some at_high (mean_below_out (run_scores m a topics high) (run_scores m b topics high) (omega (arith, ha, hb)) less)),
        )
        | inr p ↦ inr (
          (λ less. not_below_from_at_least x u (total (run_scores m a topics low)) (total (run_scores m b topics low)) p.0 some at_low (mean_below_out (run_scores m b topics low) (run_scores m a topics low) (omega (arith, la, lb)) less)),
          mean_below (run_scores m b topics high) (run_scores m a topics high) (omega (arith, ha, hb)) (omega (arith, hb))
              (below_from_at_most y u (total (run_scores m a topics high)) (total (run_scores m b topics high)) p.1 at_high (total_scores-den m a topics high) (total_scores-den m b topics high)),
        )
      ]

-- the topics of a desk under marks, with the names of their documents left out, are its topics
plain_topics : (books : List Book) (topics : List Topic) → length books ≡ length topics → plain (map (λ (p : Book × Topic). record { docs = p.0.docs; topic = p.1 }) (zip books topics)) ≡ topics
plain_topics [] [] e = refl
plain_topics [] (t ∷ ts) e = absurd (omega (arith, e))
plain_topics (b ∷ bs) [] e = absurd (omega (arith, e))
plain_topics (b ∷ bs) (t ∷ ts) e = ap (λ zs. t ∷ zs) (plain_topics bs ts (omega (arith, e)))

-- a place is within the list
pub place_within : {X : Type 0} (p : X → Bool) (xs : List X) (n i : ℕ) → position_from p n xs ≡ Some i → i < n + length xs
place_within p [] n i e = absurd (cc)
place_within p (x ∷ xs) n i e = by (p x) (λ rest. place_within p xs (n + 1) i rest) e
  where
    by : (t : Bool) → (position_from p (n + 1) xs ≡ Some i → i < n + 1 + length xs) → cond t (Some n) (position_from p (n + 1) xs) ≡ Some i → i < n + length (x ∷ xs)
    by true later e = let at : n ≡ i = cc in omega arith
    by false later e = let rest = later e in omega arith

module _ (m : MeasureName) (valid : IsMeasure m) (desk : Desk) (marks : List (List Mark)) (a b : ℕ) (apart : a ≢ b) (same : plain (named_topics desk marks) ≡ topics_under desk marks)
    (met : AllByRecursion (Ranked a b) (plain (named_topics desk marks))) (filled : 0 < length (topics_under desk marks)) where
  low_ends : (zs : List ℤ) → AreLows m a b zs (named_topics desk marks) → AreLowEnds m (unit_of m) (topics_under desk marks) a b zs
  low_ends zs h = subst (λ ts. AreLowEnds m (unit_of m) ts a b zs) same (lows_hold m valid a b zs (named_topics desk marks) met h)

  high_ends : (zs : List ℤ) → AreHighs m a b zs (named_topics desk marks) → AreHighEnds m (unit_of m) (topics_under desk marks) a b zs
  high_ends zs h = subst (λ ts. AreHighEnds m (unit_of m) ts a b zs) same (highs_hold m valid a b zs (named_topics desk marks) met h)

  unit_positive : 0 < unit_of m
  unit_positive = let unit = unit-size m valid in omega (arith, unit)

  shows_claims : (e : Evidence) → NamesTopics e desk → Shows m (named_topics desk marks) a b e → Claims m desk marks a b e
  shows_claims (Above bounds) named h = always_above m (unit_of m) a b (topics_under desk marks) (lows_of bounds) (low_ends (lows_of bounds) h.0) h.1
  shows_claims (Equal bounds) named h =
      always_equal m (unit_of m) a b (topics_under desk marks) (lows_of bounds) (highs_of bounds) unit_positive (low_ends (lows_of bounds) h.0) (high_ends (highs_of bounds) h.1) h.2 h.3
  shows_claims (Open ws) named (unjudged, x, y, (xs, upper, low_sum), (ys, lower, high_sum), differ) =
      let ts = named_topics desk marks in
      let t = least_tails m in
      let low = build m (λ z. IsAtLeast z (unit_of m)) (at_least_adds (unit_of m)) (λ w. w.low) a b apart
      (λ s truth z. IsUpperEnd m (length s.topic.marks) truth (s.topic.ranking a) (s.topic.ranking b) z) t.0 t.1 a b
      (λ c ea eb. subst (λ v. HasLeastTails m v (c.tail b)) (sym ea) (subst (HasLeastTails m t.0) (sym eb) t.2))
      (λ s truth z r h. upper_holds m (length s.topic.marks) truth (s.topic.ranking a) (s.topic.ranking b) z t.0 t.1 valid r.0 r.1 h t.2) ws ts xs met unjudged upper in
      let high = build m (λ z. IsAtMost z (unit_of m)) (at_most_adds (unit_of m)) (λ w. w.high) a b apart
      (λ s truth z. IsLowerEnd m (length s.topic.marks) truth (s.topic.ranking a) (s.topic.ranking b) z) t.1 t.0 b a
      (λ c ea eb. subst (λ v. HasLeastTails m v (c.tail a)) (sym eb) (subst (HasLeastTails m t.0) (sym ea) t.2))
      (λ s truth z r h. lower_holds m (length s.topic.marks) truth (s.topic.ranking a) (s.topic.ranking b) z t.1 t.0 valid r.0 r.1 h t.2) ws ts ys met unjudged lower in
      let low_completes : IsCompletion (topics_under desk marks) low.cs = subst (λ topics. IsCompletion topics low.cs) same low.completes in
      let high_completes : IsCompletion (topics_under desk marks) high.cs = subst (λ topics. IsCompletion topics high.cs) same high.completes in
      let low_at : IsAtLeast x (unit_of m) (total (run_scores m a (topics_under desk marks) low.cs)) (total (run_scores m b (topics_under desk marks) low.cs)) =
      subst (λ z. IsAtLeast z (unit_of m) (total (run_scores m a (topics_under desk marks) low.cs)) (total (run_scores m b (topics_under desk marks) low.cs))) (sym low_sum)
      (subst (λ topics. IsAtLeast (whole_sum xs) (unit_of m) (total (run_scores m a topics low.cs)) (total (run_scores m b topics low.cs))) same low.sums) in
      let high_at : IsAtMost y (unit_of m) (total (run_scores m a (topics_under desk marks) high.cs)) (total (run_scores m b (topics_under desk marks) high.cs)) =
      subst (λ z. IsAtMost z (unit_of m) (total (run_scores m a (topics_under desk marks) high.cs)) (total (run_scores m b (topics_under desk marks) high.cs))) (sym high_sum)
      (subst (λ topics. IsAtMost (whole_sum ys) (unit_of m) (total (run_scores m a topics high.cs)) (total (run_scores m b topics high.cs))) same high.sums) in
      record {
        topics = named;
        low = low.cs;
        high = high.cs;
        low_completes = low_completes;
        high_completes = high_completes;
        low_listed = low.follows;
        high_listed = high.follows;
        differ = means_differ m (topics_under desk marks) a b (unit_of m) unit_positive filled low.cs high.cs low_completes high_completes x y low_at high_at differ;
      }

-- evidence implies the claim
pub evidence_claims : (c : Certificate) (desk : Desk) (marks : List (List Mark)) → IsMeasure c.measure → IsDesk desk → AreMarksOf desk marks → IsEvidence c desk marks → ClaimHolds c desk marks
evidence_claims c desk marks valid is_desk known h =
    let topics = topics_under desk marks in
    let count : length topics ≡ length desk.topics = length-topics_under desk marks known in
    let same : plain (named_topics desk marks) ≡ topics = plain_topics desk.topics topics (sym count) in
    let in_a = place_within _ desk.runs 0 h.first h.runs.0 in
    let in_b = place_within _ desk.runs 0 h.second h.runs.1 in
    let at_a : h.first < length desk.runs = omega (arith, in_a) in
    let at_b : h.second < length desk.runs = omega (arith, in_b) in
    let ranked : AllByRecursion (Ranked h.first h.second) topics = recursion_from_All (Ranked h.first h.second) topics
    (each_topic desk marks is_desk known (Ranked h.first h.second) (λ t m e. (ranking_at desk marks is_desk known h.first t m at_a e, ranking_at desk marks is_desk known h.second t m at_b e))) in
    let some = is_desk.some_topic in
    record {
      first = h.first;
      second = h.second;
      runs = h.runs;
      holds = shows_claims c.measure valid desk marks h.first h.second h.two_runs same (subst (AllByRecursion (Ranked h.first h.second)) (sym same) ranked) (omega (arith, some, count)) c.evidence h.topics h.shows;
    }

-- what a certificate claims of its two runs
pub claimed : (c : Certificate) (desk : Desk) (marks : List (List Mark)) (a b : ℕ) (e : Evidence) → ClaimHolds c desk marks → AreItsRuns c desk a b → c.evidence ≡ e → Claims c.measure desk marks a b e
claimed c desk marks a b e h (at_a, at_b) is =
    let first_at = h.runs.0 in
    let second_at = h.runs.1 in
    let first : h.first ≡ a = cc in
    let second : h.second ≡ b = cc in
    subst (λ k. Claims c.measure desk marks k b e) first (subst (λ k. Claims c.measure desk marks h.first k e) second (subst (Claims c.measure desk marks h.first h.second) is h.holds))
