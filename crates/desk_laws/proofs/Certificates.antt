-- Certificates as evidence, and what they claim.
use Rattle.std.proofs.Common.{◌≡◌, ℕ, true, [], ◌∷◌, List, refl, arith, ap, sym, subst, Some, ℤ, pos, neg_ℤ, ◌≤ℤ◌}
use Rattle.std.specs.Prelude.{codes}
use Rattle.std.proofs.lemmas.Int.{ints}
use Rattle.std.proofs.lemmas.List.Elements.{All-from_recursion}
use Rattle.desk_model.specs.Extremes.{Ends, AreExtremes}
use Rattle.desk_model.specs.Desk.{ranking_of}
use Rattle.desk_model.specs.Mark.{mark_at}
use Rattle.desk_model.specs.Name.{number_of}
use Rattle.desk_model.specs.Verdict.{differs}
use Rattle.desk_model.specs.declared.types.Mark.{Mark}
use Rattle.desk_model.specs.declared.types.Mark.TheVariants.{Unjudged}
use Rattle.desk_model.specs.declared.types.MeasureName.TheVariants.{Precision}
use Rattle.measure_laws.specs.Ends.{HasEnds}
use Rattle.measure_laws.proofs.Unique.{extremes_unique}
use Rattle.order_certificate.specs.Claim.{NamedTopic}
use Rattle.order_certificate.specs.Evidence.{IsEvidence, AreUnjudged, IsLowSum, IsHighSum, Shows}
use Rattle.order_certificate.proofs.Determined.{one_low_sum, one_high_sum}
use Rattle.order_certificate.specs.declared.certificate.Certificate.{Certificate}
use Rattle.order_certificate.specs.declared.certificate.Evidence.TheVariants.{Above, Open}
use Rattle.order_certificate.specs.declared.certificate.TopicWitness.{TopicWitness}
use Rattle.desk_laws.specs.Example.{topic_401, two_runs, marks_401, a, b, ends}
use Rattle.desk_laws.proofs.Extremes.{extremes_of_the_example}

-- A above B under P_2, where A's d1 is relevant, B's d2 is not, and both have d3: the least difference is 1/2
abbrev above_by : List ℕ → ℤ → Certificate
above_by topic low = record {
  measure = Precision 2;
  level = 1;
  first = codes "A";
  second = codes "B";
  evidence = Above (record { topic = topic; low = low; high = pos 0 } ∷ []);
}

pub evidence_for_above : IsEvidence (above_by (codes "401") (pos 1)) two_runs (marks_401 ∷ [])
evidence_for_above = record {
  first = 0;
  second = 1;
  runs = (refl, refl);
  two_runs = λ e. omega arith;
  topics = refl;
  shows = (((ends (pos 1) (pos 1) (pos 1) (pos 1), extremes_of_the_example, omega (arith, ints)), tt), omega (arith, ints));
}

-- a number above the least difference is no evidence
pub number_too_great : IsEvidence (above_by (codes "401") (pos 2)) two_runs (marks_401 ∷ []) → ⊥
number_too_great h = by h.first h.second h.runs.0 h.runs.1 h.shows.0.0
  where
    by : (first second : ℕ) → Some 0 ≡ Some first → Some 1 ≡ Some second → (e : Ends) × HasEnds (Precision 2) marks_401 (ranking_of two_runs first 0) (ranking_of two_runs second 0) e × (pos 2 ≤ℤ e.least_lo) → ⊥
    by first second f s shown =
        let first_is : 0 ≡ first = cc in
        let second_is : 1 ≡ second = cc in
        let has : AreExtremes (Precision 2) 2 marks_401 a b shown.0 =
        subst (λ x. AreExtremes (Precision 2) 2 marks_401 (ranking_of two_runs x 0) b shown.0) (sym first_is) (subst (λ y. AreExtremes (Precision 2) 2 marks_401 (ranking_of two_runs first 0) (ranking_of two_runs y 0) shown.0) (sym second_is) shown.1) in
        let one : shown.0 ≡ ends (pos 1) (pos 1) (pos 1) (pos 1) = extremes_unique (Precision 2) 2 marks_401 a b shown.0 (ends (pos 1) (pos 1) (pos 1) (pos 1)) has extremes_of_the_example in
        let low : shown.0.least_lo ≡ pos 1 = ap (λ (e : Ends). e.least_lo) one in
        let le : pos 2 ≤ℤ pos 1 = subst (λ z. pos 2 ≤ℤ z) low shown.2 in
        absurd (omega (arith, ints))

abbrev third_byte : List (List ℕ) → ℕ
third_byte ((x ∷ y ∷ z ∷ rest) ∷ names) = z
third_byte _ = 0

-- another topic's name is none
pub another_topic : IsEvidence (above_by (codes "402") (pos 1)) two_runs (marks_401 ∷ []) → ⊥
another_topic h = apart 50 49 refl refl (ap third_byte h.topics)
  where
    apart : (x y : ℕ) → x ≡ 50 → y ≡ 49 → x ≡ y → ⊥
    apart x y e f g = omega arith

-- ---- A and B open under P_1, where no document is judged: with d2 alone relevant B is above, with d1 alone A is
abbrev no_judgement : List Mark
no_judgement = Unjudged ∷ Unjudged ∷ Unjudged ∷ []

abbrev open_by : List (List ℕ) → List (List ℕ) → Certificate
open_by low high = record {
  measure = Precision 1;
  level = 1;
  first = codes "A";
  second = codes "B";
  evidence = Open (record { topic = codes "401"; low = low; high = high } ∷ []);
}

abbrev seen : NamedTopic
seen = record { docs = topic_401.docs; topic = record { marks = no_judgement; ranking = λ run. ranking_of two_runs run 0 } }

abbrev IsUnjudged : List ℕ → Type 0
IsUnjudged name = (doc : ℕ) × (number_of seen.docs name ≡ Some doc) × (mark_at seen.topic.marks doc ≡ Unjudged)

d1_is_unjudged : AreUnjudged seen (codes "d1" ∷ [])
d1_is_unjudged = All-from_recursion IsUnjudged (codes "d1" ∷ []) ((0, refl, refl), tt)

d2_is_unjudged : AreUnjudged seen (codes "d2" ∷ [])
d2_is_unjudged = All-from_recursion IsUnjudged (codes "d2" ∷ []) ((1, refl, refl), tt)

pub evidence_for_open : IsEvidence (open_by (codes "d2" ∷ []) (codes "d1" ∷ [])) two_runs (no_judgement ∷ [])
evidence_for_open = record {
  first = 0;
  second = 1;
  runs = (refl, refl);
  two_runs = λ e. omega arith;
  topics = refl;
  shows = (
    ((d2_is_unjudged, d1_is_unjudged), tt),
    neg_ℤ (pos 1),
    pos 1,
    (neg_ℤ (pos 1) ∷ [], (record { so = omega (arith, ints); others = λ w h. omega (arith, ints) }, tt), refl),
    (pos 1 ∷ [], (record { so = omega (arith, ints); others = λ w h. omega (arith, ints) }, tt), refl),
    refl,
  );
}

-- one completion twice is none: both sums are 0
abbrev nothing_listed : List TopicWitness
nothing_listed = record { topic = codes "401"; low = []; high = [] } ∷ []

zero_low : IsLowSum (Precision 1) 0 1 nothing_listed (seen ∷ []) (pos 0)
zero_low = (pos 0 ∷ [], (record { so = omega (arith, ints); others = λ w h. omega (arith, ints) }, tt), refl)

zero_high : IsHighSum (Precision 1) 0 1 nothing_listed (seen ∷ []) (pos 0)
zero_high = (pos 0 ∷ [], (record { so = omega (arith, ints); others = λ w h. omega (arith, ints) }, tt), refl)

abbrev ShowsNothing : ℕ → ℕ → Type 0
ShowsNothing first second = Shows (Precision 1) (seen ∷ []) first second (Open nothing_listed)

pub one_completion_twice : IsEvidence (open_by [] []) two_runs (no_judgement ∷ []) → ⊥
one_completion_twice h = by h.first h.second h.runs.0 h.runs.1 h.shows
  where
    by : (first second : ℕ) → Some 0 ≡ Some first → Some 1 ≡ Some second → ShowsNothing first second → ⊥
    by first second f s shown =
        let first_is : first ≡ 0 = cc in
        let second_is : second ≡ 1 = cc in
        let at : ShowsNothing 0 1 = subst (λ x. ShowsNothing x 1) first_is (subst (ShowsNothing first) second_is shown) in
        let low : at.1 ≡ pos 0 = one_low_sum (Precision 1) 0 1 nothing_listed (seen ∷ []) at.1 (pos 0) at.3 zero_low in
        let high : at.2 ≡ pos 0 = one_high_sum (Precision 1) 0 1 nothing_listed (seen ∷ []) at.2 (pos 0) at.4 zero_high in
        let none : differs (pos 0) (pos 0) ≡ true = subst (λ z. differs z (pos 0) ≡ true) low (subst (λ z. differs at.1 z ≡ true) high at.5) in
        absurd (cc)
