-- Where a verdict is open, the least cases of both orders differ.
use Rattle.std.proofs.Common.{◌≡◌, ◌≢◌, ℕ, ◌<◌, Bool, List, [], ◌∷◌, map, length, cond, nat_eq, refl, ap, sym, subst, arith, ℤ}
use Rattle.std.specs.List.{AllZip}
use Rattle.std.proofs.lemmas.Bool.{eq-eqb, ne_eqb}
use Rattle.desk_model.specs.Completion.{Completion}
use Rattle.desk_model.specs.Extremes.{Ends}
use Rattle.desk_model.specs.Fraction.{Fraction, IsAtMost, IsAtLeast, total}
use Rattle.desk_model.specs.MeasureText.{IsMeasure}
use Rattle.desk_model.specs.Order.{Topic, IsCompletion, run_score, run_scores}
use Rattle.desk_model.specs.Score.{score}
use Rattle.desk_model.specs.Verdict.{verdict, whole_sum, totals_of}
use Rattle.desk_model.specs.declared.types.Mark.{Mark}
use Rattle.desk_model.specs.declared.types.MeasureName.{MeasureName}
use Rattle.desk_model.specs.declared.types.Verdict.TheVariants.{Open}
use Rattle.desk_model.proofs.Topics.{Adds, at_most_adds, at_least_adds}
use Rattle.measure_laws.specs.Cases.{least_truth, HasLeastTails}
use Rattle.measure_laws.specs.Measures.{unit_of}
use Rattle.measure_laws.proofs.Biased.{least_tails}
use Rattle.measure_laws.proofs.CaseEnds.{least_case_upper, most_case_lower}
use Rattle.measure_laws.proofs.LeastCases.{least_truth-Completes}
use Rattle.measure_laws.proofs.NamedEnds.{upper_holds, lower_holds}
use Rattle.measure_laws.proofs.Weights.{unit-size}
use Rattle.measure_core.specs.Laws.{AreMet, MeetsLaws}
use Rattle.measure_core.specs.Made.{ends_of, HasEnds}
use Rattle.measure_core.specs.declared.cell.Cell.{Cell}
use Rattle.topic_counts.specs.declared.span.Span.{Span}
use Rattle.pair_table.specs.Orders.{IsLeastCaseOf, AreUndecided}
use Rattle.order_certificate.proofs.Holds.{means_differ}
use Rattle.pair_table.proofs.Verdicts.{open_says}

-- ---- the inner ends hold in the least cases of both orders, whatever tails go with them
pub record CasesHold (name : MeasureName) (marks : List Mark) (a b : List ℕ) (e : Ends) : Type 0 where
  pub upper : (tail_a tail_b : List Bool) → HasLeastTails name tail_a tail_b →
      IsAtLeast e.least_hi (unit_of name) (score name (length marks) (least_truth name marks a b) a tail_a) (score name (length marks) (least_truth name marks a b) b tail_b)
  pub lower : (tail_a tail_b : List Bool) → HasLeastTails name tail_b tail_a →
      IsAtMost e.most_lo (unit_of name) (score name (length marks) (least_truth name marks b a) a tail_a) (score name (length marks) (least_truth name marks b a) b tail_b)

-- they do by the ends that a name has
pub named_cases : (name : MeasureName) (marks : List Mark) (a b : List ℕ) (e : Ends) → IsMeasure name → AreMet marks a b → HasEnds name marks a b e → CasesHold name marks a b e
named_cases name marks a b e valid met h = record {
  upper = λ tail_a tail_b tails.
      upper_holds name (length marks) (least_truth name marks a b) a b e.least_hi tail_a tail_b valid met.first met.second (least_case_upper name marks a b e valid met.first met.second h) tails;
  lower = λ tail_a tail_b tails.
      lower_holds name (length marks) (least_truth name marks b a) a b e.most_lo tail_a tail_b valid met.first met.second (most_case_lower name marks a b e valid met.first met.second h) tails;
}

-- and by the laws of a measure
pub lawful_cases : (name : MeasureName) (cell : List Mark → List ℕ → List ℕ → Cell) (bounds : List Mark → List ℕ → Span) (marks : List Mark) (a b : List ℕ) → MeetsLaws name cell bounds → AreMet marks a b →
    CasesHold name marks a b (ends_of (cell marks a b))
lawful_cases name cell bounds marks a b laws met =
    let least = laws.least_case marks a b met in
    let most = laws.most_case marks a b met in
    record {
      upper = λ tail_a tail_b tails. (least.lies tail_a tail_b tails).high;
      lower = λ tail_a tail_b tails. (most.lies tail_a tail_b tails).low;
    }

-- ---- one case for each topic
record Made (name : MeasureName) (fact : ℤ → Fraction → Fraction → Type 0) (a b first second : ℕ) (topics : List Topic) (z : ℤ) : Type 0 where
  cs : List Completion
  completes : IsCompletion topics cs
  are : AllZip (IsLeastCaseOf name first second) cs topics
  sums : fact z (total (run_scores name a topics cs)) (total (run_scores name b topics cs))

module _ (name : MeasureName) (fact : ℤ → Fraction → Fraction → Type 0) (adds : Adds fact) (a b : ℕ) (apart : a ≢ b) (first second : ℕ) (tail_a tail_b : List Bool)
    (tails : (c : Completion) → c.tail a ≡ tail_a → c.tail b ≡ tail_b → HasLeastTails name (c.tail first) (c.tail second)) where
  abbrev truth_on : Topic → ℕ → Bool
  truth_on t = least_truth name t.marks (t.ranking first) (t.ranking second)

  make : (zs : List ℤ) (topics : List Topic) →
      AllZip (λ z t. fact z (score name (length t.marks) (truth_on t) (t.ranking a) tail_a) (score name (length t.marks) (truth_on t) (t.ranking b) tail_b)) zs topics → Made name fact a b first second topics (whole_sum zs)
  make [] [] h = record { cs = []; completes = tt; are = tt; sums = adds.none }
  make [] (t ∷ ts) h = absurd h
  make (z ∷ zs) [] h = absurd h
  make (z ∷ zs) (t ∷ ts) h =
      let later = make zs ts h.1 in
      let c : Completion = record { truth = truth_on t; tail = λ r. cond (nat_eq r a) tail_a tail_b } in
      let at_a : c.tail a ≡ tail_a = ap (λ v. cond v tail_a tail_b) (eq-eqb a a refl) in
      let at_b : c.tail b ≡ tail_b = ap (λ v. cond v tail_a tail_b) (ne_eqb b a (λ e. apart (sym e))) in
      let n = length t.marks in
      let score_a : run_score name a t c ≡ score name n (truth_on t) (t.ranking a) tail_a = ap (score name n (truth_on t) (t.ranking a)) at_a in
      let score_b : run_score name b t c ≡ score name n (truth_on t) (t.ranking b) tail_b = ap (score name n (truth_on t) (t.ranking b)) at_b in
      let one : fact z (run_score name a t c) (run_score name b t c) = rw (score_a, score_b) h.0 in
      record {
        cs = c ∷ later.cs;
        completes = (least_truth-Completes name t.marks (t.ranking first) (t.ranking second), later.completes);
        are = (record { truth = λ doc. refl; tails = tails c at_a at_b }, later.are);
        sums = adds.step z (whole_sum zs) (run_score name a t c) (run_score name b t c) (total (run_scores name a ts later.cs)) (total (run_scores name b ts later.cs)) one later.sums;
      }

-- ---- an open verdict
module _ (name : MeasureName) (valid : IsMeasure name) (a b : ℕ) where
  abbrev pub CasesHoldBy : Ends → Topic → Type 0
  CasesHoldBy e t = CasesHold name t.marks (t.ranking a) (t.ranking b) e

  module _ (tail_a tail_b : List Bool) where
    uppers : HasLeastTails name tail_a tail_b → (ends : List Ends) (topics : List Topic) → AllZip CasesHoldBy ends topics →
        AllZip (λ z (t : Topic). IsAtLeast z (unit_of name) (score name (length t.marks) (least_truth name t.marks (t.ranking a) (t.ranking b)) (t.ranking a) tail_a)
        (score name (length t.marks) (least_truth name t.marks (t.ranking a) (t.ranking b)) (t.ranking b) tail_b)) (map (λ (e : Ends). e.least_hi) ends) topics
    uppers tails [] [] h = tt
    uppers tails [] (t ∷ ts) h = absurd h
    uppers tails (e ∷ es) [] h = absurd h
    uppers tails (e ∷ es) (t ∷ ts) h = (h.0.upper tail_a tail_b tails, uppers tails es ts h.1)

    lowers : HasLeastTails name tail_b tail_a → (ends : List Ends) (topics : List Topic) → AllZip CasesHoldBy ends topics →
        AllZip (λ z (t : Topic). IsAtMost z (unit_of name) (score name (length t.marks) (least_truth name t.marks (t.ranking b) (t.ranking a)) (t.ranking a) tail_a)
        (score name (length t.marks) (least_truth name t.marks (t.ranking b) (t.ranking a)) (t.ranking b) tail_b)) (map (λ (e : Ends). e.most_lo) ends) topics
    lowers tails [] [] h = tt
    lowers tails [] (t ∷ ts) h = absurd h
    lowers tails (e ∷ es) [] h = absurd h
    lowers tails (e ∷ es) (t ∷ ts) h = (h.0.lower tail_a tail_b tails, lowers tails es ts h.1)

  -- an open pair has a topic
  filled : (ends : List Ends) (topics : List Topic) → AllZip CasesHoldBy ends topics → verdict (totals_of ends) ≡ Open → 0 < length topics
  filled [] [] h is_open = absurd (cc)
  filled [] (t ∷ ts) h is_open = absurd h
  filled (e ∷ es) [] h is_open = absurd h
  filled (e ∷ es) (t ∷ ts) h is_open = omega arith

  pub open_undecided : (ends : List Ends) (topics : List Topic) → AllZip CasesHoldBy ends topics → a ≢ b → verdict (totals_of ends) ≡ Open → AreUndecided name topics a b
  open_undecided ends topics h apart is_open =
      let t = least_tails name in
      let unit = unit-size name valid in
      let low = make name (λ z. IsAtLeast z (unit_of name)) (at_least_adds (unit_of name)) a b apart a b t.0 t.1
      (λ c ea eb. subst (λ v. HasLeastTails name v (c.tail b)) (sym ea) (subst (HasLeastTails name t.0) (sym eb) t.2))
      (map (λ (e : Ends). e.least_hi) ends) topics (uppers t.0 t.1 t.2 ends topics h) in
      let high = make name (λ z. IsAtMost z (unit_of name)) (at_most_adds (unit_of name)) a b apart b a t.1 t.0
      (λ c ea eb. subst (λ v. HasLeastTails name v (c.tail a)) (sym eb) (subst (HasLeastTails name t.0) (sym ea) t.2))
      (map (λ (e : Ends). e.most_lo) ends) topics (lowers t.1 t.0 t.2 ends topics h) in
      record {
        low = low.cs;
        high = high.cs;
        low_completes = low.completes;
        high_completes = high.completes;
        low_is = low.are;
        high_is = high.are;
        differ = means_differ name topics a b (unit_of name) (omega (arith, unit)) (filled ends topics h is_open) low.cs high.cs low.completes high.completes
            (totals_of ends).least_hi (totals_of ends).most_lo low.sums high.sums (open_says (totals_of ends) is_open);
      }
