-- Topics that are won and lost, by ends that enclose the difference of two scores.
use Rattle.std.proofs.Common.{◌≡◌, ℕ, ◌+◌, Bool, true, cond, List, [], ◌∷◌, map, length, count_by, pos, refl, ap, sym, subst, ◌∙◌}
use Rattle.std.specs.Prelude.{int_lt}
use Rattle.std.specs.List.{AllByRecursion}
use Rattle.std.proofs.lemmas.List.Sums.{sum_by-cons}
use Rattle.small_lemmas.proofs.Tests.{positive, negative}
use Rattle.desk_model.specs.Desk.{Desk, IsDesk, AreMarksOf, topics_under}
use Rattle.desk_model.specs.Extremes.{Ends, InEvery}
use Rattle.desk_model.specs.Fraction.{IsAtMost, IsAtLeast}
use Rattle.desk_model.specs.MeasureText.{IsMeasure}
use Rattle.desk_model.specs.Order.{Topic, IsAlwaysAbove}
use Rattle.desk_model.specs.Score.{score}
use Rattle.desk_model.specs.Verdict.{verdict}
use Rattle.desk_model.specs.declared.types.Mark.{Mark}
use Rattle.desk_model.specs.declared.types.MeasureName.{MeasureName}
use Rattle.desk_model.specs.declared.types.Totals.{Totals}
use Rattle.desk_model.proofs.Fractions.{below_from_at_most, below_from_at_least}
use Rattle.desk_model.proofs.Topics.{score-den}
use Rattle.measure_laws.specs.Measures.{unit_of}
use Rattle.measure_laws.proofs.NamedEnds.{low_encloses, high_encloses}
use Rattle.topic_counts.specs.declared.span.Span.{Span}
use Rattle.measure_core.specs.Laws.{MeetsLaws}
use Rattle.measure_core.specs.Made.{HasEnds}
use Rattle.measure_core.specs.declared.cell.Cell.{Cell}
use Rattle.pair_table.specs.Numbers.{HaveEnds, HasCellEnds, AreEndsBy}
use Rattle.pair_table.proofs.DeskTopics.{topics_met}
use Rattle.pair_table.proofs.Orders.{MetBy}
use Rattle.pair_table.proofs.Zips.{zip_then, zip_mapped}
use Rattle.order_tiers.specs.Chains.{IsCertifiedAbove}
use Rattle.order_tiers.specs.Holding.{ScoresAbove, HoldsOfSoMany, CoverHolds}
use Rattle.order_tiers.specs.Order.{compared, IsAbovePair, IsCover, wins_in, losses_in}
use Rattle.order_tiers.specs.declared.cover.Cover.{Cover}
use Rattle.order_tiers.proofs.Always.{certified_above}
use Rattle.order_tiers.proofs.Chaining.{certified_within}
use Rattle.order_tiers.proofs.Said.{pairs_within}

-- a test of each item picks the items of which it is true
picks_counted : {X : Type 0} (p : X → Bool) (xs : List X) → count_by (λ (b : Bool). b) (map p xs) ≡ count_by p xs
picks_counted p [] = refl
picks_counted p (x ∷ xs) = sum_by-cons (λ (b : Bool). cond b 1 0) (p x) (map p xs) ∙ ap (λ n. cond (p x) 1 0 + n) (picks_counted p xs) ∙ sym (sum_by-cons (λ y. cond (p y) 1 0) x xs)

-- unit times the difference of two scores lies between the outer ends in every completion
pub record AreEnclosing (name : MeasureName) (a b : ℕ) (e : Ends) (topic : Topic) : Type 0 where
  pub low : InEvery name topic.marks (topic.ranking a) (topic.ranking b) (IsAtMost e.least_lo (unit_of name))
  pub high : InEvery name topic.marks (topic.ranking a) (topic.ranking b) (IsAtLeast e.most_hi (unit_of name))

-- so do all ends that two rankings have
abbrev pub Enclose : MeasureName → HaveEnds → Type 0
Enclose name Has = (a b : ℕ) (e : Ends) (topic : Topic) → MetBy a b topic → Has topic.marks (topic.ranking a) (topic.ranking b) e → AreEnclosing name a b e topic

pub named_enclose : (name : MeasureName) → IsMeasure name → Enclose name (HasEnds name)
named_enclose name valid a b e topic m h = record {
  low = low_encloses name topic.marks (topic.ranking a) (topic.ranking b) e valid m.first m.second h;
  high = high_encloses name topic.marks (topic.ranking a) (topic.ranking b) e valid m.first m.second h;
}

pub cells_enclose : (name : MeasureName) (cell : List Mark → List ℕ → List ℕ → Cell) (bounds : List Mark → List ℕ → Span) → MeetsLaws name cell bounds → Enclose name (HasCellEnds cell)
cells_enclose name cell bounds laws a b e topic m h =
    let law = laws.encloses topic.marks (topic.ranking a) (topic.ranking b) m in subst (λ (x : Ends). AreEnclosing name a b x topic) (sym h) (record { low = law.least; high = law.most })

module _ (name : MeasureName) (Has : HaveEnds) (enclose : Enclose name Has) (a b : ℕ) (topics : List Topic) (met : AllByRecursion (MetBy a b) topics) (ends : List Ends) (named : AreEndsBy Has topics a b ends) where
  abbrev R : Ends → Topic → Type 0
  R e topic = Has topic.marks (topic.ranking a) (topic.ranking b) e

  won : (e : Ends) (topic : Topic) → MetBy a b topic → R e topic → int_lt (pos 0) e.least_lo ≡ true → ScoresAbove name a b topic
  won e topic m h test truth tail_a tail_b completes =
      let x = score name (length topic.marks) truth (topic.ranking a) tail_a in
      let y = score name (length topic.marks) truth (topic.ranking b) tail_b in
      below_from_at_most e.least_lo (unit_of name) x y (positive e.least_lo test) ((enclose a b e topic m h).low truth tail_a tail_b completes)
      (score-den name (length topic.marks) truth (topic.ranking a) tail_a) (score-den name (length topic.marks) truth (topic.ranking b) tail_b)

  lost : (e : Ends) (topic : Topic) → MetBy a b topic → R e topic → int_lt e.most_hi (pos 0) ≡ true → ScoresAbove name b a topic
  lost e topic m h test truth tail_b tail_a completes =
      let x = score name (length topic.marks) truth (topic.ranking a) tail_a in
      let y = score name (length topic.marks) truth (topic.ranking b) tail_b in
      below_from_at_least e.most_hi (unit_of name) x y (negative e.most_hi test) ((enclose a b e topic m h).high truth tail_a tail_b completes)
      (score-den name (length topic.marks) truth (topic.ranking a) tail_a) (score-den name (length topic.marks) truth (topic.ranking b) tail_b)

  wins_hold : HoldsOfSoMany (ScoresAbove name a b) topics (wins_in ends)
  wins_hold = record {
    picked = map (λ (e : Ends). int_lt (pos 0) e.least_lo) ends;
    each = zip_mapped (λ (e : Ends). int_lt (pos 0) e.least_lo) (λ (pick : Bool) (topic : Topic). pick ≡ true → ScoresAbove name a b topic) ends topics
        (zip_then R (λ (e : Ends) (topic : Topic). int_lt (pos 0) e.least_lo ≡ true → ScoresAbove name a b topic) (MetBy a b) won ends topics met named);
    picks = picks_counted (λ (e : Ends). int_lt (pos 0) e.least_lo) ends;
  }

  losses_hold : HoldsOfSoMany (ScoresAbove name b a) topics (losses_in ends)
  losses_hold = record {
    picked = map (λ (e : Ends). int_lt e.most_hi (pos 0)) ends;
    each = zip_mapped (λ (e : Ends). int_lt e.most_hi (pos 0)) (λ (pick : Bool) (topic : Topic). pick ≡ true → ScoresAbove name b a topic) ends topics
        (zip_then R (λ (e : Ends) (topic : Topic). int_lt e.most_hi (pos 0) ≡ true → ScoresAbove name b a topic) (MetBy a b) lost ends topics met named);
    picks = picks_counted (λ (e : Ends). int_lt e.most_hi (pos 0)) ends;
  }

-- what a covering pair says, where what the verdicts say holds
module _ (name : MeasureName) (desk : Desk) (marks : List (List Mark)) (is_desk : IsDesk desk) (known : AreMarksOf desk marks) (totals : List Totals)
    (holds : (a b : ℕ) → IsAbovePair (length desk.runs) (map verdict totals) a b → IsAlwaysAbove name (topics_under desk marks) a b) (Has : HaveEnds) (enclose : Enclose name Has) where
  abbrev IsUp : ℕ → ℕ → Type 0
  IsUp = IsAbovePair (length desk.runs) (map verdict totals)

  pub cover_holds : (c : Cover) → IsCover (IsCertifiedAbove IsUp) Has (compared desk marks totals) c → CoverHolds name (topics_under desk marks) c
  cover_holds c cover =
      let topics = topics_under desk marks in
      let within = certified_within IsUp (length desk.runs) (pairs_within (length desk.runs) (map verdict totals)) c.first c.second cover.covering.above in
      let met = topics_met desk marks is_desk known c.first c.second within.0 within.1 in
      record {
        above = certified_above name topics IsUp holds c.first c.second cover.covering.above;
        wins = subst (HoldsOfSoMany (ScoresAbove name c.first c.second) topics) (sym cover.wins) (wins_hold name Has enclose c.first c.second topics met cover.ends cover.named);
        losses = subst (HoldsOfSoMany (ScoresAbove name c.second c.first) topics) (sym cover.losses) (losses_hold name Has enclose c.first c.second topics met cover.ends cover.named);
      }
