-- Kept cells of two runs, and what they win and lose.
use Rattle.std.proofs.Common.{◌≡◌, ℕ, ◌+◌, ◌<◌, Bool, true, false, List, [], ◌∷◌, take, length, get_or, count_by, Some, ap, sym, subst, ◌∙◌, arith}
use Rattle.std.specs.Prelude.{slice_get}
use Rattle.std.proofs.lemmas.List.{length-map}
use Rattle.std.proofs.lemmas.List.Sums.{count_by_more_yes, count_by_more_no}
use Rattle.std.proofs.lemmas.Option.{slice_get-get_or, slice_get_within}
use Rattle.small_lemmas.proofs.Lists.{map_there}
use Rattle.desk_model.specs.Desk.{Desk, topics_under}
use Rattle.desk_model.specs.Extremes.{Ends}
use Rattle.desk_model.specs.Order.{Topic}
use Rattle.desk_model.specs.declared.types.Mark.{Mark}
use Rattle.desk_model.specs.declared.types.MeasureName.{MeasureName}
use Rattle.desk_model.proofs.DeskTopics.{length-marks, length-topics_under}
use Rattle.desk_model.proofs.Nested.{get_or-there}
use Rattle.topic_counts.specs.declared.span.Span.{Span}
use Rattle.measure_core.specs.Laws.{MeetsLaws}
use Rattle.measure_core.specs.Made.{ends_of}
use Rattle.measure_core.specs.declared.cell.Cell.{Cell}
use Rattle.pair_table.specs.Kept.{Kept, TopicNumbers, IsCellOf, numbers_on, topic_at}
use Rattle.pair_table.specs.Sums.{cell_ends}
use Rattle.pair_table.proofs.DeskTopics.{met_at, topic_at_there}
use Rattle.pair_table.proofs.Swapped.{cells_stand}
use Rattle.order_tiers.specs.Tables.{IsTableFor}

module _ {M : Type 0} (name : MeasureName) (cell : List Mark → List ℕ → List ℕ → Cell) (bounds : List Mark → List ℕ → Span) (desk : Desk) (marks : List (List Mark)) (table : Kept M) (h : IsTableFor name cell bounds desk marks table) where
  pub length-kept : length table.topics ≡ length desk.topics
  length-kept = ap length h.stands.topics ∙ length-map (topics_under desk marks) (numbers_on cell bounds (length desk.runs)) ∙ length-topics_under desk marks h.known

  pub kept_runs : table.runs ≡ length desk.runs
  kept_runs = h.stands.sums.runs

  first_of : {X : Type 0} (x y : X) (xs ys : List X) → x ∷ xs ≡ y ∷ ys → x ≡ y
  first_of x y xs ys e = cc

  same_some : {X : Type 0} (x y : X) → Some x ≡ Some y → x ≡ y
  same_some x y e = cc

  -- a kept cell has the ends of the measure's cell
  pub kept_ends : MeetsLaws name cell bounds → (i j t : ℕ) (c : Cell) (kept : TopicNumbers) → i < length desk.runs → j < length desk.runs → t < length desk.topics → slice_get table.topics t ≡ Some kept → IsCellOf table.runs i j c kept →
      (let at = topic_at desk marks t in ends_of c ≡ ends_of (cell at.marks (at.ranking i) (at.ranking j)))
  kept_ends laws i j t c kept in_i in_j in_t there is =
      let n = length desk.runs in
      let at = topic_at desk marks t in
      let in_marks : t < length marks = omega (arith, in_t, length-marks desk marks h.known) in
      let stands : slice_get table.topics t ≡ Some (numbers_on cell bounds n at) = ap (λ ts. slice_get ts t) h.stands.topics ∙ map_there (numbers_on cell bounds n) (topics_under desk marks) t at (topic_at_there desk marks t h.known in_t) in
      let same : kept ≡ numbers_on cell bounds n at = same_some kept (numbers_on cell bounds n at) (sym there ∙ stands) in
      let is_of : IsCellOf n i j c (numbers_on cell bounds n at) = subst (IsCellOf n i j c) same (subst (λ m. IsCellOf m i j c kept) h.stands.sums.runs is) in
      let met = met_at desk marks h.valid h.known j i t (get_or marks t []) in_j in_i (slice_get-get_or marks t [] in_marks) in
      first_of (ends_of c) (ends_of (cell at.marks (at.ranking i) (at.ranking j))) [] [] (cells_stand name cell bounds laws n i j (c ∷ []) (at ∷ []) (met, tt) (is_of, tt))

-- ---- one topic more
module _ (cell : List Mark → List ℕ → List ℕ → Cell) (desk : Desk) (marks : List (List Mark)) (i j t : ℕ) (there : slice_get (topics_under desk marks) t ≡ Some (topic_at desk marks t)) where
  abbrev ends_at : Ends
  ends_at = let at = topic_at desk marks t in ends_of (cell at.marks (at.ranking i) (at.ranking j))

  abbrev all : List Ends
  all = cell_ends cell (topics_under desk marks) i j

  ends_there : slice_get all t ≡ Some ends_at
  ends_there = map_there (λ (topic : Topic). ends_of (cell topic.marks (topic.ranking i) (topic.ranking j))) (topics_under desk marks) t (topic_at desk marks t) there

  counted : (p : Ends → Bool) (e : Ends) → e ≡ ends_at → p (get_or all t e) ≡ p e
  counted p e same = ap p (get_or-there all t ends_at e ends_there ∙ sym same)

  pub one_counted : (p : Ends → Bool) (e : Ends) → e ≡ ends_at → p e ≡ true → count_by p (take (t + 1) all) ≡ count_by p (take t all) + 1
  one_counted p e same yes_ = count_by_more_yes p all t e (slice_get_within all t ends_at ends_there) (counted p e same ∙ yes_)

  pub none_counted : (p : Ends → Bool) (e : Ends) → e ≡ ends_at → p e ≡ false → count_by p (take (t + 1) all) ≡ count_by p (take t all)
  none_counted p e same no_ = count_by_more_no p all t e (slice_get_within all t ends_at ends_there) (counted p e same ∙ no_)
