-- The sums that a table keeps, by the numbers of its topics.
use Rattle.std.proofs.Common.{◌≡◌, ◌⊎◌, inl, inr, ℕ, zero, suc, ◌+◌, ◌≤◌, List, [], ◌∷◌, ◌++◌, map, length, take, Some, ℤ, pos, ◌+ℤ◌, ◌-ℤ◌, refl, ap, sym, ◌∙◌, subst, arith}
use Rattle.std.specs.Prelude.{slice_get, slice_set, All}
use Rattle.std.specs.List.{AllByRecursion, AllZip}
use Rattle.std.proofs.lemmas.Int.{ints}
use Rattle.std.proofs.lemmas.List.{length-map, map-append, map-set}
use Rattle.std.proofs.lemmas.Simd.{map-map}
use Rattle.std.proofs.lemmas.List.Elements.{All-from_recursion, recursion_from_All}
use Rattle.small_lemmas.proofs.Lists.{map_there}
use Rattle.desk_model.proofs.Nested.{take-there}
use Rattle.desk_model.specs.Desk.{Desk, AreMarksOf, topics_under}
use Rattle.desk_model.proofs.DeskTopics.{length-topics_under}
use Rattle.desk_model.specs.Limits.{RUN_LIMIT, TOPIC_LIMIT}
use Rattle.desk_model.specs.Order.{Topic}
use Rattle.desk_model.specs.Pairs.{pairs_of}
use Rattle.desk_model.specs.Verdict.{totals_of}
use Rattle.desk_model.specs.declared.types.Mark.{Mark}
use Rattle.desk_model.specs.declared.types.Totals.{Totals}
use Rattle.topic_counts.specs.Ends.{IsShort}
use Rattle.topic_counts.specs.declared.span.Span.{Span}
use Rattle.topic_counts.proofs.Spans.{span_same}
use Rattle.measure_laws.specs.Shares.{IsModest}
use Rattle.measure_core.specs.Laws.{CellIsModest, SpanIsModest}
use Rattle.measure_core.specs.declared.cell.Cell.{Cell}
use Rattle.pair_table.specs.Kept.{TopicNumbers, AllSums, kept_sums, sums_with, sums_without, SumsCanGrow, numbers_on, all_numbers, AreTopicNumbers, IsCellOf, with_cell, without_cell, with_span, without_span, no_totals, no_bounds, kept_totals, kept_bounds, each_with, sums_by, AreWithin, SpanIsWithin, IsAtMostInSize, AreModestTotals, TotalsCanGrow, BoundsCanGrow, AreSumsFor}
use Rattle.pair_table.specs.Sums.{all_pair_sums, all_run_sums, pair_sums, run_sums, run_numbers}
use Rattle.pair_table.proofs.Adding.{totals_same, within_step, within_near}
use Rattle.measure_core.proofs.RunPairs.{length-run_numbers}
use Rattle.pair_table.proofs.Summing.{all_each, sums_more, length-sums, sums_renewed, sums_made, sums_sized}
use Rattle.pair_table.proofs.Zips.{all_then}

commutes : (z a b : ℤ) → (z +ℤ a) +ℤ b ≡ (z +ℤ b) +ℤ a
commutes z a b = omega (arith, ints)

cancels : (z a : ℤ) → (z +ℤ a) -ℤ a ≡ z
cancels z a = omega (arith, ints)

exchanges : (z a b : ℤ) → (z +ℤ a) -ℤ b ≡ (z -ℤ b) +ℤ a
exchanges z a b = omega (arith, ints)

other_way : (z a : ℤ) → z +ℤ a ≡ a +ℤ z
other_way z a = omega (arith, ints)

less_within : (n : ℕ) (z w : ℤ) → IsAtMostInSize n z → IsModest w → IsAtMostInSize (n + 1) (z -ℤ w)
less_within n z w h k = omega (arith, ints)

wider : (n m : ℕ) (z : ℤ) → n ≤ m → IsAtMostInSize n z → IsAtMostInSize m z
wider n m z few h = omega (arith, ints)

none_within : IsAtMostInSize 0 (pos 0)
none_within = omega (arith, ints)

-- ---- the four sums of a pair
cells_commute : (t : Totals) (a b : Cell) → with_cell (with_cell t a) b ≡ with_cell (with_cell t b) a
cells_commute t a b =
    totals_same _ _ _ _ _ _ _ _ (commutes t.least_lo a.least.lo b.least.lo) (commutes t.least_hi a.least.hi b.least.hi) (commutes t.most_lo a.most.lo b.most.lo) (commutes t.most_hi a.most.hi b.most.hi)

cells_cancel : (t : Totals) (a : Cell) → without_cell (with_cell t a) a ≡ t
cells_cancel t a =
    totals_same _ _ _ _ t.least_lo t.least_hi t.most_lo t.most_hi (cancels t.least_lo a.least.lo) (cancels t.least_hi a.least.hi) (cancels t.most_lo a.most.lo) (cancels t.most_hi a.most.hi)

cells_exchange : (t : Totals) (a b : Cell) → without_cell (with_cell t a) b ≡ with_cell (without_cell t b) a
cells_exchange t a b =
    totals_same _ _ _ _ _ _ _ _ (exchanges t.least_lo a.least.lo b.least.lo) (exchanges t.least_hi a.least.hi b.least.hi) (exchanges t.most_lo a.most.lo b.most.lo) (exchanges t.most_hi a.most.hi b.most.hi)

cell_within : (n : ℕ) (t : Totals) (c : Cell) → AreWithin n t → CellIsModest c → AreWithin (n + 1) (with_cell t c)
cell_within n t c h k =
    (within_step n t.least_lo c.least.lo h.0 k.least.0, within_step n t.least_hi c.least.hi h.1 k.least.1, within_step n t.most_lo c.most.lo h.2 k.most.0, within_step n t.most_hi c.most.hi h.3 k.most.1)

less_cell_within : (n : ℕ) (t : Totals) (c : Cell) → AreWithin n t → CellIsModest c → AreWithin (n + 1) (without_cell t c)
less_cell_within n t c h k =
    (less_within n t.least_lo c.least.lo h.0 k.least.0, less_within n t.least_hi c.least.hi h.1 k.least.1, less_within n t.most_lo c.most.lo h.2 k.most.0, less_within n t.most_hi c.most.hi h.3 k.most.1)

totals_wider : (n m : ℕ) (t : Totals) → n ≤ m → AreWithin n t → AreWithin m t
totals_wider n m t few h = (wider n m t.least_lo few h.0, wider n m t.least_hi few h.1, wider n m t.most_lo few h.2, wider n m t.most_hi few h.3)

totals_near : (n : ℕ) (t : Totals) → n ≤ 10000 → AreWithin n t → AreModestTotals t
totals_near n t few h = (within_near n t.least_lo few h.0, within_near n t.least_hi few h.1, within_near n t.most_lo few h.2, within_near n t.most_hi few h.3)

-- ---- the two sums of a run
spans_commute : (s a b : Span) → with_span (with_span s a) b ≡ with_span (with_span s b) a
spans_commute s a b = span_same _ _ _ _ (commutes s.lo a.lo b.lo) (commutes s.hi a.hi b.hi)

spans_cancel : (s a : Span) → without_span (with_span s a) a ≡ s
spans_cancel s a = span_same _ s.lo _ s.hi (cancels s.lo a.lo) (cancels s.hi a.hi)

spans_exchange : (s a b : Span) → without_span (with_span s a) b ≡ with_span (without_span s b) a
spans_exchange s a b = span_same _ _ _ _ (exchanges s.lo a.lo b.lo) (exchanges s.hi a.hi b.hi)

span_within : (n : ℕ) (s t : Span) → SpanIsWithin n s → SpanIsModest t → SpanIsWithin (n + 1) (with_span s t)
span_within n s t h k = (within_step n s.lo t.lo h.0 k.0, within_step n s.hi t.hi h.1 k.1)

less_span_within : (n : ℕ) (s t : Span) → SpanIsWithin n s → SpanIsModest t → SpanIsWithin (n + 1) (without_span s t)
less_span_within n s t h k = (less_within n s.lo t.lo h.0 k.0, less_within n s.hi t.hi h.1 k.1)

spans_wider : (n m : ℕ) (s : Span) → n ≤ m → SpanIsWithin n s → SpanIsWithin m s
spans_wider n m s few h = (wider n m s.lo few h.0, wider n m s.hi few h.1)

spans_near : (n : ℕ) (s : Span) → n ≤ 10000 → SpanIsWithin n s → IsShort s
spans_near n s few h = (within_near n s.lo few h.0, within_near n s.hi few h.1)

-- ---- both sums
pub same_sums : (totals us : List Totals) (bounds bs : List Span) → totals ≡ us → bounds ≡ bs → ◌≡◌ {A = AllSums} (record { totals = totals; bounds = bounds }) (record { totals = us; bounds = bs })
same_sums totals us bounds bs e f = ap (λ l. record { totals = l; bounds = bounds }) e ∙ ap (λ l. record { totals = us; bounds = l }) f

-- ---- what a list of kept numbers has
abbrev cells_of : List TopicNumbers → List (List Cell)
cells_of topics = map (λ (t : TopicNumbers). t.cells) topics

abbrev spans_of : List TopicNumbers → List (List Span)
spans_of topics = map (λ (t : TopicNumbers). t.bounds) topics

each_of : {A B : Type 0} (f : A → B) (P : A → Type 0) (Q : B → Type 0) → ((x : A) → P x → Q (f x)) → (xs : List A) → AllByRecursion P xs → AllByRecursion Q (map f xs)
each_of f P Q step [] h = tt
each_of f P Q step (x ∷ xs) h = (step x h.0, each_of f P Q step xs h.1)

same_for_all : {A B : Type 0} (y : B) (P : B → Type 0) → P y → (xs : List A) → AllByRecursion P (map (λ (_ : A). y) xs)
same_for_all y P h [] = tt
same_for_all y P h (x ∷ xs) = (h, same_for_all y P h xs)

module _ (runs : ℕ) (topics : List TopicNumbers) (numbers : All (AreTopicNumbers runs) topics) where
  each : AllByRecursion (AreTopicNumbers runs) topics
  each = recursion_from_All (AreTopicNumbers runs) topics numbers

  pair_counts : AllByRecursion (λ c. length c ≡ length (no_totals runs)) (cells_of topics)
  pair_counts = each_of _ (AreTopicNumbers runs) _ (λ t h. h.each_pair ∙ sym (length-map (pairs_of (run_numbers runs)) (λ _. totals_of []))) topics each

  run_counts : AllByRecursion (λ s. length s ≡ length (no_bounds runs)) (spans_of topics)
  run_counts = each_of _ (AreTopicNumbers runs) _ (λ t h. h.each_run ∙ sym (length-run_numbers runs) ∙ sym (length-map (run_numbers runs) (λ _. record { lo = pos 0; hi = pos 0 }))) topics each

  pub length-totals : length (kept_totals runs topics) ≡ length (pairs_of (run_numbers runs))
  length-totals = length-sums with_cell without_cell cells_commute cells_cancel cells_exchange (no_totals runs) (cells_of topics) pair_counts ∙ length-map (pairs_of (run_numbers runs)) (λ _. totals_of [])

  pub length-bounds : length (kept_bounds runs topics) ≡ runs
  length-bounds = length-sums with_span without_span spans_commute spans_cancel spans_exchange (no_bounds runs) (spans_of topics) run_counts
      ∙ length-map (run_numbers runs) (λ _. record { lo = pos 0; hi = pos 0 }) ∙ length-run_numbers runs

  within : AllByRecursion (AreWithin (length topics)) (kept_totals runs topics)
  within = subst (λ n. AllByRecursion (AreWithin n) (kept_totals runs topics)) (length-map topics (λ (t : TopicNumbers). t.cells))
      (sums_sized with_cell AreWithin CellIsModest (λ n t c h k. subst (λ m. AreWithin m (with_cell t c)) (one_more n) (cell_within n t c h k)) (no_totals runs) (cells_of topics)
      (same_for_all (totals_of []) (AreWithin 0) (none_within, none_within, none_within, none_within) (pairs_of (run_numbers runs)))
      (each_of _ (AreTopicNumbers runs) _ (λ t h. recursion_from_All CellIsModest t.cells h.cells) topics each))
    where
      one_more : (n : ℕ) → n + 1 ≡ suc n
      one_more n = omega arith

  spans_within : AllByRecursion (SpanIsWithin (length topics)) (kept_bounds runs topics)
  spans_within = subst (λ n. AllByRecursion (SpanIsWithin n) (kept_bounds runs topics)) (length-map topics (λ (t : TopicNumbers). t.bounds))
      (sums_sized with_span SpanIsWithin SpanIsModest (λ n s t h k. subst (λ m. SpanIsWithin m (with_span s t)) (one_more n) (span_within n s t h k)) (no_bounds runs) (spans_of topics)
      (same_for_all (record { lo = pos 0; hi = pos 0 }) (SpanIsWithin 0) (none_within, none_within) (run_numbers runs))
      (each_of _ (AreTopicNumbers runs) _ (λ t h. recursion_from_All SpanIsModest t.bounds h.bounds) topics each))
    where
      one_more : (n : ℕ) → n + 1 ≡ suc n
      one_more n = omega arith

  module _ (few : length topics ≤ TOPIC_LIMIT) where
    pub near_totals : All AreModestTotals (kept_totals runs topics)
    near_totals = All-from_recursion AreModestTotals (kept_totals runs topics) (all_then (AreWithin (length topics)) AreModestTotals (λ t h. totals_near (length topics) t few h) (kept_totals runs topics) within)

    pub near_bounds : All IsShort (kept_bounds runs topics)
    near_bounds = All-from_recursion IsShort (kept_bounds runs topics) (all_then (SpanIsWithin (length topics)) IsShort (λ s h. spans_near (length topics) s few h) (kept_bounds runs topics) spans_within)

    totals_can_grow : TotalsCanGrow (kept_totals runs topics)
    totals_can_grow = All-from_recursion _ (kept_totals runs topics)
        (all_then (AreWithin (length topics)) (AreWithin (TOPIC_LIMIT + 1)) (λ t h. totals_wider (length topics) (TOPIC_LIMIT + 1) t (omega (arith, few)) h) (kept_totals runs topics) within)

    bounds_can_grow : BoundsCanGrow (kept_bounds runs topics)
    bounds_can_grow = All-from_recursion _ (kept_bounds runs topics)
        (all_then (SpanIsWithin (length topics)) (SpanIsWithin (TOPIC_LIMIT + 1)) (λ s h. spans_wider (length topics) (TOPIC_LIMIT + 1) s (omega (arith, few)) h) (kept_bounds runs topics) spans_within)

    -- a topic's numbers are taken off
    less_totals_can_grow : (t : TopicNumbers) → AreTopicNumbers runs t → TotalsCanGrow (each_with without_cell (kept_totals runs topics) t.cells)
    less_totals_can_grow t h = All-from_recursion _ (each_with without_cell (kept_totals runs topics) t.cells)
        (all_each without_cell (AreWithin (length topics)) (AreWithin (TOPIC_LIMIT + 1)) CellIsModest (λ s c p q. totals_wider (length topics + 1) (TOPIC_LIMIT + 1) _ (omega (arith, few)) (less_cell_within (length topics) s c p q))
        (kept_totals runs topics) t.cells within (recursion_from_All CellIsModest t.cells h.cells))

    less_bounds_can_grow : (t : TopicNumbers) → AreTopicNumbers runs t → BoundsCanGrow (each_with without_span (kept_bounds runs topics) t.bounds)
    less_bounds_can_grow t h = All-from_recursion _ (each_with without_span (kept_bounds runs topics) t.bounds)
        (all_each without_span (SpanIsWithin (length topics)) (SpanIsWithin (TOPIC_LIMIT + 1)) SpanIsModest (λ s c p q. spans_wider (length topics + 1) (TOPIC_LIMIT + 1) _ (omega (arith, few)) (less_span_within (length topics) s c p q))
        (kept_bounds runs topics) t.bounds spans_within (recursion_from_All SpanIsModest t.bounds h.bounds))

    pub can_grow : SumsCanGrow (kept_sums runs topics)
    can_grow = (totals_can_grow, bounds_can_grow)

    -- a topic's numbers are taken off
    pub less_can_grow : (t : TopicNumbers) → AreTopicNumbers runs t → SumsCanGrow (sums_without (kept_sums runs topics) t)
    less_can_grow t h = (less_totals_can_grow t h, less_bounds_can_grow t h)

  -- one topic with other numbers
  totals_renewed : (k : ℕ) (old new : TopicNumbers) → slice_get topics k ≡ Some old → kept_totals runs (slice_set topics k new) ≡ each_with with_cell (each_with without_cell (kept_totals runs topics) old.cells) new.cells
  totals_renewed k old new there =
      ap (sums_by with_cell (no_totals runs)) (map-set (λ (t : TopicNumbers). t.cells) topics k new)
      ∙ sums_renewed with_cell without_cell cells_commute cells_cancel cells_exchange (no_totals runs) (cells_of topics) k old.cells new.cells pair_counts (map_there (λ (t : TopicNumbers). t.cells) topics k old there)

  bounds_renewed : (k : ℕ) (old new : TopicNumbers) → slice_get topics k ≡ Some old → kept_bounds runs (slice_set topics k new) ≡ each_with with_span (each_with without_span (kept_bounds runs topics) old.bounds) new.bounds
  bounds_renewed k old new there =
      ap (sums_by with_span (no_bounds runs)) (map-set (λ (t : TopicNumbers). t.bounds) topics k new)
      ∙ sums_renewed with_span without_span spans_commute spans_cancel spans_exchange (no_bounds runs) (spans_of topics) k old.bounds new.bounds run_counts (map_there (λ (t : TopicNumbers). t.bounds) topics k old there)

  pub renewed : (k : ℕ) (old new : TopicNumbers) → slice_get topics k ≡ Some old → kept_sums runs (slice_set topics k new) ≡ sums_with (sums_without (kept_sums runs topics) old) new
  renewed k old new there = same_sums _ _ _ _ (totals_renewed k old new there) (bounds_renewed k old new there)

-- ---- one topic more
totals_more : (runs : ℕ) (topics : List TopicNumbers) (i : ℕ) (t : TopicNumbers) → slice_get topics i ≡ Some t → each_with with_cell (kept_totals runs (take i topics)) t.cells ≡ kept_totals runs (take (i + 1) topics)
totals_more runs topics i t there =
    sym (ap (λ (l : List TopicNumbers). kept_totals runs l) (take-there topics i t there)
    ∙ ap (sums_by with_cell (no_totals runs)) (map-append (λ (n : TopicNumbers). n.cells) (take i topics) (t ∷ []))
    ∙ sums_more with_cell without_cell cells_commute cells_cancel cells_exchange (no_totals runs) (cells_of (take i topics)) t.cells)

bounds_more : (runs : ℕ) (topics : List TopicNumbers) (i : ℕ) (t : TopicNumbers) → slice_get topics i ≡ Some t → each_with with_span (kept_bounds runs (take i topics)) t.bounds ≡ kept_bounds runs (take (i + 1) topics)
bounds_more runs topics i t there =
    sym (ap (λ (l : List TopicNumbers). kept_bounds runs l) (take-there topics i t there)
    ∙ ap (sums_by with_span (no_bounds runs)) (map-append (λ (n : TopicNumbers). n.bounds) (take i topics) (t ∷ []))
    ∙ sums_more with_span without_span spans_commute spans_cancel spans_exchange (no_bounds runs) (spans_of (take i topics)) t.bounds)

pub one_more_topic : (runs : ℕ) (topics : List TopicNumbers) (i : ℕ) (t : TopicNumbers) → slice_get topics i ≡ Some t → sums_with (kept_sums runs (take i topics)) t ≡ kept_sums runs (take (i + 1) topics)
one_more_topic runs topics i t there = same_sums _ _ _ _ (totals_more runs topics i t there) (bounds_more runs topics i t there)

-- ---- the sums of a measure's numbers
module _ (cell : List Mark → List ℕ → List ℕ → Cell) (bounds : List Mark → List ℕ → Span) (runs : ℕ) where
  abbrev cell_on : Topic → ℕ × ℕ → Cell
  cell_on topic pair = cell topic.marks (topic.ranking pair.0) (topic.ranking pair.1)

  abbrev span_on : Topic → ℕ → Span
  span_on topic run = bounds topic.marks (topic.ranking run)

  pub totals_stand : (topics : List Topic) → kept_totals runs (map (numbers_on cell bounds runs) topics) ≡ all_pair_sums cell topics runs
  unfolding pair_sums
  totals_stand topics =
      ap (sums_by with_cell (no_totals runs)) (map-map (λ (t : TopicNumbers). t.cells) (numbers_on cell bounds runs) topics)
      ∙ sums_made with_cell (λ ts pair. pair_sums cell ts pair.0 pair.1) cell_on (pairs_of (run_numbers runs)) (λ x xs pair.
      let t = pair_sums cell xs pair.0 pair.1 in
      let c = cell_on x pair in
      totals_same _ _ _ _ _ _ _ _ (other_way t.least_lo c.least.lo) (other_way t.least_hi c.least.hi) (other_way t.most_lo c.most.lo) (other_way t.most_hi c.most.hi)) topics

  pub bounds_stand : (topics : List Topic) → kept_bounds runs (map (numbers_on cell bounds runs) topics) ≡ all_run_sums bounds topics runs
  unfolding run_sums
  bounds_stand topics =
      ap (sums_by with_span (no_bounds runs)) (map-map (λ (t : TopicNumbers). t.bounds) (numbers_on cell bounds runs) topics)
      ∙ sums_made with_span (λ ts run. run_sums bounds ts run) span_on (run_numbers runs) (λ x xs run.
      let t = run_sums bounds xs run in
      let b = span_on x run in
      span_same _ _ _ _ (other_way t.lo b.lo) (other_way t.hi b.hi)) topics

-- ---- how many numbers there are
pub length-all_numbers : (cell : List Mark → List ℕ → List ℕ → Cell) (bounds : List Mark → List ℕ → Span) (desk : Desk) (marks : List (List Mark)) → AreMarksOf desk marks → length (all_numbers cell bounds desk marks) ≡ length desk.topics
length-all_numbers cell bounds desk marks known = length-map (topics_under desk marks) (numbers_on cell bounds (length desk.runs)) ∙ length-topics_under desk marks known

some_of : {A : Type 0} (P : A → Type 0) (xs : List A) (i : ℕ) → AllByRecursion P xs → AllByRecursion P (take i xs)
some_of P xs zero h = tt
some_of P [] (suc i) h = tt
some_of P (x ∷ xs) (suc i) h = (h.0, some_of P xs i h.1)

pub numbers_before : (runs : ℕ) (topics : List TopicNumbers) (i : ℕ) → All (AreTopicNumbers runs) topics → All (AreTopicNumbers runs) (take i topics)
numbers_before runs topics i h = All-from_recursion (AreTopicNumbers runs) (take i topics) (some_of (AreTopicNumbers runs) topics i (recursion_from_All (AreTopicNumbers runs) topics h))

-- ---- the cells of two runs, topic by topic
zips_more : {A B : Type 0} (R : A → B → Type 0) (xs : List A) (ys : List B) (x : A) (y : B) → AllZip R xs ys → R x y → AllZip R (xs ++ x ∷ []) (ys ++ y ∷ [])
zips_more R [] [] x y h r = (r, tt)
zips_more R [] (b ∷ bs) x y h r = absurd h
zips_more R (a ∷ more) [] x y h r = absurd h
zips_more R (a ∷ more) (b ∷ bs) x y h r = (h.0, zips_more R more bs x y h.1 r)

pub cells_more : (runs i j t : ℕ) (cells : List Cell) (topics : List TopicNumbers) (cell : Cell) (kept : TopicNumbers) → AllZip (IsCellOf runs i j) cells (take t topics) → slice_get topics t ≡ Some kept → IsCellOf runs i j cell kept →
    AllZip (IsCellOf runs i j) (cells ++ cell ∷ []) (take (t + 1) topics)
cells_more runs i j t cells topics cell kept h there is =
    subst (AllZip (IsCellOf runs i j) (cells ++ cell ∷ [])) (sym (take-there topics t kept there)) (zips_more (IsCellOf runs i j) cells (take t topics) cell kept h is)

-- ---- the sums of topics
pub sums_fit : (runs : ℕ) (topics : List TopicNumbers) → runs ≤ RUN_LIMIT → length topics ≤ TOPIC_LIMIT → All (AreTopicNumbers runs) topics → AreSumsFor runs (kept_sums runs topics)
sums_fit runs topics few few_topics numbers = record {
  few = few;
  each_pair = length-totals runs topics numbers;
  each_run = length-bounds runs topics numbers;
  near_sums = near_totals runs topics numbers few_topics;
  near_bounds = near_bounds runs topics numbers few_topics;
}

-- a list of one element everywhere
pub constant : {A B : Type 0} (y : B) (xs : List A) (ys : List B) → length ys ≡ length xs → All (λ z. z ≡ y) ys → ys ≡ map (λ (_ : A). y) xs
constant {A = A} {B = B} y xs ys e h = go xs ys e (recursion_from_All (λ z. z ≡ y) ys h)
  where
    go : (us : List A) (vs : List B) → length vs ≡ length us → AllByRecursion (λ z. z ≡ y) vs → vs ≡ map (λ (_ : A). y) us
    go [] [] q k = refl
    go [] (v ∷ vs) q k = absurd (omega (arith, q))
    go (u ∷ us) [] q k = absurd (omega (arith, q))
    go (u ∷ us) (v ∷ vs) q k = ap (λ z. z ∷ vs) k.0 ∙ ap (λ l. y ∷ l) (go us vs (omega (arith, q)) k.1)

-- copies of one element
pub all_copies : {A : Type 0} (x : A) (xs : List A) → AllByRecursion (λ z. (z ≡ x) ⊎ (z ≡ x)) xs → All (λ z. z ≡ x) xs
all_copies {A = A} x xs h = All-from_recursion (λ z. z ≡ x) xs (go xs h)
  where
    either : (z : A) → (z ≡ x) ⊎ (z ≡ x) → z ≡ x
    either z (inl e) = e
    either z (inr e) = e

    go : (ys : List A) → AllByRecursion (λ z. (z ≡ x) ⊎ (z ≡ x)) ys → AllByRecursion (λ z. z ≡ x) ys
    go [] k = tt
    go (y ∷ ys) k = (either y k.0, go ys k.1)
