-- What the numbers of a name say of means.
use Rattle.std.proofs.Common.{◌≡◌, ◌≢◌, ℕ, ◌+◌, ◌<◌, List, [], ◌∷◌, map, length, ℤ, pos, ◌+ℤ◌, ◌≤ℤ◌, refl, sym, subst, arith}
use Rattle.std.specs.List.{AllZip, AllByRecursion}
use Rattle.std.proofs.lemmas.List.Sums.{sum_by-cons}
use Rattle.std.proofs.lemmas.Int.{ints}
use Rattle.std.proofs.lemmas.List.Elements.{All-from_recursion}
use Rattle.desk_model.specs.Desk.{Desk, IsDesk, AreMarksOf, topics_under}
use Rattle.desk_model.specs.Fraction.{IsAtMost, IsAtLeast}
use Rattle.desk_model.specs.Extremes.{InEvery, InEveryScore, IsAtMostScore, IsAtLeastScore, Ends}
use Rattle.desk_model.specs.Enclosure.{AreLowEnds, AreHighEnds, AreExactEnds}
use Rattle.desk_model.specs.Order.{Topic}
use Rattle.desk_model.specs.Pairs.{pairs_of}
use Rattle.desk_model.specs.Verdict.{verdict, whole_sum, totals_of, IsExactVerdict}
use Rattle.desk_model.specs.declared.types.Mark.{Mark}
use Rattle.desk_model.specs.declared.types.MeasureName.{MeasureName}
use Rattle.desk_model.specs.declared.types.MeasureName.TheVariants.{Precision, Recall, RPrecision, Reciprocal, Biased, AveragePrecision}
use Rattle.desk_model.specs.declared.types.Totals.{Totals}
use Rattle.desk_model.specs.declared.types.Verdict.TheVariants.{Close}
use Rattle.desk_model.proofs.Topics.{always_above, always_below, always_equal, difference_low, difference_high, mean_low, mean_high}
use Rattle.desk_model.proofs.Exact.{exact_verdict}
use Rattle.desk_model.specs.MeasureText.{IsMeasure}
use Rattle.measure_laws.specs.Measures.{IsExactMeasure, unit_of}
use Rattle.measure_laws.specs.Candidates.{average_bound_lo, average_bound_hi}
use Rattle.measure_laws.specs.Shares.{biased_ends}
use Rattle.measure_laws.proofs.NamedEnds.{low_encloses, high_encloses}
use Rattle.measure_laws.proofs.AverageBounds.{average_at_most, average_at_least, bound_lo_least, bound_hi_greatest}
use Rattle.measure_laws.proofs.Persistence.{least_encloses, most_encloses, run_low_encloses, run_high_encloses}
use Rattle.measure_laws.proofs.Weights.{unit-size}
use Rattle.topic_counts.specs.declared.span.Span.{Span}
use Rattle.measure_core.specs.Laws.{AreMet, IsMet, MeetsLaws}
use Rattle.measure_core.specs.Made.{ends_of, HasEnds, HasBounds, HasWidth, AreNarrow, width_of}
use Rattle.measure_core.specs.declared.cell.Cell.{Cell}
use Rattle.measure_core.proofs.Narrow.{ends_narrow, precision_whole}
use Rattle.pair_table.specs.Sums.{run_numbers, cell_ends, pair_sums, span_sum, run_spans, run_sums}
use Rattle.pair_table.specs.Numbers.{AreEndsOf, ArePairNumbers, AreRunNumbers}
use Rattle.pair_table.specs.Orders.{HoldsOfPair, HoldsOfRun, total_width, IsNearZero, ForEachPair, ForTwoRuns, ForEachRun}
use Rattle.pair_table.proofs.DeskTopics.{topics_met, topics_met_one}
use Rattle.pair_table.proofs.Zips.{zip_then, zip_by, zip_made, zip_mapped, all_then, all_first, all_in_range, IsPairBelow, pairs_below}
use Rattle.pair_table.proofs.Undecided.{CasesHold, named_cases, lawful_cases, open_undecided}
use Rattle.pair_table.proofs.Verdicts.{above_says, below_says, equal_says, close_says}

-- the outer ends of a name enclose
record Enclose (name : MeasureName) (marks : List Mark) (a b : List ℕ) (e : Ends) : Type 0 where
  low : InEvery name marks a b (IsAtMost e.least_lo (unit_of name))
  high : InEvery name marks a b (IsAtLeast e.most_hi (unit_of name))
  cases : CasesHold name marks a b e

ends_enclose : (name : MeasureName) (marks : List Mark) (a b : List ℕ) (e : Ends) → IsMeasure name → AreMet marks a b → HasEnds name marks a b e → Enclose name marks a b e
ends_enclose (Precision k) marks a b e valid met h = record { low = h.least_lo.so; high = h.most_hi.so; cases = named_cases (Precision k) marks a b e valid met h }
ends_enclose (Recall k) marks a b e valid met h = record { low = h.least_lo.so; high = h.most_hi.so; cases = named_cases (Recall k) marks a b e valid met h }
ends_enclose RPrecision marks a b e valid met h = record { low = h.least_lo.so; high = h.most_hi.so; cases = named_cases RPrecision marks a b e valid met h }
ends_enclose Reciprocal marks a b e valid met h = record { low = h.least_lo.so; high = h.most_hi.so; cases = named_cases Reciprocal marks a b e valid met h }
ends_enclose (Biased top bottom) marks a b e valid met h =
    subst (Enclose (Biased top bottom) marks a b) (sym h) (record {
      low = least_encloses top bottom marks a b valid met.first met.second;
      high = most_encloses top bottom marks a b valid met.first met.second;
      cases = named_cases (Biased top bottom) marks a b (biased_ends top bottom marks a b) valid met refl;
    })
ends_enclose AveragePrecision marks a b e valid met h = record {
  low = low_encloses AveragePrecision marks a b e valid met.first met.second h;
  high = high_encloses AveragePrecision marks a b e valid met.first met.second h;
  cases = named_cases AveragePrecision marks a b e valid met h;
}

record EncloseOne (name : MeasureName) (marks : List Mark) (a : List ℕ) (s : Span) : Type 0 where
  low : InEveryScore name marks a (IsAtMostScore s.lo (unit_of name))
  high : InEveryScore name marks a (IsAtLeastScore s.hi (unit_of name))

bounds_enclose : (name : MeasureName) (marks : List Mark) (a : List ℕ) (s : Span) → IsMeasure name → IsMet marks a → HasBounds name marks a s → EncloseOne name marks a s
bounds_enclose (Precision k) marks a s valid met h = record { low = h.low.so; high = h.high.so }
bounds_enclose (Recall k) marks a s valid met h = record { low = h.low.so; high = h.high.so }
bounds_enclose RPrecision marks a s valid met h = record { low = h.low.so; high = h.high.so }
bounds_enclose Reciprocal marks a s valid met h = record { low = h.low.so; high = h.high.so }
bounds_enclose (Biased top bottom) marks a s valid met h =
    subst (EncloseOne (Biased top bottom) marks a) (sym h) (record {
      low = run_low_encloses top bottom marks a valid met.ranking;
      high = run_high_encloses top bottom marks a valid met.ranking;
    })
bounds_enclose AveragePrecision marks a s valid met h =
    subst (EncloseOne AveragePrecision marks a) (sym h) (record {
      low = λ truth tail c. average_at_most (length marks) truth a (average_bound_lo marks a) (bound_lo_least marks a truth met.ranking c);
      high = λ truth tail c. average_at_least (length marks) truth a (average_bound_hi marks a) (bound_hi_greatest marks a truth met.ranking c);
    })

always : {A : Type 0} (xs : List A) → AllByRecursion (λ (x : A). Unit {0}) xs
always [] = tt
always (x ∷ xs) = (tt, always xs)

abbrev pub MetBy : ℕ → ℕ → Topic → Type 0
MetBy a b topic = AreMet topic.marks (topic.ranking a) (topic.ranking b)

abbrev pub MetOneBy : ℕ → Topic → Type 0
MetOneBy run topic = IsMet topic.marks (topic.ranking run)

-- ---- one pair
abbrev EncloseBy : MeasureName → ℕ → ℕ → Ends → Topic → Type 0
EncloseBy name a b e topic = Enclose name topic.marks (topic.ranking a) (topic.ranking b) e

module _ (name : MeasureName) (valid : IsMeasure name) (topics : List Topic) (a b : ℕ) (apart : a ≢ b) (ends : List Ends) (enclosed : AllZip (EncloseBy name a b) ends topics) where
  lows : AreLowEnds name (unit_of name) topics a b (map (λ (e : Ends). e.least_lo) ends)
  lows = zip_mapped (λ (e : Ends). e.least_lo) _ ends topics
      (zip_then (EncloseBy name a b) (λ (e : Ends) (topic : Topic). InEvery name topic.marks (topic.ranking a) (topic.ranking b) (IsAtMost e.least_lo (unit_of name))) (λ (t : Topic). Unit {0})
      (λ e topic _ h. h.low) ends topics (always topics) enclosed)

  highs : AreHighEnds name (unit_of name) topics a b (map (λ (e : Ends). e.most_hi) ends)
  highs = zip_mapped (λ (e : Ends). e.most_hi) _ ends topics
      (zip_then (EncloseBy name a b) (λ (e : Ends) (topic : Topic). InEvery name topic.marks (topic.ranking a) (topic.ranking b) (IsAtLeast e.most_hi (unit_of name))) (λ (t : Topic). Unit {0})
      (λ e topic _ h. h.high) ends topics (always topics) enclosed)

  cases_hold : AllZip (λ (e : Ends) (topic : Topic). CasesHold name topic.marks (topic.ranking a) (topic.ranking b) e) ends topics
  cases_hold =
      zip_then (EncloseBy name a b) (λ (e : Ends) (topic : Topic). CasesHold name topic.marks (topic.ranking a) (topic.ranking b) e) (λ (t : Topic). Unit {0})
      (λ e topic _ h. h.cases) ends topics (always topics) enclosed

  enclosed_hold : HoldsOfPair name topics a b (totals_of ends)
  enclosed_hold =
      let t : Totals = totals_of ends in
      let unit = unit-size name valid in
      record {
        above = λ v. always_above name (unit_of name) a b topics _ lows (above_says t v);
        below = λ v. always_below name (unit_of name) a b topics _ highs (below_says t v);
        equal = λ v. let zeros = equal_says t v in
            always_equal name (unit_of name) a b topics _ _ (omega (arith, unit)) lows highs (subst (λ z. pos 0 ≤ℤ z) (sym zeros.0) (omega (arith, ints))) (subst (λ z. z ≤ℤ pos 0) (sym zeros.1) (omega (arith, ints)));
        undecided = λ v. open_undecided name valid a b ends topics cases_hold apart v;
        least = difference_low name (unit_of name) a b topics _ lows;
        most = difference_high name (unit_of name) a b topics _ highs;
      }

module _ (name : MeasureName) (valid : IsMeasure name) (topics : List Topic) (a b : ℕ) (met : AllByRecursion (MetBy a b) topics) (ends : List Ends) (named : AreEndsOf name topics a b ends) where
  ends_hold : a ≢ b → HoldsOfPair name topics a b (totals_of ends)
  ends_hold apart =
      enclosed_hold name valid topics a b apart ends
      (zip_then (λ (e : Ends) (topic : Topic). HasEnds name topic.marks (topic.ranking a) (topic.ranking b) e) (EncloseBy name a b) (MetBy a b)
      (λ e topic m h. ends_enclose name topic.marks (topic.ranking a) (topic.ranking b) e valid m h) ends topics met named)

  narrow : HasWidth name → AllZip (λ (e : Ends) (topic : Topic). AreNarrow name (topic.ranking a) (topic.ranking b) e) ends topics
  narrow wide = zip_then (λ (e : Ends) (topic : Topic). HasEnds name topic.marks (topic.ranking a) (topic.ranking b) e)
      (λ (e : Ends) (topic : Topic). AreNarrow name (topic.ranking a) (topic.ranking b) e) (MetBy a b)
      (λ e topic m h. ends_narrow name topic.marks (topic.ranking a) (topic.ranking b) e valid wide m h) ends topics met named

width_adds : (n m : ℕ) (lo hi los his : ℤ) → hi ≤ℤ (lo +ℤ pos n) → his ≤ℤ (los +ℤ pos m) → (hi +ℤ his) ≤ℤ ((lo +ℤ los) +ℤ pos (n + m))
width_adds n m lo hi los his h k = omega (arith, ints)

sums_narrow : (name : MeasureName) (a b : ℕ) (low high : Ends → ℤ) (ends : List Ends) (topics : List Topic) →
    AllZip (λ (e : Ends) (topic : Topic). high e ≤ℤ (low e +ℤ pos (width_of name (topic.ranking a) (topic.ranking b)))) ends topics →
    whole_sum (map high ends) ≤ℤ (whole_sum (map low ends) +ℤ pos (total_width name topics a b))
sums_narrow name a b low high [] [] h = omega (arith, ints)
sums_narrow name a b low high [] (t ∷ ts) h = absurd h
sums_narrow name a b low high (e ∷ es) [] h = absurd h
sums_narrow name a b low high (e ∷ es) (t ∷ ts) h =
    let width = λ (topic : Topic). width_of name (topic.ranking a) (topic.ranking b) in
    subst (λ (n : ℕ). (high e +ℤ whole_sum (map high es)) ≤ℤ ((low e +ℤ whole_sum (map low es)) +ℤ pos n)) (sym (sum_by-cons width t ts))
    (width_adds (width t) (total_width name ts a b) (low e) (high e) (whole_sum (map low es)) (whole_sum (map high es)) h.0 (sums_narrow name a b low high es ts h.1))

ends_close : (name : MeasureName) → IsMeasure name → HasWidth name → (topics : List Topic) (a b : ℕ) → AllByRecursion (MetBy a b) topics → (ends : List Ends) → AreEndsOf name topics a b ends →
    verdict (totals_of ends) ≡ Close → IsNearZero (total_width name topics a b) (totals_of ends)
ends_close name valid wide topics a b met ends named =
    let close = narrow name valid topics a b met ends named wide in
    let N = λ (e : Ends) (topic : Topic). AreNarrow name (topic.ranking a) (topic.ranking b) e in
    close_says (totals_of ends) (total_width name topics a b)
    (sums_narrow name a b (λ (e : Ends). e.least_lo) (λ (e : Ends). e.least_hi) ends topics
    (zip_then N (λ (e : Ends) (topic : Topic). e.least_hi ≤ℤ (e.least_lo +ℤ pos (width_of name (topic.ranking a) (topic.ranking b)))) (λ (t : Topic). Unit {0}) (λ e topic _ h. h.least) ends topics (always topics) close))
    (sums_narrow name a b (λ (e : Ends). e.most_lo) (λ (e : Ends). e.most_hi) ends topics
    (zip_then N (λ (e : Ends) (topic : Topic). e.most_hi ≤ℤ (e.most_lo +ℤ pos (width_of name (topic.ranking a) (topic.ranking b)))) (λ (t : Topic). Unit {0}) (λ e topic _ h. h.most) ends topics (always topics) close))

-- the widths of the measures with exact ends are one unit
width_one : (name : MeasureName) → IsExactMeasure name → (a b : List ℕ) → width_of name a b ≡ 1
width_one (Precision k) exact a b = refl
width_one (Recall k) exact a b = refl
width_one RPrecision exact a b = refl
width_one Reciprocal exact a b = refl
width_one (Biased top bottom) exact a b = absurd exact
width_one AveragePrecision exact a b = absurd exact

exact_wide : (name : MeasureName) → IsExactMeasure name → HasWidth name
exact_wide (Precision k) exact = tt
exact_wide (Recall k) exact = tt
exact_wide RPrecision exact = tt
exact_wide Reciprocal exact = tt
exact_wide (Biased top bottom) exact = absurd exact
exact_wide AveragePrecision exact = absurd exact

one_each : (name : MeasureName) → IsExactMeasure name → (topics : List Topic) (a b : ℕ) → total_width name topics a b ≡ length topics
one_each name exact [] a b = refl
one_each name exact (t ∷ ts) a b =
    let first : width_of name (t.ranking a) (t.ranking b) ≡ 1 = width_one name exact (t.ranking a) (t.ranking b) in
    let rest : total_width name ts a b ≡ length ts = one_each name exact ts a b in
    let split = sum_by-cons (λ (topic : Topic). width_of name (topic.ranking a) (topic.ranking b)) t ts in
    omega (arith, first, rest, split)

-- ends under precision
ends_exact : (k : ℕ) → IsMeasure (Precision k) → (topics : List Topic) (a b : ℕ) → a ≢ b → AllByRecursion (MetBy a b) topics → (ends : List Ends) → AreEndsOf (Precision k) topics a b ends →
    IsExactVerdict (Precision k) topics a b (verdict (totals_of ends))
ends_exact k valid topics a b apart met ends named =
    let R = λ (e : Ends) (topic : Topic). HasEnds (Precision k) topic.marks (topic.ranking a) (topic.ranking b) e in
    exact_verdict (Precision k) k a b topics ends (omega (arith, valid)) apart (record {
      extremes = named;
      least = All-from_recursion (λ (e : Ends). e.least_lo ≡ e.least_hi) ends (all_first R (MetBy a b) (λ (e : Ends). e.least_lo ≡ e.least_hi) (λ e topic m h. (precision_whole k topic.marks (topic.ranking a) (topic.ranking b) e valid m h).0) ends topics met named);
      most = All-from_recursion (λ (e : Ends). e.most_lo ≡ e.most_hi) ends (all_first R (MetBy a b) (λ (e : Ends). e.most_lo ≡ e.most_hi) (λ e topic m h. (precision_whole k topic.marks (topic.ranking a) (topic.ranking b) e valid m h).1) ends topics met named);
    })

-- ---- one run
abbrev EncloseOneBy : MeasureName → ℕ → Span → Topic → Type 0
EncloseOneBy name run x topic = EncloseOne name topic.marks (topic.ranking run) x

enclosed_run_holds : (name : MeasureName) (topics : List Topic) (run : ℕ) (spans : List Span) → AllZip (EncloseOneBy name run) spans topics → HoldsOfRun name topics run (span_sum spans)
enclosed_run_holds name topics run spans h = record {
  low = mean_low name (unit_of name) run topics _ (zip_mapped (λ (x : Span). x.lo) _ spans topics
      (zip_then (EncloseOneBy name run) (λ (x : Span) (topic : Topic). InEveryScore name topic.marks (topic.ranking run) (IsAtMostScore x.lo (unit_of name))) (λ (t : Topic). Unit {0}) (λ x topic _ k. k.low) spans topics (always topics) h));
  high = mean_high name (unit_of name) run topics _ (zip_mapped (λ (x : Span). x.hi) _ spans topics
      (zip_then (EncloseOneBy name run) (λ (x : Span) (topic : Topic). InEveryScore name topic.marks (topic.ranking run) (IsAtLeastScore x.hi (unit_of name))) (λ (t : Topic). Unit {0}) (λ x topic _ k. k.high) spans topics (always topics) h));
}

bounds_hold : (name : MeasureName) → IsMeasure name → (topics : List Topic) (run : ℕ) → AllByRecursion (MetOneBy run) topics → (s : Span) → AreRunNumbers name topics run s → HoldsOfRun name topics run s
bounds_hold name valid topics run met s h =
    subst (HoldsOfRun name topics run) (sym h.summed) (enclosed_run_holds name topics run h.spans
    (zip_then (λ (x : Span) (topic : Topic). HasBounds name topic.marks (topic.ranking run) x) (EncloseOneBy name run) (MetOneBy run)
    (λ x topic m k. bounds_enclose name topic.marks (topic.ranking run) x valid m k) h.spans topics met h.named))

-- ---- a measure that meets its laws
module _ (name : MeasureName) (valid : IsMeasure name) (cell : List Mark → List ℕ → List ℕ → Cell) (bounds : List Mark → List ℕ → Span) (laws : MeetsLaws name cell bounds) where
  cells_hold : (topics : List Topic) (a b : ℕ) → a ≢ b → AllByRecursion (MetBy a b) topics → HoldsOfPair name topics a b (pair_sums cell topics a b)
  unfolding pair_sums
  cells_hold topics a b apart met =
      enclosed_hold name valid topics a b apart (cell_ends cell topics a b)
      (zip_made (EncloseBy name a b) (λ (topic : Topic). ends_of (cell topic.marks (topic.ranking a) (topic.ranking b))) topics
      (all_then (MetBy a b) (λ (topic : Topic). EncloseBy name a b (ends_of (cell topic.marks (topic.ranking a) (topic.ranking b))) topic)
      (λ topic m. let law = laws.encloses topic.marks (topic.ranking a) (topic.ranking b) m in
      record { low = law.least; high = law.most; cases = lawful_cases name cell bounds topic.marks (topic.ranking a) (topic.ranking b) laws m }) topics met))

  spans_hold : (topics : List Topic) (run : ℕ) → AllByRecursion (MetOneBy run) topics → HoldsOfRun name topics run (run_sums bounds topics run)
  unfolding run_sums
  spans_hold topics run met =
      enclosed_run_holds name topics run (run_spans bounds topics run)
      (zip_made (EncloseOneBy name run) (λ (topic : Topic). bounds topic.marks (topic.ranking run)) topics
      (all_then (MetOneBy run) (λ (topic : Topic). EncloseOneBy name run (bounds topic.marks (topic.ranking run)) topic)
      (λ topic m. let law = laws.bounds_enclose topic.marks (topic.ranking run) m in record { low = law.low; high = law.high }) topics met))

pub measure_pairs_hold : (name : MeasureName) (cell : List Mark → List ℕ → List ℕ → Cell) (bounds : List Mark → List ℕ → Span) (desk : Desk) (marks : List (List Mark)) (a b : ℕ) →
    IsMeasure name → MeetsLaws name cell bounds → IsDesk desk → AreMarksOf desk marks → a ≢ b → a < length desk.runs → b < length desk.runs →
    HoldsOfPair name (topics_under desk marks) a b (pair_sums cell (topics_under desk marks) a b)
measure_pairs_hold name cell bounds desk marks a b valid laws is_desk known apart in_a in_b = cells_hold name valid cell bounds laws (topics_under desk marks) a b apart (topics_met desk marks is_desk known a b in_a in_b)

pub measure_runs_hold : (name : MeasureName) (cell : List Mark → List ℕ → List ℕ → Cell) (bounds : List Mark → List ℕ → Span) (desk : Desk) (marks : List (List Mark)) (run : ℕ) →
    IsMeasure name → MeetsLaws name cell bounds → IsDesk desk → AreMarksOf desk marks → run < length desk.runs →
    HoldsOfRun name (topics_under desk marks) run (run_sums bounds (topics_under desk marks) run)
measure_runs_hold name cell bounds desk marks run valid laws is_desk known in_run = spans_hold name valid cell bounds laws (topics_under desk marks) run (topics_met_one desk marks is_desk known run in_run)

-- ends that are whole numbers of units
pub whole_cells_decide : (name : MeasureName) (unit : ℕ) (cell : List Mark → List ℕ → List ℕ → Cell) (topics : List Topic) (a b : ℕ) → 0 < unit → a ≢ b → AreExactEnds name unit topics a b (cell_ends cell topics a b) →
    IsExactVerdict name topics a b (verdict (pair_sums cell topics a b))
unfolding pair_sums
whole_cells_decide name unit cell topics a b some apart h = exact_verdict name unit a b topics (cell_ends cell topics a b) some apart h

-- ---- two runs, all pairs and all runs
-- a fact of the sums of two different runs on topics, by the ends that the name has
abbrev OfEnds : (MeasureName → List Topic → ℕ → ℕ → Totals → Type 0) → Type 0
OfEnds fact =
    (name : MeasureName) (topics : List Topic) (a b : ℕ) (ends : List Ends) → IsMeasure name → a ≢ b → AllByRecursion (MetBy a b) topics → AreEndsOf name topics a b ends → fact name topics a b (totals_of ends)

for_two_runs : (fact : MeasureName → List Topic → ℕ → ℕ → Totals → Type 0) → OfEnds fact → ForTwoRuns fact
for_two_runs fact f name desk marks a b totals valid is_desk known in_a in_b apart h =
    let topics = topics_under desk marks in
    subst (fact name topics a b) (sym h.summed) (f name topics a b h.ends valid apart (topics_met desk marks is_desk known a b in_a in_b) h.named)

for_each_pair : (fact : MeasureName → List Topic → ℕ → ℕ → Totals → Type 0) → OfEnds fact → ForEachPair fact
for_each_pair fact f name desk marks bounds totals valid is_desk known h =
    let topics = topics_under desk marks in
    let n = length desk.runs in
    zip_by (λ (pair : ℕ × ℕ) (t : Totals). ArePairNumbers name topics pair.0 pair.1 t) (λ (pair : ℕ × ℕ) (t : Totals). fact name topics pair.0 pair.1 t) (IsPairBelow n)
    (λ pair t p k. for_two_runs fact f name desk marks pair.0 pair.1 t valid is_desk known (omega (arith, p.order, p.below)) p.below (λ e. omega (arith, p.order, e)) k)
    (pairs_of (run_numbers n)) totals (pairs_below n) h.pairs

sums_hold : OfEnds HoldsOfPair
sums_hold name topics a b ends valid apart met named = ends_hold name valid topics a b met ends named apart

-- under precision the verdict says exactly what always holds
abbrev IsExactUnderPrecision : MeasureName → List Topic → ℕ → ℕ → Totals → Type 0
IsExactUnderPrecision name topics a b sums = (k : ℕ) → name ≡ Precision k → IsExactVerdict name topics a b (verdict sums)

sums_exact : OfEnds IsExactUnderPrecision
sums_exact name topics a b ends valid apart met named k e =
    subst (λ (m : MeasureName). IsMeasure m → AreEndsOf m topics a b ends → IsExactVerdict m topics a b (verdict (totals_of ends))) (sym e)
    (λ v h. ends_exact k v topics a b apart met ends h) valid named

pub two_runs_hold : ForTwoRuns HoldsOfPair
two_runs_hold = for_two_runs HoldsOfPair sums_hold

pub two_runs_exact : ForTwoRuns IsExactUnderPrecision
two_runs_exact = for_two_runs IsExactUnderPrecision sums_exact

pub pairs_hold : ForEachPair HoldsOfPair
pairs_hold = for_each_pair HoldsOfPair sums_hold

pub pairs_exact : ForEachPair IsExactUnderPrecision
pairs_exact = for_each_pair IsExactUnderPrecision sums_exact

pub runs_hold : ForEachRun HoldsOfRun
runs_hold name desk marks bounds totals valid is_desk known h =
    let topics = topics_under desk marks in
    let n = length desk.runs in
    zip_by (λ (run : ℕ) (s : Span). AreRunNumbers name topics run s) (λ (run : ℕ) (s : Span). HoldsOfRun name topics run s) (λ run. run < n)
    (λ run s lt k. bounds_hold name valid topics run (topics_met_one desk marks is_desk known run lt) s k)
    (run_numbers n) bounds (all_in_range (λ run. run < n) 0 n (λ t _ lt. omega (arith, lt))) h.runs

pub pairs_close : ForEachPair (λ name topics a b sums. HasWidth name → verdict sums ≡ Close → IsNearZero (total_width name topics a b) sums)
pairs_close = for_each_pair (λ name topics a b sums. HasWidth name → verdict sums ≡ Close → IsNearZero (total_width name topics a b) sums)
    (λ name topics a b ends valid apart met named wide. ends_close name valid wide topics a b met ends named)

pub pairs_close_exact : ForEachPair (λ name topics a b sums. IsExactMeasure name → verdict sums ≡ Close → IsNearZero (length topics) sums)
pairs_close_exact = for_each_pair (λ name topics a b sums. IsExactMeasure name → verdict sums ≡ Close → IsNearZero (length topics) sums)
    (λ name topics a b ends valid apart met named exact v.
    subst (λ (n : ℕ). IsNearZero n (totals_of ends)) (one_each name exact topics a b) (ends_close name valid (exact_wide name exact) topics a b met ends named v))
