-- The numbers of a desk under refined marks.
use Rattle.std.proofs.Common.{◌≡◌, ℕ, ◌+◌, List, [], ◌∷◌, map, length, pos, ◌≤ℤ◌, ◌<ℤ◌, refl, ap, sym, ◌∙◌, subst, arith}
use Rattle.std.specs.List.{AllZip, AllByRecursion, enumerate_from}
use Rattle.std.proofs.lemmas.Int.{ints}
use Rattle.desk_model.specs.Book.{Book}
use Rattle.desk_model.specs.Desk.{Desk, AreMarksOf, ranking_of, topics_under}
use Rattle.desk_model.specs.Extremes.{Ends}
use Rattle.desk_model.specs.MeasureText.{IsMeasure}
use Rattle.desk_model.specs.Order.{Topic}
use Rattle.desk_model.specs.Verdict.{verdict, whole_sum, totals_of}
use Rattle.desk_model.specs.declared.types.Mark.{Mark}
use Rattle.desk_model.specs.declared.types.MeasureName.{MeasureName}
use Rattle.desk_model.specs.declared.types.MeasureName.TheVariants.{Precision, Recall, RPrecision, Reciprocal, Biased, AveragePrecision}
use Rattle.desk_model.specs.declared.types.Totals.{Totals}
use Rattle.desk_model.specs.declared.types.Verdict.TheVariants.{Above, Below, Equal}
use Rattle.topic_counts.specs.declared.span.Span.{Span}
use Rattle.measure_core.specs.Made.{HasEnds, HasBounds}
use Rattle.measure_laws.specs.Measures.{unit_of}
use Rattle.measure_laws.specs.Refinement.{AreRefinedBy, IsRefinedBy, AreTopicsRefinedBy}
use Rattle.measure_laws.specs.Shares.{biased_bound_lo, biased_bound_hi}
use Rattle.measure_laws.proofs.Refined.{length-refined}
use Rattle.measure_laws.proofs.RefinedEnds.{CloseIn, named_ends_close_in, bounds_within, ends_in_order}
use Rattle.measure_laws.proofs.RefinedShares.{bound_rises, bound_falls}
use Rattle.pair_table.specs.Numbers.{AreEndsOf, AreBoundsOf}
use Rattle.pair_table.specs.Refined.{AreAllRefinedBy, ForRefinedPairs, ForRefinedRuns}
use Rattle.pair_table.proofs.DeskTopics.{topics_met, topics_met_one}
use Rattle.desk_model.specs.Ranking.{IsRanking}
use Rattle.measure_laws.specs.Candidates.{average_bound_lo, average_bound_hi}
use Rattle.measure_laws.proofs.AverageBounds.{bound_lo_rises, bound_hi_falls}
use Rattle.pair_table.proofs.Orders.{MetBy, MetOneBy}
use Rattle.pair_table.proofs.Verdicts.{verdict_above, verdict_below, verdict_equal, above_says, below_says, equal_says}

-- ---- the topics of a desk
topics_refined_from : (desk : Desk) (n : ℕ) (marks later : List (List Mark)) → AreAllRefinedBy marks later →
    AreTopicsRefinedBy (map (λ p. record { marks = p.1; ranking = λ run. ranking_of desk run p.0 }) (enumerate_from n marks)) (map (λ p. record { marks = p.1; ranking = λ run. ranking_of desk run p.0 }) (enumerate_from n later))
topics_refined_from desk n [] [] h = tt
topics_refined_from desk n [] (l ∷ later) h = absurd h
topics_refined_from desk n (m ∷ marks) [] h = absurd h
topics_refined_from desk n (m ∷ marks) (l ∷ later) h = (record { marks = h.0; rankings = λ run. refl }, topics_refined_from desk (n + 1) marks later h.1)

pub topics_refined : (desk : Desk) (marks later : List (List Mark)) → AreAllRefinedBy marks later → AreTopicsRefinedBy (topics_under desk marks) (topics_under desk later)
topics_refined desk marks later h = topics_refined_from desk 0 marks later h

-- refined marks are of the same universes
still_marks : (books : List Book) (marks later : List (List Mark)) → AllZip (λ (book : Book) (topic : List Mark). length topic ≡ length book.docs) books marks → AreAllRefinedBy marks later →
    AllZip (λ (book : Book) (topic : List Mark). length topic ≡ length book.docs) books later
still_marks [] [] [] k h = tt
still_marks [] [] (l ∷ later) k h = absurd h
still_marks [] (m ∷ marks) later k h = absurd k
still_marks (b ∷ books) [] later k h = absurd k
still_marks (b ∷ books) (m ∷ marks) [] k h = absurd h
still_marks (b ∷ books) (m ∷ marks) (l ∷ later) k h = (length-refined m l h.0 ∙ k.0, still_marks books marks later k.1 h.1)

-- ---- the ends of two runs
ends_moved : (name : MeasureName) (t u : Topic) (a b : ℕ) (f : Ends) → IsRefinedBy t u → HasEnds name u.marks (u.ranking a) (u.ranking b) f → HasEnds name u.marks (t.ranking a) (t.ranking b) f
ends_moved name t u a b f h z =
    subst (λ (docs : List ℕ). HasEnds name u.marks (t.ranking a) docs f) (h.rankings b)
    (subst (λ (docs : List ℕ). HasEnds name u.marks docs (u.ranking b) f) (h.rankings a) z)

sums_close_in : (name : MeasureName) → IsMeasure name → (a b : ℕ) (topics later : List Topic) (es fs : List Ends) → AllByRecursion (MetBy a b) topics → AreTopicsRefinedBy topics later → AreEndsOf name topics a b es → AreEndsOf name later a b fs →
    (whole_sum (map (λ (e : Ends). e.least_lo) es) ≤ℤ whole_sum (map (λ (e : Ends). e.least_lo) fs)) × (whole_sum (map (λ (e : Ends). e.most_hi) fs) ≤ℤ whole_sum (map (λ (e : Ends). e.most_hi) es))
sums_close_in name valid a b [] [] [] [] met h y z = (omega (arith, ints), omega (arith, ints))
sums_close_in name valid a b [] [] (e ∷ es) fs met h y z = absurd y
sums_close_in name valid a b [] [] [] (f ∷ fs) met h y z = absurd z
sums_close_in name valid a b [] (u ∷ us) es fs met h y z = absurd h
sums_close_in name valid a b (t ∷ ts) [] es fs met h y z = absurd h
sums_close_in name valid a b (t ∷ ts) (u ∷ us) [] fs met h y z = absurd y
sums_close_in name valid a b (t ∷ ts) (u ∷ us) (e ∷ es) [] met h y z = absurd z
sums_close_in name valid a b (t ∷ ts) (u ∷ us) (e ∷ es) (f ∷ fs) met h y z =
    let here : CloseIn e f = named_ends_close_in name t.marks u.marks (t.ranking a) (t.ranking b) e f valid met.0.first met.0.second h.0.marks y.0 (ends_moved name t u a b f h.0 z.0) in
    let rest = sums_close_in name valid a b ts us es fs met.1 h.1 y.1 z.1 in
    (omega (arith, ints, here.0, rest.0), omega (arith, ints, here.1, rest.1))

pub sums_in_order : (name : MeasureName) → IsMeasure name → (a b : ℕ) (topics : List Topic) (es : List Ends) → AllByRecursion (MetBy a b) topics → AreEndsOf name topics a b es →
    whole_sum (map (λ (e : Ends). e.least_lo) es) ≤ℤ whole_sum (map (λ (e : Ends). e.most_hi) es)
sums_in_order name valid a b [] [] met h = omega (arith, ints)
sums_in_order name valid a b [] (e ∷ es) met h = absurd h
sums_in_order name valid a b (t ∷ ts) [] met h = absurd h
sums_in_order name valid a b (t ∷ ts) (e ∷ es) met h =
    let here = ends_in_order name t.marks (t.ranking a) (t.ranking b) e valid met.0.first met.0.second h.0 in
    let rest = sums_in_order name valid a b ts es met.1 h.1 in
    omega (arith, ints, here, rest)

-- the sums of two runs close in, and stay in order
record SumsCloseIn (before after : Totals) : Type 0 where
  least : before.least_lo ≤ℤ after.least_lo
  most : after.most_hi ≤ℤ before.most_hi
  order : after.least_lo ≤ℤ after.most_hi

pairs_close_in : ForRefinedPairs SumsCloseIn
pairs_close_in name desk marks later a b before after valid is_desk known in_a in_b h y z =
    let close = sums_close_in name valid a b (topics_under desk marks) (topics_under desk later) y.ends z.ends (topics_met desk marks is_desk known a b in_a in_b) (topics_refined desk marks later h) y.named z.named in
    let still : AreMarksOf desk later = still_marks desk.topics marks later known h in
    let order = sums_in_order name valid a b (topics_under desk later) z.ends (topics_met desk later is_desk still a b in_a in_b) z.named in
    let whole : SumsCloseIn (totals_of y.ends) (totals_of z.ends) = record { least = close.0; most = close.1; order = order } in
    subst (λ (t : Totals). SumsCloseIn t after) (sym y.summed) (subst (λ (t : Totals). SumsCloseIn (totals_of y.ends) t) (sym z.summed) whole)

pub least_rises_in_sums : ForRefinedPairs (λ before after. before.least_lo ≤ℤ after.least_lo)
least_rises_in_sums name desk marks later a b before after valid is_desk known in_a in_b h y z = (pairs_close_in name desk marks later a b before after valid is_desk known in_a in_b h y z).least

pub most_falls_in_sums : ForRefinedPairs (λ before after. after.most_hi ≤ℤ before.most_hi)
most_falls_in_sums name desk marks later a b before after valid is_desk known in_a in_b h y z = (pairs_close_in name desk marks later a b before after valid is_desk known in_a in_b h y z).most

-- ---- verdicts
pub above_stays : ForRefinedPairs (λ before after. verdict before ≡ Above → verdict after ≡ Above)
above_stays name desk marks later a b before after valid is_desk known in_a in_b h y z v =
    let close = pairs_close_in name desk marks later a b before after valid is_desk known in_a in_b h y z in
    verdict_above after (omega (arith, ints, above_says before v, close.least))

pub below_stays : ForRefinedPairs (λ before after. verdict before ≡ Below → verdict after ≡ Below)
below_stays name desk marks later a b before after valid is_desk known in_a in_b h y z v =
    let close = pairs_close_in name desk marks later a b before after valid is_desk known in_a in_b h y z in
    let under : after.most_hi <ℤ pos 0 = omega (arith, ints, below_says before v, close.most) in
    verdict_below after (omega (arith, ints, under, close.order)) under

pub equal_stays : ForRefinedPairs (λ before after. verdict before ≡ Equal → verdict after ≡ Equal)
equal_stays name desk marks later a b before after valid is_desk known in_a in_b h y z v =
    let close = pairs_close_in name desk marks later a b before after valid is_desk known in_a in_b h y z in
    let zeros = equal_says before v in
    verdict_equal after (omega (arith, ints, zeros.0, zeros.1, close.least, close.most, close.order)) (omega (arith, ints, zeros.0, zeros.1, close.least, close.most, close.order))

-- ---- the bounds of a run
biased_bounds_close_in : (top bottom : ℕ) (marks later : List Mark) (docs : List ℕ) (s r : Span) → AreRefinedBy marks later → HasBounds (Biased top bottom) marks docs s → HasBounds (Biased top bottom) later docs r → (s.lo ≤ℤ r.lo) × (r.hi ≤ℤ s.hi)
biased_bounds_close_in top bottom marks later docs s r h y z =
    let rises = bound_rises marks later h top bottom docs in
    let falls = bound_falls marks later h top bottom docs in
    let own : Span → Span → Type 0 = λ s r. (s.lo ≤ℤ r.lo) × (r.hi ≤ℤ s.hi) in
    subst (λ (x : Span). own x r) (sym y) (subst (own (record { lo = pos (biased_bound_lo top bottom marks docs); hi = pos (biased_bound_hi top bottom marks docs) })) (sym z)
    (omega (arith, ints, rises), omega (arith, ints, falls)))

pub named_bounds_close_in : (name : MeasureName) (marks later : List Mark) (docs : List ℕ) (s r : Span) → IsRanking (length marks) docs → AreRefinedBy marks later → HasBounds name marks docs s → HasBounds name later docs r → (s.lo ≤ℤ r.lo) × (r.hi ≤ℤ s.hi)
named_bounds_close_in (Precision k) marks later docs s r ranked h y z = bounds_within (Precision k) (unit_of (Precision k)) marks later docs s.lo s.hi r.lo r.hi h y z
named_bounds_close_in (Recall k) marks later docs s r ranked h y z = bounds_within (Recall k) (unit_of (Recall k)) marks later docs s.lo s.hi r.lo r.hi h y z
named_bounds_close_in RPrecision marks later docs s r ranked h y z = bounds_within RPrecision (unit_of RPrecision) marks later docs s.lo s.hi r.lo r.hi h y z
named_bounds_close_in Reciprocal marks later docs s r ranked h y z = bounds_within Reciprocal (unit_of Reciprocal) marks later docs s.lo s.hi r.lo r.hi h y z
named_bounds_close_in (Biased top bottom) marks later docs s r ranked h y z = biased_bounds_close_in top bottom marks later docs s r h y z
named_bounds_close_in AveragePrecision marks later docs s r ranked h y z =
    let rises = bound_lo_rises marks later docs h ranked in
    let falls = bound_hi_falls marks later docs h ranked in
    let own : Span → Span → Type 0 = λ s r. (s.lo ≤ℤ r.lo) × (r.hi ≤ℤ s.hi) in
    subst (λ (x : Span). own x r) (sym y) (subst (own (record { lo = pos (average_bound_lo marks docs); hi = pos (average_bound_hi marks docs) })) (sym z)
    (omega (arith, ints, rises), omega (arith, ints, falls)))

spans_close_in : (name : MeasureName) (run : ℕ) (topics later : List Topic) (ss rs : List Span) → AllByRecursion (MetOneBy run) topics → AreTopicsRefinedBy topics later → AreBoundsOf name topics run ss → AreBoundsOf name later run rs →
    (whole_sum (map (λ (s : Span). s.lo) ss) ≤ℤ whole_sum (map (λ (s : Span). s.lo) rs)) × (whole_sum (map (λ (s : Span). s.hi) rs) ≤ℤ whole_sum (map (λ (s : Span). s.hi) ss))
spans_close_in name run [] [] [] [] met h y z = (omega (arith, ints), omega (arith, ints))
spans_close_in name run [] [] (s ∷ ss) rs met h y z = absurd y
spans_close_in name run [] [] [] (r ∷ rs) met h y z = absurd z
spans_close_in name run [] (u ∷ us) ss rs met h y z = absurd h
spans_close_in name run (t ∷ ts) [] ss rs met h y z = absurd h
spans_close_in name run (t ∷ ts) (u ∷ us) [] rs met h y z = absurd y
spans_close_in name run (t ∷ ts) (u ∷ us) (s ∷ ss) [] met h y z = absurd z
spans_close_in name run (t ∷ ts) (u ∷ us) (s ∷ ss) (r ∷ rs) met h y z =
    let moved = subst (λ (docs : List ℕ). HasBounds name u.marks docs r) (h.0.rankings run) z.0 in
    let here = named_bounds_close_in name t.marks u.marks (t.ranking run) s r met.0.ranking h.0.marks y.0 moved in
    let rest = spans_close_in name run ts us ss rs met.1 h.1 y.1 z.1 in
    (omega (arith, ints, here.0, rest.0), omega (arith, ints, here.1, rest.1))

pub low_rises : ForRefinedRuns (λ before after. before.lo ≤ℤ after.lo)
low_rises name desk marks later run before after is_desk known in_run h y z =
    let close = spans_close_in name run (topics_under desk marks) (topics_under desk later) y.spans z.spans (topics_met_one desk marks is_desk known run in_run) (topics_refined desk marks later h) y.named z.named in
    let was = ap (λ (s : Span). s.lo) y.summed in
    let is = ap (λ (s : Span). s.lo) z.summed in
    omega (arith, ints, close.0, was, is)

pub high_falls : ForRefinedRuns (λ before after. after.hi ≤ℤ before.hi)
high_falls name desk marks later run before after is_desk known in_run h y z =
    let close = spans_close_in name run (topics_under desk marks) (topics_under desk later) y.spans z.spans (topics_met_one desk marks is_desk known run in_run) (topics_refined desk marks later h) y.named z.named in
    let was = ap (λ (s : Span). s.hi) y.summed in
    let is = ap (λ (s : Span). s.hi) z.summed in
    omega (arith, ints, close.1, was, is)
