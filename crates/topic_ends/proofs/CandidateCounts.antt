-- How many documents are true in a candidate, and its truth values along the ranking.
use Rattle.std.proofs.Common.{◌≡◌, ℕ, zero, suc, ◌+◌, ◌-◌, ◌≤◌, Bool, true, false, not, ◌&&◌, ◌||◌, List, [], ◌∷◌, length, map, drop, ap, refl, sym, ◌∙◌, arith}
use Rattle.std.specs.List.{AllByRecursion, range_with_len}
use Rattle.std.proofs.lemmas.List.FromFn.{length-range_with_len}
use Rattle.std.proofs.lemmas.List.Sums.{count_by-le-length}
use Rattle.desk_model.specs.Completion.{picked_value, with_picked}
use Rattle.desk_model.specs.Mark.{mark_at}
use Rattle.desk_model.specs.Ranking.{IsRanking, is_in}
use Rattle.desk_model.specs.Score.{true_count}
use Rattle.desk_model.specs.declared.types.Mark.{Mark}
use Rattle.desk_model.specs.declared.types.Mark.TheVariants.{Unjudged, Relevant, Other}
use Rattle.desk_model.proofs.Counts.{count_by-weaker}
use Rattle.desk_model.proofs.Completions.{with_picked-Completes}
use Rattle.desk_model.specs.Precisions.{true_ranks}
use Rattle.measure_laws.specs.Parts.{ranked_sum, low_part, high_part, low_out_of, high_out_of}
use Rattle.measure_laws.specs.Candidates.{open_docs, high_truth, low_truth}
use Rattle.measure_laws.proofs.Earliest.{opens, first_gains, last_gains}
use Rattle.measure_laws.proofs.AlongRanking.{lacking, count_parts, ranks_counted, first_along, last_along, opens_along, high_lacks_fewer, low_lacks_more}
use Rattle.topic_ends.specs.Candidates.{along, gains_by, candidate_sum, number_of, out_of}

-- ---- truth values along the ranking
pub gains_first : (ms : List Mark) (t : ℕ) → gains_by true ms t ≡ first_gains ms t
gains_first [] t = refl
gains_first (Relevant ∷ ms) t = let same : t - 0 ≡ t = omega arith in ap (λ (k : ℕ). true ∷ gains_by true ms k) same ∙ ap (λ gs. true ∷ gs) (gains_first ms t)
gains_first (Other ∷ ms) t = let same : t - 0 ≡ t = omega arith in ap (λ (k : ℕ). false ∷ gains_by true ms k) same ∙ ap (λ gs. false ∷ gs) (gains_first ms t)
gains_first (Unjudged ∷ ms) zero = ap (λ gs. false ∷ gs) (gains_first ms zero)
gains_first (Unjudged ∷ ms) (suc t) = let less : suc t - 1 ≡ t = omega arith in ap (λ (k : ℕ). true ∷ gains_by true ms k) less ∙ ap (λ gs. true ∷ gs) (gains_first ms t)

pub gains_last : (ms : List Mark) (s : ℕ) → gains_by false ms s ≡ last_gains ms s
gains_last [] s = refl
gains_last (Relevant ∷ ms) s = let same : s - 0 ≡ s = omega arith in ap (λ (k : ℕ). true ∷ gains_by false ms k) same ∙ ap (λ gs. true ∷ gs) (gains_last ms s)
gains_last (Other ∷ ms) s = let same : s - 0 ≡ s = omega arith in ap (λ (k : ℕ). false ∷ gains_by false ms k) same ∙ ap (λ gs. false ∷ gs) (gains_last ms s)
gains_last (Unjudged ∷ ms) zero = ap (λ gs. true ∷ gs) (gains_last ms zero)
gains_last (Unjudged ∷ ms) (suc s) = let less : suc s - 1 ≡ s = omega arith in ap (λ (k : ℕ). false ∷ gains_by false ms k) less ∙ ap (λ gs. false ∷ gs) (gains_last ms s)

all_gains : (marks : List Mark) (docs : List ℕ) → map (with_picked marks (λ _. true)) docs ≡ last_gains (along marks docs) 0
all_gains marks [] = refl
all_gains marks (d ∷ ds) = by (mark_at marks d) (all_gains marks ds)
  where
    by : (m : Mark) → map (with_picked marks (λ _. true)) ds ≡ last_gains (along marks ds) 0 → (picked_value true m ∷ map (with_picked marks (λ _. true)) ds) ≡ last_gains (m ∷ along marks ds) 0
    by Unjudged h = ap (λ gs. true ∷ gs) h
    by Relevant h = ap (λ gs. true ∷ gs) h
    by Other h = ap (λ gs. false ∷ gs) h

-- ---- how many places are true
first_counted : (n : ℕ) (ms : List Mark) (t : ℕ) → t ≤ opens ms → length (true_ranks n (first_gains ms t)) ≡ length (true_ranks n (first_gains ms 0)) + t
first_counted n [] t h = omega (arith, h)
first_counted n (Relevant ∷ ms) t h = omega (arith, first_counted (n + 1) ms t h)
first_counted n (Other ∷ ms) t h = first_counted (n + 1) ms t h
first_counted n (Unjudged ∷ ms) zero h = omega arith
first_counted n (Unjudged ∷ ms) (suc t) h = omega (arith, first_counted (n + 1) ms t (omega (arith, h)))

last_counted : (n : ℕ) (ms : List Mark) (s : ℕ) → s ≤ opens ms → length (true_ranks n (last_gains ms s)) + s ≡ length (true_ranks n (last_gains ms 0))
last_counted n [] s h = omega (arith, h)
last_counted n (Relevant ∷ ms) s h = omega (arith, last_counted (n + 1) ms s h)
last_counted n (Other ∷ ms) s h = last_counted (n + 1) ms s h
last_counted n (Unjudged ∷ ms) zero h = omega arith
last_counted n (Unjudged ∷ ms) (suc s) h = omega (arith, last_counted (n + 1) ms s (omega (arith, h)))

-- ---- the documents that the ranking lacks
picked_most : (b : Bool) (m : Mark) → picked_value b m ≡ true → picked_value true m ≡ true
picked_most b Unjudged h = refl
picked_most b Relevant h = refl
picked_most b Other h = h

and_more : (b c d : Bool) → (b ≡ true → c ≡ true) → (b && d) ≡ true → (c && d) ≡ true
and_more true c d f h = ap (λ v. v && d) (f refl) ∙ h
and_more false c d f h = absurd (cc)

every : (P : ℕ → Type 0) → ((d : ℕ) → P d) → (ds : List ℕ) → AllByRecursion P ds
every P f [] = tt
every P f (d ∷ ds) = (f d, every P f ds)

lacks_most : (marks : List Mark) (docs : List ℕ) (pick : ℕ → Bool) → lacking (with_picked marks pick) (length marks) docs ≤ lacking (with_picked marks (λ _. true)) (length marks) docs
lacks_most marks docs pick =
    count_by-weaker (λ d. with_picked marks pick d && not (is_in docs d)) (λ d. with_picked marks (λ _. true) d && not (is_in docs d)) (range_with_len 0 (length marks))
    (every _ (λ d. and_more (with_picked marks pick d) (with_picked marks (λ _. true) d) (not (is_in docs d)) (picked_most (pick d) (mark_at marks d))) (range_with_len 0 (length marks)))

-- ---- how many documents are true
pub high_counted : (marks : List Mark) (docs : List ℕ) (t : ℕ) → IsRanking (length marks) docs → t ≤ length (open_docs marks docs) →
    true_count (high_truth marks docs t) (length marks) ≡ true_count (with_picked marks (λ _. false)) (length marks) + t
high_counted marks docs t r h =
    let none = high_truth marks docs 0 in
    let some = high_truth marks docs t in
    let few : t ≤ opens (along marks docs) = omega (arith, h, opens_along marks docs) in
    let ranks : (k : ℕ) → length (true_ranks 1 (map (high_truth marks docs k) docs)) ≡ length (true_ranks 1 (first_gains (along marks docs) k)) = λ k. ap (λ gs. length (true_ranks 1 gs)) (first_along marks docs r.distinct k) in
    omega (
      arith,
      count_parts some (length marks) docs r,
      count_parts none (length marks) docs r,
      ranks_counted 1 some docs,
      ranks_counted 1 none docs,
      ranks t,
      ranks 0,
      first_counted 1 (along marks docs) t few,
      high_lacks_fewer marks docs t none (with_picked-Completes marks _),
      high_lacks_fewer marks docs 0 some (with_picked-Completes marks _),
    )

pub low_counted : (marks : List Mark) (docs : List ℕ) (s : ℕ) → IsRanking (length marks) docs → s ≤ length (open_docs marks docs) →
    true_count (low_truth marks docs (length (open_docs marks docs) - s)) (length marks) + s ≡ true_count (with_picked marks (λ _. true)) (length marks)
low_counted marks docs s r h =
    let u = length (open_docs marks docs) in
    let all = with_picked marks (λ _. true) in
    let some = low_truth marks docs (u - s) in
    let few : s ≤ opens (along marks docs) = omega (arith, h, opens_along marks docs) in
    let back : u - (u - s) ≡ s = omega (arith, h) in
    let ranks : length (true_ranks 1 (map some docs)) ≡ length (true_ranks 1 (last_gains (along marks docs) s)) = ap (λ gs. length (true_ranks 1 gs)) (last_along marks docs r.distinct (u - s) ∙ ap (last_gains (along marks docs)) back) in
    let whole : length (true_ranks 1 (map all docs)) ≡ length (true_ranks 1 (last_gains (along marks docs) 0)) = ap (λ gs. length (true_ranks 1 gs)) (all_gains marks docs) in
    omega (
      arith,
      count_parts some (length marks) docs r,
      count_parts all (length marks) docs r,
      ranks_counted 1 some docs,
      ranks_counted 1 all docs,
      ranks,
      whole,
      last_counted 1 (along marks docs) s few,
      low_lacks_more marks docs (u - s) all (with_picked-Completes marks _),
      lacks_most marks docs (λ doc. is_in (drop (u - (u - s)) (open_docs marks docs)) doc || not (is_in docs doc)),
    )

-- ---- the number of a candidate by its sum
pub high_number : (marks : List Mark) (docs : List ℕ) (t : ℕ) → IsRanking (length marks) docs → t ≤ length (open_docs marks docs) →
    number_of true marks docs t ≡ out_of true (candidate_sum true (along marks docs) t) (true_count (with_picked marks (λ _. false)) (length marks) + t)
high_number marks docs t r h =
    ap (λ gs. high_out_of (ranked_sum high_part 1 (true_ranks 1 gs)) (true_count (high_truth marks docs t) (length marks))) (first_along marks docs r.distinct t ∙ sym (gains_first (along marks docs) t))
    ∙ ap (λ (n : ℕ). high_out_of (candidate_sum true (along marks docs) t) n) (high_counted marks docs t r h)

pub low_number : (marks : List Mark) (docs : List ℕ) (s : ℕ) → IsRanking (length marks) docs → s ≤ length (open_docs marks docs) →
    number_of false marks docs s ≡ out_of false (candidate_sum false (along marks docs) s) (true_count (with_picked marks (λ _. true)) (length marks) - s)
low_number marks docs s r h =
    let u = length (open_docs marks docs) in
    let back : u - (u - s) ≡ s = omega (arith, h) in
    let few : true_count (low_truth marks docs (u - s)) (length marks) ≡ true_count (with_picked marks (λ _. true)) (length marks) - s = omega (arith, low_counted marks docs s r h) in
    ap (λ gs. low_out_of (ranked_sum low_part 1 (true_ranks 1 gs)) (true_count (low_truth marks docs (u - s)) (length marks))) (last_along marks docs r.distinct (u - s) ∙ ap (last_gains (along marks docs)) back ∙ sym (gains_last (along marks docs) s))
    ∙ ap (λ (n : ℕ). low_out_of (candidate_sum false (along marks docs) s) n) few

pub count_few : (n : ℕ) (truth : ℕ → Bool) → true_count truth n ≤ n
count_few n truth = omega (arith, count_by-le-length truth (range_with_len 0 n), length-range_with_len 0 n)
