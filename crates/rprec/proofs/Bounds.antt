-- What bounds the greedy choices of some blocks of depths.
use Rattle.std.proofs.Common.{◌≡◌, ℕ, zero, suc, ◌+◌, ◌-◌, ◌*◌, ◌/◌, ◌<◌, ◌≤◌, min, max, Bool, true, false, List, length, take, count_by, slice_index_or, arith, ap, sym, subst, inl, inr}
use Rattle.std.proofs.Math.Nat.{mul-le-mul_right}
use Rattle.std.proofs.lemmas.Bool.{cases_lt, lt-ltb, ltb-true}
use Rattle.std.proofs.lemmas.List.{length-take}
use Rattle.desk_model.specs.Completion.{with_picked}
use Rattle.desk_model.specs.Mark.{is_unjudged, mark_at}
use Rattle.measure_laws.proofs.Scores.{among_count}
use Rattle.rprec.specs.declared.greedy.DepthCandidate.{DepthCandidate}
use Rattle.rprec.specs.declared.pair.RunPair.{RunPair}
use Rattle.rprec.specs.Greedy.{beats}
use Rattle.rprec.specs.Packed.{pack, unpack}
use Rattle.rprec.specs.Sums.{IsPair, choice_at, prefixes, steps_of}
use Rattle.rprec.proofs.Counts.{all_few, count_more, count_rises, sum_rises}
use Rattle.rprec.proofs.Pairs.{first_counts, first_few, second_counts, second_few, shared_count}

-- ---- a candidate between two others
-- where the second sum grows with the number, the test at a low number tells of each higher one
rising : (x d f s t lo n f' s' : ℕ) → x * lo + s * t < f * t + (x + d) * lo → lo ≤ n → f ≤ f' → s' ≤ s → x * n + s' * t < f' * t + (x + d) * n
rising x d f s t lo n f' s' h le first second =
    let more : f * t ≤ f' * t = mul-le-mul_right t first in
    let fewer : s' * t ≤ s * t = mul-le-mul_right t second in
    let later : lo * d ≤ n * d = mul-le-mul_right d le in
    omega (arith, h, more, fewer, later)

-- where it falls, the test at a high number tells of each lower one
falling : (y d f s t n hi f' s' : ℕ) → (y + d) * hi + s * t < f * t + y * hi → n ≤ hi → f ≤ f' → s' ≤ s → (y + d) * n + s' * t < f' * t + y * n
falling y d f s t n hi f' s' h le first second =
    let more : f * t ≤ f' * t = mul-le-mul_right t first in
    let fewer : s' * t ≤ s * t = mul-le-mul_right t second in
    let earlier : n * d ≤ hi * d = mul-le-mul_right d le in
    omega (arith, h, more, fewer, earlier)

-- the test at both ends tells of each number between them
between : (x y f s t lo n hi f' s' : ℕ) → x * lo + s * t < f * t + y * lo → x * hi + s * t < f * t + y * hi → lo ≤ n → n ≤ hi → f ≤ f' → s' ≤ s → x * n + s' * t < f' * t + y * n
between x y f s t lo n hi f' s' low high after before first second = elim (cases_lt x y) [
  | inl less ↦
      let whole : x + (y - x) ≡ y = omega (arith, less) in
      subst (λ (k : ℕ). x * n + s' * t < f' * t + k * n) whole (rising x (y - x) f s t lo n f' s' (subst (λ (k : ℕ). x * lo + s * t < f * t + k * lo) (sym whole) low) after first second)
  | inr more ↦
      let whole : y + (x - y) ≡ x = omega (arith, more) in
      subst (λ (k : ℕ). k * n + s' * t < f' * t + y * n) whole (falling y (x - y) f s t n hi f' s' (subst (λ (k : ℕ). k * hi + s * t < f * t + y * hi) (sym whole) high) before first second)
]

-- a candidate that has one fewer of both for each step to a later one
shifted : (x y f s t n k : ℕ) → 0 < n → s ≤ f + n → x * (n + k) + (s + k) * t < f * t + y * (n + k) → x * n + s * t < f * t + y * n
shifted x y f s t n k some le h = elim (cases_lt (x + t) y) [
  | inl less ↦
      let d = y - (x + t + 1) in
      let whole : x + t + 1 + d ≡ y = omega (arith, less) in
      let scaled : s * t ≤ (f + n) * t = mul-le-mul_right t le in
      subst (λ (m : ℕ). x * n + s * t < f * t + m * n) whole (omega (arith, scaled, some))
  | inr more ↦
      let d = x + t - y in
      let whole : (y + d) * k ≡ (x + t) * k = ap (λ (m : ℕ). m * k) (omega (arith, more)) in
      omega (arith, whole, h)
]

-- a bound of the candidates with some numbers of relevant documents: at the low one and at the high one
pub record IsBounded (low high c : DepthCandidate) : Type 0 where
  pub same_first : high.first ≡ low.first
  pub same_second : high.second ≡ low.second
  pub fair : low.second ≤ low.count
  pub first : low.first ≤ c.first
  pub second : c.second ≤ low.second
  pub some : 0 < c.count
  pub before : c.count ≤ high.count
  pub fewer : c.count ≤ low.count → c.second + low.count ≤ low.second + c.count

-- what beats both ends of a bound beats each candidate that it bounds
pub beats_bounded : (best low high c : DepthCandidate) → beats best low ≡ true → beats best high ≡ true → IsBounded low high c → beats best c ≡ true
beats_bounded best low high c under over h =
    let t = max 1 best.count in
    let n = max 1 c.count in
    let lo = max 1 low.count in
    let hi = max 1 high.count in
    let x = best.first in
    let y = best.second in
    let at_low : x * lo + low.second * t < low.first * t + y * lo = ltb-true (x * lo + low.second * t) (low.first * t + y * lo) under in
    let at_high : x * hi + high.second * t < high.first * t + y * hi = ltb-true (x * hi + high.second * t) (high.first * t + y * hi) over in
    let at_end : x * hi + low.second * t < low.first * t + y * hi = subst (λ (k : ℕ). x * hi + low.second * t < k * t + y * hi) h.same_first (subst (λ (k : ℕ). x * hi + k * t < high.first * t + y * hi) h.same_second at_high) in
    lt-ltb (x * n + c.second * t) (c.first * t + y * n) (elim (cases_lt c.count low.count) [
      | inl less ↦
          let k = low.count - c.count in
          let fewer : c.second + k ≤ low.second = omega (arith, h.fewer (omega (arith, less)), less) in
          let s = low.second - k in
          let back : s + k ≡ low.second = omega (arith, fewer) in
          let there : n + k ≡ lo = omega (arith, less, h.some) in
          let here : x * (n + k) + (s + k) * t < low.first * t + y * (n + k) = subst (λ (m : ℕ). x * m + (s + k) * t < low.first * t + y * m) (sym there) (subst (λ (m : ℕ). x * lo + m * t < low.first * t + y * lo) (sym back) at_low) in
          let moved : x * n + s * t < low.first * t + y * n = shifted x y low.first s t n k (omega arith) (omega (arith, h.fair, back, less)) here in
          between x y low.first s t n n n c.first c.second moved moved (omega arith) (omega arith) h.first (omega (arith, fewer))
      | inr more ↦ between x y low.first low.second t lo n hi c.first c.second at_low at_end (omega (arith, more)) (omega (arith, h.before)) h.first h.second
    ])

-- ---- the choices of some blocks
-- a list has at most one more document of a kind at each next depth
count_steps : (q : ℕ → Bool) (xs : List ℕ) (m k : ℕ) → count_by q (take (m + k) xs) ≤ count_by q (take m xs) + k
count_steps q xs m zero = let none : m + 0 ≡ m = omega arith in omega (arith, ap (λ (n : ℕ). count_by q (take n xs)) none)
count_steps q xs m (suc k) =
    let next : m + suc k ≡ m + k + 1 = omega arith in
    omega (arith, ap (λ (n : ℕ). count_by q (take n xs)) next, count_more q xs (m + k), count_steps q xs m k)

-- what the sums say of some blocks, at their start and their end
pub record AreEnds (p : RunPair) (start end : ℕ) : Type 0 where
  pub within : 10 * start ≤ 10000
  pub short : 10 * end ≤ 10000
  pub first : slice_index_or p.first.now.numbers start 0 ≡ pack (first_counts p (10 * start))
  pub begun : slice_index_or p.second.now.numbers start 0 ≡ pack (second_counts p (10 * start))
  pub ended : slice_index_or p.second.now.numbers end 0 ≡ pack (second_counts p (10 * end))
  pub both : slice_index_or p.both.now start 0 ≡ shared_count p (10 * start)
  pub some : shared_count p (10 * start) ≤ (second_counts p (10 * start)).unjudged
  pub later : (second_counts p (10 * start)).unjudged ≤ (second_counts p (10 * end)).unjudged

-- they are those of the runs
pub ends_are : (p : RunPair) (start end : ℕ) → IsPair p → 10 * start ≤ p.longest → start ≤ end → 10 * end ≤ 10000 → AreEnds p start end
ends_are p start end h low order high = record {
  within = omega (arith, low, h.few);
  short = high;
  first = h.first.each start (omega (arith, low, h.few));
  begun = h.second.each start (omega (arith, low, h.few));
  ended = h.second.each end (omega (arith, high));
  both = h.both.each start low;
  some = omega (arith, h.shared.second (10 * start) (omega (arith, low, h.few)));
  later = count_rises (λ d. is_unjudged (mark_at p.marks.now d)) p.b.now (10 * start) (10 * end) (omega (arith, order));
}

-- at the blocks in which some depths begin and end
pub ends_at : (p : RunPair) (chosen next : ℕ) → IsPair p → chosen < next → next ≤ steps_of p → AreEnds p ((p.all.relevant + chosen) / 10) ((p.all.relevant + next - 1) / 10 + 1)
ends_at p chosen next h order high = ends_are p ((p.all.relevant + chosen) / 10) ((p.all.relevant + next - 1) / 10 + 1) h (omega (arith, order, high)) (omega (arith, order)) (omega (arith, order, high, h.few))

-- the counts in them
pub record AreEndCounts (p : RunPair) (start end : ℕ) : Type 0 where
  pub first : (unpack (slice_index_or p.first.now.numbers start 0)).relevant ≡ (first_counts p (10 * start)).relevant
  pub begun : (unpack (slice_index_or p.second.now.numbers start 0 - slice_index_or p.both.now start 0)).unjudged ≡ (second_counts p (10 * start)).unjudged - shared_count p (10 * start)
  pub second : (unpack (slice_index_or p.second.now.numbers end 0 - slice_index_or p.both.now start 0)).relevant ≡ (second_counts p (10 * end)).relevant
  pub ended : (unpack (slice_index_or p.second.now.numbers end 0 - slice_index_or p.both.now start 0)).unjudged ≡ (second_counts p (10 * end)).unjudged - shared_count p (10 * start)

-- each number holds them
pub end_counts : (p : RunPair) (start end : ℕ) → IsPair p → AreEnds p start end → AreEndCounts p start end
end_counts p start end h b =
    let one = first_few p (10 * start) h in
    let two = second_few p (10 * start) h in
    let three = second_few p (10 * end) h in
    record {
      first = omega (arith, b.first, one);
      begun = omega (arith, b.begun, b.both, b.some, two);
      second = omega (arith, b.ended, b.both, b.some, b.later, three);
      ended = omega (arith, b.ended, b.both, b.some, b.later, three);
    }

-- no run has more documents at a depth
pub begun_few : (p : RunPair) (start : ℕ) → (second_counts p (10 * start)).unjudged ≤ 10 * start
begun_few p start = omega (arith, all_few p.marks.now (take (10 * start) p.b.now), length-take {A = ℕ} (10 * start) p.b.now)

-- no run has more relevant documents than the topic
relevant_few : (p : RunPair) (depth : ℕ) → IsPair p → (second_counts p depth).relevant ≤ p.all.relevant
relevant_few p depth h = omega (arith, h.topic.relevant, among_count (with_picked p.marks.now (λ _. false)) depth (length p.marks.now) p.b.now h.b)

-- the bound of the choices between two blocks' ends
pub choice_bounded : (p : RunPair) (start end place next first begun second ended : ℕ) (low high : DepthCandidate) → IsPair p → AreEnds p start end → place < next → 10 * start ≤ p.all.relevant + place → p.all.relevant + next ≤ 10 * end →
    first ≡ (first_counts p (10 * start)).relevant → begun ≡ (second_counts p (10 * start)).unjudged - shared_count p (10 * start) → second ≡ (second_counts p (10 * end)).relevant → ended ≡ (second_counts p (10 * end)).unjudged - shared_count p (10 * start) →
    high ≡ record { count = p.all.relevant + next; first = first; second = second + min ended next } → low ≡ record { count = min (p.all.relevant + next) (min ended next + max p.all.relevant (10 * start - begun)); first = first; second = second + min ended next } →
    IsBounded low high (choice_at p place)
choice_bounded p start end place next first begun second ended low high h b lt after before ef eb es ee eh el = record {
  same_first = omega (arith, ap (λ (x : DepthCandidate). x.first) eh, ap (λ (x : DepthCandidate). x.first) el);
  same_second = omega (arith, ap (λ (x : DepthCandidate). x.second) eh, ap (λ (x : DepthCandidate). x.second) el);
  fair = omega (arith, ap (λ (x : DepthCandidate). x.second) el, ap (λ (x : DepthCandidate). x.count) el, relevant_few p (10 * end) h, es);
  first = omega (arith, ap (λ (x : DepthCandidate). x.first) el, ef, relevant);
  second = omega (arith, ap (λ (x : DepthCandidate). x.second) el, es, ee, lt, more, all, shared, own);
  some = omega arith;
  before = omega (arith, ap (λ (x : DepthCandidate). x.count) eh, lt);
  fewer = λ le. omega (arith, ap (λ (x : DepthCandidate). x.second) el, ap (λ (x : DepthCandidate). x.count) el, es, ee, eb, lt, more, all, shared, own, steps, b.some, begun_few p start);
}
  where
    depth : ℕ
    depth = p.all.relevant + (place + 1)

    relevant : (first_counts p (10 * start)).relevant ≤ (first_counts p depth).relevant
    relevant = count_rises (with_picked p.marks.now (λ _. false)) p.a.now (10 * start) depth (omega (arith, after))

    more : (second_counts p depth).relevant ≤ (second_counts p (10 * end)).relevant
    more = count_rises (with_picked p.marks.now (λ _. false)) p.b.now depth (10 * end) (omega (arith, before, lt))

    all : (second_counts p depth).unjudged ≤ (second_counts p (10 * end)).unjudged
    all = count_rises (λ d. is_unjudged (mark_at p.marks.now d)) p.b.now depth (10 * end) (omega (arith, before, lt))

    shared : shared_count p (10 * start) ≤ shared_count p depth
    shared = sum_rises p.shared.now (10 * start) depth (omega (arith, after))

    own : (prefixes p depth).second.unjudged + shared_count p depth ≡ (second_counts p depth).unjudged
    own = h.shared.second depth (omega (arith, before, lt, b.short))

    steps : (second_counts p depth).unjudged ≤ (second_counts p (10 * start)).unjudged + (depth - 10 * start)
    steps =
        let whole : 10 * start + (depth - 10 * start) ≡ depth = omega (arith, after) in
        subst (λ (n : ℕ). (second_counts p n).unjudged ≤ (second_counts p (10 * start)).unjudged + (depth - 10 * start)) whole (count_steps (λ d. is_unjudged (mark_at p.marks.now d)) p.b.now (10 * start) (depth - 10 * start))
