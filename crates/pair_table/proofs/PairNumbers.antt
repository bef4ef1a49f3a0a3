-- The pairs of the numbers of runs: how many there are, and which number each has.
use Rattle.std.proofs.Common.{◌≡◌, ℕ, zero, suc, ◌+◌, ◌-◌, ◌*◌, ◌/◌, ◌<◌, List, [], ◌∷◌, ◌++◌, length, map, Some, refl, ap, sym, ◌∙◌, arith}
use Rattle.std.specs.Prelude.{slice_get}
use Rattle.std.specs.List.{range_with_len}
use Rattle.std.specs.Option.{option_map}
use Rattle.std.proofs.lemmas.Option.{slice_get-map}
use Rattle.std.proofs.lemmas.List.{length-map}
use Rattle.std.proofs.lemmas.List.FromFn.{length-range_with_len}
use Rattle.small_lemmas.proofs.Lists.{slice_get-append, slice_get-append_past}
use Rattle.desk_model.specs.Desk.{pair_count}
use Rattle.desk_model.specs.Pairs.{pairs_of}
use Rattle.measure_core.proofs.RunPairs.{numbered}
use Rattle.pair_table.specs.Sums.{run_numbers}

-- ---- how many pairs there are
length-joined : {X : Type 0} (xs ys : List X) → length (xs ++ ys) ≡ length xs + length ys
length-joined [] ys = omega arith
length-joined (x ∷ xs) ys = let rest = length-joined xs ys in omega (arith, rest)

length-first : (start n : ℕ) → length {A = ℕ × ℕ} (map (λ (y : ℕ). (start, y)) (range_with_len (start + 1) n)) ≡ n
length-first start n = length-map (range_with_len (start + 1) n) (λ (y : ℕ). (start, y)) ∙ length-range_with_len (start + 1) n

length-more : (start n : ℕ) → length (pairs_of (range_with_len start (suc n))) ≡ n + length (pairs_of (range_with_len (start + 1) n))
length-more start n =
    length-joined (map (λ (y : ℕ). (start, y)) (range_with_len (start + 1) n)) (pairs_of (range_with_len (start + 1) n))
    ∙ ap (λ (m : ℕ). m + length (pairs_of (range_with_len (start + 1) n))) (length-first start n)

twice : (start n : ℕ) → length (pairs_of (range_with_len start (suc n))) * 2 ≡ suc n * n
twice start zero = refl
twice start (suc n) =
    let rest : length (pairs_of (range_with_len (start + 1) (suc n))) * 2 ≡ suc n * n = twice (start + 1) n in
    let more : length (pairs_of (range_with_len start (suc (suc n)))) ≡ suc n + length (pairs_of (range_with_len (start + 1) (suc n))) = length-more start (suc n) in
    let product : suc (suc n) * suc n ≡ suc n * n + 2 * suc n = omega arith in
    omega (arith, rest, more, product)

half : (m n : ℕ) → m * 2 ≡ n → n / 2 ≡ m
half m n h = omega (arith, h)

pub length-pairs : (n : ℕ) → length (pairs_of (run_numbers n)) ≡ pair_count n
length-pairs zero = refl
length-pairs (suc n) = let less : suc n - 1 ≡ n = omega arith in sym (ap (λ (m : ℕ). suc n * m / 2) less ∙ half (length (pairs_of (run_numbers (suc n)))) (suc n * n) (twice 0 n))

-- as many as there are of any list of that length
pub length-pairs_of : {X : Type 0} (xs : List X) (start : ℕ) → length (pairs_of (range_with_len start (length xs))) ≡ length (pairs_of xs)
length-pairs_of [] start = refl
length-pairs_of {X = X} (x ∷ xs) start =
    let rest : length (pairs_of (range_with_len (start + 1) (length xs))) ≡ length (pairs_of xs) = length-pairs_of xs (start + 1) in
    let first : length {A = X × X} (map (λ y. (x, y)) xs) ≡ length xs = length-map xs (λ y. (x, y)) in
    let joined = length-joined (map (λ y. (x, y)) xs) (pairs_of xs) in
    let more = length-more start (length xs) in
    omega (arith, rest, first, joined, more)

-- ---- the number of a pair
-- the pairs of the runs before one
before : ℕ → ℕ → ℕ
before n zero = 0
before zero (suc i) = 0
before (suc n) (suc i) = n + before n i

pair_there : (start n i gap : ℕ) → i + gap + 1 < n → slice_get (pairs_of (range_with_len start n)) (before n i + gap) ≡ Some (start + i, start + i + gap + 1)
unfolding before
pair_there start zero i gap h = absurd (omega arith)
pair_there start (suc n) zero gap h =
    let place : 0 + gap ≡ gap = omega arith in
    let first : start ≡ start + zero = omega arith in
    let second : start + 1 + gap ≡ start + zero + gap + 1 = omega arith in
    ap (slice_get (pairs_of (range_with_len start (suc n)))) place
    ∙ slice_get-append (map (λ (y : ℕ). (start, y)) (range_with_len (start + 1) n)) (pairs_of (range_with_len (start + 1) n)) gap (start, start + 1 + gap)
    (slice_get-map (λ (y : ℕ). (start, y)) (range_with_len (start + 1) n) gap ∙ ap (option_map (λ (y : ℕ). (start, y))) (numbered (start + 1) n gap (omega (arith, h))))
    ∙ ap (λ (m : ℕ). Some (m, start + 1 + gap)) first ∙ ap (λ (m : ℕ). Some (start + zero, m)) second
pair_there start (suc n) (suc i) gap h =
    let row : List (ℕ × ℕ) = map (λ (y : ℕ). (start, y)) (range_with_len (start + 1) n) in
    let rest : List (ℕ × ℕ) = pairs_of (range_with_len (start + 1) n) in
    let long : length row ≡ n = length-first start n in
    let place : n + before n i + gap ≡ length row + (before n i + gap) = omega (arith, long) in
    let first : start + 1 + i ≡ start + suc i = omega arith in
    let second : start + 1 + i + gap + 1 ≡ start + suc i + gap + 1 = omega arith in
    ap (slice_get (row ++ rest)) place ∙ slice_get-append_past row rest (before n i + gap) ∙ pair_there (start + 1) n i gap (omega (arith, h))
    ∙ ap (λ (m : ℕ). Some (m, start + 1 + i + gap + 1)) first ∙ ap (λ (m : ℕ). Some (start + suc i, m)) second

before_twice : (i rest : ℕ) → before (i + suc rest) i * 2 ≡ i * (i + 2 * rest + 1)
unfolding before
before_twice zero rest = omega arith
before_twice (suc i) rest =
    let earlier : before (i + suc rest) i * 2 ≡ i * (i + 2 * rest + 1) = before_twice i rest in
    let shift : suc i + suc rest ≡ suc (i + suc rest) = omega arith in
    let sum : before (suc i + suc rest) (suc i) ≡ i + suc rest + before (i + suc rest) i = ap (λ (m : ℕ). before m (suc i)) shift in
    let product : suc i * (suc i + 2 * rest + 1) ≡ i * (i + 2 * rest + 1) + 2 * (i + suc rest) = omega arith in
    omega (arith, earlier, sum, product)

-- the number of a pair, by the formula
pub pair_numbered : (n i j : ℕ) → i < j → j < n → slice_get (pairs_of (run_numbers n)) (i * (2 * n - i - 1) / 2 + (j - i - 1)) ≡ Some (i, j)
pair_numbered n i j order within =
    let rest : ℕ = n - i - 1 in
    let whole : n ≡ i + suc rest = omega (arith, order, within) in
    let factor : 2 * n - i - 1 ≡ i + 2 * rest + 1 = omega (arith, order, within) in
    let row : i * (2 * n - i - 1) / 2 ≡ before n i =
    ap (λ (m : ℕ). i * m / 2) factor ∙ half (before (i + suc rest) i) (i * (i + 2 * rest + 1)) (before_twice i rest) ∙ ap (λ (m : ℕ). before m i) (sym whole) in
    let gap : ℕ = j - i - 1 in
    let first : 0 + i ≡ i = omega arith in
    let second : 0 + i + gap + 1 ≡ j = omega (arith, order) in
    ap (λ (m : ℕ). slice_get (pairs_of (run_numbers n)) (m + gap)) row ∙ pair_there 0 n i gap (omega (arith, order, within))
    ∙ ap (λ (m : ℕ). Some (m, 0 + i + gap + 1)) first ∙ ap (λ (m : ℕ). Some (i, m)) second
