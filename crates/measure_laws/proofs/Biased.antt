-- Sums of rank-biased precision over any tail, and over a tail of 10^24 relevant places.
use Rattle.std.proofs.Common.{◌≡◌, ℕ, zero, suc, ◌+◌, ◌-◌, ◌*◌, ◌/◌, ◌^◌, ◌<◌, ◌≤◌, Bool, true, false, List, [], ◌∷◌, ◌++◌, length, replicate, All, arith, refl, ap, ◌∙◌}
use Rattle.std.specs.Prelude.{if◌then◌else◌}
use Rattle.std.proofs.Math.Nat.{mul-le-mul_left, mul-le-mul_right, mul-le-mul, pow-suc, pow-le-pow_left, pow-zero, one-le-pow}
use Rattle.std.proofs.lemmas.List.Elements.{All-replicate, All-head, All-tail}
use Rattle.std.proofs.lemmas.List.{length-replicate}
use Rattle.desk_model.specs.Score.{gained}
use Rattle.measure_laws.specs.Cases.{IsLongTail, HasLeastTails}
use Rattle.measure_laws.specs.Powers.{ceil_div, low_power, high_power}
use Rattle.std.proofs.lemmas.Nat.{pow-add}
use Rattle.desk_model.specs.declared.types.MeasureName.{MeasureName}
use Rattle.desk_model.specs.declared.types.MeasureName.TheVariants.{Precision, Recall, RPrecision, Reciprocal, Biased as MeasureBiased, AveragePrecision}

-- Bernoulli's inequality, where the base grows from a to a + c
pub bernoulli : (a c m : ℕ) → a ^ m * (a + c + m * c) ≤ (a + c) ^ suc m
bernoulli a c zero = rw (pow-suc (a + c) 0, pow-zero a, pow-zero (a + c)) (omega arith)
bernoulli a c (suc m) =
    let grown : a ^ suc m ≤ (a + c) ^ suc m = pow-le-pow_left (omega arith) (suc m) in
    omega (arith, pow-suc a m, pow-suc (a + c) (suc m), mul-le-mul_left a (bernoulli a c m), mul-le-mul_left c grown, ap (λ s. s * (a + c + suc m * c)) (pow-suc a m), ap (λ s. s * c) (pow-suc a m))

-- after 10^24 places next to nothing is left. The number is a variable with an equation, so that it is never counted up
pub little_left : (a c n : ℕ) → n ≡ 10 ^ 24 → 0 < a → 0 < c → a + c ≤ 1000000 → 10 ^ 18 * a ^ n < (a + c) ^ n
little_left a c n e pa pc le =
    let some : 1 ≤ a ^ n = one-le-pow n a pa in
    let more : a ^ n * n ≤ a ^ n * (n * c) = mul-le-mul_left (a ^ n) (omega (arith, mul-le-mul_left n pc)) in
    let all : (a + c) ^ n * (a + c) ≤ (a + c) ^ n * 1000000 = mul-le-mul_left ((a + c) ^ n) le in
    let count : a ^ n * n ≡ a ^ n * 10 ^ 24 = ap (λ s. a ^ n * s) e in
    let base : a ^ n * 1 ≤ a ^ n * (a + c) = mul-le-mul_left (a ^ n) (omega arith) in
    omega (arith, bernoulli a c n, pow-suc (a + c) n, some, more, all, count, base)

-- what a rank is worth out of m places
abbrev pub worth : ℕ → ℕ → ℕ → ℕ → ℕ
worth a b m rank = a ^ (rank - 1) * b ^ (m - rank)

taken_most : (g : Bool) (w : ℕ) → (if g then w else 0) ≤ w
taken_most true w = omega arith
taken_most false w = omega arith

-- the worth of the rank after s others, with j after it
worth_here : (a b m s j : ℕ) → m ≡ s + suc j → worth a b m (s + 1) ≡ a ^ s * b ^ j
worth_here a b m s j e =
    let low : s + 1 - 1 ≡ s = omega arith in
    let high : m - (s + 1) ≡ j = omega arith in
    ap (λ n. a ^ n * b ^ (m - (s + 1))) low ∙ ap (λ n. a ^ s * b ^ n) high

-- whatever the gains from a rank on, they and the rest after them are at most what is left there
pub gained_most : (a c m s k : ℕ) (gains : List Bool) → k ≡ length gains → m ≡ s + k → c * gained (worth a (a + c) m) (s + 1) gains + a ^ m ≤ a ^ s * (a + c) ^ k
gained_most a c m s k [] ek em =
    let same : m ≡ s = omega arith in
    let one : (a + c) ^ k ≡ 1 = ap (λ n. (a + c) ^ n) ek ∙ pow-zero (a + c) in
    omega (arith, ap (λ n. a ^ n) same, ap (λ n. a ^ s * n) one)
gained_most a c m s k (g ∷ gains) ek em =
    let j = length gains in
    let later = gained_most a c m (s + 1) j gains refl (omega arith) in
    let here : worth a (a + c) m (s + 1) ≡ a ^ s * (a + c) ^ j = worth_here a (a + c) m s j (omega arith) in
    let first = mul-le-mul_left c (taken_most g (worth a (a + c) m (s + 1))) in
    let next : a ^ (s + 1) * (a + c) ^ j ≡ (a ^ s * a) * (a + c) ^ j = ap (λ n. n * (a + c) ^ j) (ap (λ n. a ^ n) (omega arith) ∙ pow-suc a s) in
    let whole : a ^ s * (a + c) ^ k ≡ a ^ s * ((a + c) ^ j * (a + c)) = ap (λ n. a ^ s * n) (ap (λ n. (a + c) ^ n) ek ∙ pow-suc (a + c) j) in
    omega (arith, later, first, ap (λ n. c * n) here, next, whole)

-- and where each of them gains, exactly that
pub gained_all : (a c m s k : ℕ) (gains : List Bool) → All (λ gain. gain ≡ true) gains → k ≡ length gains → m ≡ s + k → c * gained (worth a (a + c) m) (s + 1) gains + a ^ m ≡ a ^ s * (a + c) ^ k
gained_all a c m s k [] all ek em =
    let same : m ≡ s = omega arith in
    let one : (a + c) ^ k ≡ 1 = ap (λ n. (a + c) ^ n) ek ∙ pow-zero (a + c) in
    omega (arith, ap (λ n. a ^ n) same, ap (λ n. a ^ s * n) one)
gained_all a c m s k (g ∷ gains) all ek em =
    let j = length gains in
    let later = gained_all a c m (s + 1) j gains (All-tail (λ gain. gain ≡ true) g gains all) refl (omega arith) in
    let here : worth a (a + c) m (s + 1) ≡ a ^ s * (a + c) ^ j = worth_here a (a + c) m s j (omega arith) in
    let first : (if g then worth a (a + c) m (s + 1) else 0) ≡ worth a (a + c) m (s + 1) = ap (λ (b : Bool). if b then worth a (a + c) m (s + 1) else 0) (All-head (λ gain. gain ≡ true) g gains all) in
    let next : a ^ (s + 1) * (a + c) ^ j ≡ (a ^ s * a) * (a + c) ^ j = ap (λ n. n * (a + c) ^ j) (ap (λ n. a ^ n) (omega arith) ∙ pow-suc a s) in
    let whole : a ^ s * (a + c) ^ k ≡ a ^ s * ((a + c) ^ j * (a + c)) = ap (λ n. a ^ s * n) (ap (λ n. (a + c) ^ n) ek ∙ pow-suc (a + c) j) in
    omega (arith, later, ap (λ n. c * n) first, ap (λ n. c * n) here, next, whole)

-- the gains of a prefix and of what follows it
pub gained-append : (w : ℕ → ℕ) (r : ℕ) (prefix rest : List Bool) → gained w r (prefix ++ rest) ≡ gained w r prefix + gained w (r + length prefix) rest
gained-append w r [] rest = let none : r ≡ r + 0 = omega arith in omega (arith, ap (λ n. gained w n rest) none)
gained-append w r (g ∷ prefix) rest =
    omega (arith, gained-append w (r + 1) prefix rest, ap (λ n. gained w n rest) (shift r (length prefix)))
  where
    shift : (x n : ℕ) → x + 1 + n ≡ x + suc n
    shift x n = omega arith

-- a tail adds nothing below 0, and at most what is left after the prefix
pub tail_adds : (a c n k m : ℕ) (prefix tail : List Bool) → n ≡ length prefix → k ≡ length tail → m ≡ n + k →
    (c * gained (worth a (a + c) m) 1 prefix ≤ c * gained (worth a (a + c) m) 1 (prefix ++ tail)) ×
    (c * gained (worth a (a + c) m) 1 (prefix ++ tail) + a ^ m ≤ c * gained (worth a (a + c) m) 1 prefix + a ^ n * (a + c) ^ k)
tail_adds a c n k m prefix tail en ek em =
    let split = gained-append (worth a (a + c) m) 1 prefix tail in
    let place : gained (worth a (a + c) m) (1 + length prefix) tail ≡ gained (worth a (a + c) m) (n + 1) tail = ap (λ r. gained (worth a (a + c) m) r tail) (omega arith) in
    let scaled = ap (λ s. c * s) split in
    let moved = ap (λ s. c * s) place in
    (omega (arith, scaled), omega (arith, scaled, moved, gained_most a c m n k tail ek em))

-- a tail of relevant places adds exactly that
pub full_tail_adds : (a c n k m : ℕ) (prefix tail : List Bool) → All (λ gain. gain ≡ true) tail → n ≡ length prefix → k ≡ length tail → m ≡ n + k →
    c * gained (worth a (a + c) m) 1 (prefix ++ tail) + a ^ m ≡ c * gained (worth a (a + c) m) 1 prefix + a ^ n * (a + c) ^ k
full_tail_adds a c n k m prefix tail all en ek em =
    let split = gained-append (worth a (a + c) m) 1 prefix tail in
    let place : gained (worth a (a + c) m) (1 + length prefix) tail ≡ gained (worth a (a + c) m) (n + 1) tail = ap (λ r. gained (worth a (a + c) m) r tail) (omega arith) in
    omega (arith, ap (λ s. c * s) split, ap (λ s. c * s) place, gained_all a c m n k tail all ek em)

-- there is a list of n true values, for every n
pub long_list : (n : ℕ) → (tail : List Bool) × All (λ gain. gain ≡ true) tail × (length tail ≡ n)
long_list n = (replicate n true, All-replicate (λ gain. gain ≡ true) n true refl, length-replicate n true)

pub long_tail : (tail : List Bool) × IsLongTail tail
long_tail = let some = long_list (10 ^ 24) in (some.0, record { relevant = some.1; length_is = some.2 })

-- ---- the kept powers
pub ceil_div-le : (n d : ℕ) → 0 < d → n ≤ ceil_div n d * d
ceil_div-le n d h = omega (arith, h)

pub div-mul-le : (n d : ℕ) → n / d * d ≤ n
div-mul-le n d = omega arith

turn : (x y z : ℕ) → x * (y * z) ≡ x * z * y
turn x y z = omega arith

pub low_power-le : (a b i : ℕ) → low_power a b i * b ^ i ≤ 10 ^ 18 * a ^ i
unfolding low_power
low_power-le a b zero = omega (arith, pow-zero a, pow-zero b)
low_power-le a b (suc i) =
    let next : low_power a b (suc i) * b ^ suc i ≡ low_power a b i * a / b * b * b ^ i = ap (λ s. low_power a b (suc i) * s) (pow-suc b i) ∙ turn (low_power a b i * a / b) (b ^ i) b in
    let cut = mul-le-mul_right (b ^ i) (div-mul-le (low_power a b i * a) b) in
    let before = mul-le-mul_right a (low_power-le a b i) in
    let up_one : 10 ^ 18 * a ^ suc i ≡ 10 ^ 18 * (a ^ i * a) = ap (λ s. 10 ^ 18 * s) (pow-suc a i) in
    omega (arith, next, cut, before, up_one)

pub high_power-le : (a b i : ℕ) → 0 < b → 10 ^ 18 * a ^ i ≤ high_power a b i * b ^ i
unfolding high_power
high_power-le a b zero h = omega (arith, pow-zero a, pow-zero b)
high_power-le a b (suc i) h =
    let next : high_power a b (suc i) * b ^ suc i ≡ ceil_div (high_power a b i * a) b * b * b ^ i = ap (λ s. high_power a b (suc i) * s) (pow-suc b i) ∙ turn (ceil_div (high_power a b i * a) b) (b ^ i) b in
    let cut = mul-le-mul_right (b ^ i) (ceil_div-le (high_power a b i * a) b h) in
    let before = mul-le-mul_right a (high_power-le a b i h) in
    let up_one : 10 ^ 18 * a ^ suc i ≡ 10 ^ 18 * (a ^ i * a) = ap (λ s. 10 ^ 18 * s) (pow-suc a i) in
    omega (arith, next, cut, before, up_one)

-- the tails of the least case are there, for every measure
pub least_tails : (m : MeasureName) → (tail_a : List Bool) × (tail_b : List Bool) × HasLeastTails m tail_a tail_b
least_tails (Precision k) = ([], [], (refl, refl))
least_tails (Recall k) = ([], [], (refl, refl))
least_tails RPrecision = ([], [], (refl, refl))
least_tails Reciprocal = ([], [], (refl, refl))
least_tails (MeasureBiased top bottom) = let long = long_tail in ([], long.0, (refl, long.1))
least_tails AveragePrecision = ([], [], (refl, refl))

-- S times what a tail of 10^24 relevant places leaves out is below 1: what it adds after a prefix is at least the kept power less 1
pub long_tail_adds : (a c n k : ℕ) → k ≡ 10 ^ 24 → 0 < a → 0 < c → a + c ≤ 1000000 →
    low_power a (a + c) n * ((a + c) ^ n * (a + c) ^ k) ≤ 10 ^ 18 * (a ^ n * (a + c) ^ k - a ^ (n + k)) + (a + c) ^ n * (a + c) ^ k
long_tail_adds a c n k e pa pc le =
    let b = a + c in
    let power = mul-le-mul_right (b ^ k) (low_power-le a b n) in
    let little = little_left a c k e pa pc le in
    let prefix : a ^ n ≤ b ^ n = pow-le-pow_left (omega arith) n in
    let rest : 10 ^ 18 * (a ^ n * a ^ k) ≤ b ^ n * b ^ k = omega (arith, mul-le-mul prefix (le_of_lt' little)) in
    let cut : a ^ n * a ^ k ≤ a ^ n * b ^ k = mul-le-mul_left (a ^ n) (pow-le-pow_left (omega arith) k) in
    let joined : a ^ (n + k) ≡ a ^ n * a ^ k = pow-add a n k in
    omega (arith, power, rest, cut, joined)
  where
    le_of_lt' : {x y : ℕ} → x < y → x ≤ y
    le_of_lt' h = omega (arith, h)
