-- How lists of bytes compare, by eight bytes of both read as numbers.
use mathlib.Core.Bool.{true≢false}
use lib.Dec.{T, eqb, eqb→eq, eqb_refl}
use Rattle.std.proofs.Common.{◌≡◌, ℕ, zero, suc, ◌+◌, ◌-◌, ◌*◌, ◌<◌, ◌≤◌, min, Bool, true, false, not, List, [], ◌∷◌, length, get_or, take, drop, Fits, w8, refl, sym, ap, subst, ◌∙◌, arith, length-drop, get_or-drop}
use Rattle.std.specs.Ordering.{nat_cmp, ordering_then, MatchOrdering}
use Rattle.std.specs.declared.cmp.Ordering.{Ordering}
use Rattle.std.specs.declared.cmp.Ordering.TheVariants.{Less, Equal, Greater}
use Rattle.std.specs.Cmp.{ranks}
use Rattle.std.specs.Cmp.Lexicographic.{slice_cmp}
use Rattle.std.specs.Simd.Lanes.{chunk}
use Rattle.std.specs.Slice.Scan.{HoldsNowhere, differ, big_endian, Settles}

abbrev Bytes : List ℕ → Type 0
Bytes xs = (k : ℕ) → Fits w8 (get_or xs k 0)

abbrev Alike : List ℕ → List ℕ → ℕ → Type 0
Alike xs ys n = HoldsNowhere (differ xs ys) 0 n

is_less : (x y : ℕ) (r : Ordering) → MatchOrdering r (x < y) (x ≡ y) (y < x) → x < y → r ≡ Less
is_less x y Less h l = refl
is_less x y Equal h l = let e : x ≡ y = h in absurd (omega arith)
is_less x y Greater h l = let e : y < x = h in absurd (omega arith)

is_equal : (x y : ℕ) (r : Ordering) → MatchOrdering r (x < y) (x ≡ y) (y < x) → x ≡ y → r ≡ Equal
is_equal x y Less h l = let e : x < y = h in absurd (omega arith)
is_equal x y Equal h l = refl
is_equal x y Greater h l = let e : y < x = h in absurd (omega arith)

is_greater : (x y : ℕ) (r : Ordering) → MatchOrdering r (x < y) (x ≡ y) (y < x) → y < x → r ≡ Greater
is_greater x y Less h l = let e : x < y = h in absurd (omega arith)
is_greater x y Equal h l = let e : x ≡ y = h in absurd (omega arith)
is_greater x y Greater h l = refl

below : {x y : ℕ} → x < y → nat_cmp x y ≡ Less
below {x} {y} = is_less x y _ (ranks x y)

above : {x y : ℕ} → y < x → nat_cmp x y ≡ Greater
above {x} {y} = is_greater x y _ (ranks x y)

one_more : (m n : ℕ) → nat_cmp m n ≡ nat_cmp (suc m) (suc n)
one_more m n = by (nat_cmp m n) (ranks m n)
  where
    by : (r : Ordering) → MatchOrdering r (m < n) (m ≡ n) (n < m) → r ≡ nat_cmp (suc m) (suc n)
    by Less l =
        let lt : m < n = l in
        let more : suc m < suc n = omega (arith, lt) in sym (below more)
    by Equal l = let e : m ≡ n = l in sym (is_equal (suc m) (suc n) _ (ranks (suc m) (suc n)) (omega (arith, e)))
    by Greater l =
        let lt : n < m = l in
        let more : suc n < suc m = omega (arith, lt) in sym (above more)

-- ---- `differ`
same : (x y : ℕ) → not (eqb x y) ≡ false → x ≡ y
same x y e = by (eqb x y) refl e
  where
    by : (b : Bool) → eqb x y ≡ b → not b ≡ false → x ≡ y
    by true p q = eqb→eq x y (subst T (sym p) tt)
    by false p q = absurd (true≢false q)

no_difference : (x y : ℕ) → x ≡ y → not (eqb x y) ≡ false
no_difference x y e = by (eqb x y) (subst (λ z. T (eqb x z)) e (eqb_refl x))
  where
    by : (b : Bool) → T b → not b ≡ false
    by true p = refl
    by false p = absurd p

-- ---- `slice_cmp`, past what is alike
past : (i : ℕ) (xs ys : List ℕ) → i ≤ length xs → i ≤ length ys → Alike xs ys i → slice_cmp nat_cmp xs ys ≡ slice_cmp nat_cmp (drop i xs) (drop i ys)
past zero xs ys a b h = refl
past (suc i) [] ys a b h = absurd (omega arith)
past (suc i) (x ∷ xs) [] a b h = absurd (omega arith)
past (suc i) (x ∷ xs) (y ∷ ys) a b h =
    ap (λ r. ordering_then r (slice_cmp nat_cmp xs ys)) (is_equal x y _ (ranks x y) (same x y (h 0 (omega arith) (omega arith))))
    ∙ past i xs ys (omega arith) (omega arith) (λ k l g. h (suc k) (omega arith) (omega arith))

pub by_lengths : (xs ys : List ℕ) (n : ℕ) → n ≡ min (length xs) (length ys) → Alike xs ys n → slice_cmp nat_cmp xs ys ≡ nat_cmp (length xs) (length ys)
by_lengths [] [] n e h = refl
by_lengths [] (y ∷ ys) n e h =
    let lt : 0 < suc (length ys) = omega arith in sym (below lt)
by_lengths (x ∷ xs) [] n e h =
    let lt : 0 < suc (length xs) = omega arith in sym (above lt)
by_lengths (x ∷ xs) (y ∷ ys) n e h =
    ap (λ r. ordering_then r (slice_cmp nat_cmp xs ys)) (is_equal x y _ (ranks x y) (same x y (h 0 (omega arith) (omega (arith, e)))))
    ∙ by_lengths xs ys (min (length xs) (length ys)) refl (λ k l g. h (suc k) (omega arith) (omega (arith, e, g)))
    ∙ one_more (length xs) (length ys)

-- ---- bytes as numbers
rises : (n a b : ℕ) (us vs : List ℕ) → n ≤ length us → n ≤ length vs → Bytes us → a < b → big_endian a (take n us) < big_endian b (take n vs)
rises zero a b us vs p q h l = l
rises (suc n) a b [] vs p q h l = absurd (omega arith)
rises (suc n) a b (u ∷ us) [] p q h l = absurd (omega arith)
rises (suc n) a b (u ∷ us) (v ∷ vs) p q h l =
    let small : u < 256 = (h 0).fits in
    rises n (a * 256 + u) (b * 256 + v) us vs (omega arith) (omega arith) (λ k. h (suc k)) (omega arith)

spells : (n a : ℕ) (us vs : List ℕ) → n ≤ length us → n ≤ length vs → Bytes us → Bytes vs → Settles us vs n (big_endian a (take n us)) (big_endian a (take n vs))
spells zero a us vs p q g h = record { apart = λ f. absurd (f refl); alike = λ _ k l m. absurd (omega arith) }
spells (suc n) a [] vs p q g h = absurd (omega arith)
spells (suc n) a (u ∷ us) [] p q g h = absurd (omega arith)
spells (suc n) a (u ∷ us) (v ∷ vs) p q g h = by (spells n (a * 256 + u) us vs (omega arith) (omega arith) (λ k. g (suc k)) (λ k. h (suc k))) (nat_cmp u v) refl (ranks u v)
  where
    by : Settles us vs n (big_endian (a * 256 + u) (take n us)) (big_endian (a * 256 + u) (take n vs))
        → (r : Ordering) → nat_cmp u v ≡ r → MatchOrdering r (u < v) (u ≡ v) (v < u) → Settles (u ∷ us) (v ∷ vs) (suc n) (big_endian (a * 256 + u) (take n us)) (big_endian (a * 256 + v) (take n vs))
    by rest Less e l =
        let under : u < v = l in
        let t = rises n (a * 256 + u) (a * 256 + v) us vs (omega arith) (omega arith) (λ k. g (suc k)) (omega arith) in
        record { apart = λ _. ap (λ r. ordering_then r (slice_cmp nat_cmp us vs)) e ∙ sym (below t); alike = λ s. absurd (omega arith) }
    by rest Greater e l =
        let over : v < u = l in
        let t = rises n (a * 256 + v) (a * 256 + u) vs us (omega arith) (omega arith) (λ k. h (suc k)) (omega arith) in
        record { apart = λ _. ap (λ r. ordering_then r (slice_cmp nat_cmp us vs)) e ∙ sym (above t); alike = λ s. absurd (omega arith) }
    by rest Equal e l =
        let level : u ≡ v = l in
        let t = subst (λ z. Settles us vs n (big_endian (a * 256 + u) (take n us)) (big_endian (a * 256 + z) (take n vs))) level rest in
        record { apart = λ f. ap (λ r. ordering_then r (slice_cmp nat_cmp us vs)) e ∙ t.apart f; alike = λ s. both level (t.alike s) }
      where
        both : u ≡ v → Alike us vs n → Alike (u ∷ us) (v ∷ vs) (suc n)
        both level t zero l m = no_difference u v level
        both level t (suc k) l m = t k (omega arith) (omega arith)

module _ (xs ys : List ℕ) (bx : Bytes xs) (by : Bytes ys) where
  -- n bytes from i on, where those before are alike
  window : (i n : ℕ) → i + n ≤ length xs → i + n ≤ length ys → Alike xs ys i → Settles xs ys (i + n) (big_endian 0 (chunk i n xs)) (big_endian 0 (chunk i n ys))
  window i n p q h =
      let t = spells n 0 (drop i xs) (drop i ys) (omega (arith, length-drop i xs)) (omega (arith, length-drop i ys))
      (λ k. subst (Fits w8) (sym (get_or-drop i xs k 0)) (bx (i + k))) (λ k. subst (Fits w8) (sym (get_or-drop i ys k 0)) (by (i + k))) in
      record {
        apart = λ f. past i xs ys (omega arith) (omega arith) h ∙ t.apart f;
        alike = λ s k l m. later k (k - i) (h k l) (t.alike s (k - i) (omega arith)) m refl;
      }
    where
      later : (k j : ℕ) → (k < i → differ xs ys k ≡ false) → (j < n → differ (drop i xs) (drop i ys) j ≡ false) → k < i + n → j ≡ k - i → differ xs ys k ≡ false
      later k j f g m e = cases (nat_cmp k i) (ranks k i)
        where
          from : i ≤ k → differ xs ys k ≡ false
          from l = ap (differ xs ys) (omega arith) ∙ sym (λ t. not (eqb (get_or-drop i xs j 0 t) (get_or-drop i ys j 0 t))) ∙ g (omega arith)

          cases : (r : Ordering) → MatchOrdering r (k < i) (k ≡ i) (i < k) → differ xs ys k ≡ false
          cases Less l = f l
          cases Equal l = let q : k ≡ i = l in from (omega arith)
          cases Greater l = let q : i < k = l in from (omega arith)

  pub word : (i n x y : ℕ) → i + n ≤ length xs → i + n ≤ length ys → x ≡ big_endian 0 (chunk i n xs) → y ≡ big_endian 0 (chunk i n ys) → Alike xs ys i → Settles xs ys (i + n) x y
  word i n x y p q a b h = subst (Settles xs ys (i + n) x) (sym b) (subst (λ z. Settles xs ys (i + n) z (big_endian 0 (chunk i n ys))) (sym a) (window i n p q h))

module _ (xs ys : List ℕ) where
  pub fewer : (i j : ℕ) → i ≤ j → Alike xs ys j → Alike xs ys i
  fewer i j le h k l m = h k l (omega arith)
