-- Bytes that stand in no field.
use Rattle.std.proofs.Common.{◌≡◌, ℕ, ◌+◌, ◌-◌, ◌*◌, ◌/◌, ◌%◌, ◌^◌, ◌<◌, ◌≤◌, List, length, get_or, cond, ltb, leb, eqb, true, false, refl, ap, ap₂, sym, ◌∙◌, arith, subst, bit_or, pow_pos, shl_exact, shr-shr}
use Rattle.std.specs.Prelude.{Bool, ◌||◌, ◌==◌, nat_lt, position, Some, None, map, max}
use Rattle.std.specs.Int.{bit_at}
use Rattle.std.specs.Simd.Lanes.{mask_l, chunk}
use Rattle.std.proofs.lemmas.Simd.{bit_mask_l, get_or-chunk, length-chunk, mask_l-lt}
use Rattle.std.proofs.lemmas.Nat.{or_lt}
use Rattle.std.proofs.lemmas.Nat.Bits.{bit_at_or, bit_at_above, bit_at_cat_high, bit_at_cat_low, bit_at-zero}
use Rattle.std.proofs.lemmas.List.{get_or-map, length-map}
use Rattle.std.proofs.lemmas.List.Sums.{position_or_len_is}
use Rattle.std.proofs.lemmas.Bool.{lt-ltb, le-ltb, leb-true, leb-false}
use Rattle.desk_text.specs.Lines.{is_separator, is_bad, is_stop}
use Rattle.desk_text.specs.Stops.{AreFirstStops, IsInField}
use Rattle.desk_text.specs.declared.stops.FirstStops.{FirstStops}

pub separator_is_good : (b : ℕ) → is_separator b ≡ true → is_bad b ≡ false
separator_is_good b h = grind arith

pub in_no_stop : (b : ℕ) → is_stop b ≡ false → (is_separator b ≡ false) × (is_bad b ≡ false)
in_no_stop b h = grind arith

pub bad_stop : (b : ℕ) → is_stop b ≡ true → is_separator b ≡ false → is_bad b ≡ true
bad_stop b h s = grind arith

stop_is : (b : ℕ) → is_stop b ≡ (nat_lt b 33 || b == 127)
stop_is b = grind arith

-- what holds up to m and from m on
pub both : (P : ℕ → Type 0) (m n : ℕ) → ((i : ℕ) → i < m → P i) → ((i : ℕ) → m ≤ i → i < n → P i) → (i : ℕ) → i < n → P i
both P m n f g i lt = by (leb m i) refl
  where
    by : (after : Bool) → leb m i ≡ after → P i
    by true e = g i (leb-true m i e) lt
    by false e = f i (leb-false m i e)

-- a field that a separator or the end of the line ends has a byte
pub some_byte : (xs : List ℕ) (at end : ℕ) → at < length xs → at ≤ end → is_separator (get_or xs at 0) ≡ false → (end < length xs → is_separator (get_or xs end 0) ≡ true) → at < end
some_byte xs at end lt le begins ends = by (leb end at) refl
  where
    by : (none : Bool) → leb end at ≡ none → at < end
    by true e =
        let same : end ≡ at = omega (arith, leb-true end at e) in
        let no : ◌≡◌ {A = ℕ} 1 0 = ap (λ b. cond b 1 0) (sym (ap (λ j. is_separator (get_or xs j 0)) (sym same) ∙ ends (omega arith)) ∙ begins) in
        absurd (omega (arith, no))
    by false e = leb-false end at e

-- the first bad byte
pub bad_found : (xs : List ℕ) (i : ℕ) → i < length xs → ((k : ℕ) → k < i → is_bad (get_or xs k 0) ≡ false) → is_bad (get_or xs i 0) ≡ true → position is_bad xs ≡ Some i
bad_found xs i lt before here =
    ap (λ n. cond (ltb n (length xs)) (Some n) None) (position_or_len_is is_bad xs i 0 (omega arith) before (λ _. here))
    ∙ ap (λ b. cond b (Some i) None) (lt-ltb i (length xs) lt)

pub none_bad : (xs : List ℕ) → ((k : ℕ) → k < length xs → is_bad (get_or xs k 0) ≡ false) → position is_bad xs ≡ None
none_bad xs good =
    ap (λ n. cond (ltb n (length xs)) (Some n) None) (position_or_len_is is_bad xs (length xs) 0 (omega arith) good (λ lt. absurd (omega (arith, lt))))
    ∙ ap (λ b. cond b (Some (length xs)) None) (le-ltb (length xs) (length xs) (omega arith))

-- a bit of two masks together
either : (p q : ℕ → Bool) (xs : List ℕ) (a b k : ℕ) → a ≡ mask_l (map p xs) → b ≡ mask_l (map q xs)
    → bit_at (bit_or a b) k ≡ cond (get_or (map p xs) k false || get_or (map q xs) k false) 1 0
either p q xs a b k e f =
    bit_at_or a b k ∙ ap₂ max (ap (λ n. bit_at n k) e ∙ bit_mask_l (map p xs) k) (ap (λ n. bit_at n k) f ∙ bit_mask_l (map q xs) k)
    ∙ by (get_or (map p xs) k false) (get_or (map q xs) k false)
  where
    by : (s t : Bool) → max (cond s 1 0) (cond t 1 0) ≡ cond (s || t) 1 0
    by true true = refl
    by true false = refl
    by false true = refl
    by false false = refl

-- the bits of the bytes that are low or are 127
pub mark_bit : (low : ℕ) (line : List ℕ) (from a b k : ℕ) → from + 16 ≤ length line → a ≡ mask_l (map (λ x. ltb x low) (chunk from 16 line)) → b ≡ mask_l (map (λ x. eqb x 127) (chunk from 16 line))
    → k < 16 → bit_at (bit_or a b) k ≡ cond (ltb (get_or line (from + k) 0) low || eqb (get_or line (from + k) 0) 127) 1 0
mark_bit low line from a b k room e f lt =
    let xs = chunk from 16 line in
    let long : length xs ≡ 16 = length-chunk from 16 line room in
    let at : get_or xs k 0 ≡ get_or line (from + k) 0 = get_or-chunk from 16 line k 0 lt in
    either (λ x. ltb x low) (λ x. eqb x 127) xs a b k e f
    ∙ ap₂ (λ s t. cond (s || t) 1 0) (get_or-map (λ x. ltb x low) xs k 0 false (omega arith)) (get_or-map (λ x. eqb x 127) xs k 0 false (omega arith))
    ∙ ap (λ x. cond (ltb x low || eqb x 127) 1 0) at

-- the bits of the bytes that stand in no field
pub stop_bit : (line : List ℕ) (from a b k : ℕ) → from + 16 ≤ length line → a ≡ mask_l (map (λ x. ltb x 33) (chunk from 16 line)) → b ≡ mask_l (map (λ x. eqb x 127) (chunk from 16 line))
    → k < 16 → bit_at (bit_or a b) k ≡ cond (is_stop (get_or line (from + k) 0)) 1 0
stop_bit line from a b k room e f lt = mark_bit 33 line from a b k room e f lt ∙ ap (λ t. cond t 1 0) (sym (stop_is (get_or line (from + k) 0)))

pub few_bits : (low : ℕ) (line : List ℕ) (from a b : ℕ) → from + 16 ≤ length line → a ≡ mask_l (map (λ x. ltb x low) (chunk from 16 line)) → b ≡ mask_l (map (λ x. eqb x 127) (chunk from 16 line))
    → bit_or a b < 65536
few_bits low line from a b room e f = or_lt 16 a b (small (λ x. ltb x low) a e) (small (λ x. eqb x 127) b f)
  where
    small : (p : ℕ → Bool) (n : ℕ) → n ≡ mask_l (map p (chunk from 16 line)) → n < 2 ^ 16
    small p n e =
        let long : length (map p (chunk from 16 line)) ≡ 16 = length-map (chunk from 16 line) p ∙ length-chunk from 16 line room in
        subst (λ m. m < 2 ^ 16) (sym e) (subst (λ m. mask_l (map p (chunk from 16 line)) < 2 ^ m) long (mask_l-lt (map p (chunk from 16 line))))

not_set : (b : Bool) → ◌≡◌ {A = ℕ} (cond b 1 0) 0 → b ≡ false
not_set true h = absurd (omega (arith, h))
not_set false h = refl

is_set : (b : Bool) → ◌≡◌ {A = ℕ} (cond b 1 0) 1 → b ≡ true
is_set true h = refl
is_set false h = absurd (omega (arith, h))

-- ---- what is known of the first bytes of a line
-- 16 bits moved to a place: below it there is none
moved : (more from i : ℕ) → more < 65536 → from + 16 ≤ 64 → bit_at (more * 2 ^ from % 2 ^ 64) i ≡ bit_at (more * 2 ^ from + 0) i
moved more from i few room = ap (λ n. bit_at n i) (shl_exact 16 from 64 few (omega arith) ∙ add_none (more * 2 ^ from))
  where
    add_none : (n : ℕ) → n ≡ n + 0
    add_none n = omega arith

moved_below : (more from i : ℕ) → more < 65536 → from + 16 ≤ 64 → i < from → bit_at (more * 2 ^ from % 2 ^ 64) i ≡ 0
moved_below more from i few room lt = moved more from i few room ∙ bit_at_cat_low more from 0 i lt ∙ bit_at-zero i

moved_above : (more from i : ℕ) → more < 65536 → from + 16 ≤ 64 → from ≤ i → bit_at (more * 2 ^ from % 2 ^ 64) i ≡ bit_at more (i - from)
moved_above more from i few room le = moved more from i few room ∙ bit_at_cat_high more from 0 i (pow_pos from) le

-- whether a byte stands in no field, as a number
abbrev told : List ℕ → ℕ → ℕ
told line i = cond (is_stop (get_or line i 0)) 1 0

-- with the 16 bytes from a place on
module _ (line : List ℕ) (first : FirstStops) (from more : ℕ) (known : AreFirstStops line first) (next : from ≤ first.known) (further : first.known ≤ from + 16) (room : from + 16 ≤ 64) (few : more < 65536)
    (tells : (k : ℕ) → k < 16 → bit_at more k ≡ told line (from + k)) where
  here : (i : ℕ) → from ≤ i → i < from + 16 → bit_at (more * 2 ^ from % 2 ^ 64) i ≡ told line i
  here i le lt =
      let e : from + (i - from) ≡ i = omega arith in
      moved_above more from i few room le ∙ tells (i - from) (omega arith) ∙ ap (told line) e

  together : (i : ℕ) → bit_at (bit_or first.bits (more * 2 ^ from % 2 ^ 64)) i ≡ max (bit_at first.bits i) (bit_at (more * 2 ^ from % 2 ^ 64) i)
  together i = bit_at_or first.bits (more * 2 ^ from % 2 ^ 64) i

  each : (i : ℕ) → i < from + 16 → bit_at (bit_or first.bits (more * 2 ^ from % 2 ^ 64)) i ≡ told line i
  each i lt = by (leb from i) refl (leb first.known i) refl
    where
      by : (late : Bool) → leb from i ≡ late → (new : Bool) → leb first.known i ≡ new → bit_at (bit_or first.bits (more * 2 ^ from % 2 ^ 64)) i ≡ told line i
      by true e true f = omega (arith, together i, here i (leb-true from i e) lt, known.none i (leb-true first.known i f))
      by true e false f = omega (arith, together i, here i (leb-true from i e) lt, known.each i (leb-false first.known i f))
      by false e new f = let before = leb-false from i e in omega (arith, together i, moved_below more from i few room before, known.each i (omega (arith, before)))

  none : (i : ℕ) → from + 16 ≤ i → bit_at (bit_or first.bits (more * 2 ^ from % 2 ^ 64)) i ≡ 0
  none i le = omega (arith, together i, moved_above more from i few room (omega arith), bit_at_above more 16 (i - from) few (omega arith), known.none i (omega arith))

  pub more_known : from + 16 ≤ length line → AreFirstStops line (record { known = from + 16; bits = bit_or first.bits (more * 2 ^ from % 2 ^ 64) })
  more_known within = record { few = room; within = within; each = each; none = none }

-- Bits are shifted, so that the first is that of a later byte.
module _ (line : List ℕ) (first : FirstStops) (from : ℕ) (known : AreFirstStops line first) where
  shifted : (i : ℕ) → bit_at (first.bits / 2 ^ from) i ≡ bit_at first.bits (from + i)
  shifted i = ap (λ n. n % 2) (shr-shr first.bits from i)

  clear : (i : ℕ) → from ≤ i → i < first.known → bit_at (first.bits / 2 ^ from) (i - from) ≡ 0 → is_stop (get_or line i 0) ≡ false
  clear i le lt z =
      let e : from + (i - from) ≡ i = omega arith in
      not_set _ (sym (shifted (i - from) ∙ ap (bit_at first.bits) e ∙ known.each i lt) ∙ z)

  -- no bit is set: all known bytes stand in the field
  pub all_clear : from < first.known → first.bits / 2 ^ from ≡ 0 → IsInField line from first.known
  all_clear lt z = record {
    order = omega (arith, lt);
    within = known.within;
    each = λ i le under. clear i le under (ap (λ n. bit_at n (i - from)) z ∙ bit_at-zero (i - from));
  }

  -- a bit that is set is that of a known byte that stands in no field
  set_bit : (r : ℕ) → bit_at (first.bits / 2 ^ from) r ≡ 1 → (from + r < first.known) × (is_stop (get_or line (from + r) 0) ≡ true)
  set_bit r set = by (leb first.known (from + r)) refl
    where
      by : (far : Bool) → leb first.known (from + r) ≡ far → (from + r < first.known) × (is_stop (get_or line (from + r) 0) ≡ true)
      by true e = absurd (omega (arith, shifted r, known.none (from + r) (leb-true first.known (from + r) e), set))
      by false e = let low = leb-false first.known (from + r) e in (low, is_set _ (sym (known.each (from + r) low) ∙ sym (shifted r) ∙ set))

  -- the lowest bit that is set is that of the first byte that stands in no field
  pub first_clear : (r : ℕ) → bit_at (first.bits / 2 ^ from) r ≡ 1 → ((i : ℕ) → i < r → bit_at (first.bits / 2 ^ from) i ≡ 0) → IsInField line from (from + r) × (is_stop (get_or line (from + r) 0) ≡ true)
  first_clear r set below =
      let found = set_bit r set in (
        record {
          order = omega arith;
          within = omega (arith, found.0, known.within);
          each = λ i le lt. clear i le (omega (arith, lt, found.0)) (below (i - from) (omega arith));
        },
        found.1,
      )
