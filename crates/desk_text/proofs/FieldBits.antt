-- Fields that are found by bits alone.
use Rattle.std.proofs.Common.{◌≡◌, ℕ, zero, suc, ◌+◌, ◌-◌, ◌/◌, ◌%◌, ◌^◌, ◌<◌, ◌≤◌, List, [], ◌∷◌, ◌++◌, take, drop, length, get_or, cond, leb, true, false, refl, ap, sym, ◌∙◌, arith, bit_and, bit_or, shr-shr, append-nil, w64, inl, inr}
use Rattle.std.specs.Prelude.{Bool, ◌||◌, min}
use Rattle.std.specs.List.{slice_range}
use Rattle.std.specs.Int.{bit_at, bit_not}
use Rattle.std.proofs.lemmas.Bool.{leb-true, leb-false, cases_lt}
use Rattle.std.proofs.lemmas.List.{drop_all}
use Rattle.std.proofs.lemmas.Nat.Bits.{bit_at_or, bit_at_and, bit_at_not, bit_at_ones, bit_at_above, bit_at-zero, same_from_bits_below}
use Rattle.std.proofs.Math.Nat.{div-lt_self, one-le-pow, pow-le-pow_right}
use Rattle.desk_text.specs.Lines.{fields_of, is_separator, is_bad, is_stop, AreFields}
use Rattle.desk_text.specs.Stops.{is_other, AreFieldBits, AreFirstStops, IsSpaced}
use Rattle.desk_text.specs.declared.stops.FirstStops.{FirstStops}
use Rattle.desk_text.proofs.FieldLemmas.{skipped, field_found}
use Rattle.desk_text.proofs.Marking.{Marked}

-- a separator ends a field, and a stretch of them holds none
skipped_all : (line : List ℕ) (from n : ℕ) → from + n ≤ length line → ((i : ℕ) → from ≤ i → i < from + n → is_separator (get_or line i 0) ≡ true) → fields_of (drop from line) ≡ fields_of (drop (from + n) line)
skipped_all line from zero within all = (let e : from ≡ from + 0 = omega arith in ap (λ j. fields_of (drop j line)) e)
skipped_all line from (suc n) within all =
    let e : from + n + 1 ≡ from + suc n = omega arith in
    skipped_all line from n (omega arith) (λ i le lt. all i le (omega arith)) ∙ skipped line (from + n) (omega arith) (all (from + n) (omega arith) (omega arith)) ∙ ap (λ j. fields_of (drop j line)) e

-- marked fields stay so past separators
pub marked_on : (line : List ℕ) (count : ℕ) (places : List (ℕ × ℕ)) (at next : ℕ) → Marked line count places at → fields_of (drop at line) ≡ fields_of (drop next line) → at ≤ next → Marked line count places next
marked_on line count places at next m e le = record {
  done = m.done;
  fields = m.fields ∙ ap (λ fs. m.done ++ fs) e;
  number = m.number;
  spans = m.spans;
  within = m.within;
  few = omega (arith, m.few);
}

pub all_marked : (line : List ℕ) (count : ℕ) (places : List (ℕ × ℕ)) (at : ℕ) → Marked line count places at → fields_of (drop at line) ≡ [] → AreFields line count (take (min count 6) places)
all_marked line count places at m none =
    let whole : fields_of line ≡ m.done = m.fields ∙ ap (λ fs. m.done ++ fs) none ∙ append-nil m.done in
    record { number = m.number ∙ ap length (sym whole); spans = m.spans ∙ ap (take 6) (sym whole); within = m.within }

-- where the next run of ones stands in bits, of which those from a place on are left
module _ (bits at left z o : ℕ) (small : bits < 2 ^ 63) (is : left ≡ bits / 2 ^ at) (first : bit_at left z ≡ 1) (below : (i : ℕ) → i < z → bit_at left i ≡ 0)
    (end : bit_at (left / 2 ^ z) o ≡ 0) (run : (i : ℕ) → i < o → bit_at (left / 2 ^ z) i ≡ 1) where
  bit_left : (i : ℕ) → bit_at left i ≡ bit_at bits (at + i)
  bit_left i = ap (λ n. bit_at n i) is ∙ ap (λ n. n % 2) (shr-shr bits at i)

  bit_run : (i : ℕ) → bit_at (left / 2 ^ z) i ≡ bit_at bits (at + z + i)
  bit_run i = (let e : at + (z + i) ≡ at + z + i = omega arith in ap (λ n. n % 2) (shr-shr left z i) ∙ bit_left (z + i) ∙ ap (bit_at bits) e)

  pub first_one : bit_at (left / 2 ^ z) 0 ≡ 1
  first_one = (let e : z + 0 ≡ z = omega arith in ap (λ n. n % 2) (shr-shr left z 0) ∙ ap (bit_at left) e ∙ first)

  pub some_one : 0 < o
  some_one = elim (cases_lt 0 o) [
    | inl some ↦ some
    | inr none ↦ (let e : o ≡ 0 = omega arith in absurd (omega (arith, first_one, ap (bit_at (left / 2 ^ z)) (sym e) ∙ end)))
  ]

  pub clear : (i : ℕ) → at ≤ i → i < at + z → bit_at bits i ≡ 0
  clear i le lt = (let e : at + (i - at) ≡ i = omega arith in ap (bit_at bits) (sym e) ∙ sym (bit_left (i - at)) ∙ below (i - at) (omega arith))

  pub set : (i : ℕ) → at + z ≤ i → i < at + z + o → bit_at bits i ≡ 1
  set i le lt = (let e : at + z + (i - (at + z)) ≡ i = omega arith in ap (bit_at bits) (sym e) ∙ sym (bit_run (i - (at + z))) ∙ run (i - (at + z)) (omega arith))

  pub stop : bit_at bits (at + z + o) ≡ 0
  stop = sym (bit_run o) ∙ end

  pub few_ones : at + z + o ≤ 63
  few_ones = elim (cases_lt 63 (at + z + o)) [
    | inl many ↦ absurd (omega (arith, set (at + z + o - 1) (omega (arith, some_one)) (omega (arith, some_one)), bit_at_above bits 63 (at + z + o - 1) small (omega arith)))
    | inr few ↦ few
  ]

  pub rest_is : left / 2 ^ z / 2 ^ o ≡ bits / 2 ^ (at + z + o)
  rest_is = (let e : at + (z + o) ≡ at + z + o = omega arith in shr-shr left z o ∙ ap (λ n. n / 2 ^ (z + o)) is ∙ shr-shr bits at (z + o) ∙ ap (λ k. bits / 2 ^ k) e)

  pub rest_smaller : 0 < left → left / 2 ^ z / 2 ^ o < left
  rest_smaller some =
      let power : 2 ^ 1 ≤ 2 ^ (z + o) = pow-le-pow_right {n = 2} (omega arith) (let more : 1 ≤ z + o = omega (arith, some_one) in more) in
      let less : left / 2 ^ (z + o) < left = div-lt_self some (omega (arith, power)) in
      omega (arith, shr-shr left z o, less)

-- what the bits tell of the line
module _ (line : List ℕ) (bits : ℕ) (known : AreFieldBits line bits) where
  in_line : (i : ℕ) → bit_at bits i ≡ 1 → i < length line
  in_line i one = by (leb (length line) i) refl
    where
      by : (past : Bool) → leb (length line) i ≡ past → i < length line
      by true e = absurd (omega (arith, one, known.none i (leb-true (length line) i e)))
      by false e = leb-false (length line) i e

  is_zero : (b : Bool) → ◌≡◌ {A = ℕ} (cond b 0 1) 0 → b ≡ true
  is_zero true h = refl
  is_zero false h = absurd (omega (arith, h))

  is_one : (b : Bool) → ◌≡◌ {A = ℕ} (cond b 0 1) 1 → b ≡ false
  is_one true h = absurd (omega (arith, h))
  is_one false h = refl

  field_byte : (i : ℕ) → bit_at bits i ≡ 1 → is_separator (get_or line i 0) ≡ false
  field_byte i one = is_one _ (sym (known.each i (in_line i one)) ∙ one)

  space_byte : (i : ℕ) → i < length line → bit_at bits i ≡ 0 → is_separator (get_or line i 0) ≡ true
  space_byte i lt none = is_zero _ (sym (known.each i lt) ∙ none)

  pub bits_skipped : (at start : ℕ) → at ≤ start → start ≤ length line → ((i : ℕ) → at ≤ i → i < start → bit_at bits i ≡ 0) → fields_of (drop at line) ≡ fields_of (drop start line)
  bits_skipped at start le within none =
      let e : at + (start - at) ≡ start = omega arith in
      skipped_all line at (start - at) (omega arith) (λ i from to. space_byte i (omega arith) (none i from (omega arith))) ∙ ap (λ j. fields_of (drop j line)) e

  pub ones_within : (start end : ℕ) → start < end → ((i : ℕ) → start ≤ i → i < end → bit_at bits i ≡ 1) → end ≤ length line
  ones_within start end lt ones = omega (arith, in_line (end - 1) (ones (end - 1) (omega arith) (omega arith)))

  pub ones_field : (start end : ℕ) → start < end → ((i : ℕ) → start ≤ i → i < end → bit_at bits i ≡ 1) → bit_at bits end ≡ 0 → fields_of (drop start line) ≡ slice_range line start end ∷ fields_of (drop end line)
  ones_field start end lt ones stop =
      field_found line start end lt (ones_within start end lt ones) (λ k from to. field_byte k (ones k from to)) (λ inside. space_byte end inside stop)

  pub no_more : (at left : ℕ) → left ≡ bits / 2 ^ at → left ≡ 0 → at ≤ length line → fields_of (drop at line) ≡ []
  no_more at left is none within =
      let zeros : (i : ℕ) → at ≤ i → i < length line → bit_at bits i ≡ 0 =
      λ i from to. (let e : at + (i - at) ≡ i = omega arith in ap (bit_at bits) (sym e) ∙ sym (ap (λ n. n % 2) (shr-shr bits at (i - at))) ∙ ap (λ n. bit_at n (i - at)) (sym is ∙ none) ∙ bit_at-zero (i - at)) in
      bits_skipped at (length line) within (omega arith) zeros ∙ ap fields_of (drop_all (length line) line (omega arith))

-- ---- a line with no other bytes than spaces between its fields
pub other_is_good : (b : ℕ) → is_other b ≡ false → is_bad b ≡ false
other_is_good b h = grind arith

not_told : (b : Bool) → ◌≡◌ {A = ℕ} (cond b 1 0) 0 → b ≡ false
not_told true h = absurd (omega (arith, h))
not_told false h = refl

none_set : (a b c d k : ℕ) → bit_or (bit_or a b) (bit_or c d) ≡ 0 → (bit_at a k ≡ 0) × (bit_at b k ≡ 0) × (bit_at c k ≡ 0) × (bit_at d k ≡ 0)
none_set a b c d k e =
    let whole = bit_at_or (bit_or a b) (bit_or c d) k in
    let zero_is = ap (λ n. bit_at n k) e ∙ bit_at-zero k in
    let l = bit_at_or a b k in
    let r = bit_at_or c d k in
    (omega (arith, whole, zero_is, l, r), omega (arith, whole, zero_is, l, r), omega (arith, whole, zero_is, l, r), omega (arith, whole, zero_is, l, r))

pub spaced_good : (line : List ℕ) (last q r a b c d : ℕ) → last + 16 ≡ length line → length line < 64 → q ≡ min last 16 → r ≡ min last 32
    → ((k : ℕ) → k < 16 → bit_at a k ≡ cond (is_other (get_or line (0 + k) 0)) 1 0) → ((k : ℕ) → k < 16 → bit_at b k ≡ cond (is_other (get_or line (q + k) 0)) 1 0)
    → ((k : ℕ) → k < 16 → bit_at c k ≡ cond (is_other (get_or line (r + k) 0)) 1 0) → ((k : ℕ) → k < 16 → bit_at d k ≡ cond (is_other (get_or line (last + k) 0)) 1 0)
    → bit_or (bit_or a b) (bit_or c d) ≡ 0 → (i : ℕ) → i < length line → is_other (get_or line i 0) ≡ false
spaced_good line last q r a b c d all few is_q is_r ta tb tc td e i lt =
    elim (cases_lt i 16) [
      | inl one ↦ here 0 a i ta (λ k. (none_set a b c d k e).0) (omega arith) (omega arith)
      | inr past_one ↦ elim (cases_lt i (q + 16)) [
        | inl two ↦ here q b i tb (λ k. (none_set a b c d k e).1) (omega arith) (omega arith)
        | inr past_two ↦ elim (cases_lt i (r + 16)) [
          | inl three ↦ here r c i tc (λ k. (none_set a b c d k e).2) (omega arith) (omega arith)
          | inr past_three ↦ here last d i td (λ k. (none_set a b c d k e).3) (omega arith) (omega arith)
        ]
      ]
    ]
  where
    here : (from m i : ℕ) → ((k : ℕ) → k < 16 → bit_at m k ≡ cond (is_other (get_or line (from + k) 0)) 1 0) → ((k : ℕ) → bit_at m k ≡ 0) → from ≤ i → i < from + 16 → is_other (get_or line i 0) ≡ false
    here from m i tells none le lt =
        let at : from + (i - from) ≡ i = omega arith in
        ap (λ j. is_other (get_or line j 0)) (sym at) ∙ not_told _ (sym (tells (i - from) (omega arith)) ∙ none (i - from))

-- 16 bytes that tell of no other byte
none_told : (line : List ℕ) (from m : ℕ) → IsSpaced line → from + 16 ≤ length line → m < 2 ^ 16 → ((k : ℕ) → k < 16 → bit_at m k ≡ cond (is_other (get_or line (from + k) 0)) 1 0) → m ≡ 0
none_told line from m h room few tells =
    same_from_bits_below 16 m 0 few (omega arith) (λ k lt. tells k lt ∙ ap (λ b. cond b 1 0) (h.each (from + k) (omega arith)) ∙ sym (bit_at-zero k))

pub all_spaced : (line : List ℕ) (last q r a b c d : ℕ) → last + 16 ≡ length line → q ≡ min last 16 → r ≡ min last 32 → IsSpaced line → (a < 65536) × (b < 65536) × (c < 65536) × (d < 65536)
    → ((k : ℕ) → k < 16 → bit_at a k ≡ cond (is_other (get_or line (0 + k) 0)) 1 0) → ((k : ℕ) → k < 16 → bit_at b k ≡ cond (is_other (get_or line (q + k) 0)) 1 0)
    → ((k : ℕ) → k < 16 → bit_at c k ≡ cond (is_other (get_or line (r + k) 0)) 1 0) → ((k : ℕ) → k < 16 → bit_at d k ≡ cond (is_other (get_or line (last + k) 0)) 1 0)
    → bit_or (bit_or a b) (bit_or c d) ≡ 0
all_spaced line last q r a b c d all is_q is_r h few ta tb tc td =
    let za = none_told line 0 a h (omega arith) few.0 ta in
    let zb = none_told line q b h (omega arith) few.1 tb in
    let zc = none_told line r c h (omega arith) few.2 tc in
    let zd = none_told line last d h (omega arith) few.3 td in
    rw (za, zb, zc, zd) refl

-- where no byte is bad, the other bits are those of fields
flipped : (b : ℕ) → is_bad b ≡ false → 1 - cond (is_stop b) 1 0 ≡ cond (is_separator b) 0 1
flipped b good = by (is_separator b) (is_bad b) good
  where
    by : (s d : Bool) → d ≡ false → 1 - cond (s || d) 1 0 ≡ cond s 0 1
    by true d e = refl
    by false true e = (let no : ◌≡◌ {A = ℕ} 1 0 = ap (λ t. cond t 1 0) e in absurd (omega (arith, no)))
    by false false e = refl

pub flipped_bits : (line : List ℕ) (first : FirstStops) → first.bits < 2 ^ 64 → first.known < 64 → AreFirstStops line first → IsSpaced line → length line ≡ first.known
    → AreFieldBits line (bit_and (bit_not w64 first.bits) (2 ^ first.known - 1))
flipped_bits line first fits few known spaced all =
    let mask = 2 ^ first.known - 1 in
    let power = one-le-pow first.known 2 (omega arith) in
    record {
      each = λ i lt. bit_at_and (bit_not w64 first.bits) mask i
          ∙ (let one = bit_at_ones first.known i (omega arith) in
          let flip = bit_at_not w64 first.bits i fits (omega arith) in
          let told = known.each i (omega arith) in
          let bit = flipped (get_or line i 0) (other_is_good (get_or line i 0) (spaced.each i lt)) in omega (arith, one, flip, told, bit));
      none = λ i le. bit_at_and (bit_not w64 first.bits) mask i ∙ (let above = bit_at_above mask first.known i (omega (arith, power)) (omega arith) in omega (arith, above));
    }
