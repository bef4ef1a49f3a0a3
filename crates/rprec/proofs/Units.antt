-- A fraction in units, from the parts of a unit and what they leave.
use Rattle.std.proofs.Common.{◌≡◌, ℕ, ◌+◌, ◌-◌, ◌*◌, ◌/◌, ◌%◌, ◌<◌, ◌≤◌, Bool, true, false, nat_lt, ℤ, pos, negsuc, neg_ℤ, ◌-ℤ◌, ◌*ℤ◌, ◌≤ℤ◌, arith, refl, ap, ◌∙◌, sym, subst, inl, inr, ◌⊎◌}
use Rattle.std.proofs.Math.Nat.{mul-le-mul_right}
use Rattle.std.proofs.lemmas.Bool.{cases_lt, ltb-false, ltb-true}
use Rattle.std.proofs.lemmas.Int.{ints}
use Rattle.std.proofs.lemmas.Nat.{div-add-mod', mod_below}
use borrow.Author.Differences.{up, down, neg_is}
use lib.IntN.{*ℤ_comm}
use mir.Val.{bool_byte}
use Rattle.desk_model.specs.Floors.{IsFloor, IsCeiling}
use Rattle.desk_model.proofs.Floors.{ceiling_is}

-- the unit, and the parts of m units out of d: what m times the whole parts are with the whole parts of what is left, and what is left then
abbrev unit : ℕ
unit = 1000000000000000000

abbrev low_of : ℕ → ℕ → ℕ
low_of m d = m * (unit / d) + m * (unit % d) / d

abbrev left_of : ℕ → ℕ → ℕ
left_of m d = m * (unit % d) % d

-- they are all of it
together : (m d e r f s : ℕ) → e * d + r ≡ unit → f * d + s ≡ m * r → unit * m ≡ (m * e + f) * d + s
together m d e r f s h k = omega (arith, ap (λ (n : ℕ). n * m) h, k)

whole : (m d : ℕ) → unit * m ≡ low_of m d * d + left_of m d
whole m d = together m d (unit / d) (unit % d) (m * (unit % d) / d) (left_of m d) (div-add-mod' unit d) (div-add-mod' (m * (unit % d)) d)

read : (m d parts k l : ℕ) → parts ≡ d → k ≡ m → l ≡ m → l * (unit / parts) + k * (unit % parts) / parts ≡ low_of m d
read m d parts k l ed ek el =
    ap (λ (n : ℕ). l * (unit / n) + k * (unit % n) / n) ed ∙ ap (λ (n : ℕ). l * (unit / d) + n * (unit % d) / d) ek ∙ ap (λ (n : ℕ). n * (unit / d) + m * (unit % d) / d) el

one_more : (s t : ℕ) (b : Bool) → nat_lt 0 s ≡ b → t ≡ bool_byte b → ((s ≡ 0) × (t ≡ 0)) ⊎ ((0 < s) × (t ≡ 1))
one_more s t true e f = inr (ltb-true 0 s e, f)
one_more s t false e f = inl (let none = ltb-false 0 s e in omega (arith, none), f)

-- a number with no more than n over d, whose next one has more
no_more : (n d z w : ℕ) → n < z * d + d → w * d ≤ n → w ≤ z
no_more n d z w h k = elim (cases_lt z w) [
  | inl lt ↦ absurd (let more : (z + 1) * d ≤ w * d = mul-le-mul_right d (omega (arith, lt)) in omega (arith, more, h, k))
  | inr le ↦ le
]

-- a number with no less, whose last one has less
no_less : (n d z w : ℕ) → z * d < n + d → n ≤ w * d → z ≤ w
no_less n d z w h k = elim (cases_lt w z) [
  | inl lt ↦ absurd (let more : (w + 1) * d ≤ z * d = mul-le-mul_right d (omega (arith, lt)) in omega (arith, more, h, k))
  | inr le ↦ le
]

pub floor_when : (u m d z : ℕ) → z * d ≤ u * m → u * m < z * d + d → IsFloor (pos u *ℤ pos m) (pos d) (pos z)
floor_when u m d z low high = record { so = omega (arith, ints, low); others = most }
  where
    most : (w : ℤ) → (w *ℤ pos d) ≤ℤ (pos u *ℤ pos m) → w ≤ℤ pos z
    most (pos w) k = let p : w * d ≤ u * m = omega (arith, ints) in omega (arith, ints, no_more (u * m) d z w high p)
    most (negsuc w) k = omega (arith, ints)

pub ceiling_when : (u m d z : ℕ) → u * m ≤ z * d → z * d < u * m + d → IsCeiling (pos u *ℤ pos m) (pos d) (pos z)
ceiling_when u m d z low high = record { so = omega (arith, ints, low); others = least }
  where
    least : (w : ℤ) → (pos u *ℤ pos m) ≤ℤ (w *ℤ pos d) → pos z ≤ℤ w
    least (pos w) k = let p : u * m ≤ w * d = omega (arith, ints) in omega (arith, ints, no_less (u * m) d z w high p)
    least (negsuc w) k = absurd (omega (arith, ints))

-- the numbers that the code makes
pub floor_read : (m d parts k l : ℕ) (z : ℤ) → 0 < d → parts ≡ d → k ≡ m → l ≡ m → z ≡ pos (l * (unit / parts) + k * (unit % parts) / parts) → IsFloor (pos unit *ℤ pos m) (pos d) z
floor_read m d parts k l z some ed ek el e =
    let less : left_of m d < d = mod_below (m * (unit % d)) d some in
    subst (λ (x : ℤ). IsFloor (pos unit *ℤ pos m) (pos d) x) (sym (e ∙ ap pos (read m d parts k l ed ek el))) (floor_when unit m d (low_of m d) (omega (arith, whole m d)) (omega (arith, whole m d, less)))

pub ceiling_read : (m d parts k l t : ℕ) (z : ℤ) → 0 < d → parts ≡ d → k ≡ m → l ≡ m → t ≡ bool_byte (nat_lt 0 (k * (unit % parts) % parts)) → z ≡ pos (l * (unit / parts) + k * (unit % parts) / parts + t) → IsCeiling (pos unit *ℤ pos m) (pos d) z
ceiling_read m d parts k l t z some ed ek el et e =
    let less : left_of m d < d = mod_below (m * (unit % d)) d some in
    let more = one_more (left_of m d) t _ refl (et ∙ ap (λ (n : ℕ). bool_byte (nat_lt 0 (k * (unit % n) % n))) ed ∙ ap (λ (n : ℕ). bool_byte (nat_lt 0 (n * (unit % d) % d))) ek) in
    subst (λ (x : ℤ). IsCeiling (pos unit *ℤ pos m) (pos d) x) (sym (e ∙ ap (λ (n : ℕ). pos (n + t)) (read m d parts k l ed ek el))) (elim more [
      | inl none ↦ let same : low_of m d ≡ low_of m d + t = omega (arith, none.1) in subst (λ (n : ℕ). IsCeiling (pos unit *ℤ pos m) (pos d) (pos n)) same (ceiling_when unit m d (low_of m d) (omega (arith, whole m d, none.0)) (omega (arith, whole m d, some)))
      | inr one ↦ let next : low_of m d + 1 ≡ low_of m d + t = omega (arith, one.1) in subst (λ (n : ℕ). IsCeiling (pos unit *ℤ pos m) (pos d) (pos n)) next (ceiling_when unit m d (low_of m d + 1) (omega (arith, whole m d, less)) (omega (arith, whole m d, one.0)))
    ])

-- ---- negated numbers
neg_times : (f d : ℤ) → neg_ℤ f *ℤ d ≡ neg_ℤ (f *ℤ d)
neg_times f d =
    let parts = neg_is f in
    omega (arith, ints, ap (λ s. s * up d) parts.0, ap (λ s. s * down d) parts.0, ap (λ s. s * up d) parts.1, ap (λ s. s * down d) parts.1)

floor_turned : (n m d h : ℤ) → m ≡ neg_ℤ n → IsCeiling n d h → IsFloor m d (neg_ℤ h)
floor_turned n m d h e k = record {
  so = omega (arith, ints, e, neg_times h d, k.so);
  others = λ w p. let q : n ≤ℤ (neg_ℤ w *ℤ d) = omega (arith, ints, e, neg_times w d, p) in omega (arith, ints, k.others (neg_ℤ w) q);
}

product_turned : (u p q : ℕ) → p < q → pos u *ℤ (pos p -ℤ pos q) ≡ neg_ℤ (pos u *ℤ pos (q - p))
product_turned u p q lt =
    let num : pos p -ℤ pos q ≡ neg_ℤ (pos (q - p)) = omega (arith, ints, lt) in
    ap (λ (k : ℤ). pos u *ℤ k) num ∙ *ℤ_comm (pos u) (neg_ℤ (pos (q - p))) ∙ neg_times (pos (q - p)) (pos u) ∙ ap neg_ℤ (*ℤ_comm (pos (q - p)) (pos u))

-- the ends of a negative difference, from those of the positive one
pub floor_below : (u p q d : ℕ) (h : ℤ) → p < q → IsCeiling (pos u *ℤ pos (q - p)) (pos d) h → IsFloor (pos u *ℤ (pos p -ℤ pos q)) (pos d) (neg_ℤ h)
floor_below u p q d h lt k = floor_turned (pos u *ℤ pos (q - p)) (pos u *ℤ (pos p -ℤ pos q)) (pos d) h (product_turned u p q lt) k

pub ceiling_below : (u p q d : ℕ) (f : ℤ) → p < q → IsFloor (pos u *ℤ pos (q - p)) (pos d) f → IsCeiling (pos u *ℤ (pos p -ℤ pos q)) (pos d) (neg_ℤ f)
ceiling_below u p q d f lt k = ceiling_is (pos u *ℤ (pos p -ℤ pos q)) (pos u *ℤ pos (q - p)) (pos d) f (neg_ℤ f) (omega (arith, ints, product_turned u p q lt)) refl k

-- those of another one
pub floor_above : (u p q d : ℕ) (f : ℤ) → q ≤ p → IsFloor (pos u *ℤ pos (p - q)) (pos d) f → IsFloor (pos u *ℤ (pos p -ℤ pos q)) (pos d) f
floor_above u p q d f le k = let same : pos (p - q) ≡ pos p -ℤ pos q = omega (arith, ints, le) in subst (λ (n : ℤ). IsFloor (pos u *ℤ n) (pos d) f) same k

pub ceiling_above : (u p q d : ℕ) (h : ℤ) → q ≤ p → IsCeiling (pos u *ℤ pos (p - q)) (pos d) h → IsCeiling (pos u *ℤ (pos p -ℤ pos q)) (pos d) h
ceiling_above u p q d h le k = let same : pos (p - q) ≡ pos p -ℤ pos q = omega (arith, ints, le) in subst (λ (n : ℤ). IsCeiling (pos u *ℤ n) (pos d) h) same k
