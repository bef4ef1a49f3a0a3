-- Bits of documents, set one by one.
use denote.Enum.Bare.{sameb}
use Rattle.std.proofs.Common.{◌≡◌, ◌≢◌, ℕ, ◌+◌, ◌*◌, ◌/◌, ◌%◌, ◌^◌, ◌<◌, Bool, true, false, nat_eq, ◌||◌, List, [], ◌∷◌, ◌++◌, take, length, get_or, set, bit_or, w64, inl, inr, arith, refl, ap, ◌∙◌, sym}
use Rattle.std.specs.Prelude.{◌&&◌, not}
use Rattle.std.specs.Int.{bit_at}
use Rattle.std.proofs.lemmas.Bool.Decides.{nat_tests}
use Rattle.std.proofs.lemmas.Grind.{get_or-set_at}
use Rattle.std.proofs.lemmas.List.{take_more, length-set, get_or-set_other}
use Rattle.std.proofs.lemmas.List.Folds.{list_any-append}
use Rattle.std.proofs.lemmas.Nat.Bits.{bit_at_set_same, bit_at_set_other}
use Rattle.small_lemmas.proofs.Numbers.{same_or_not}
use Rattle.desk_model.specs.Mark.{mark_at}
use Rattle.desk_model.specs.Ranking.{is_in}
use Rattle.desk_model.specs.declared.types.Mark.{Mark}
use Rattle.desk_model.specs.declared.types.Mark.TheVariants.{Unjudged, Relevant, Other}
use Rattle.desk_model.specs.contracts.types.Mark.{the_type}
use Rattle.desk_model.proofs.Counts.{nat_eq-true}
use Rattle.measure_core.specs.Bits.{AreBitsIn, has_bit, may_be_relevant}

-- ---- one bit more
abbrev pub with_bit : List ℕ → ℕ → List ℕ
with_bit bits d = set bits (d / 64) (bit_or (get_or bits (d / 64) 0) (1 * 2 ^ (d % 64) % 2 ^ 64))

small : (d : ℕ) → d % 64 < 64
small d = omega arith

set_here : (bits : List ℕ) (d : ℕ) → d < 64 * length bits → has_bit (with_bit bits d) d ≡ true
set_here bits d within =
    let n : ℕ = get_or bits (d / 64) 0 in
    ap (λ (m : ℕ). nat_eq (bit_at m (d % 64)) 1) (get_or-set_at bits (d / 64) (d / 64) (bit_or n (1 * 2 ^ (d % 64) % 2 ^ 64)) 0 refl (omega (arith, within)))
    ∙ ap (λ (m : ℕ). nat_eq m 1) (bit_at_set_same w64 n (d % 64) (small d))

kept_elsewhere : (bits : List ℕ) (d doc : ℕ) → d < 64 * length bits → doc ≢ d → has_bit (with_bit bits d) doc ≡ has_bit bits doc
kept_elsewhere bits d doc within other = elim (same_or_not (doc / 64) (d / 64)) [
  | inl same ↦
      let n : ℕ = get_or bits (d / 64) 0 in
      let apart : doc % 64 ≢ d % 64 = λ bad. other (omega (arith, bad, same)) in
      ap (λ (m : ℕ). nat_eq (bit_at m (doc % 64)) 1) (get_or-set_at bits (d / 64) (doc / 64) (bit_or n (1 * 2 ^ (d % 64) % 2 ^ 64)) 0 same (omega (arith, within)))
      ∙ ap (λ (m : ℕ). nat_eq m 1) (bit_at_set_other w64 n (d % 64) (small d) (doc % 64) apart)
      ∙ sym (ap (λ (k : ℕ). nat_eq (bit_at (get_or bits k 0) (doc % 64)) 1) same)
  | inr elsewhere ↦ ap (λ (m : ℕ). nat_eq (bit_at m (doc % 64)) 1) (get_or-set_other bits (d / 64) (doc / 64) (bit_or (get_or bits (d / 64) 0) (1 * 2 ^ (d % 64) % 2 ^ 64)) 0 elsewhere)
]

-- ---- one document more
module _ (docs : List ℕ) (i d : ℕ) (lt : i < length docs) (here : get_or docs i 0 ≡ d) where
  one_more : (doc : ℕ) → is_in (take (i + 1) docs) doc ≡ (is_in (take i docs) doc || (nat_eq d doc || false))
  one_more doc = ap (λ (l : List ℕ). is_in l doc) (take_more docs i 0 lt ∙ ap (λ (x : ℕ). take i docs ++ x ∷ []) here) ∙ list_any-append (λ each. nat_eq each doc) (take i docs) (d ∷ [])

  found : (doc : ℕ) → nat_eq d doc ≡ true → is_in (take (i + 1) docs) doc ≡ true
  found doc e = one_more doc ∙ at (is_in (take i docs) doc) (nat_eq d doc) e
    where
      at : (x b : Bool) → b ≡ true → (x || (b || false)) ≡ true
      at true b e = refl
      at false true e = refl
      at false false e = absurd (cc)

  unchanged : (doc : ℕ) → nat_eq d doc ≡ false → is_in (take (i + 1) docs) doc ≡ is_in (take i docs) doc
  unchanged doc e = one_more doc ∙ at (is_in (take i docs) doc) (nat_eq d doc) e
    where
      at : (x b : Bool) → b ≡ false → (x || (b || false)) ≡ x
      at true b e = refl
      at false true e = absurd (cc)
      at false false e = refl

  module _ (marks : List Mark) (bits : List ℕ) (before : AreBitsIn (take i docs) marks bits) where
    next : (after : List ℕ) → length after ≡ length bits → has_bit after d ≡ may_be_relevant (mark_at marks d) → ((doc : ℕ) → doc ≢ d → has_bit after doc ≡ has_bit bits doc) → AreBitsIn (take (i + 1) docs) marks after
    next after count now kept = record {
      long = omega (arith, before.long, count);
      each = λ doc in_marks. at doc in_marks (nat_eq d doc) refl;
    }
      where
        apart : (doc : ℕ) → nat_eq d doc ≡ false → doc ≢ d
        apart doc e = grind (arith, nat_tests)

        at : (doc : ℕ) → doc < length marks → (b : Bool) → nat_eq d doc ≡ b → has_bit after doc ≡ (is_in (take (i + 1) docs) doc && may_be_relevant (mark_at marks doc))
        at doc in_marks true e =
            let same : doc ≡ d = sym (nat_eq-true d doc e) in
            ap (has_bit after) same ∙ now ∙ ap (λ (x : ℕ). may_be_relevant (mark_at marks x)) (sym same) ∙ sym (ap (λ (b : Bool). b && may_be_relevant (mark_at marks doc)) (found doc e))
        at doc in_marks false e = kept doc (apart doc e) ∙ before.each doc in_marks ∙ sym (ap (λ (b : Bool). b && may_be_relevant (mark_at marks doc)) (unchanged doc e))

    pub bit_set : d < length marks → may_be_relevant (mark_at marks d) ≡ true → AreBitsIn (take (i + 1) docs) marks (with_bit bits d)
    bit_set known may =
        let within : d < 64 * length bits = omega (arith, known, before.long) in
        next (with_bit bits d) (length-set bits (d / 64) (bit_or (get_or bits (d / 64) 0) (1 * 2 ^ (d % 64) % 2 ^ 64))) (set_here bits d within ∙ sym may) (λ doc other. kept_elsewhere bits d doc within other)

    pub bit_left : d < length marks → may_be_relevant (mark_at marks d) ≡ false → AreBitsIn (take (i + 1) docs) marks bits
    bit_left known may = next bits refl (before.each d known ∙ at (is_in (take i docs) d) (may_be_relevant (mark_at marks d)) may) (λ doc other. refl)
      where
        at : (x b : Bool) → b ≡ false → (x && b) ≡ b
        at true b e = refl
        at false b e = sym e

-- the test of a mark
pub is_not_other : (mark : Mark) → may_be_relevant mark ≡ not (sameb the_type mark Other)
is_not_other Unjudged = refl
is_not_other Relevant = refl
is_not_other Other = refl
