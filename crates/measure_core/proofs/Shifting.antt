-- Totals, document by document.
use Rattle.std.proofs.Common.{◌≡◌, ◌≢◌, inl, inr, ℕ, ◌+◌, ◌<◌, ◌≤◌, List, length, get_or, refl, subst, sym, ◌∙◌, arith}
use Rattle.std.proofs.Math.ListN.{set}
use Rattle.std.proofs.lemmas.List.{length-set, get_or-set_same, get_or-set_other}
use Rattle.small_lemmas.proofs.Numbers.{less_or_last}
use Rattle.measure_core.specs.Shifts.{HasRoom, IsShifted, HaveRoom, AreShifted}
use Rattle.measure_core.specs.declared.shift.Shift.{Shift}
use Rattle.measure_core.specs.declared.shift.Shift.TheVariants.{Add, TakeBack}

-- a weight of nothing changes nothing
nothing_shifted : (shift : Shift) (weight before now : ℕ) → weight ≡ 0 → now ≡ before → IsShifted shift weight before now
nothing_shifted Add weight before now h e = omega arith
nothing_shifted TakeBack weight before now h e = omega arith

-- the totals of the documents below one are shifted, and those from it on are as they were
pub record AreShiftedTo (shift : Shift) (weight : ℕ → ℕ) (before now : List ℕ) (end : ℕ) : Type 0 where
  pub count : length now ≡ length before
  pub shifted : (doc : ℕ) → doc < end → IsShifted shift (weight doc) (get_or before doc 0) (get_or now doc 0)
  pub kept : (doc : ℕ) → end ≤ doc → get_or now doc 0 ≡ get_or before doc 0

pub none_shifted : (shift : Shift) (weight : ℕ → ℕ) (totals : List ℕ) → AreShiftedTo shift weight totals totals 0
none_shifted shift weight totals = record { count = refl; shifted = λ doc lt. absurd (omega arith); kept = λ doc le. refl }

pub all_shifted : (shift : Shift) (weight : ℕ → ℕ) (before now : List ℕ) (end : ℕ) → AreShiftedTo shift weight before now end → length before ≤ end → AreShifted shift weight before now
all_shifted shift weight before now end h whole = record { count = h.count; each = λ doc lt. h.shifted doc (omega arith) }

-- there is room for the next document's weight
pub room_at : (shift : Shift) (weight : ℕ → ℕ) (before now : List ℕ) (end : ℕ) → AreShiftedTo shift weight before now end → HaveRoom shift weight before → end < length before → HasRoom shift (weight end) (get_or now end 0)
room_at shift weight before now end h room lt = subst (HasRoom shift (weight end)) (sym (h.kept end (omega arith))) (room end lt)

-- a document that weighs nothing
pub shifted_over : (shift : Shift) (weight : ℕ → ℕ) (before now : List ℕ) (end : ℕ) → AreShiftedTo shift weight before now end → weight end ≡ 0 → AreShiftedTo shift weight before now (end + 1)
shifted_over shift weight before now end h none = record {
  count = h.count;
  shifted = λ doc lt. elim (less_or_last doc end lt) [
    | inl less ↦ h.shifted doc less
    | inr e ↦ nothing_shifted shift (weight doc) (get_or before doc 0) (get_or now doc 0) (subst (λ (n : ℕ). weight n ≡ 0) (sym e) none) (h.kept doc (omega arith))
  ];
  kept = λ doc le. h.kept doc (omega arith);
}

-- the next document's total is shifted
pub shifted_next : (shift : Shift) (weight : ℕ → ℕ) (before now : List ℕ) (end total : ℕ) → AreShiftedTo shift weight before now end → end < length before → IsShifted shift (weight end) (get_or now end 0) total →
    AreShiftedTo shift weight before (set now end total) (end + 1)
shifted_next shift weight before now end total h lt is =
    let within : end < length now = omega (arith, h.count) in
    let here : get_or (set now end total) end 0 ≡ total = get_or-set_same now end total 0 within in
    let after : IsShifted shift (weight end) (get_or before end 0) (get_or (set now end total) end 0) =
    subst (λ (n : ℕ). IsShifted shift (weight end) (get_or before end 0) n) (sym here) (subst (λ (n : ℕ). IsShifted shift (weight end) n total) (h.kept end (omega arith)) is) in
    record {
      count = length-set now end total ∙ h.count;
      shifted = λ doc below. elim (less_or_last doc end below) [
        | inl less ↦
            let apart : doc ≢ end = omega arith in
            subst (λ (n : ℕ). IsShifted shift (weight doc) (get_or before doc 0) n) (sym (get_or-set_other now end doc total 0 apart)) (h.shifted doc less)
        | inr e ↦ subst (λ (n : ℕ). IsShifted shift (weight n) (get_or before n 0) (get_or (set now end total) n 0)) (sym e) after
      ];
      kept = λ doc le. let apart : doc ≢ end = omega arith in get_or-set_other now end doc total 0 apart ∙ h.kept doc (omega arith);
    }
