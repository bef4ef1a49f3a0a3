-- The totals of all topics, topic by topic.
use Rattle.std.proofs.Common.{◌≡◌, ◌≢◌, inl, inr, ℕ, ◌+◌, ◌<◌, ◌≤◌, List, [], length, get_or, refl, sym, ◌∙◌, subst, arith}
use Rattle.std.proofs.Math.ListN.{set}
use Rattle.std.proofs.lemmas.List.{length-set, get_or-set_same, get_or-set_other}
use Rattle.desk_model.specs.declared.types.Mark.{Mark}
use Rattle.measure_core.specs.Shifts.{AreShifted}
use Rattle.measure_core.specs.declared.shift.Shift.{Shift}
use Rattle.small_lemmas.proofs.Numbers.{less_or_last}
use Rattle.next_document.specs.Kept.{AreOver}

-- the totals of the topics below one are shifted, and all others are as they were
pub record AreShiftedBelow (shift : Shift) (weights : ℕ → ℕ → ℕ) (end : ℕ) (old now : List (List ℕ)) : Type 0 where
  pub count : length now ≡ length old
  pub done : (topic : ℕ) → topic < end → AreShifted shift (weights topic) (get_or old topic []) (get_or now topic [])
  pub kept : (topic : ℕ) → end ≤ topic → get_or now topic [] ≡ get_or old topic []

module _ (shift : Shift) (weights : ℕ → ℕ → ℕ) (old now : List (List ℕ)) where
  pub none_below : (totals : List (List ℕ)) → AreShiftedBelow shift weights 0 totals totals
  none_below totals = record { count = refl; done = λ topic lt. absurd (omega arith); kept = λ topic le. refl }

  -- the next topic
  pub shifted_topic : (end : ℕ) (totals : List ℕ) → AreShiftedBelow shift weights end old now → end < length old → AreShifted shift (weights end) (get_or now end []) totals → AreShiftedBelow shift weights (end + 1) old (set now end totals)
  shifted_topic end totals h lt is =
      let within : end < length now = omega (arith, h.count) in
      let here : AreShifted shift (weights end) (get_or old end []) (get_or (set now end totals) end []) =
      subst (λ (xs : List ℕ). AreShifted shift (weights end) (get_or old end []) xs) (sym (get_or-set_same now end totals [] within))
      (subst (λ (xs : List ℕ). AreShifted shift (weights end) xs totals) (h.kept end (omega arith)) is) in
      record {
        count = length-set now end totals ∙ h.count;
        done = λ topic below. elim (less_or_last topic end below) [
          | inl less ↦
              let other : topic ≢ end = omega arith in
              subst (λ (xs : List ℕ). AreShifted shift (weights topic) (get_or old topic []) xs) (sym (get_or-set_other now end topic totals [] other)) (h.done topic less)
          | inr e ↦ subst (λ (t : ℕ). AreShifted shift (weights t) (get_or old t []) (get_or (set now end totals) t [])) (sym e) here
        ];
        kept = λ topic le. let other : topic ≢ end = omega arith in get_or-set_other now end topic totals [] other ∙ h.kept topic (omega arith);
      }

  -- all totals are over the marks as before
  pub shifted_over : (marks : List (List Mark)) (end : ℕ) → AreShiftedBelow shift weights end old now → length marks ≤ end → AreOver marks old → AreOver marks now
  shifted_over marks end h whole over = record { topics = h.count ∙ over.topics; docs = λ topic lt. (h.done topic (omega arith)).count ∙ over.docs topic lt }
