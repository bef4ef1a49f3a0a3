-- The classes of a topic are made document by document.
use Rattle.std.proofs.Common.{◌≡◌, ℕ, ◌+◌, ◌<◌, ◌≤◌, nat_eq, Bool, true, false, List, length, set, refl, sym, subst, ◌∙◌, inl, inr, arith}
use Rattle.std.proofs.lemmas.Bool.{cases_lt, eqb-false}
use Rattle.std.proofs.lemmas.List.{get_or-set_same, get_or-set_other, length-set}
use Rattle.desk_model.specs.Mark.{mark_at}
use Rattle.desk_model.specs.declared.types.Mark.{Mark}
use Rattle.desk_model.proofs.Counts.{nat_eq-true}
use Rattle.measure_core.specs.declared.room.Class.{Class}
use Rattle.measure_core.specs.declared.room.Class.TheVariants.{Neither}
use Rattle.precision_candidates.specs.Classes.{AreBase, base_class, class_at}

-- the first so many are
pub record AreBaseTo (marks : List Mark) (n : ℕ) (classes : List Class) : Type 0 where
  pub long : length classes ≡ length marks
  pub each : (doc : ℕ) → doc < n → class_at classes doc ≡ base_class (mark_at marks doc)

pub base_more : (marks : List Mark) (n : ℕ) (classes : List Class) (c : Class) → n < length marks → c ≡ base_class (mark_at marks n) → AreBaseTo marks n classes → AreBaseTo marks (n + 1) (set classes n c)
base_more marks n classes c lt e h = record { long = length-set classes n c ∙ h.long; each = λ doc l. by doc l (nat_eq n doc) refl }
  where
    earlier : (doc : ℕ) → doc < n + 1 → nat_eq n doc ≡ false → doc < n
    earlier doc l other = elim (cases_lt doc n) [
      | inl less ↦ less
      | inr more ↦ absurd (eqb-false n doc other (omega (arith, l, more)))
    ]

    by : (doc : ℕ) → doc < n + 1 → (b : Bool) → nat_eq n doc ≡ b → class_at (set classes n c) doc ≡ base_class (mark_at marks doc)
    by doc l true same =
        subst (λ (m : ℕ). class_at (set classes n c) m ≡ base_class (mark_at marks m)) (nat_eq-true n doc same) (get_or-set_same classes n c Neither (omega (arith, lt, h.long)) ∙ e)
    by doc l false other = get_or-set_other classes n doc c Neither (λ k. eqb-false n doc other (sym k)) ∙ h.each doc (earlier doc l other)

pub base_all : (marks : List Mark) (n : ℕ) (classes : List Class) → length marks ≤ n → AreBaseTo marks n classes → AreBase marks classes
base_all marks n classes le h = record { long = h.long; each = λ doc lt. h.each doc (omega (arith, lt, le)) }
