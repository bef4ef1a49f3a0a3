-- Documents written one by one after the first ones of a list.
use mir.Val.{bool_byte}
use Rattle.std.proofs.Common.{◌≡◌, ℕ, zero, suc, ◌+◌, ◌-◌, ◌<◌, ◌≤◌, Bool, true, false, ◌&&◌, cond, List, [], ◌∷◌, ◌++◌, length, take, replicate, set, refl, ap, ◌∙◌, arith}
use Rattle.std.proofs.lemmas.Grind.{common_steps}
use Rattle.desk_model.proofs.Counts.{one_if}

-- the first ones of a list with one more
taken_set : (docs : List ℕ) (count doc : ℕ) → count < length docs → take (suc count) (set docs count doc) ≡ take count docs ++ doc ∷ []
taken_set [] count doc lt = absurd (omega (arith, lt))
taken_set (d ∷ docs) zero doc lt = refl
taken_set (d ∷ docs) (suc count) doc lt = ap (λ (l : List ℕ). d ∷ l) (taken_set docs count doc (omega (arith, lt)))

-- what is written after them leaves them as they are
taken_same : (docs : List ℕ) (count doc : ℕ) → take count (set docs count doc) ≡ take count docs
taken_same [] count doc = refl
taken_same (d ∷ docs) zero doc = refl
taken_same (d ∷ docs) (suc count) doc = ap (λ (l : List ℕ). d ∷ l) (taken_same docs count doc)

-- one more is listed or none
pub put_first : (docs : List ℕ) (count doc : ℕ) (listed : Bool) (more : ℕ) → count < length docs → more ≡ bool_byte listed → take (count + more) (set docs count doc) ≡ cond listed (take count docs ++ doc ∷ []) (take count docs)
put_first docs count doc true more lt is = let next : count + more ≡ suc count = omega (arith, is) in ap (λ (n : ℕ). take n (set docs count doc)) next ∙ taken_set docs count doc lt
put_first docs count doc false more lt is = let next : count + more ≡ count = omega (arith, is) in ap (λ (n : ℕ). take n (set docs count doc)) next ∙ taken_same docs count doc

-- one that is listed is gone past
pub one_of_both : (listed passed both : Bool) → listed ≡ (passed && both) → one_if listed ≤ one_if passed
one_of_both listed true true is = omega (arith, ap one_if is)
one_of_both listed true false is = omega (arith, ap one_if is)
one_of_both listed false both is = omega (arith, ap one_if is)

-- a list that is made longer begins as before
pub taken_before : (before slots : List ℕ) (n len more : ℕ) → n ≡ len → len ≡ length before → slots ≡ take (n + more) before ++ replicate (n + more - len) 0 → take n slots ≡ before
taken_before before slots n len more is long longer = grind (arith, common_steps)
