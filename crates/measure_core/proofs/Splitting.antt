-- Lists of chosen documents, weighed: those of a class that falls into two parts weigh as much as both parts.
use Rattle.std.proofs.Common.{◌≡◌, ℕ, zero, suc, ◌+◌, ◌*◌, ◌<◌, ◌≤◌, Bool, true, false, cond, ◌&&◌, List, [], ◌∷◌, ◌++◌, length, take, ap, ◌∙◌, arith}
use Rattle.std.specs.Prelude.{filter}
use Rattle.std.specs.List.{range_with_len}
use Rattle.std.proofs.lemmas.List.{take_all}
use Rattle.std.proofs.lemmas.List.Sums.{length-filter}
use Rattle.desk_model.specs.Completion.{with_picked}
use Rattle.desk_model.specs.Mark.{is_unjudged, mark_at}
use Rattle.desk_model.specs.declared.types.Mark.{Mark}
use Rattle.measure_laws.specs.Classes.{open_in, size_of}
use Rattle.measure_core.specs.Lists.{added_documents}
use Rattle.measure_core.proofs.Pushing.{filter_same, open_picked}
use Rattle.measure_core.proofs.Tallying.{added_few}

-- the documents that a completion adds where it picks a class are the unjudged ones of the class
pub added_class : (marks : List Mark) (class : ℕ → Bool) → added_documents marks (with_picked marks class) ≡ filter (open_in marks class) (range_with_len 0 (length marks))
added_class marks class = filter_same (λ doc. is_unjudged (mark_at marks doc) && with_picked marks class doc) (open_in marks class) 0 (length marks) (λ doc from to. open_picked (class doc) (mark_at marks doc))

-- as many as there are of the class
pub class_listed : (marks : List Mark) (class : ℕ → Bool) → length (added_documents marks (with_picked marks class)) ≡ size_of (length marks) (open_in marks class)
class_listed marks class = ap (λ (l : List ℕ). length l) (added_class marks class) ∙ length-filter (open_in marks class) (range_with_len 0 (length marks))

-- no more than all documents
pub all_taken : (marks : List Mark) (truth : ℕ → Bool) (most : ℕ) → most ≡ length marks → take most (added_documents marks truth) ≡ added_documents marks truth
all_taken marks truth most e = take_all most (added_documents marks truth) (omega (arith, e, added_few marks truth))

-- what lists weigh, document by document
module _ (weigh : List ℕ → ℕ) (one : ℕ → ℕ) (none : weigh [] ≡ 0) (more : (x : ℕ) (l : List ℕ) → weigh (x ∷ l) ≡ one x + weigh l) where
  pub weigh_both : (xs ys : List ℕ) → weigh (xs ++ ys) ≡ weigh xs + weigh ys
  weigh_both [] ys = omega (arith, none)
  weigh_both (x ∷ xs) ys = omega (arith, more x (xs ++ ys), more x xs, weigh_both xs ys)

  weigh_cond : (b : Bool) (x : ℕ) (l : List ℕ) → weigh (cond b (x ∷ l) l) ≡ cond b 1 0 * one x + weigh l
  weigh_cond true x l = more x l ∙ omega arith
  weigh_cond false x l = omega arith

  pub weigh_split : (whole p q : ℕ → Bool) (low n : ℕ) → ((d : ℕ) → low ≤ d → d < low + n → cond {A = ℕ} (whole d) 1 0 ≡ cond (p d) 1 0 + cond (q d) 1 0) →
      weigh (filter whole (range_with_len low n)) ≡ weigh (filter p (range_with_len low n)) + weigh (filter q (range_with_len low n))
  weigh_split whole p q low zero h = omega (arith, none)
  weigh_split whole p q low (suc n) h =
      let rest = range_with_len (low + 1) n in
      let shares : cond (whole low) 1 0 * one low ≡ cond (p low) 1 0 * one low + cond (q low) 1 0 * one low = ap (λ (m : ℕ). m * one low) (h low (omega arith) (omega arith)) ∙ parts (cond (p low) 1 0) (cond (q low) 1 0) (one low) in
      omega (
        arith,
        shares,
        weigh_cond (whole low) low (filter whole rest),
        weigh_cond (p low) low (filter p rest),
        weigh_cond (q low) low (filter q rest),
        weigh_split whole p q (low + 1) n (λ d from to. h d (omega (arith, from)) (omega (arith, to))),
      )
    where
      parts : (a b c : ℕ) → (a + b) * c ≡ a * c + b * c
      parts a b c = omega arith
