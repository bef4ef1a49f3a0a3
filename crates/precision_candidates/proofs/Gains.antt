-- A pass over a ranking in a completion: the truth values still to come.
use Rattle.std.proofs.Common.{◌≡◌, ℕ, ◌+◌, ◌<◌, ◌≤◌, Bool, List, [], ◌∷◌, length, map, drop, get_or, ap, sym, ◌∙◌}
use Rattle.std.proofs.lemmas.List.{at_drop_more, at_drop_all}
use Rattle.precision_candidates.specs.declared.sums.Sum.{Sum}
use Rattle.precision_candidates.specs.Sums.{added, whole}
use Rattle.precision_candidates.proofs.Pass.{whole_next}

pub truths_next : (truth : ℕ → Bool) (docs : List ℕ) (i : ℕ) → i < length docs → map truth (drop i docs) ≡ truth (get_or docs i 0) ∷ map truth (drop (i + 1) docs)
truths_next truth docs i lt = at_drop_more (map truth) docs i 0 lt

pub truths_end : (truth : ℕ → Bool) (docs : List ℕ) (i : ℕ) → length docs ≤ i → map truth (drop i docs) ≡ []
truths_end truth docs i le = at_drop_all (map truth) docs i le

-- a sum with the rest of a ranking stays the same where its next place is true or not as the completion says
pub sum_next : (worth : ℕ → ℕ → ℕ) (truth : ℕ → Bool) (docs : List ℕ) (i : ℕ) (sum : Sum) (gain : Bool) (rank total : ℕ) → i < length docs → gain ≡ truth (get_or docs i 0) →
    whole worth sum rank (map truth (drop i docs)) ≡ total → whole worth (added worth sum gain rank) (rank + 1) (map truth (drop (i + 1) docs)) ≡ total
sum_next worth truth docs i sum gain rank total lt e h =
    whole_next worth sum gain rank (map truth (drop (i + 1) docs))
    ∙ ap (λ (b : Bool). whole worth sum rank (b ∷ map truth (drop (i + 1) docs))) e
    ∙ sym (ap (whole worth sum rank) (truths_next truth docs i lt))
    ∙ h
