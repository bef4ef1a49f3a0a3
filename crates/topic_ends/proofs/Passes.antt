-- One pass over a ranking: what is counted so far, with what is still to come, stays the whole.
use Rattle.std.proofs.Common.{◌≡◌, ℕ, ◌+◌, ◌-◌, ◌<◌, ◌≤◌, Bool, true, false, cond, List, [], ◌∷◌, length, map, drop, get_or, ap, refl, ◌∙◌, arith}
use Rattle.std.specs.Prelude.{if◌then◌else◌}
use Rattle.std.proofs.lemmas.List.{at_drop_more, at_drop_all}
use Rattle.desk_model.specs.Completion.{picked_value}
use Rattle.desk_model.specs.Mark.{is_unjudged, mark_at}
use Rattle.desk_model.specs.declared.types.Mark.{Mark}
use Rattle.measure_laws.specs.Candidates.{open_docs}
use Rattle.measure_laws.proofs.AlongRanking.{open_is}
use Rattle.topic_ends.specs.declared.part_sum.PartSum.{PartSum}
use Rattle.topic_ends.specs.PartSums.{added, whole}
use Rattle.topic_ends.specs.Candidates.{along, gains_by, value_at}

abbrev pub one_open : Mark → ℕ
one_open m = if is_unjudged m then 1 else 0

-- ---- the sum
pub whole_next : (worth : ℕ → ℕ → ℕ) (sum : PartSum) (gain : Bool) (rank : ℕ) (gains : List Bool) → whole worth (added worth sum gain rank) (rank + 1) gains ≡ whole worth sum rank (gain ∷ gains)
whole_next worth sum true rank gains = omega arith
whole_next worth sum false rank gains = refl

pub gains_next : (high : Bool) (marks : List Mark) (docs : List ℕ) (i left : ℕ) → i < length docs →
    gains_by high (along marks (drop i docs)) left ≡ picked_value (value_at high left) (mark_at marks (get_or docs i 0)) ∷ gains_by high (along marks (drop (i + 1) docs)) (left - one_open (mark_at marks (get_or docs i 0)))
gains_next high marks docs i left lt = at_drop_more (λ (ds : List ℕ). gains_by high (along marks ds) left) docs i 0 lt

pub gains_end : (high : Bool) (marks : List Mark) (docs : List ℕ) (i left : ℕ) → length docs ≤ i → gains_by high (along marks (drop i docs)) left ≡ []
gains_end high marks docs i left le = at_drop_all (λ (ds : List ℕ). gains_by high (along marks ds) left) docs i le

-- ---- the unjudged documents
opens_cons : (b : Bool) (d : ℕ) (ds : List ℕ) → length (cond b (d ∷ ds) ds) ≡ (if b then 1 else 0) + length ds
opens_cons true d ds = omega arith
opens_cons false d ds = omega arith

pub open_next : (marks : List Mark) (docs : List ℕ) (i : ℕ) → i < length docs → length (open_docs marks (drop i docs)) ≡ one_open (mark_at marks (get_or docs i 0)) + length (open_docs marks (drop (i + 1) docs))
open_next marks docs i lt =
    at_drop_more (λ (ds : List ℕ). length (open_docs marks ds)) docs i 0 lt
    ∙ ap length (open_is marks (get_or docs i 0) (drop (i + 1) docs) (mark_at marks (get_or docs i 0)) refl)
    ∙ opens_cons (is_unjudged (mark_at marks (get_or docs i 0))) (get_or docs i 0) (open_docs marks (drop (i + 1) docs))

pub open_end : (marks : List Mark) (docs : List ℕ) (i : ℕ) → length docs ≤ i → length (open_docs marks (drop i docs)) ≡ 0
open_end marks docs i le = at_drop_all (λ (ds : List ℕ). length (open_docs marks ds)) docs i le

-- ---- the truth values along a ranking in a completion
pub truths_next : (truth : ℕ → Bool) (docs : List ℕ) (i : ℕ) → i < length docs → map truth (drop i docs) ≡ truth (get_or docs i 0) ∷ map truth (drop (i + 1) docs)
truths_next truth docs i lt = at_drop_more (map truth) docs i 0 lt

pub truths_end : (truth : ℕ → Bool) (docs : List ℕ) (i : ℕ) → length docs ≤ i → map truth (drop i docs) ≡ []
truths_end truth docs i le = at_drop_all (map truth) docs i le
