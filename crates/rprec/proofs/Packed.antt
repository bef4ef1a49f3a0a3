-- Two counts in one number.
use Rattle.std.proofs.Common.{◌≡◌, ℕ, ◌<◌, ◌≤◌, true, false, List, length, refl, arith}
use Rattle.std.specs.Prelude.{slice_index}
use Rattle.desk_model.specs.Mark.{mark_at}
use Rattle.desk_model.specs.declared.types.Mark.{Mark}
use Rattle.desk_model.specs.declared.types.Mark.TheVariants.{Unjudged, Relevant, Other}
use Rattle.topic_counts.specs.Own.{AreCountsOf}
use Rattle.rprec.specs.Greedy.{one_of}
use Rattle.rprec.specs.Packed.{IsPackedNext, counts_for, pack}

-- where a list has a document at a place
pub next_here : (marks : List Mark) (docs : List ℕ) (place number : ℕ) → place < length docs → number ≡ pack (counts_for (mark_at marks (slice_index docs place))) → IsPackedNext marks docs place number
next_here marks docs place number lt e = record { counts = counts_for (mark_at marks (slice_index docs place)); next = record { here = λ h. either (mark_at marks (slice_index docs place)); past = λ h. absurd (omega (arith, lt, h)) }; same = e }
  where
    either : (m : Mark) → AreCountsOf (one_of false m) (one_of true m) (counts_for m)
    either Relevant = record { least = refl; most = refl }
    either Unjudged = record { least = refl; most = refl }
    either Other = record { least = refl; most = refl }

-- and where it has none
pub next_past : (marks : List Mark) (docs : List ℕ) (place : ℕ) → length docs ≤ place → IsPackedNext marks docs place 0
next_past marks docs place le = record { counts = record { relevant = 0; unjudged = 0 }; next = record { here = λ h. absurd (omega (arith, le, h)); past = λ h. record { least = refl; most = refl } }; same = refl }
