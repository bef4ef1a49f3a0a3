-- What is known of two runs, and of each in the other's candidates.
use Rattle.std.proofs.Common.{◌≡◌, ℕ, Bool, true, false, List, length, ap, subst, ◌∙◌}
use Rattle.desk_model.specs.declared.types.Mark.{Mark}
use Rattle.measure_laws.specs.AverageEnds.{high_case, is_same_list, low_case}
use Rattle.precision_candidates.specs.Classes.{rounded}
use Rattle.average_precision.specs.Least.{AreKnown}
use Rattle.measure_core.specs.declared.room.CrossScores.{CrossScores}
use Rattle.average_precision.specs.Crossed.{AreCrossed}
use Rattle.average_precision.specs.Pairs.{IsPairRun}
use Rattle.average_precision.specs.declared.numbers.PairRun.{PairRun}

pub high_moved : (up : Bool) (marks other : List Mark) (run docs ranking : List ℕ) (v : ℕ) → marks ≡ other → run ≡ docs → v ≡ rounded up (length marks) (high_case marks run) ranking → v ≡ rounded up (length other) (high_case other docs) ranking
high_moved up marks other run docs ranking v e f h =
    h ∙ ap (λ (ms : List Mark). rounded up (length ms) (high_case ms run) ranking) e ∙ ap (λ (ds : List ℕ). rounded up (length other) (high_case other ds) ranking) f

pub low_moved : (up : Bool) (marks other : List Mark) (run docs ranking : List ℕ) (v : ℕ) → marks ≡ other → run ≡ docs → v ≡ rounded up (length marks) (low_case marks run) ranking → v ≡ rounded up (length other) (low_case other docs) ranking
low_moved up marks other run docs ranking v e f h =
    h ∙ ap (λ (ms : List Mark). rounded up (length ms) (low_case ms run) ranking) e ∙ ap (λ (ds : List ℕ). rounded up (length other) (low_case other ds) ranking) f

pub crossed_moved : (marks other : List Mark) (run own docs ranking : List ℕ) (scores : CrossScores) → marks ≡ other → run ≡ own → docs ≡ ranking →
    scores.in_high ≡ rounded true (length marks) (high_case marks run) docs → scores.in_low ≡ rounded false (length marks) (low_case marks run) docs → AreCrossed other own ranking scores
crossed_moved marks other run own docs ranking scores e f d h k =
    subst (λ (ds : List ℕ). AreCrossed other own ds scores) d (record { in_high = high_moved true marks other run own docs scores.in_high e f h; in_low = low_moved false marks other run own docs scores.in_low e f k })

pub both_known : (marks : List Mark) (a b : List ℕ) (first second : PairRun) (same : Bool) → IsPairRun marks a b first → IsPairRun marks b a second → same ≡ is_same_list a b →
    AreKnown marks a b same first.numbers second.numbers second.other.in_high first.other.in_low
both_known marks a b first second same h k e = record { same_list = e; first = h.numbers; second = k.numbers; high = k.other.in_high; low = h.other.in_low }

pub pair_run_moved : (marks other : List Mark) (run docs rival : List ℕ) (one : PairRun) → marks ≡ other → run ≡ docs → IsPairRun marks run rival one → IsPairRun other docs rival one
pair_run_moved marks other run docs rival one e f h = subst (λ (ms : List Mark). IsPairRun ms docs rival one) e (subst (λ (ds : List ℕ). IsPairRun marks ds rival one) f h)
