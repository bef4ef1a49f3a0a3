-- A run's classes stand for its two candidates.
use Rattle.std.proofs.Common.{◌≡◌, ℕ, ◌+◌, ◌-◌, ◌*◌, ◌<◌, ◌≤◌, Bool, true, false, List, [], ◌∷◌, length, map, ap, refl, subst, sym, ◌∙◌, arith}
use Rattle.std.specs.List.{AllByRecursion, range_with_len}
use Rattle.std.proofs.lemmas.List.Elements.{recursion_from_All}
use Rattle.desk_model.specs.Limits.{PARTS_OF_ONE, RANK_LIMIT}
use Rattle.desk_model.specs.Ranking.{IsRanking}
use Rattle.desk_model.specs.Score.{true_count}
use Rattle.desk_model.specs.declared.types.Mark.{Mark}
use Rattle.desk_model.proofs.Counts.{count_by-agree}
use Rattle.measure_laws.proofs.RecallEnds.{range_below}
use Rattle.measure_laws.specs.AverageEnds.{high_case, low_case}
use Rattle.desk_model.specs.Precisions.{true_ranks}
use Rattle.measure_laws.specs.Candidates.{high_choice, high_truth, low_choice, low_truth, open_docs}
use Rattle.measure_laws.specs.Parts.{high_average, low_average, ranked_sum}
use Rattle.measure_laws.proofs.AverageBounds.{bound_lo-most, bound_hi-most}
use Rattle.precision_candidates.specs.declared.candidate.Counts.{Counts}
use Rattle.precision_candidates.specs.declared.choice.Choice.{Choice}
use Rattle.precision_candidates.specs.declared.crossing.Documents.{Documents}
use Rattle.precision_candidates.specs.declared.runs.Chosen.{Chosen}
use Rattle.precision_candidates.specs.Runs.{AreChosen}
use Rattle.precision_candidates.specs.Classes.{AreDocuments, rounded}
use Rattle.precision_candidates.specs.Side.{AreCounts, IsChosen, out_of}
use Rattle.precision_candidates.specs.Sums.{worth_of}
use Rattle.precision_candidates.proofs.Choices.{greatest_is, smallest_is}
use Rattle.precision_candidates.proofs.Counting.{high_counted, low_counted}

maps_agree : (s t : ℕ → Bool) (n : ℕ) → ((d : ℕ) → d < n → s d ≡ t d) → (docs : List ℕ) → AllByRecursion (λ d. d < n) docs → map s docs ≡ map t docs
maps_agree s t n h [] w = refl
maps_agree s t n h (d ∷ ds) w = ap (λ b. b ∷ map s ds) (h d w.0) ∙ ap (λ bs. t d ∷ bs) (maps_agree s t n h ds w.1)

agree_all : (s t : ℕ → Bool) (n : ℕ) → ((d : ℕ) → d < n → s d ≡ t d) → (docs : List ℕ) → AllByRecursion (λ d. d < n) docs → AllByRecursion (λ d. s d ≡ t d) docs
agree_all s t n h [] w = tt
agree_all s t n h (d ∷ ds) w = (h d w.0, agree_all s t n h ds w.1)

pub counts_agree : (s t : ℕ → Bool) (n : ℕ) → ((d : ℕ) → d < n → s d ≡ t d) → true_count s n ≡ true_count t n
counts_agree s t n h = count_by-agree s t (range_with_len 0 n) (agree_all s t n h (range_with_len 0 n) (range_below n))

pub rounded_agree : (high : Bool) (n : ℕ) (s t : ℕ → Bool) (docs : List ℕ) → IsRanking n docs → ((d : ℕ) → d < n → s d ≡ t d) → rounded high n s docs ≡ rounded high n t docs
rounded_agree high n s t docs r h =
    ap (λ (gs : List Bool). out_of high (ranked_sum (worth_of high) 1 (true_ranks 1 gs)) (true_count s n)) (maps_agree s t n h docs (recursion_from_All (λ d. d < n) docs r.within))
    ∙ ap (λ (k : ℕ). out_of high (ranked_sum (worth_of high) 1 (true_ranks 1 (map t docs))) k) (counts_agree s t n h)

-- ---- the chosen candidates
pub high_within : (marks : List Mark) (docs : List ℕ) → high_choice marks docs ≤ length (open_docs marks docs)
high_within marks docs = (greatest_is (λ t. high_average (length marks) (high_truth marks docs t) docs) (length (open_docs marks docs))).within

pub low_within : (marks : List Mark) (docs : List ℕ) → low_choice marks docs ≤ length (open_docs marks docs)
low_within marks docs = (smallest_is (λ t. low_average (length marks) (low_truth marks docs t) docs) (length (open_docs marks docs))).within

pub taken_within : (marks : List Mark) (docs : List ℕ) (choice : Choice) → IsChosen true marks docs choice → choice.count ≤ length (open_docs marks docs)
taken_within marks docs choice h = omega (arith, h.count, high_within marks docs)

pub left_within : (marks : List Mark) (docs : List ℕ) (choice : Choice) → IsChosen false marks docs choice → choice.count ≤ length (open_docs marks docs)
left_within marks docs choice h = omega (arith, h.count)

pub high_documents : (marks : List Mark) (docs : List ℕ) (all : Counts) (choice : Choice) → IsRanking (length marks) docs → AreCounts marks all → IsChosen true marks docs choice → all.relevant + choice.count ≡ true_count (high_case marks docs) (length marks)
high_documents marks docs all choice r a h =
    omega (arith, a.relevant, h.count, high_counted marks docs (high_choice marks docs) r (high_within marks docs))

pub low_documents : (marks : List Mark) (docs : List ℕ) (all : Counts) (choice : Choice) → IsRanking (length marks) docs → AreCounts marks all → IsChosen false marks docs choice → all.possible - choice.count ≡ true_count (low_case marks docs) (length marks)
low_documents marks docs all choice r a h =
    let u = length (open_docs marks docs) in
    let back : u - (u - low_choice marks docs) ≡ low_choice marks docs = omega (arith, low_within marks docs) in
    let same : true_count (low_truth marks docs (u - (u - low_choice marks docs))) (length marks) ≡ true_count (low_case marks docs) (length marks) = ap (λ (t : ℕ). true_count (low_truth marks docs t) (length marks)) back in
    omega (arith, a.possible, h.count, same, low_counted marks docs (u - low_choice marks docs) r (omega arith))

pub low_value_small : (marks : List Mark) (docs : List ℕ) (choice : Choice) → IsRanking (length marks) docs → IsChosen false marks docs choice → choice.value ≤ RANK_LIMIT * PARTS_OF_ONE
low_value_small marks docs choice r h = omega (arith, h.value, bound_lo-most marks docs r)

pub high_value_small : (marks : List Mark) (docs : List ℕ) (choice : Choice) → IsRanking (length marks) docs → IsChosen true marks docs choice → choice.value ≤ RANK_LIMIT * PARTS_OF_ONE
high_value_small marks docs choice r h = omega (arith, h.value, bound_hi-most marks docs r)

pub documents_are : (marks : List Mark) (docs : List ℕ) (all : Counts) (chosen : Chosen) → IsRanking (length marks) docs → AreCounts marks all → AreChosen marks docs chosen →
    AreDocuments marks docs (record { in_high = all.relevant + chosen.high.count; in_low = all.possible - chosen.low.count })
documents_are marks docs all chosen r a h = record { in_high = high_documents marks docs all chosen.high r a h.high; in_low = low_documents marks docs all chosen.low r a h.low }

pub documents_moved : (marks other : List Mark) (run docs : List ℕ) (documents : Documents) → marks ≡ other → run ≡ docs → AreDocuments other docs documents → AreDocuments marks run documents
documents_moved marks other run docs documents e f h =
    subst (λ (ms : List Mark). AreDocuments ms run documents) (sym e) (subst (λ (ds : List ℕ). AreDocuments other ds documents) (sym f) h)
