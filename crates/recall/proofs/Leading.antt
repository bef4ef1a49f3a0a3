-- Which of two runs leads, by the relevant documents of both and the second run's own unjudged ones.
use Rattle.std.proofs.Common.{◌≡◌, ℕ, ◌+◌, ◌≤◌, false, ◌&&◌, nat_lt, List, length, take, arith, refl, ap, ◌∙◌}
use Rattle.std.specs.List.{range_with_len}
use Rattle.std.proofs.lemmas.Bool.Decides.{nat_tests}
use Rattle.std.proofs.lemmas.List.Sums.{length-filter}
use Rattle.small_lemmas.proofs.Tests.{same_difference}
use Rattle.desk_model.specs.Classes.{only_count, prefix_count}
use Rattle.desk_model.specs.Completion.{with_picked}
use Rattle.desk_model.specs.Mark.{is_unjudged, mark_at}
use Rattle.desk_model.specs.Ranking.{IsRanking}
use Rattle.desk_model.specs.Score.{true_among}
use Rattle.desk_model.specs.declared.types.Mark.{Mark}
use Rattle.desk_model.proofs.Counts.{IsDistinct-take}
use Rattle.desk_model.proofs.PrecisionEnds.{difference_outside, least_attained}
use Rattle.measure_laws.specs.Classes.{open_in, size_of}
use Rattle.measure_laws.specs.LeastDifference.{own_unjudged}
use Rattle.measure_laws.specs.Prefixes.{only_second}
use Rattle.measure_laws.proofs.LeastDifferences.{only_more, open_size}
use Rattle.measure_core.specs.Lists.{added_documents}
use Rattle.measure_core.proofs.Pushing.{filter_same, open_picked}

-- what both share counts for both
pub leads_by : (k : ℕ) (marks : List Mark) (a b : List ℕ) (own first second : ℕ) → IsRanking (length marks) a → IsRanking (length marks) b → own ≡ size_of (length marks) (open_in marks (only_second k a b)) →
    first ≡ prefix_count false k marks a → second ≡ prefix_count false k marks b →
    let truth = with_picked marks (only_second k a b) in nat_lt (own + second) first ≡ nat_lt (true_among truth k b) (true_among truth k a)
leads_by k marks a b own first second ra rb eo ef es =
    let truth = with_picked marks (only_second k a b) in
    let dx = IsDistinct-take k a ra.distinct in
    let dy = IsDistinct-take k b rb.distinct in
    let more = only_more marks (take k b) (take k a) in
    let size : size_of (length marks) (open_in marks (only_second k a b)) ≡ own_unjudged k marks b a = open_size marks b a k (only_count false marks (take k b) (take k a)) (own_unjudged k marks b a) rb refl (omega (arith, more)) in
    same_difference (true_among truth k a) (true_among truth k b) first (own + second)
    (omega (arith, eo, ef, es, size, more, difference_outside (with_picked marks (λ _. false)) (take k a) (take k b) dx dy, least_attained marks (take k a) (take k b) dx dy))

-- nor does it lead with fewer relevant documents than the second run has unjudged ones of its own
pub too_few : (own first second : ℕ) → first ≤ own → nat_lt own first ≡ nat_lt (own + second) first
too_few own first second h = grind (arith, nat_tests)

-- as many are listed as there are
pub own_listed : (k : ℕ) (marks : List Mark) (a b : List ℕ) → length (added_documents marks (with_picked marks (only_second k a b))) ≡ size_of (length marks) (open_in marks (only_second k a b))
own_listed k marks a b =
    let pick = only_second k a b in
    ap (λ (l : List ℕ). length l) (filter_same (λ doc. is_unjudged (mark_at marks doc) && with_picked marks pick doc) (open_in marks pick) 0 (length marks) (λ doc from to. open_picked (pick doc) (mark_at marks doc)))
    ∙ length-filter (open_in marks pick) (range_with_len 0 (length marks))
