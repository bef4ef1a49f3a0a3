-- The ends that the code makes are those of the least case, and its bounds those of the extreme scores.
use Rattle.std.proofs.Common.{◌≡◌, ℕ, ◌^◌, ◌<◌, true, false, List, length, Option, None, ℤ, ap, ◌∙◌, arith}
use Rattle.std.proofs.lemmas.List.Elements.{recursion_from_All}
use Rattle.desk_model.specs.Mark.{mark_at}
use Rattle.desk_model.specs.Completion.{with_picked}
use Rattle.desk_model.specs.Extremes.{AreBounds}
use Rattle.desk_model.specs.Ranking.{IsRanking}
use Rattle.desk_model.specs.Score.{first_true, reciprocal}
use Rattle.desk_model.specs.declared.types.Mark.{Mark}
use Rattle.desk_model.specs.declared.types.MeasureName.TheVariants.{Reciprocal}
use Rattle.desk_model.proofs.Completions.{with_picked-Completes, allowed_least, allowed_most}
use Rattle.desk_model.proofs.PrecisionEnds.{weaker}
use Rattle.measure_laws.specs.ReciprocalCase.{with_choice, reciprocal_choice}
use Rattle.measure_laws.proofs.ReciprocalEnds.{more_true}
use Rattle.topic_counts.specs.declared.span.Span.{Span}
use Rattle.topic_counts.specs.Numbers.{difference_span}
use Rattle.topic_counts.proofs.Spans.{span, span_same}
use Rattle.measure_core.specs.Numbers.{exact_least, exact_bounds}
use Rattle.measure_core.proofs.Exact.{bounds_are}
use Rattle.measure_core.proofs.RunBounds.{run_bounds, score_bounds}
use Rattle.recip_rank.specs.declared.firsts.Candidate.{Candidate}
use Rattle.recip_rank.specs.Firsts.{AreFirsts}

pub least_is : (marks : List Mark) (a b : List ℕ) (best : Candidate) (s : Span) → best.choice ≡ reciprocal_choice marks a b → AreFirsts marks a b best →
    s ≡ difference_span (10 ^ 18) (reciprocal best.firsts.first) (reciprocal best.firsts.second) → s ≡ exact_least Reciprocal marks a b
unfolding exact_least
least_is marks a b best s chosen firsts e =
    e ∙ ap (λ o. difference_span (10 ^ 18) (reciprocal o) (reciprocal best.firsts.second)) firsts.first
    ∙ ap (λ o. difference_span (10 ^ 18) (reciprocal (first_true (with_choice marks best.choice) a)) (reciprocal o)) firsts.second
    ∙ ap (λ o. difference_span (10 ^ 18) (reciprocal (first_true (with_choice marks o) a)) (reciprocal (first_true (with_choice marks o) b))) chosen

ranges : (marks : List Mark) (a : List ℕ) → IsRanking (length marks) a →
    let known = score_bounds (10 ^ 18) (reciprocal (first_true (with_picked marks (λ _. false)) a)) (reciprocal (first_true (with_picked marks (λ _. true)) a)) in
    AreBounds Reciprocal (10 ^ 18) marks a known.lo known.hi
ranges marks a r =
    let none = with_picked marks (λ _. false) in
    let all = with_picked marks (λ _. true) in
    let within = recursion_from_All (λ d. d < length marks) a r.within in
    run_bounds Reciprocal (10 ^ 18) marks a none all (with_picked-Completes marks (λ _. false)) (with_picked-Completes marks (λ _. true))
    (λ truth tail c. more_true none truth 1 a (omega arith) (weaker (λ d. d < length marks) (λ d. none d ≡ true → truth d ≡ true) (λ d h. allowed_least (mark_at marks d) (truth d) (c d h)) a within))
    (λ truth tail c. more_true truth all 1 a (omega arith) (weaker (λ d. d < length marks) (λ d. truth d ≡ true → all d ≡ true) (λ d h. allowed_most (mark_at marks d) (truth d) (c d h)) a within))

-- the bounds that the code makes are those of all completions
pub bounds_read : (marks : List Mark) (a : List ℕ) (first last : Option ℕ) (low high : Span) (lo hi : ℤ) → IsRanking (length marks) a →
    first ≡ first_true (with_picked marks (λ _. false)) a → last ≡ first_true (with_picked marks (λ _. true)) a →
    low ≡ difference_span (10 ^ 18) (reciprocal first) (reciprocal None) → high ≡ difference_span (10 ^ 18) (reciprocal last) (reciprocal None) → lo ≡ low.lo → hi ≡ high.hi →
    span lo hi ≡ exact_bounds Reciprocal marks a
bounds_read marks a first last low high lo hi r ef el elow ehigh elo ehi =
    let none = with_picked marks (λ _. false) in
    let all = with_picked marks (λ _. true) in
    let bound = λ (o : Option ℕ). difference_span (10 ^ 18) (reciprocal o) (reciprocal None) in
    let known = score_bounds (10 ^ 18) (reciprocal (first_true none a)) (reciprocal (first_true all a)) in
    let low_is : lo ≡ known.lo = elo ∙ ap (λ (s : Span). s.lo) (elow ∙ ap bound ef) in
    let high_is : hi ≡ known.hi = ehi ∙ ap (λ (s : Span). s.hi) (ehigh ∙ ap bound el) in
    span_same lo known.lo hi known.hi low_is high_is ∙ bounds_are Reciprocal marks a known.lo known.hi tt tt r (ranges marks a r)
