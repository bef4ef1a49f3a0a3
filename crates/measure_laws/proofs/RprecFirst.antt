-- R-precision's case has the smallest number of relevant documents at which a completion has the least difference.
use Rattle.std.proofs.Common.{◌≡◌, ℕ, zero, suc, ◌+◌, ◌<◌, ◌≤◌, true, List, [], ◌∷◌, ◌++◌, length, arith, subst, inl, inr}
use Rattle.std.specs.List.{AllByRecursion, range_with_len}
use Rattle.std.proofs.lemmas.Bool.{cases_lt}
use Rattle.desk_model.specs.Fraction.{over}
use Rattle.desk_model.specs.Ranking.{IsRanking}
use Rattle.desk_model.specs.Score.{true_among, true_count}
use Rattle.desk_model.specs.declared.types.Mark.{Mark}
use Rattle.measure_laws.specs.Differences.{ArePositive, Scores, is_smaller}
use Rattle.measure_laws.specs.Classes.{judged_count, open_in, size_of}
use Rattle.measure_laws.specs.RprecCase.{IsAttainedAt, IsSmallestAttained, greedy_pick, greedy_scores, greedy_truth, rprec_count, rprec_truth}
use Rattle.desk_model.proofs.Completions.{with_picked-Completes}
use Rattle.desk_model.proofs.Topics.{over-den}
use Rattle.measure_laws.proofs.Picks.{NoGreater, NoGreater-trans, no_smaller}
use Rattle.measure_laws.proofs.Firsts.{rprec_first}
use Rattle.measure_laws.proofs.RprecEnds.{greedy_is, greedy_no_greater, rprec_least_case, rprec_within, total_bounds}

-- what holds of the numbers before one in a range holds of each smaller number there
earlier : (P : ℕ → Type 0) (start n x d : ℕ) (before others : List ℕ) → range_with_len start n ≡ before ++ x ∷ others → AllByRecursion P before → start ≤ d → d < x → P d
earlier P start zero x d [] others e h k l = absurd (cc)
earlier P start zero x d (y ∷ ys) others e h k l = absurd (cc)
earlier P start (suc n) x d [] others e h k l = let same : start ≡ x = cc in absurd (omega (arith, same))
earlier P start (suc n) x d (y ∷ ys) others e h k l = elim (cases_lt start d) [
  | inl later ↦ let rest : range_with_len (start + 1) n ≡ ys ++ x ∷ others = cc in earlier P (start + 1) n x d ys others rest h.1 (omega arith) l
  | inr here ↦ let head : start ≡ y = cc in let same : y ≡ d = omega arith in subst P same h.0
]

-- no completion with fewer relevant documents has the least difference
rprec_others : (marks : List Mark) (a b : List ℕ) → IsRanking (length marks) a → IsRanking (length marks) b → (r : ℕ) → IsAttainedAt marks a b r → rprec_count marks a b ≤ r
rprec_others marks a b ra rb r (truth, total, case) = elim (cases_lt r (rprec_count marks a b)) [ inl less ↦ absurd (none less) | inr more ↦ more ]
  where
    none : r < rprec_count marks a b → ⊥
    none less =
        let n = length marks in
        let chosen = rprec_count marks a b in
        let value = greedy_scores marks a b in
        let best = greedy_truth marks a b chosen in
        let bounds = total_bounds marks truth case.completes in
        let low : judged_count marks ≤ r = omega (arith, bounds.0, total) in
        let high : r ≤ judged_count marks + size_of n (open_in marks (λ _. true)) = omega (arith, bounds.1, total) in
        let first = rprec_first marks a b in
        let test : is_smaller (value chosen) (value r) ≡ true =
        earlier (λ s. is_smaller (value chosen) (value s) ≡ true) (judged_count marks) (suc (size_of n (open_in marks (λ _. true)))) chosen r first.before first.others first.stands first.greater low less in
        let target : Scores = record { first = over (true_among truth r a) r; second = over (true_among truth r b) r } in
        let positive : ArePositive target = record { first = over-den (true_among truth r a) r; second = over-den (true_among truth r b) r } in
        let here : NoGreater (value r) target = greedy_no_greater marks a b ra rb truth case.completes r total (greedy_is marks a b r low high) in
        let within = rprec_within marks a b in
        let sum : true_count best n ≡ chosen = (greedy_is marks a b chosen within.0 within.1).total in
        let back : NoGreater target (value chosen) =
        subst (λ (s : ℕ). NoGreater target (record { first = over (true_among best s a) s; second = over (true_among best s b) s })) sum
        (subst (λ (s : ℕ). NoGreater (record { first = over (true_among truth s a) s; second = over (true_among truth s b) s }) (record { first = over (true_among best (true_count best n) a) (true_count best n); second = over (true_among best (true_count best n) b) (true_count best n) })) total
        (case.least best [] [] (with_picked-Completes marks (greedy_pick marks a b chosen)))) in
        let even = no_smaller (value r) (value chosen) (NoGreater-trans (value r) target (value chosen) positive here back) in
        absurd (cc)

pub rprec_smallest : (marks : List Mark) (a b : List ℕ) → IsRanking (length marks) a → IsRanking (length marks) b → IsSmallestAttained marks a b (rprec_count marks a b)
rprec_smallest marks a b ra rb =
    let within = rprec_within marks a b in
    record {
      attained = (rprec_truth marks a b, (greedy_is marks a b (rprec_count marks a b) within.0 within.1).total, rprec_least_case marks a b ra rb);
      others = rprec_others marks a b ra rb;
    }
