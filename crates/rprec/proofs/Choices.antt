-- The greedy choice for each number of relevant documents, in counts.
use Rattle.std.proofs.Common.{◌≡◌, ℕ, ◌+◌, ◌-◌, ◌≤◌, min, true, false, ◌&&◌, List, length, take, count_by, arith, refl, sym, subst}
use Rattle.std.specs.List.{range_with_len}
use Rattle.std.proofs.lemmas.List.{length-take}
use Rattle.std.proofs.Math.Bool.{and-true}
use Rattle.desk_model.specs.Classes.{only_count}
use Rattle.desk_model.specs.Completion.{with_picked}
use Rattle.desk_model.specs.Ranking.{IsRanking}
use Rattle.desk_model.specs.Score.{true_among, true_count}
use Rattle.desk_model.specs.declared.types.Mark.{Mark}
use Rattle.desk_model.proofs.Counts.{count_by-agree}
use Rattle.measure_laws.specs.Differences.{is_smaller}
use Rattle.measure_laws.specs.Classes.{open_in, size_of, judged_count}
use Rattle.measure_laws.specs.RprecCase.{greedy_truth, greedy_scores}
use Rattle.measure_laws.proofs.RecallEnds.{every}
use Rattle.measure_laws.specs.LeastDifference.{IsPossible}
use Rattle.measure_laws.proofs.LeastDifferences.{greedy_lead, open_size}
use Rattle.measure_laws.proofs.RprecEnds.{count_picked}
use Rattle.measure_laws.proofs.Stretches.{class_sizes, greedy_smaller}
use Rattle.topic_counts.specs.declared.counts.Counts.{Counts}
use Rattle.rprec.specs.declared.prefixes.Prefixes.{Prefixes}
use Rattle.rprec.specs.declared.greedy.DepthCandidate.{DepthCandidate}
use Rattle.rprec.specs.Greedy.{AreTopic, AreFew, AreGains, beats}
use Rattle.rprec.proofs.Steps.{ArePrefixes}

-- ---- the gains of a greedy choice
pub gains_are : (marks : List Mark) (a b : List ℕ) (r chosen : ℕ) (f : Prefixes) (all : Counts) (c : DepthCandidate) → IsRanking (length marks) a → IsRanking (length marks) b →
    ArePrefixes marks (take r a) (take r b) f → AreTopic marks all → r ≡ all.relevant + chosen → chosen ≤ all.unjudged → c.count ≡ r →
    c.first ≡ f.first.relevant + (chosen - (all.unjudged - f.first.unjudged)) → c.second ≡ f.second.relevant + min chosen f.second.unjudged → AreGains marks a b c
gains_are marks a b r chosen f all c ra rb h topic er small ec e1 e2 =
    let picked : r - judged_count marks ≡ chosen = omega (arith, er, topic.relevant) in
    let possible : IsPossible marks r = (omega (arith, er, topic.relevant), omega (arith, er, small, topic.relevant, topic.unjudged)) in
    let lead = greedy_lead marks a b r ra rb possible in
    let here : true_among (greedy_truth marks a b r) r a + c.second ≡ true_among (greedy_truth marks a b r) r b + c.first = omega (arith, lead, picked, topic.unjudged, h.relevant, h.first, h.second, e1, e2) in
    record { same = subst (λ (s : ℕ). true_among (greedy_truth marks a b s) s a + c.second ≡ true_among (greedy_truth marks a b s) s b + c.first) (sym ec) here }

-- ---- one candidate against another
pub smaller_is : (marks : List Mark) (a b : List ℕ) (c best : DepthCandidate) → AreGains marks a b c → AreGains marks a b best →
    is_smaller (greedy_scores marks a b c.count) (greedy_scores marks a b best.count) ≡ beats c best
smaller_is marks a b c best h k = greedy_smaller marks a b c.count best.count c.first c.second best.first best.second h.same k.same

-- ---- sizes
-- the own unjudged documents of both are among all
pub own_both : (marks : List Mark) (a b : List ℕ) (r : ℕ) (f : Prefixes) (all : Counts) → IsRanking (length marks) a → IsRanking (length marks) b → ArePrefixes marks (take r a) (take r b) f → AreTopic marks all → f.first.unjudged + f.second.unjudged ≤ all.unjudged
own_both marks a b r f all ra rb h topic =
    omega (
      arith,
      topic.unjudged,
      open_size marks a b r (only_count false marks (take r a) (take r b)) f.first.unjudged ra refl (omega (arith, h.first)),
      open_size marks b a r (only_count false marks (take r b) (take r a)) f.second.unjudged rb refl (omega (arith, h.second)),
      class_sizes marks a b r,
    )

pub prefixes_small : (marks : List Mark) (a b : List ℕ) (r : ℕ) (f : Prefixes) → IsRanking (length marks) a → IsRanking (length marks) b → ArePrefixes marks (take r a) (take r b) f →
    (f.first.relevant + f.first.unjudged ≤ 10000) × (f.second.relevant + f.second.unjudged ≤ 10000)
prefixes_small marks a b r f ra rb h =
    (omega (arith, h.first_few, length-take {A = ℕ} r a, ra.short), omega (arith, h.second_few, length-take {A = ℕ} r b, rb.short))

-- all unjudged documents
pub all_open : (marks : List Mark) → true_count (with_picked marks (λ _. true)) (length marks) ≡ judged_count marks + size_of (length marks) (open_in marks (λ _. true))
all_open marks =
    let zs = range_with_len 0 (length marks) in
    let here : count_by (λ d. with_picked marks (λ _. true) d && true) zs ≡ count_by (with_picked marks (λ _. true)) zs = count_by-agree _ _ zs (every _ (λ d. and-true (with_picked marks (λ _. true) d)) zs) in
    let none : count_by (λ d. with_picked marks (λ _. false) d && true) zs ≡ judged_count marks = count_by-agree _ _ zs (every _ (λ d. and-true (with_picked marks (λ _. false) d)) zs) in
    let open_here : count_by (λ d. open_in marks (λ _. true) d && true) zs ≡ size_of (length marks) (open_in marks (λ _. true)) = count_by-agree _ _ zs (every _ (λ d. and-true (open_in marks (λ _. true) d)) zs) in
    omega (arith, here, none, open_here, count_picked marks (λ _. true) (λ _. true) zs)

pub few_are : (marks : List Mark) (a b : List ℕ) (r : ℕ) (f : Prefixes) (all : Counts) → IsRanking (length marks) a → IsRanking (length marks) b → ArePrefixes marks (take r a) (take r b) f → AreTopic marks all → all.relevant + all.unjudged ≤ 25000000 → AreFew f all
few_are marks a b r f all ra rb h topic few =
    let small = prefixes_small marks a b r f ra rb h in record { first = small.0; second = small.1; within = own_both marks a b r f all ra rb h topic; total = few }
