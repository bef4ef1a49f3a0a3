-- What is known of a pair of runs on a topic.
use Rattle.std.proofs.Common.{◌≡◌, ℕ, ◌+◌, ◌<◌, ◌≤◌, true, false, List, take, length, get_or, arith, sym, subst}
use Rattle.desk_model.specs.Completion.{with_picked}
use Rattle.desk_model.specs.Score.{true_count}
use Rattle.desk_model.specs.declared.types.Mark.{Mark}
use Rattle.measure_core.specs.Pairs.{DeskTopic, AreAllMet, ranking_on, runs_on}
use Rattle.measure_core.proofs.RunPairs.{met_pair}
use Rattle.topic_counts.specs.Own.{AreOwnCounts}
use Rattle.topic_counts.specs.Seen.{AreSeenCounts, AreMarksIn}
use Rattle.topic_counts.specs.declared.counts.Counts.{Counts}
use Rattle.topic_counts.specs.declared.counts.OwnCounts.{OwnCounts}
use Rattle.measure_core.specs.Told.{AreTold, AreRunCounts}

module _ (k depth : ℕ) (marks : List Mark) (t : DeskTopic) (i j : ℕ) (b : List ℕ) (same : k ≡ depth) (second : b ≡ ranking_on t j) (met : AreAllMet marks t) (in_first : i < runs_on t) (in_second : j < runs_on t) where
  pub kept_at : (counts : List Counts) (none : Counts) (seen : List Mark) → AreRunCounts depth marks t counts → AreMarksIn (take k (ranking_on t i)) marks seen → AreSeenCounts k marks (ranking_on t i) b (get_or counts i none) (get_or counts j none) seen
  kept_at counts none seen counted h =
      subst (λ (n : ℕ). AreSeenCounts n marks (ranking_on t i) b (get_or counts i none) (get_or counts j none) seen) (sym same)
      (subst (λ (docs : List ℕ). AreSeenCounts depth marks (ranking_on t i) docs (get_or counts i none) (get_or counts j none) seen) (sym second)
      (record {
        ranking = met.each i in_first;
        other = met.each j in_second;
        first = counted i none in_first;
        second = counted j none in_second;
        alone = subst (λ (n : ℕ). AreMarksIn (take n (ranking_on t i)) marks seen) same h;
      }))

  pub told_at : (own : OwnCounts) (all : Counts) → AreOwnCounts k marks (ranking_on t i) b own.first → AreOwnCounts k marks b (ranking_on t i) own.second →
      all.relevant ≡ true_count (with_picked marks (λ _. false)) (length marks) → all.relevant + all.unjudged ≡ true_count (with_picked marks (λ _. true)) (length marks) → all.relevant + all.unjudged ≤ length marks →
      AreTold depth marks (ranking_on t i) (ranking_on t j) own all
  told_at own all first other least most few =
      let deep = λ (n : ℕ) (docs : List ℕ). AreOwnCounts n marks (ranking_on t i) docs own.first × AreOwnCounts n marks docs (ranking_on t i) own.second in
      let both : AreOwnCounts depth marks (ranking_on t i) (ranking_on t j) own.first × AreOwnCounts depth marks (ranking_on t j) (ranking_on t i) own.second = subst (λ (n : ℕ). deep n (ranking_on t j)) same (subst (λ (docs : List ℕ). deep k docs) second (first, other)) in
      record { met = met_pair marks t i j met in_first in_second; first = both.0; second = both.1; topic = record { least = least; most = most }; few = omega (arith, few, met.small) }
