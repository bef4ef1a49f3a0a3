-- What a ranking's first k documents are without those that another's share with them.
use Rattle.std.proofs.Common.{◌≡◌, ℕ, ◌+◌, ◌≤◌, Bool, true, false, List, take, length, arith}
use Rattle.desk_model.specs.Classes.{only_count, prefix_count}
use Rattle.desk_model.specs.Completion.{with_picked}
use Rattle.desk_model.specs.Ranking.{IsRanking, is_in}
use Rattle.desk_model.specs.declared.types.Mark.{Mark}
use Rattle.desk_model.proofs.Counts.{count_by-split, count_by-swap, IsDistinct-take}
use Rattle.measure_laws.proofs.LeastDifferences.{only_more}
use Rattle.topic_counts.specs.declared.counts.Counts.{Counts}
use Rattle.topic_counts.specs.Seen.{ArePrefix}
use Rattle.topic_counts.specs.Own.{shared_count, AreOwnCounts}

-- the counts of those that are among another's first k too
pub record AreShared (k : ℕ) (marks : List Mark) (a b : List ℕ) (counts : Counts) : Type 0 where
  pub least : counts.relevant ≡ shared_count false marks (take k a) (take k b)
  pub most : counts.relevant + counts.unjudged ≡ shared_count true marks (take k a) (take k b)

pub shared_swapped : (k : ℕ) (marks : List Mark) (a b : List ℕ) (shared : Counts) → IsRanking (length marks) a → IsRanking (length marks) b → AreShared k marks a b shared → AreShared k marks b a shared
shared_swapped k marks a b shared ra rb h =
    let swap = λ (taken : Bool). count_by-swap (with_picked marks (λ _. taken)) (take k a) (take k b) (IsDistinct-take k a ra.distinct) (IsDistinct-take k b rb.distinct) in
    record { least = omega (arith, h.least, swap false); most = omega (arith, h.most, swap true) }

split : (taken : Bool) (k : ℕ) (marks : List Mark) (a b : List ℕ) → prefix_count taken k marks a ≡ shared_count taken marks (take k a) (take k b) + only_count taken marks (take k a) (take k b)
split taken k marks a b = count_by-split (with_picked marks (λ _. taken)) (is_in (take k b)) (take k a)

pub fewer_relevant : (k : ℕ) (marks : List Mark) (a b : List ℕ) (prefix shared : Counts) → ArePrefix k marks a prefix → AreShared k marks a b shared → shared.relevant ≤ prefix.relevant
fewer_relevant k marks a b prefix shared f s = omega (arith, f.least, s.least, split false k marks a b)

pub fewer_unjudged : (k : ℕ) (marks : List Mark) (a b : List ℕ) (prefix shared : Counts) → ArePrefix k marks a prefix → AreShared k marks a b shared → shared.unjudged ≤ prefix.unjudged
fewer_unjudged k marks a b prefix shared f s =
    omega (arith, f.least, f.most, s.least, s.most, split false k marks a b, split true k marks a b, only_more marks (take k a) (take k b))

pub own_is : (k : ℕ) (marks : List Mark) (a b : List ℕ) (prefix shared own : Counts) → ArePrefix k marks a prefix → AreShared k marks a b shared →
    own.relevant + shared.relevant ≡ prefix.relevant → own.unjudged + shared.unjudged ≡ prefix.unjudged → AreOwnCounts k marks a b own
own_is k marks a b prefix shared own f s er eu = record {
  least = omega (arith, f.least, s.least, er, split false k marks a b);
  most = omega (arith, f.most, s.most, er, eu, split true k marks a b);
  few = omega (arith, f.few, er, eu);
}
