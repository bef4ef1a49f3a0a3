use Rattle.std.proofs.Common.{◌≡◌, ℕ, ◌<◌, ◌≤◌, get_or, bit_or}
use Rattle.order_tiers.proofs.run_set.join_words.Given as goal

abbrev pub invariant-loop-place : goal.invariant-loop-place
invariant-loop-place l = record {
  before : (k : ℕ) → k < l.place → get_or l.words k 0 ≡ bit_or (get_or l.initial.words k 0) (get_or l.others k 0);
  after : (k : ℕ) → l.place ≤ k → get_or l.words k 0 ≡ get_or l.initial.words k 0;
}
