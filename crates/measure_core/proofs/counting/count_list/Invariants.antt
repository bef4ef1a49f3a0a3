use Rattle.std.proofs.Common.{◌≡◌, ℕ, ◌+◌, ◌<◌, drop, length, get_or}
use Rattle.measure_core.specs.Lists.{times}
use Rattle.measure_core.proofs.counting.count_list.Given as goal

-- what is counted and what is left to count are all
abbrev pub invariant-loop-doc : goal.invariant-loop-doc
invariant-loop-doc l = record {
  size : length l.counts ≡ length l.initial.counts;
  counted : (doc : ℕ) → doc < length l.initial.counts → get_or l.counts doc 0 + times (drop l.doc-index l.list) doc ≡ get_or l.initial.counts doc 0 + times l.list doc;
}
