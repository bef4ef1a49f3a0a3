use Rattle.std.proofs.Common.{◌≡◌, ℕ, ◌+◌, ◌<◌, ◌≤◌, get_or}
use Rattle.average_precision.specs.Uses.{share}
use Rattle.average_precision.proofs.uses.count_run.Given as goal

abbrev pub invariant-loop-doc : goal.invariant-loop-doc
invariant-loop-doc l = record {
  raised : (doc : ℕ) → doc < l.doc → get_or l.counts doc 0 ≡ get_or l.initial.counts doc 0 + share l.run.run.on.marks.now l.run.run.on.docs.now l.uses doc;
  left : (doc : ℕ) → l.doc ≤ doc → get_or l.counts doc 0 ≡ get_or l.initial.counts doc 0;
}
