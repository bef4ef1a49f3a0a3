use Rattle.std.proofs.Common.{◌≡◌, ℕ, ◌+◌, ◌-◌, ◌<◌, ◌≤◌, Bool, ◌&&◌, length, get_or, take}
use Rattle.desk_model.specs.Completion.{with_picked}
use Rattle.desk_model.specs.Mark.{is_unjudged, mark_at}
use Rattle.measure_laws.specs.Prefixes.{neutral}
use Rattle.measure_core.specs.Lists.{first_neutral, times}
use Rattle.measure_core.proofs.Pushing.{left_from}
use Rattle.marked_lists.proofs.neutral.count_neutral.Given as goal

-- what is counted and what is left to count are all
abbrev pub invariant-loop-doc : goal.invariant-loop-doc
invariant-loop-doc l =
    let test : ℕ → Bool = λ doc. is_unjudged (mark_at l.marks doc) && with_picked l.marks (neutral l.k l.ranked.a.now l.ranked.b.now) doc in
    let whole = first_neutral l.k l.fn.most l.marks l.ranked.a.now l.ranked.b.now in
    let rest = take l.left (left_from test (length l.marks) l.doc) in
    record {
      doc_in : l.doc ≤ length l.marks;
      size : length l.counts ≡ length l.initial.counts;
      left : l.left + length whole ≡ l.fn.most + length rest;
      few : l.left ≤ l.fn.most;
      counted : (doc : ℕ) → doc < length l.initial.counts → get_or l.counts doc 0 + times rest doc ≡ get_or l.initial.counts doc 0 + times whole doc;
    }

abbrev pub decreases-loop-doc : goal.decreases-loop-doc
decreases-loop-doc l = length l.marks - l.doc
