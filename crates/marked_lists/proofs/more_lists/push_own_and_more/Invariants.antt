use Rattle.std.proofs.Common.{◌≡◌, ◌-◌, ◌≤◌, ◌++◌, length, count_by}
use Rattle.std.specs.Prelude.{◌&&◌}
use Rattle.std.specs.List.{range_with_len}
use Rattle.desk_model.specs.Completion.{with_picked}
use Rattle.desk_model.specs.Mark.{is_unjudged, mark_at}
use Rattle.measure_laws.specs.Classes.{open_in}
use Rattle.measure_laws.specs.Prefixes.{only_second, neutral}
use Rattle.measure_core.specs.Lists.{added_documents}
use Rattle.marked_lists.specs.More.{own_and_more}
use Rattle.marked_lists.proofs.InStep.{AreFrom}
use Rattle.measure_core.proofs.Pushing.{left_from}
use Rattle.marked_lists.proofs.more_lists.push_own_and_more.Given as goal

abbrev pub invariant-loop-doc : goal.invariant-loop-doc
invariant-loop-doc l =
    let truth = with_picked l.marks (own_and_more l.k l.fn.more l.marks l.pair.a.now l.pair.b.now) in
    record {
      doc_in : l.doc ≤ length l.marks;
      first_in : l.i ≤ length l.first;
      second_in : l.j ≤ length l.second;
      first : AreFrom l.first l.doc l.i;
      second : AreFrom l.second l.doc l.j;
      left_both : l.left.both ≡ l.fn.more.both - count_by (open_in l.marks (neutral l.k l.pair.a.now l.pair.b.now)) (range_with_len 0 l.doc);
      left_first : l.left.first ≡ l.fn.more.first - count_by (open_in l.marks (only_second l.k l.pair.b.now l.pair.a.now)) (range_with_len 0 l.doc);
      made : l.docs.items ++ left_from (λ doc. is_unjudged (mark_at l.marks doc) && truth doc) (length l.marks) l.doc ≡ l.initial.docs.items ++ added_documents l.marks truth;
    }

abbrev pub decreases-loop-doc : goal.decreases-loop-doc
decreases-loop-doc l = length l.marks - l.doc
