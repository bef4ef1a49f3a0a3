use Rattle.std.proofs.Common.{◌≡◌, ◌++◌, ℕ, Bool, not, take, drop}
use Rattle.std.specs.Prelude.{◌&&◌, filter}
use Rattle.desk_model.specs.Mark.{is_unjudged, mark_at}
use Rattle.desk_model.specs.Ranking.{is_in}
use Rattle.marked_lists.proofs.own_lists.push_found.Given as goal

abbrev pub invariant-loop-doc : goal.invariant-loop-doc
invariant-loop-doc l =
    let keep : ℕ → Bool = λ doc. is_unjudged (mark_at l.marks doc) && not (is_in (take l.k l.pair.a.now) doc) in
    record { made : l.docs.items ++ filter keep (drop l.doc-index l.doc-items) ≡ l.initial.docs.items ++ filter keep l.doc-items }
