use Rattle.std.proofs.Common.{◌≡◌, List, [], ◌∷◌, ◌++◌, length, sym, ap, ◌∙◌, append_assoc, append-nil, arith}
use Rattle.std.specs.Vec.Iter.{into_iter_items}
use Rattle.file_rows.specs.Grouped.{Valued}
use Rattle.file_rows.proofs.Zipped.{nothing_left}
use Rattle.file_rows.proofs.growing_rows.rows_of_all.Goals as goal

pub loop-topic-init : goal.loop-topic-init
loop-topic-init g c =
    let given = c.into_iter-topic-iterator.ensures.into_iter_gives in
    record {
      rows = ap (λ (first : List (List Valued)). first ++ into_iter_items c.into_iter-topic-iterator.result) c.in_ok-rows.ensures.items ∙ given.0;
      left = let long = ap length given.0 in omega (arith, long, given.1, c.args.grouped.ok);
    }

pub loop-topic-preserved : goal.loop-topic-preserved
loop-topic-preserved g c =
    let before = c.loop-topic.rows.items in
    let rest = into_iter_items c.next.new.self in
    let topic = c.in-Some.topic in
    let steps : into_iter_items c.loop-topic.topic-iterator ≡ topic ∷ rest = c.in-Some.ensures.steps.0 in
    record {
      rows = ap (λ (first : List (List Valued)). first ++ rest) (c.in_ok-push.ensures.items ∙ ap (λ (one : List Valued). before ++ one ∷ []) c.into_rows.ensures)
          ∙ append_assoc before (topic ∷ []) rest ∙ ap (λ (left : List (List Valued)). before ++ left) (sym steps) ∙ c.loop-topic.invariant.rows;
      left = let was = c.loop-topic.invariant.left in let gone = c.in-Some.ensures.steps.1 in let short = ap length steps in omega arith;
    }

pub returns : goal.returns
returns g c =
    let before = c.loop-topic.rows.items in
    let empty : into_iter_items c.loop-topic.topic-iterator ≡ [] = nothing_left _ (sym c.loop-topic.invariant.left ∙ c.in-None.ensures.steps.0) in
    sym (append-nil before) ∙ ap (λ (left : List (List Valued)). before ++ left) (sym empty) ∙ c.loop-topic.invariant.rows
