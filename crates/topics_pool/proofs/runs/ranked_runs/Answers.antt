use Rattle.std.proofs.Common.{◌≡◌, List, [], ◌∷◌, ◌++◌, length, sym, ap, ◌∙◌, append_assoc, append-nil, arith}
use Rattle.std.specs.Vec.Iter.{into_iter_items}
use Rattle.run_reader.specs.Run.{Run}
use Rattle.file_rows.proofs.Zipped.{nothing_left}
use Rattle.topics_pool.proofs.runs.ranked_runs.Goals as goal

pub loop-run-init : goal.loop-run-init
loop-run-init c =
    let given = c.into_iter-run-iterator.ensures.into_iter_gives in
    record {
      ranked = ap (λ (first : List Run). first ++ into_iter_items c.into_iter-run-iterator.result) c.in_ok-ranked.ensures.items ∙ given.0;
      left = let long = ap length given.0 in omega (arith, long, given.1, c.args.runs.ok);
    }

pub loop-run-preserved : goal.loop-run-preserved
loop-run-preserved c =
    let before = c.loop-run.ranked.items in
    let rest = into_iter_items c.next.new.self in
    let run = c.in-Some.run' in
    let steps : into_iter_items c.loop-run.run-iterator ≡ run ∷ rest = c.in-Some.ensures.steps.0 in
    record {
      ranked = ap (λ (first : List Run). first ++ rest) (c.in_ok-push.ensures.items ∙ ap (λ (one : Run). before ++ one ∷ []) c.in_ok-of.ensures)
          ∙ append_assoc before (run ∷ []) rest ∙ ap (λ (left : List Run). before ++ left) (sym steps) ∙ c.loop-run.invariant.ranked;
      left = let was = c.loop-run.invariant.left in let gone = c.in-Some.ensures.steps.1 in let short = ap length steps in omega arith;
    }

pub returns-clause-runs : goal.returns-clause-runs
returns-clause-runs c =
    let before = c.loop-run.ranked.items in
    let empty : into_iter_items c.loop-run.run-iterator ≡ [] = nothing_left _ (sym c.loop-run.invariant.left ∙ c.in-None.ensures.steps.0) in
    sym (append-nil before) ∙ ap (λ (left : List Run). before ++ left) (sym empty) ∙ c.loop-run.invariant.ranked

pub returns-clause-count : goal.returns-clause-count
returns-clause-count c =
    let before = c.loop-run.ranked.items in
    let empty : into_iter_items c.loop-run.run-iterator ≡ [] = nothing_left _ (sym c.loop-run.invariant.left ∙ c.in-None.ensures.steps.0) in
    let all = ap length (sym (append-nil before) ∙ ap (λ (left : List Run). before ++ left) (sym empty) ∙ c.loop-run.invariant.ranked) in
    omega (arith, all, c.loop-run.ranked.ok, c.args.runs.ok)
