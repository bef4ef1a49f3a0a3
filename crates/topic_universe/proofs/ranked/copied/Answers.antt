use Rattle.std.proofs.Common.{List, ℕ, [], ◌∷◌, ◌++◌, ap, sym, ◌∙◌, arith}
use Rattle.std.proofs.lemmas.List.{take_all}
use Rattle.desk_model.proofs.Nested.{take-there}
use Rattle.topic_universe.proofs.ranked.copied.Goals as goal

pub loop-i-preserved : goal.loop-i-preserved
loop-i-preserved c =
    c.in_ok-push_copy.ensures
    ∙ ap (λ (ns : List (List ℕ)). ns ++ c.get.result.now ∷ []) c.loop-i.invariant ∙ sym (take-there c.args.names.now c.loop-i.i c.get.result.now c.get.ensures)

pub returns : goal.returns
returns c =
    c.loop-i.invariant ∙ take_all c.loop-i.i c.args.names.now (omega (arith, c.loop-i-test.false, c.len-i-end.ensures))
