use Rattle.std.proofs.Common.{◌≡◌, List, [], ◌∷◌, ◌++◌, length, map, sym, subst, ap, ◌∙◌, append_assoc, append-nil, arith}
use Rattle.std.specs.Prelude.{All}
use Rattle.std.specs.List.{IsDistinct}
use Rattle.std.specs.Str.{bytes_eq}
use Rattle.std.specs.Vec.Iter.{into_iter_items}
use Rattle.file_rows.specs.Grouped.{Valued}
use Rattle.file_rows.proofs.Zipped.{nothing_left}
use Rattle.topic_universe.proofs.Topics.{all_there}
use Rattle.topic_universe.proofs.ranked_topics.all_ranked.Goals as goal

abbrev Differ : List Valued → Type 0
Differ rows = IsDistinct bytes_eq (map (λ (row : Valued). row.document) rows)

pub loop-rows-init : goal.loop-rows-init
loop-rows-init c =
    let given = c.into_iter-rows-iterator.ensures.into_iter_gives in
    record {
      ranked = ap (λ (first : List (List Valued)). first ++ into_iter_items c.into_iter-rows-iterator.result) c.in_ok-ranked.ensures.items ∙ given.0;
      left = let long = ap length given.0 in omega (arith, long, given.1, c.args.grouped.ok);
    }

pub of-requires : goal.of-requires
of-requires c =
    let before = c.loop-rows.ranked.items in
    let split = sym c.loop-rows.invariant.ranked ∙ ap (λ (rest : List (List Valued)). before ++ rest) c.in-Some.ensures.steps.0 in
    all_there Differ before (into_iter_items c.next.new.self) c.in-Some.rows (subst (All Differ) split c.requires)

pub loop-rows-preserved : goal.loop-rows-preserved
loop-rows-preserved c =
    let before = c.loop-rows.ranked.items in
    let rest = into_iter_items c.next.new.self in
    let rows = c.in-Some.rows in
    let steps : into_iter_items c.loop-rows.rows-iterator ≡ rows ∷ rest = c.in-Some.ensures.steps.0 in
    record {
      ranked = ap (λ (first : List (List Valued)). first ++ rest) (c.in_ok-push.ensures.items ∙ ap (λ (one : List Valued). before ++ one ∷ []) c.in_ok-of.ensures)
          ∙ append_assoc before (rows ∷ []) rest ∙ ap (λ (left : List (List Valued)). before ++ left) (sym steps) ∙ c.loop-rows.invariant.ranked;
      left = let was = c.loop-rows.invariant.left in let gone = c.in-Some.ensures.steps.1 in let short = ap length steps in omega arith;
    }

pub returns : goal.returns
returns c =
    let before = c.loop-rows.ranked.items in
    let empty : into_iter_items c.loop-rows.rows-iterator ≡ [] = nothing_left _ (sym c.loop-rows.invariant.left ∙ c.in-None.ensures.steps.0) in
    sym (append-nil before) ∙ ap (λ (left : List (List Valued)). before ++ left) (sym empty) ∙ c.loop-rows.invariant.ranked
