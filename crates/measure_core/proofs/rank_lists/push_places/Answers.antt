use Rattle.std.proofs.Common.{◌≡◌, ℕ, ◌++◌, Bool, Some, List, take, length, ap, ◌∙◌, arith, rules}
use Rattle.std.proofs.lemmas.List.{with_items_is, places}
use Rattle.desk_model.specs.Placed.{lookup}
use Rattle.desk_model.specs.declared.placed.Placed.{Placed}
use Rattle.measure_core.specs.Lists.{placed_documents}
use Rattle.measure_core.proofs.Slots.{taken_before}
use Rattle.measure_core.proofs.rank_lists.push_places.Goals as goal

pub returns : goal.returns
returns g c =
    let listed : Placed → Bool = λ p. g.T.RankTest.test c.args.test.now (lookup c.args.first.now.places.now p.doc) (Some p.rank) in
    let all = placed_documents c.args.second.now.marks.now listed c.args.second.now.places.now in
    let before = c.args.docs.now.items in
    let put = c.put_places-count in
    let kept : take c.len-before.result c.deref_mut.result.now ≡ before = taken_before before c.deref_mut.result.now c.len-before.result c.args.docs.now.len (length c.args.second.now.places.now) c.len-before.ensures (omega (arith, c.args.docs.now.ok.0)) (c.deref_mut.ensures.value ∙ c.in_ok-resize.ensures.items) in
    c.truncate.ensures.items ∙ ap (take put.result) (with_items_is c.resize.new.self put.new.docs (search (rules, places))) ∙ put.ensures.first ∙ ap (λ (l : List ℕ). l ++ all) kept
