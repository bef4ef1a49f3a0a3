use Rattle.std.proofs.Common.{◌≡◌, ◌++◌, ℕ, List, [], take, length, ap, sym, subst, ◌∙◌, arith}
use Rattle.std.specs.Prelude.{OnOk}
use Rattle.std.proofs.lemmas.List.{with_items_is}
use Rattle.desk_model.specs.Ranking.{IsRanking}
use Rattle.desk_model.specs.declared.types.Mark.{Mark}
use Rattle.measure_core.proofs.Exact.{IsRanking-empty}
use Rattle.marked_lists.specs.Hidden.{AreHidden}
use Rattle.marked_lists.proofs.Hiding.{unhidden_are}
use Rattle.marked_lists.proofs.own.push_unhidden.Goals as goal

pub new-requires-2 : goal.new-requires-2
new-requires-2 c = let n = length c.args.marks.now in subst (IsRanking n) (sym c.new.ensures.items) (IsRanking-empty n)

pub returns : goal.returns
returns c =
    let marks = c.args.marks.now in
    let k = c.args.k in
    let a = c.args.a.now in
    let b = c.args.b.now in
    let left = c.deref.result.now in
    let nothing : c.in_ok-nothing.nothing ≡ [] = c.in_ok-nothing.ensures ∙ c.new.ensures.items in
    let copied : c.deref_mut.result.now ≡ marks = c.deref_mut.ensures.value ∙ c.in_ok-left.ensures.items_if_clones_equal (λ x y e. e) in
    let same : c.hide_first.new.marks ≡ left = sym (c.deref.ensures.value ∙ with_items_is c.in_ok-left.left c.hide_first.new.marks (omega (arith, c.hide_first.ensures.count, ap (λ (l : List Mark). length l) c.deref_mut.ensures.value, c.in_ok-left.left.ok.0))) in
    let hidden : AreHidden (take k a) marks left = subst (λ (l : List Mark). AreHidden (take k a) l left) copied (subst (λ (l : List Mark). AreHidden (take k a) c.deref_mut.result.now l) same c.hide_first.ensures) in
    subst (λ (l : List ℕ). OnOk c.push_own.result (c.push_own.new.docs.items ≡ c.args.docs.now.items ++ l)) (unhidden_are k marks left a b c.in_ok-nothing.nothing nothing hidden) c.push_own.ensures
