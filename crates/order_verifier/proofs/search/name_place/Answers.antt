use Rattle.std.proofs.Common.{List, ℕ, ◌-◌, [], sym, ◌∙◌, arith}
use Rattle.std.specs.declared.cmp.Ordering.{Ordering}
use Rattle.desk_model.specs.Name.{name_cmp}
use Rattle.order_verifier.proofs.NearPlaces.{IsAfter, after_last, after_less, between, last_less, neither_is}
use Rattle.order_verifier.proofs.search.name_place.Goals.{then-near-eq0-via-then-near-eq0, then-near-eq0-via-else-near-eq0+then-is_lt-2}
use Rattle.order_verifier.proofs.search.name_place.Goals as goal

pub place_from-requires : goal.place_from-requires
place_from-requires c =
    let ord : List ℕ → Ordering = λ each. name_cmp each c.args.name.now in
    after_less [] ord c.args.names.now c.args.near (last_less [] ord c.args.names.now c.args.near c.name_order-here.result c.name_order-here.ensures.within c.name_order-here.ensures.past (sym c.is_lt.ensures ∙ c.if-is_lt.true))

pub returns-then-near-eq0-clause-place : goal.returns-then-near-eq0-clause-place
returns-then-near-eq0-clause-place c =
    let names = c.args.names.now in
    let near = c.args.near in
    let ord : List ℕ → Ordering = λ each. name_cmp each c.args.name.now in
    let after : IsAfter [] ord names near = elim c.then-near-eq0.branch [
      | then-near-eq0-via-then-near-eq0 w ↦ λ k e. absurd (omega (arith, e, w.if-near-eq0.true))
      | then-near-eq0-via-else-near-eq0+then-is_lt-2 w ↦ after_last [] ord names near (last_less [] ord names (near - 1) w.name_order.result w.name_order.ensures.within w.name_order.ensures.past (sym w.is_lt-else-near-eq0.ensures ∙ w.if-is_lt-2.true))
    ] in
    between [] ord names near after (λ lt. sym (c.name_order-here.ensures.within lt) ∙ neither_is c.name_order-here.result (sym c.is_eq.ensures ∙ c.if-is_eq.false) (sym c.is_lt.ensures ∙ c.if-is_lt.false))
