use Rattle.std.proofs.Common.{ℕ, ◌-◌, ◌∙◌, sym, arith}
use Rattle.std.specs.Ordering.{nat_cmp}
use Rattle.std.specs.declared.cmp.Ordering.{Ordering}
use Rattle.order_verifier.specs.Rows.{number_of_pick}
use Rattle.order_verifier.proofs.NearPlaces.{IsAfter, after_last, between, greater_is, last_less}
use Rattle.order_verifier.proofs.documents.place_near.Goals.{then-near-eq0, else-near-eq0}
use Rattle.order_verifier.proofs.documents.place_near.Goals as goal

pub returns-then-is_lt-clause-place : goal.returns-then-is_lt-clause-place
returns-then-is_lt-clause-place c =
    let picks = c.args.picks.now in
    let near = c.args.near in
    let ord : ℕ → Ordering = λ k. nat_cmp (number_of_pick c.args.book.now.docs c.args.numbers.now k) c.args.doc in
    let before : IsAfter 0 ord picks near = elim c.if-near-eq0.branch [
      | then-near-eq0 w ↦ λ k e. absurd (omega (arith, e, w.if-near-eq0.true))
      | else-near-eq0 w ↦ after_last 0 ord picks near (last_less 0 ord picks (near - 1) w.order_at.result w.order_at.ensures.within w.order_at.ensures.past (sym w.is_lt.ensures ∙ sym w.value-is ∙ c.if-is_lt.true))
    ] in
    between 0 ord picks near before (λ lt. sym (c.order_at-here.ensures.within lt) ∙ greater_is c.order_at-here.result (sym c.is_gt.ensures ∙ c.if-is_gt.true))
