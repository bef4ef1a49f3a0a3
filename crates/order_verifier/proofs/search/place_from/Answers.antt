use Rattle.std.proofs.Common.{◌≡◌, List, ℕ, [], subst, arith}
use Rattle.std.specs.declared.cmp.Ordering.{Ordering}
use Rattle.desk_model.specs.Name.{name_cmp}
use Rattle.order_verifier.proofs.NearPlaces.{IsBefore, after_within, between}
use Rattle.order_verifier.proofs.search.place_from.Goals as goal

pub loop-from-init : goal.loop-from-init
loop-from-init c =
    let ord : List ℕ → Ordering = λ each. name_cmp each c.args.name.now in
    let start = after_within [] ord c.args.names.now c.args.start c.requires in
    record { order = omega (arith, start); within = omega arith; after = c.requires; before = λ lt. absurd (omega (arith, lt)) }

pub returns-clause-place : goal.returns-clause-place
returns-clause-place c =
    let names = c.args.names.now in
    let ord : List ℕ → Ordering = λ each. name_cmp each c.args.name.now in
    let kept = c.loop-from.invariant in
    let met : c.loop-from.to ≡ c.loop-from.from = omega (arith, kept.order, c.loop-from-test.false) in
    between [] ord names c.loop-from.from kept.after (subst (IsBefore [] ord names) met kept.before)
