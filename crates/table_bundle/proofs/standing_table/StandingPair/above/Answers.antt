use Rattle.std.proofs.Common.{ℤ, List, map, pos, Some, ap, ◌∙◌}
use Rattle.desk_model.specs.Extremes.{Ends}
use Rattle.measure_core.specs.Made.{ends_of}
use Rattle.order_bundle.specs.declared.bundle.Bound.{Bound}
use Rattle.order_bundle.specs.declared.bundle.PairEvidence.TheVariants.{Above as By}
use Rattle.table_bundle.specs.Drafts.{bounds_by}
use Rattle.table_bundle.proofs.standing_table.StandingPair.above.Goals as goal

pub returns : goal.returns
returns g c =
    let p = c.args.self.now.pair in
    let high : Ends → ℤ = λ _. pos 0 in
    ap (λ (bounds : List Bound). Some (record { first = p.at.first; second = p.at.second; evidence = By bounds }))
    (c.in_ok-bounds_of.ensures ∙ ap (λ l. bounds_by high (map ends_of l)) c.deref.ensures.value ∙ ap (bounds_by high) c.in_ok-cells.ensures)
