use Rattle.std.proofs.Common.{rules, nat_lt, List, ap, ◌∙◌, sym, subst, arith}
use Rattle.std.proofs.lemmas.List.Sorted.{IsPartitionPoint-from_clause}
use Rattle.desk_model.specs.Placed.{lookup, IsAscending}
use Rattle.desk_model.specs.declared.placed.Placed.{Placed}
use Rattle.rprec.proofs.Strands.{ascending_parted, ascending_taken, ascending_dropped, cut_below, cut_above}
use Rattle.rprec.proofs.shared.cut.Goals as goal

pub returns-clause-ascending_below : goal.returns-clause-ascending_below
returns-clause-ascending_below c = subst IsAscending (sym c.split_at.ensures.front) (ascending_taken c.partition_point.result c.args.places.now c.requires)

pub returns-clause-ascending_above : goal.returns-clause-ascending_above
returns-clause-ascending_above c = subst IsAscending (sym c.split_at.ensures.back) (ascending_dropped c.partition_point.result c.args.places.now c.requires)

pub returns-clause-below : goal.returns-clause-below
returns-clause-below c = λ doc.
    let parts = IsPartitionPoint-from_clause (λ (p : Placed). nat_lt p.doc c.args.middle) _ _ c.partition_point.ensures.partitioned (ascending_parted c.args.middle c.args.places.now c.requires) (λ a r q k. search rules) in
    ap (λ (es : List Placed). lookup es doc) c.split_at.ensures.front ∙ cut_below c.args.middle c.partition_point.result c.args.places.now (λ k d lt. parts.0 k d (omega arith) lt) (λ k d lo hi. parts.1 k d lo hi) c.partition_point.ensures.bound doc

pub returns-clause-above : goal.returns-clause-above
returns-clause-above c = λ doc.
    let parts = IsPartitionPoint-from_clause (λ (p : Placed). nat_lt p.doc c.args.middle) _ _ c.partition_point.ensures.partitioned (ascending_parted c.args.middle c.args.places.now c.requires) (λ a r q k. search rules) in
    ap (λ (es : List Placed). lookup es doc) c.split_at.ensures.back ∙ cut_above c.args.middle c.partition_point.result c.args.places.now (λ k d lt. parts.0 k d (omega arith) lt) (λ k d lo hi. parts.1 k d lo hi) c.partition_point.ensures.bound doc
