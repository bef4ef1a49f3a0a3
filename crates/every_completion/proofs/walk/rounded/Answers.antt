use Rattle.std.proofs.Common.{◌≡◌, ◌*◌, pos, ◌-ℤ◌, ◌*ℤ◌, to_z, of_z, ◌∙◌}
use Rattle.std.specs.Int.{w128}
use Rattle.std.proofs.lemmas.Int.{to_z-of_z}
use Rattle.desk_model.proofs.Floors.{floor_read, ceiling_read}
use Rattle.every_completion.proofs.Wide.{high_read, low_read, natural_fits, natural_read, small_word, whole_positive, whole_small}
use Rattle.every_completion.proofs.walk.rounded.Goals as goal

pub overflow_mul-difference : goal.overflow_mul-difference
overflow_mul-difference c = small_word (c.args.x.den * c.args.y.den) (whole_small c.args.x.den c.args.y.den c.args.x.small c.args.y.small)

pub overflow_cast-difference : goal.overflow_cast-difference
overflow_cast-difference c = natural_fits (c.args.x.den * c.args.y.den) (whole_small c.args.x.den c.args.y.den c.args.x.small c.args.y.small)

pub invariant_of-difference : goal.invariant_of-difference
invariant_of-difference c = record {
  positive = whole_positive c.args.x.den c.args.y.den c.args.x.positive c.args.y.positive c.args.x.small c.args.y.small;
  low = low_read c.scaled.result (record { sfits = c.scaled.type_inv }) c.scaled.ensures.low;
  high = high_read c.scaled.result (record { sfits = c.scaled.type_inv }) c.scaled.ensures.high;
}

pub returns-clause-low : goal.returns-clause-low
returns-clause-low c =
    let x = c.args.x in
    let y = c.args.y in
    let read : to_z w128 (of_z w128 c.scaled.result) ≡ c.scaled.result = to_z-of_z w128 c.scaled.result (record { sfits = c.scaled.type_inv }) in
    let whole : to_z w128 (x.den * y.den) ≡ pos (x.den * y.den) = natural_read (x.den * y.den) (whole_small x.den y.den x.small y.small) in
    let same : to_z w128 (of_z w128 c.floor.result) ≡ c.floor.result = to_z-of_z w128 c.floor.result (record { sfits = c.floor.type_inv }) in
    rw same (floor_read (pos c.args.scale.now.unit *ℤ (pos (x.num * y.den) -ℤ pos (y.num * x.den))) (pos (x.den * y.den)) _ _ c.floor.result (read ∙ c.scaled.ensures.value) whole c.floor.ensures.floor)

pub returns-clause-high : goal.returns-clause-high
returns-clause-high c =
    let x = c.args.x in
    let y = c.args.y in
    let read : to_z w128 (of_z w128 c.scaled.result) ≡ c.scaled.result = to_z-of_z w128 c.scaled.result (record { sfits = c.scaled.type_inv }) in
    let whole : to_z w128 (x.den * y.den) ≡ pos (x.den * y.den) = natural_read (x.den * y.den) (whole_small x.den y.den x.small y.small) in
    let same : to_z w128 (of_z w128 c.ceiling.result) ≡ c.ceiling.result = to_z-of_z w128 c.ceiling.result (record { sfits = c.ceiling.type_inv }) in
    rw same (ceiling_read (pos c.args.scale.now.unit *ℤ (pos (x.num * y.den) -ℤ pos (y.num * x.den))) (pos (x.den * y.den)) _ _ c.ceiling.result (read ∙ c.scaled.ensures.value) whole c.ceiling.ensures)
