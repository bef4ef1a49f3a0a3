use Rattle.std.proofs.Common.{arith}
use Rattle.file_rows.proofs.Zipped.{in_place}
use Rattle.file_rows.proofs.RowFiles.{holding, is_counted}
use Rattle.file_rows.proofs.Forgetting.{fewer_rows, fewer_bytes, emptied_held}
use Rattle.file_rows.proofs.grouped_rows.GroupedRows.empty.Goals as goal

pub index_mut-grouped-requires : goal.index_mut-grouped-requires
index_mut-grouped-requires g c =
    let lt = in_place (holding c.self.invariant c.self.view_is) c.args.t c.requires in omega (arith, lt)

pub overflow_cast-rows : goal.overflow_cast-rows
overflow_cast-rows g c =
    let few = fewer_rows (holding c.self.invariant c.self.view_is) c.args.t c.index_mut-grouped.result.now c.requires c.index_mut-grouped.ensures.value in
    omega (arith, few, c.len-rows.ensures)

pub overflow_cast-name_bytes : goal.overflow_cast-name_bytes
overflow_cast-name_bytes g c =
    let few = fewer_bytes (holding c.self.invariant c.self.view_is) c.args.t c.index_mut-grouped.result.now c.requires c.index_mut-grouped.ensures.value in
    omega (arith, few, c.name_bytes-name_bytes.ensures)

pub overflow_sub-self : goal.overflow_sub-self
overflow_sub-self g c =
    let few = fewer_rows (holding c.self.invariant c.self.view_is) c.args.t c.index_mut-grouped.result.now c.requires c.index_mut-grouped.ensures.value in
    omega (arith, few, c.len-rows.ensures)

pub overflow_sub-self-2 : goal.overflow_sub-self-2
overflow_sub-self-2 g c =
    let few = fewer_bytes (holding c.self.invariant c.self.view_is) c.args.t c.index_mut-grouped.result.now c.requires c.index_mut-grouped.ensures.value in
    omega (arith, few, c.name_bytes-name_bytes.ensures)

pub invariant_of-self : goal.invariant_of-self
invariant_of-self g c =
    is_counted (emptied_held (holding c.self.invariant c.self.view_is) c.args.t c.index_mut-grouped.result.now c.requires c.index_mut-grouped.ensures.value c.new.result _ _ c.new.ensures c.len-rows.ensures c.name_bytes-name_bytes.ensures)

pub returns : goal.returns
returns g c =
    (emptied_held (holding c.self.invariant c.self.view_is) c.args.t c.index_mut-grouped.result.now c.requires c.index_mut-grouped.ensures.value c.new.result _ _ c.new.ensures c.len-rows.ensures c.name_bytes-name_bytes.ensures).topics_are
