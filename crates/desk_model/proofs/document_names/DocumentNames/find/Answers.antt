use Rattle.std.proofs.Common.{◌∙◌, sym, arith}
use Rattle.desk_model.proofs.Halving.{parted_at_first, parted_after, parted_before, found_by_halving, none_by_halving}
use Rattle.desk_model.proofs.document_names.DocumentNames.find.Goals as goal

pub loop-low-init : goal.loop-low-init
loop-low-init c = parted_at_first c.args.self.now c.args.name.now c.len-high.result c.len-high.ensures

pub get-requires : goal.get-requires
get-requires c = let within = c.loop-low.invariant.within in omega arith

pub loop-low-preserved-in-Less : goal.loop-low-preserved-in-Less
loop-low-preserved-in-Less c =
    parted_after c.args.self.now c.requires.ascending c.args.name.now _ c.get.result.now c.get.ensures c.loop-low.low c.loop-low.high c.loop-low.invariant (sym c.cmp.ensures ∙ c.in-Less.is)

pub overflow_cast-result : goal.overflow_cast-result
overflow_cast-result c = let within = c.loop-low.invariant.within in omega (arith, c.requires.few)

pub returns-in-Equal : goal.returns-in-Equal
returns-in-Equal c = sym (found_by_halving c.args.self.now c.requires.ascending c.args.name.now _ c.get.result.now c.get.ensures (sym c.cmp.ensures ∙ c.in-Equal.is))

pub loop-low-preserved : goal.loop-low-preserved
loop-low-preserved c =
    parted_before c.args.self.now c.requires.ascending c.args.name.now _ c.get.result.now c.get.ensures c.loop-low.low c.loop-low.high c.loop-low.invariant (sym c.cmp.ensures ∙ c.in-Greater.is)

pub returns : goal.returns
returns c = sym (none_by_halving c.args.self.now c.requires.ascending c.args.name.now c.loop-low.low c.loop-low.high c.loop-low.invariant (let least = c.loop-low-test.false in omega arith))
