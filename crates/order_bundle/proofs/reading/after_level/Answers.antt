use Rattle.order_bundle.proofs.ReadDepths.{level_reads}
use Rattle.order_bundle.proofs.reading.after_level.Goals as goal

pub returns : goal.returns
returns c = level_reads c.args.version c.args.measure c.args.level c.args.lines.now c.depth_line-depth.new.lines c.after_depth.new.lines c.after_depth.result c.args.depths c.depth_line-depth.result c.depth_line-depth.ensures c.after_depth.ensures
