use Rattle.std.proofs.Common.{append-nil, sym}
use Rattle.std.proofs.lemmas.Result.{on_ok_weaker}
use Rattle.order_bundle.specs.Depths.{depth_line}
use Rattle.order_bundle.proofs.WrittenParts.{one_line}
use Rattle.order_bundle.proofs.writing.push_depth.Goals as goal

pub returns-in-Some : goal.returns-in-Some
returns-in-Some c = rw c.in-Some.is (on_ok_weaker c.push_number_line.result (one_line c.args.out.now.items c.push_number_line.new.out.items (depth_line c.in-Some.depth)) c.push_number_line.ensures)

pub returns-in-None : goal.returns-in-None
returns-in-None c = rw c.in-None.is (sym (append-nil c.args.out.now.items))
