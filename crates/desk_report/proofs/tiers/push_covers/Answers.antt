use Rattle.std.proofs.Common.{arith}
use Rattle.order_tiers.specs.declared.cover.Cover.{Cover}
use Rattle.desk_report.specs.Tiers.{line_of_cover}
use Rattle.desk_report.proofs.Tiered.{one_made, all_made}
use Rattle.desk_report.proofs.tiers.push_covers.Goals as goal

no_cover : Cover
no_cover = record { first = 0; second = 0; wins = 0; losses = 0 }

pub loop-cover-preserved : goal.loop-cover-preserved
unfolding no_cover
loop-cover-preserved c =
    let covers = c.args.covers.now in
    let i = c.loop-cover.cover-index in
    one_made (line_of_cover c.args.desk.now.runs) covers i no_cover c.args.out.now.items c.loop-cover.out.items c.push_cover.new.out.items (omega arith) c.loop-cover.invariant c.in_ok-push_cover.ensures

pub returns : goal.returns
returns c = all_made (line_of_cover c.args.desk.now.runs) c.args.covers.now c.loop-cover.cover-index c.args.out.now.items c.loop-cover.out.items (omega arith) c.loop-cover.invariant
