use Rattle.std.proofs.Common.{length, get_or, pos, ◌∙◌, arith}
use Rattle.desk_model.specs.Pairs.{pairs_of}
use Rattle.desk_model.specs.declared.types.Totals.{Totals}
use Rattle.desk_model.proofs.PairPlace.{pairs_from-next, places_after-placed}
use Rattle.desk_report.specs.Table.{pair_line}
use Rattle.desk_report.proofs.Joins.{one_more, all_lines, get_or-there, unfinished}
use Rattle.desk_model.proofs.PairPlace.{there_from}
use Rattle.desk_report.proofs.table.push_pairs.Goals as goal

pub run_name-requires-in-loop-each : goal.run_name-requires-in-loop-each
run_name-requires-in-loop-each c = unfinished c.args.numbers.now.desk.now.runs c.loop-each.at c.loop-each.each-index c.loop-each.invariant.placed c.loop-each.invariant.left (omega arith)

pub next-at-requires-clause-within : goal.next-at-requires-clause-within
next-at-requires-clause-within c = let lt = unfinished c.args.numbers.now.desk.now.runs c.loop-each.at c.loop-each.each-index c.loop-each.invariant.placed c.loop-each.invariant.left (omega arith) in omega arith

no_totals : Totals
no_totals = record { least_lo = pos 0; least_hi = pos 0; most_lo = pos 0; most_hi = pos 0 }

pub loop-each-preserved : goal.loop-each-preserved
unfolding no_totals
loop-each-preserved c =
    let runs = c.args.numbers.now.desk.now.runs in
    let at = c.loop-each.at in
    let i = c.loop-each.each-index in
    let x = c.run_name.result.now in
    let y = c.run_name-in-loop-each.result.now in
    let placed = c.loop-each.invariant.placed in
    let lt = unfinished runs at i placed c.loop-each.invariant.left (omega arith) in
    let from = pairs_from-next runs at x y placed c.run_name.ensures c.run_name-in-loop-each.ensures in
    let split = there_from (pairs_of runs) i (x, y) _ (c.loop-each.invariant.left ∙ from) in
    record {
      text = one_more (λ pair. pair_line c.args.numbers.now.parts.number pair.0.0 pair.0.1 pair.1) (pairs_of runs) c.args.numbers.now.totals.now i (x, y) (get_or c.args.numbers.now.totals.now i no_totals) c.args.out.now.items c.loop-each.out.items c.push_pair.new.out.items
          split.0 (get_or-there c.args.numbers.now.totals.now i no_totals (omega arith)) c.loop-each.invariant.text c.in_ok-push_pair.ensures;
      left = rw (c.next-at.ensures, c.run_count-runs.ensures.count) split.1;
      placed = rw (c.next-at.ensures, c.run_count-runs.ensures.count) (places_after-placed (length runs) at placed lt);
    }

pub returns : goal.returns
returns c = all_lines (λ pair. pair_line c.args.numbers.now.parts.number pair.0.0 pair.0.1 pair.1) (pairs_of c.args.numbers.now.desk.now.runs) c.args.numbers.now.totals.now c.loop-each.each-index c.args.out.now.items c.loop-each.out.items c.args.numbers.now.each_pair (omega arith) c.loop-each.invariant.text
