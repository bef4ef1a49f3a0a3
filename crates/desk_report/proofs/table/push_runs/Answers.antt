use Rattle.std.proofs.Common.{arith, get_or, pos}
use Rattle.topic_counts.specs.declared.span.Span.{Span}
use Rattle.desk_report.specs.Table.{run_line}
use Rattle.desk_report.proofs.Joins.{one_more, all_lines, get_or-there}
use Rattle.desk_report.proofs.table.push_runs.Goals as goal

no_span : Span
no_span = record { lo = pos 0; hi = pos 0 }

pub loop-r-preserved : goal.loop-r-preserved
unfolding no_span
loop-r-preserved c =
    one_more (λ run. run_line c.args.numbers.now.parts.number run.0 run.1) c.args.numbers.now.desk.now.runs c.args.numbers.now.bounds.now c.loop-r.r c.run_name.result.now (get_or c.args.numbers.now.bounds.now c.loop-r.r no_span) c.args.out.now.items c.loop-r.out.items c.push_run.new.out.items
    c.run_name.ensures (get_or-there c.args.numbers.now.bounds.now c.loop-r.r no_span (omega arith)) c.loop-r.invariant c.in_ok-push_run.ensures

pub returns : goal.returns
returns c = all_lines (λ run. run_line c.args.numbers.now.parts.number run.0 run.1) c.args.numbers.now.desk.now.runs c.args.numbers.now.bounds.now c.loop-r.r c.args.out.now.items c.loop-r.out.items c.args.numbers.now.each_run (omega arith) c.loop-r.invariant
