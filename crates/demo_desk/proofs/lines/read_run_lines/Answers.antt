use Rattle.std.proofs.Common.{◌++◌, ap, ◌∙◌, subst, arith}
use Rattle.std.specs.Prelude.{None}
use Rattle.file_rows.specs.Reading.{IsUnlessMemory}
use Rattle.run_reader.specs.Run.{run_of}
use Rattle.run_reader.specs.Fed.{FedRun}
use Rattle.demo_desk.proofs.Feeding.{ran_out, is_left, fed_line, fed_whole}
use Rattle.demo_desk.proofs.lines.read_run_lines.Goals as goal

pub new-requires-clause-name : goal.new-requires-clause-name
new-requires-clause-name c = tt

pub new-requires-clause-within : goal.new-requires-clause-within
new-requires-clause-within c = c.requires

pub returns-in_err-reader : goal.returns-in_err-reader
returns-in_err-reader c = ran_out c.from_residual.result (run_of None c.args.qrels.now c.args.used c.args.text.now) c.from_residual.ensures.1

pub returns-in_err-feed : goal.returns-in_err-feed
returns-in_err-feed c = ran_out c.from_residual-in_err-feed.result (run_of None c.args.qrels.now c.args.used c.args.text.now) c.from_residual-in_err-feed.ensures.1

pub lines-init : goal.lines-init
lines-init c =
    let new = c.in_ok-reader.ensures in
    record { fed = ap (λ (r : FedRun). r.fed ++ c.args.text.now) new; given = ap (λ (r : FedRun). r.given) new; used = ap (λ (r : FedRun). r.used) new; qrels = ap (λ (r : FedRun). r.qrels) new }

pub line_length-requires : goal.line_length-requires
line_length-requires c = is_left c.lines.rest.now c.lines-test.ensures

pub lines-smaller : goal.lines-smaller
lines-smaller c = omega (arith, c.split_at.ensures.back_len, c.line_length.ensures.some, c.line_length.ensures.within)

pub lines-preserved : goal.lines-preserved
lines-preserved c =
    let kept = c.lines.invariant in
    let step = c.feed.ensures in
    record {
      fed = fed_line c.lines.reader.fed c.lines.rest.now c.args.text.now c.split_at.result.0.now c.split_at.result.1.now c.feed.new.self.fed c.line_length.result kept.fed c.split_at.ensures.front c.split_at.ensures.back (ap (λ (r : FedRun). r.fed) step);
      given = ap (λ (r : FedRun). r.given) step ∙ kept.given;
      used = ap (λ (r : FedRun). r.used) step ∙ kept.used;
      qrels = ap (λ (r : FedRun). r.qrels) step ∙ kept.qrels;
    }

pub returns : goal.returns
returns c =
    let kept = c.lines.invariant in
    let whole = fed_whole c.lines.reader.fed c.lines.rest.now c.args.text.now c.lines-test.ensures kept.fed in
    subst (IsUnlessMemory c.finish.result) (λ i. run_of (kept.given i) (kept.qrels i) (kept.used i) (whole i)) c.finish.ensures.run
