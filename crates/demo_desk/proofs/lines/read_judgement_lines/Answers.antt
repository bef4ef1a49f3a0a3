use Rattle.std.proofs.Common.{◌++◌, ap, subst, arith}
use Rattle.file_rows.specs.Reading.{IsUnlessMemory}
use Rattle.qrels_reader.specs.Grouped.{qrels_of}
use Rattle.demo_desk.proofs.Feeding.{ran_out, is_left, fed_line, fed_whole}
use Rattle.demo_desk.proofs.lines.read_judgement_lines.Goals as goal

pub returns-in_err-reader : goal.returns-in_err-reader
returns-in_err-reader c = ran_out c.from_residual.result (qrels_of c.args.text.now) c.from_residual.ensures.1

pub returns-in_err-feed : goal.returns-in_err-feed
returns-in_err-feed c = ran_out c.from_residual-in_err-feed.result (qrels_of c.args.text.now) c.from_residual-in_err-feed.ensures.1

pub lines-init : goal.lines-init
lines-init c = ap (λ fed. fed ++ c.args.text.now) c.in_ok-reader.ensures

pub line_length-requires : goal.line_length-requires
line_length-requires c = is_left c.lines.rest.now c.lines-test.ensures

pub lines-smaller : goal.lines-smaller
lines-smaller c = omega (arith, c.split_at.ensures.back_len, c.line_length.ensures.some, c.line_length.ensures.within)

pub lines-preserved : goal.lines-preserved
lines-preserved c = fed_line c.lines.reader c.lines.rest.now c.args.text.now c.split_at.result.0.now c.split_at.result.1.now c.feed.new.self c.line_length.result c.lines.invariant c.split_at.ensures.front c.split_at.ensures.back c.feed.ensures

pub returns : goal.returns
returns c = subst (λ bytes. IsUnlessMemory c.finish.result (qrels_of bytes)) (fed_whole c.lines.reader c.lines.rest.now c.args.text.now c.lines-test.ensures c.lines.invariant) c.finish.ensures
