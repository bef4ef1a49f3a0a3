use Rattle.std.proofs.Common.{◌+◌, ap, arith, refl, take, drop, ◌++◌, inl, inr}
use Rattle.std.specs.Prelude.{Ok, Err}
use Rattle.std.proofs.lemmas.List.{length-take}
use Rattle.desk_outside.specs.Seen.{source, sink}
use Rattle.session_replies.specs.State.{setting_of, cells_of, owed}
use Rattle.session_stream.proofs.Ending.{quits_end, quits_cells, piece_fails, fails_end, talks_cells, too_long_end}
use Rattle.session_stream.proofs.LastLine.{last_end, last_cells}
use Rattle.session_stream.proofs.Reading.{talks_all, line_all, held_more, rest_more, piece_answered, nothing_read, bytes_short, held_at_start}
use Rattle.desk_outside.specs.declared.log.ReadCall.TheVariants as calls
use Rattle.session_stream.proofs.LastRead.{none_read, some_read, reads_on}
use Rattle.session_stream.proofs.stream.answer_input.Goals as goal

pub reads-init : goal.reads-init
reads-init g c = record {
  within = omega arith;
  held = held_at_start (setting_of c.args.terms.now.given.now) (g.S.Source.state c.args.input.now).rest (g.K.Sink.state c.args.out.now).received c.args.steps.now (owed c.args.terms.now.given.now.desk.now c.args.judging.now.table) c.args.lines.now c.args.judging.now.session
      c.requires.line c.requires.none c.requires.owes;
  ready = c.requires.ready;
  input = omega arith;
  out = omega arith;
  made = none_read (g.S.Source.state c.args.input.now).reads;
  heard = inl refl;
}

pub reads-preserved : goal.reads-preserved
reads-preserved g c =
    let s = setting_of c.args.terms.now.given.now in
    let old = (g.S.Source.state c.args.input.now).rest in
    let had = (g.K.Sink.state c.args.out.now).received in
    let first = c.args.steps.now + cells_of c.args.terms.now.given.now.desk.now in
    let h = c.reads.invariant.held in
    let state = c.reads.judging in
    let now = c.answer_piece.new.judging in
    let total = c.reads.steps + owed c.args.terms.now.given.now.desk.now state.table in
    let le = c.reads-test.true in
    let room = c.read.new.room in
    let more = drop c.min-most.result c.reads.room in
    let talks = talks_all s old (g.S.Source.state c.reads.input).rest had (g.K.Sink.state c.reads.out).received first total c.reads.lines state.session c.reads.taken h le in
    let line = line_all s old (g.S.Source.state c.reads.input).rest had (g.K.Sink.state c.reads.out).received first total c.reads.lines state.session c.reads.taken h le in
    let talked = c.in-Ok-More.ensures.answered had first h.bytes line talks in
    record {
      within = omega (arith, c.min-most.ensures, c.in-Ok.ensures.bound.0, c.read.auto.room, length-take c.min-most.result c.reads.room, le);
      held = held_more s old (g.S.Source.state c.reads.input).rest had (g.K.Sink.state c.reads.out).received first total c.reads.lines state.session c.reads.taken h le
          (g.S.Source.state c.read.new.self).rest room more c.in-Ok.count c.min-within.result c.in-Ok.ensures.bound.0 c.min-within.ensures c.in-Ok.ensures.bytes (g.K.Sink.state c.answer_piece.new.out).received (c.answer_piece.new.steps + owed c.args.terms.now.given.now.desk.now now.table) c.answer_piece.new.lines now.session
          (rw (c.in-Ok-More.field-0-is) at talked) (c.in-Ok-More.ensures.line h.bytes line (ap Ok c.in-Ok-More.field-0-is));
      ready = c.in-Ok-More.ensures.ready (ap Ok c.in-Ok-More.field-0-is);
      input = omega (arith, c.reads.invariant.input, c.in-Ok.ensures.cause.later);
      out = omega (arith, c.reads.invariant.out, c.answer_piece.ensures.later);
      made = some_read (g.S.Source.state c.args.input.now).reads (g.S.Source.state c.reads.input).reads (g.S.Source.state c.read.new.self).reads c.reads.taken c.in-Ok.count c.reads.invariant.made (omega (arith, c.if-count-eq0.false)) c.in-Ok.ensures.reads;
      heard = inr (reads_on (setting_of c.args.terms.now.given.now) (g.S.Source.state c.reads.input).rest (g.K.Sink.state c.args.out.now).received (g.K.Sink.state c.reads.out).received (c.args.steps.now + cells_of c.args.terms.now.given.now.desk.now)
          (c.reads.steps + owed c.args.terms.now.given.now.desk.now c.reads.judging.table) c.reads.lines c.reads.judging.session c.reads.taken (source (g.S.Source.state c.args.input.now) (g.S.Source.state c.read.new.self))
          (g.S.Source.state c.reads.input).reads (calls.Gave c.in-Ok.count) c.reads.invariant.held c.reads-test.true c.reads.invariant.made c.in-Ok.ensures.reads);
    }

pub returns-in_default-clause-ends : goal.returns-in_default-clause-ends
returns-in_default-clause-ends g c =
    let s = setting_of c.args.terms.now.given.now in
    let rest = (g.S.Source.state c.args.input.now).rest in
    let had = (g.K.Sink.state c.args.out.now).received in
    let first = c.args.steps.now + cells_of c.args.terms.now.given.now.desk.now in
    let h = c.reads.invariant.held in
    let state = c.reads.judging in
    let owes = owed c.args.terms.now.given.now.desk.now state.table in
    let left = (g.S.Source.state c.reads.input).rest in
    let has = (g.K.Sink.state c.reads.out).received in
    let input = source (g.S.Source.state c.args.input.now) (g.S.Source.state c.read.new.self) in
    let whole = sink (g.K.Sink.state c.args.out.now) (g.K.Sink.state c.reads.out) in
    fails_end s input whole c.args.steps.now c.reads.steps owes left c.reads.lines state.session c.reads.taken h c.in_default.ensures.err c.reads-test.true (omega (arith, c.reads.invariant.input, c.in_default.ensures.cause.failed))

pub returns-in_default-clause-cells : goal.returns-in_default-clause-cells
returns-in_default-clause-cells g c =
    let s = setting_of c.args.terms.now.given.now in
    let rest = (g.S.Source.state c.args.input.now).rest in
    let had = (g.K.Sink.state c.args.out.now).received in
    let first = c.args.steps.now + cells_of c.args.terms.now.given.now.desk.now in
    let h = c.reads.invariant.held in
    let state = c.reads.judging in
    let owes = owed c.args.terms.now.given.now.desk.now state.table in
    let left = (g.S.Source.state c.reads.input).rest in
    let has = (g.K.Sink.state c.reads.out).received in
    let input = source (g.S.Source.state c.args.input.now) (g.S.Source.state c.read.new.self) in
    let whole = sink (g.K.Sink.state c.args.out.now) (g.K.Sink.state c.reads.out) in
    talks_cells s input whole c.args.steps.now c.reads.steps owes left c.reads.lines state.session c.reads.taken h c.in_default.ensures.err

pub returns-clause-ends : goal.returns-clause-ends
returns-clause-ends g c =
    let s = setting_of c.args.terms.now.given.now in
    let rest = (g.S.Source.state c.args.input.now).rest in
    let had = (g.K.Sink.state c.args.out.now).received in
    let first = c.args.steps.now + cells_of c.args.terms.now.given.now.desk.now in
    let h = c.reads.invariant.held in
    let state = c.reads.judging in
    let owes = owed c.args.terms.now.given.now.desk.now state.table in
    let left = (g.S.Source.state c.reads.input).rest in
    let has = (g.K.Sink.state c.reads.out).received in
    let input = source (g.S.Source.state c.args.input.now) (g.S.Source.state c.reads.input) in
    let whole = sink (g.K.Sink.state c.args.out.now) (g.K.Sink.state c.reads.out) in
    too_long_end s input whole c.args.steps.now c.reads.steps owes left c.reads.lines state.session c.reads.taken h refl c.reads-test.false

pub returns-clause-cells : goal.returns-clause-cells
returns-clause-cells g c =
    let s = setting_of c.args.terms.now.given.now in
    let rest = (g.S.Source.state c.args.input.now).rest in
    let had = (g.K.Sink.state c.args.out.now).received in
    let first = c.args.steps.now + cells_of c.args.terms.now.given.now.desk.now in
    let h = c.reads.invariant.held in
    let state = c.reads.judging in
    let owes = owed c.args.terms.now.given.now.desk.now state.table in
    let left = (g.S.Source.state c.reads.input).rest in
    let has = (g.K.Sink.state c.reads.out).received in
    let input = source (g.S.Source.state c.args.input.now) (g.S.Source.state c.reads.input) in
    let whole = sink (g.K.Sink.state c.args.out.now) (g.K.Sink.state c.reads.out) in
    talks_cells s input whole c.args.steps.now c.reads.steps owes left c.reads.lines state.session c.reads.taken h refl

pub returns-in-Ok-answer_line-clause-ends : goal.returns-in-Ok-answer_line-clause-ends
returns-in-Ok-answer_line-clause-ends g c =
    let s = setting_of c.args.terms.now.given.now in
    let rest = (g.S.Source.state c.args.input.now).rest in
    let had = (g.K.Sink.state c.args.out.now).received in
    let first = c.args.steps.now + cells_of c.args.terms.now.given.now.desk.now in
    let h = c.reads.invariant.held in
    let state = c.reads.judging in
    let owes = owed c.args.terms.now.given.now.desk.now state.table in
    let left = (g.S.Source.state c.reads.input).rest in
    let has = (g.K.Sink.state c.reads.out).received in
    let input = source (g.S.Source.state c.args.input.now) (g.S.Source.state c.read.new.self) in
    let whole = sink (g.K.Sink.state c.args.out.now) (g.K.Sink.state c.answer_line.new.out) in
    let now = c.answer_line.new.judging in
    let out = sink (g.K.Sink.state c.reads.out) (g.K.Sink.state c.answer_line.new.out) in
    let talks = talks_all s rest left had has first (c.reads.steps + owes) c.reads.lines state.session c.reads.taken h c.reads-test.true in
    let line = line_all s rest left had has first (c.reads.steps + owes) c.reads.lines state.session c.reads.taken h c.reads-test.true in
    let all = nothing_read s rest left had has first (c.reads.steps + owes) c.reads.lines state.session c.reads.taken h (g.S.Source.state c.read.new.self).rest c.read.new.room c.in-Ok.count c.if-count-eq0.true c.in-Ok.ensures.bytes in
    let short = bytes_short s rest left had has first (c.reads.steps + owes) c.reads.lines state.session c.reads.taken h c.reads-test.true in
    let ends = c.in-Ok.ensures.end c.if-count-eq0.true in
    last_end s input whole out c.args.steps.now c.reads.steps c.answer_line.new.steps state.table now.table state.session now.session h.bytes all ends short talks refl refl c.reads.invariant.out (Ok c.in-Ok-answer_line.field-0) (c.in-Ok-answer_line.ensures.answered _ line)

pub returns-in-Ok-answer_line-clause-cells : goal.returns-in-Ok-answer_line-clause-cells
returns-in-Ok-answer_line-clause-cells g c =
    let s = setting_of c.args.terms.now.given.now in
    let rest = (g.S.Source.state c.args.input.now).rest in
    let had = (g.K.Sink.state c.args.out.now).received in
    let first = c.args.steps.now + cells_of c.args.terms.now.given.now.desk.now in
    let h = c.reads.invariant.held in
    let state = c.reads.judging in
    let owes = owed c.args.terms.now.given.now.desk.now state.table in
    let left = (g.S.Source.state c.reads.input).rest in
    let has = (g.K.Sink.state c.reads.out).received in
    let input = source (g.S.Source.state c.args.input.now) (g.S.Source.state c.read.new.self) in
    let whole = sink (g.K.Sink.state c.args.out.now) (g.K.Sink.state c.answer_line.new.out) in
    let now = c.answer_line.new.judging in
    let out = sink (g.K.Sink.state c.reads.out) (g.K.Sink.state c.answer_line.new.out) in
    let talks = talks_all s rest left had has first (c.reads.steps + owes) c.reads.lines state.session c.reads.taken h c.reads-test.true in
    let line = line_all s rest left had has first (c.reads.steps + owes) c.reads.lines state.session c.reads.taken h c.reads-test.true in
    let all = nothing_read s rest left had has first (c.reads.steps + owes) c.reads.lines state.session c.reads.taken h (g.S.Source.state c.read.new.self).rest c.read.new.room c.in-Ok.count c.if-count-eq0.true c.in-Ok.ensures.bytes in
    let short = bytes_short s rest left had has first (c.reads.steps + owes) c.reads.lines state.session c.reads.taken h c.reads-test.true in
    let ends = c.in-Ok.ensures.end c.if-count-eq0.true in
    last_cells s input whole out c.args.steps.now c.reads.steps c.answer_line.new.steps state.table now.table state.session now.session h.bytes all ends short talks refl refl c.reads.invariant.out (Ok c.in-Ok-answer_line.field-0) (c.in-Ok-answer_line.ensures.answered _ line) (c.in-Ok-answer_line.ensures.steps _ line)

pub returns-in-Err-clause-ends : goal.returns-in-Err-clause-ends
returns-in-Err-clause-ends g c =
    let s = setting_of c.args.terms.now.given.now in
    let rest = (g.S.Source.state c.args.input.now).rest in
    let had = (g.K.Sink.state c.args.out.now).received in
    let first = c.args.steps.now + cells_of c.args.terms.now.given.now.desk.now in
    let h = c.reads.invariant.held in
    let state = c.reads.judging in
    let owes = owed c.args.terms.now.given.now.desk.now state.table in
    let left = (g.S.Source.state c.reads.input).rest in
    let has = (g.K.Sink.state c.reads.out).received in
    let input = source (g.S.Source.state c.args.input.now) (g.S.Source.state c.read.new.self) in
    let whole = sink (g.K.Sink.state c.args.out.now) (g.K.Sink.state c.answer_line.new.out) in
    let now = c.answer_line.new.judging in
    let out = sink (g.K.Sink.state c.reads.out) (g.K.Sink.state c.answer_line.new.out) in
    let talks = talks_all s rest left had has first (c.reads.steps + owes) c.reads.lines state.session c.reads.taken h c.reads-test.true in
    let line = line_all s rest left had has first (c.reads.steps + owes) c.reads.lines state.session c.reads.taken h c.reads-test.true in
    let all = nothing_read s rest left had has first (c.reads.steps + owes) c.reads.lines state.session c.reads.taken h (g.S.Source.state c.read.new.self).rest c.read.new.room c.in-Ok.count c.if-count-eq0.true c.in-Ok.ensures.bytes in
    let short = bytes_short s rest left had has first (c.reads.steps + owes) c.reads.lines state.session c.reads.taken h c.reads-test.true in
    let ends = c.in-Ok.ensures.end c.if-count-eq0.true in
    last_end s input whole out c.args.steps.now c.reads.steps c.answer_line.new.steps state.table now.table state.session now.session h.bytes all ends short talks refl refl c.reads.invariant.out (Err c.in-Err.fault) (c.in-Err.ensures.answered _ line)

pub returns-in-Err-clause-cells : goal.returns-in-Err-clause-cells
returns-in-Err-clause-cells g c =
    let s = setting_of c.args.terms.now.given.now in
    let rest = (g.S.Source.state c.args.input.now).rest in
    let had = (g.K.Sink.state c.args.out.now).received in
    let first = c.args.steps.now + cells_of c.args.terms.now.given.now.desk.now in
    let h = c.reads.invariant.held in
    let state = c.reads.judging in
    let owes = owed c.args.terms.now.given.now.desk.now state.table in
    let left = (g.S.Source.state c.reads.input).rest in
    let has = (g.K.Sink.state c.reads.out).received in
    let input = source (g.S.Source.state c.args.input.now) (g.S.Source.state c.read.new.self) in
    let whole = sink (g.K.Sink.state c.args.out.now) (g.K.Sink.state c.answer_line.new.out) in
    let now = c.answer_line.new.judging in
    let out = sink (g.K.Sink.state c.reads.out) (g.K.Sink.state c.answer_line.new.out) in
    let talks = talks_all s rest left had has first (c.reads.steps + owes) c.reads.lines state.session c.reads.taken h c.reads-test.true in
    let line = line_all s rest left had has first (c.reads.steps + owes) c.reads.lines state.session c.reads.taken h c.reads-test.true in
    let all = nothing_read s rest left had has first (c.reads.steps + owes) c.reads.lines state.session c.reads.taken h (g.S.Source.state c.read.new.self).rest c.read.new.room c.in-Ok.count c.if-count-eq0.true c.in-Ok.ensures.bytes in
    let short = bytes_short s rest left had has first (c.reads.steps + owes) c.reads.lines state.session c.reads.taken h c.reads-test.true in
    let ends = c.in-Ok.ensures.end c.if-count-eq0.true in
    last_cells s input whole out c.args.steps.now c.reads.steps c.answer_line.new.steps state.table now.table state.session now.session h.bytes all ends short talks refl refl c.reads.invariant.out (Err c.in-Err.fault) (c.in-Err.ensures.answered _ line) (c.in-Err.ensures.steps _ line)

pub returns-in-Ok-Quit-clause-ends : goal.returns-in-Ok-Quit-clause-ends
returns-in-Ok-Quit-clause-ends g c =
    let s = setting_of c.args.terms.now.given.now in
    let rest = (g.S.Source.state c.args.input.now).rest in
    let had = (g.K.Sink.state c.args.out.now).received in
    let first = c.args.steps.now + cells_of c.args.terms.now.given.now.desk.now in
    let h = c.reads.invariant.held in
    let state = c.reads.judging in
    let owes = owed c.args.terms.now.given.now.desk.now state.table in
    let left = (g.S.Source.state c.reads.input).rest in
    let has = (g.K.Sink.state c.reads.out).received in
    let input = source (g.S.Source.state c.args.input.now) (g.S.Source.state c.read.new.self) in
    let whole = sink (g.K.Sink.state c.args.out.now) (g.K.Sink.state c.answer_piece.new.out) in
    let now = c.answer_piece.new.judging in
    let inner = sink (g.K.Sink.state c.reads.out) (g.K.Sink.state c.answer_piece.new.out) in
    let total = c.reads.steps + owes in
    let le = c.reads-test.true in
    let room = c.read.new.room in
    let more = drop c.min-most.result c.reads.room in
    let talks = talks_all s rest left had has first total c.reads.lines state.session c.reads.taken h le in
    let line = line_all s rest left had has first total c.reads.lines state.session c.reads.taken h le in
    let all = rest_more s rest left had has first total c.reads.lines state.session c.reads.taken h le (g.S.Source.state c.read.new.self).rest room more c.in-Ok.count c.min-within.result c.in-Ok.ensures.bound.0 c.min-within.ensures c.in-Ok.ensures.bytes in
    let answered = piece_answered s rest left had has first total c.reads.lines state.session c.reads.taken h le (g.S.Source.state c.read.new.self).rest room more c.in-Ok.count c.min-within.result c.in-Ok.ensures.bound.0 c.min-within.ensures c.in-Ok.ensures.bytes in
    quits_end s input whole c.args.steps.now c.answer_piece.new.steps (h.bytes ++ take c.in-Ok.count room) (h.bytes ++ take c.min-within.result (room ++ more)) all answered (rw c.in-Ok-Quit.field-0-is at c.in-Ok-Quit.ensures.answered had first h.bytes line talks)

pub returns-in-Ok-Quit-clause-cells : goal.returns-in-Ok-Quit-clause-cells
returns-in-Ok-Quit-clause-cells g c =
    let s = setting_of c.args.terms.now.given.now in
    let rest = (g.S.Source.state c.args.input.now).rest in
    let had = (g.K.Sink.state c.args.out.now).received in
    let first = c.args.steps.now + cells_of c.args.terms.now.given.now.desk.now in
    let h = c.reads.invariant.held in
    let state = c.reads.judging in
    let owes = owed c.args.terms.now.given.now.desk.now state.table in
    let left = (g.S.Source.state c.reads.input).rest in
    let has = (g.K.Sink.state c.reads.out).received in
    let input = source (g.S.Source.state c.args.input.now) (g.S.Source.state c.read.new.self) in
    let whole = sink (g.K.Sink.state c.args.out.now) (g.K.Sink.state c.answer_piece.new.out) in
    let now = c.answer_piece.new.judging in
    let inner = sink (g.K.Sink.state c.reads.out) (g.K.Sink.state c.answer_piece.new.out) in
    let total = c.reads.steps + owes in
    let le = c.reads-test.true in
    let room = c.read.new.room in
    let more = drop c.min-most.result c.reads.room in
    let talks = talks_all s rest left had has first total c.reads.lines state.session c.reads.taken h le in
    let line = line_all s rest left had has first total c.reads.lines state.session c.reads.taken h le in
    let all = rest_more s rest left had has first total c.reads.lines state.session c.reads.taken h le (g.S.Source.state c.read.new.self).rest room more c.in-Ok.count c.min-within.result c.in-Ok.ensures.bound.0 c.min-within.ensures c.in-Ok.ensures.bytes in
    let answered = piece_answered s rest left had has first total c.reads.lines state.session c.reads.taken h le (g.S.Source.state c.read.new.self).rest room more c.in-Ok.count c.min-within.result c.in-Ok.ensures.bound.0 c.min-within.ensures c.in-Ok.ensures.bytes in
    quits_cells s input whole c.args.steps.now c.answer_piece.new.steps (h.bytes ++ take c.in-Ok.count room) (h.bytes ++ take c.min-within.result (room ++ more)) all answered (rw c.in-Ok-Quit.field-0-is at c.in-Ok-Quit.ensures.answered had first h.bytes line talks)

pub returns-in-Err-answer_piece-clause-ends : goal.returns-in-Err-answer_piece-clause-ends
returns-in-Err-answer_piece-clause-ends g c =
    let s = setting_of c.args.terms.now.given.now in
    let rest = (g.S.Source.state c.args.input.now).rest in
    let had = (g.K.Sink.state c.args.out.now).received in
    let first = c.args.steps.now + cells_of c.args.terms.now.given.now.desk.now in
    let h = c.reads.invariant.held in
    let state = c.reads.judging in
    let owes = owed c.args.terms.now.given.now.desk.now state.table in
    let left = (g.S.Source.state c.reads.input).rest in
    let has = (g.K.Sink.state c.reads.out).received in
    let input = source (g.S.Source.state c.args.input.now) (g.S.Source.state c.read.new.self) in
    let whole = sink (g.K.Sink.state c.args.out.now) (g.K.Sink.state c.answer_piece.new.out) in
    let now = c.answer_piece.new.judging in
    let inner = sink (g.K.Sink.state c.reads.out) (g.K.Sink.state c.answer_piece.new.out) in
    let total = c.reads.steps + owes in
    let le = c.reads-test.true in
    let room = c.read.new.room in
    let more = drop c.min-most.result c.reads.room in
    let talks = talks_all s rest left had has first total c.reads.lines state.session c.reads.taken h le in
    let line = line_all s rest left had has first total c.reads.lines state.session c.reads.taken h le in
    let all = rest_more s rest left had has first total c.reads.lines state.session c.reads.taken h le (g.S.Source.state c.read.new.self).rest room more c.in-Ok.count c.min-within.result c.in-Ok.ensures.bound.0 c.min-within.ensures c.in-Ok.ensures.bytes in
    let answered = piece_answered s rest left had has first total c.reads.lines state.session c.reads.taken h le (g.S.Source.state c.read.new.self).rest room more c.in-Ok.count c.min-within.result c.in-Ok.ensures.bound.0 c.min-within.ensures c.in-Ok.ensures.bytes in
    (piece_fails s input whole c.args.steps.now c.answer_piece.new.steps (h.bytes ++ take c.in-Ok.count room) (h.bytes ++ take c.min-within.result (room ++ more)) all answered inner c.in-Err-answer_piece.fault (c.answer_piece.new.steps + owed c.args.terms.now.given.now.desk.now now.table) now.session refl refl c.reads.invariant.out (c.in-Err-answer_piece.ensures.answered had first h.bytes line talks)).0

pub returns-in-Err-answer_piece-clause-cells : goal.returns-in-Err-answer_piece-clause-cells
returns-in-Err-answer_piece-clause-cells g c =
    let s = setting_of c.args.terms.now.given.now in
    let rest = (g.S.Source.state c.args.input.now).rest in
    let had = (g.K.Sink.state c.args.out.now).received in
    let first = c.args.steps.now + cells_of c.args.terms.now.given.now.desk.now in
    let h = c.reads.invariant.held in
    let state = c.reads.judging in
    let owes = owed c.args.terms.now.given.now.desk.now state.table in
    let left = (g.S.Source.state c.reads.input).rest in
    let has = (g.K.Sink.state c.reads.out).received in
    let input = source (g.S.Source.state c.args.input.now) (g.S.Source.state c.read.new.self) in
    let whole = sink (g.K.Sink.state c.args.out.now) (g.K.Sink.state c.answer_piece.new.out) in
    let now = c.answer_piece.new.judging in
    let inner = sink (g.K.Sink.state c.reads.out) (g.K.Sink.state c.answer_piece.new.out) in
    let total = c.reads.steps + owes in
    let le = c.reads-test.true in
    let room = c.read.new.room in
    let more = drop c.min-most.result c.reads.room in
    let talks = talks_all s rest left had has first total c.reads.lines state.session c.reads.taken h le in
    let line = line_all s rest left had has first total c.reads.lines state.session c.reads.taken h le in
    let all = rest_more s rest left had has first total c.reads.lines state.session c.reads.taken h le (g.S.Source.state c.read.new.self).rest room more c.in-Ok.count c.min-within.result c.in-Ok.ensures.bound.0 c.min-within.ensures c.in-Ok.ensures.bytes in
    let answered = piece_answered s rest left had has first total c.reads.lines state.session c.reads.taken h le (g.S.Source.state c.read.new.self).rest room more c.in-Ok.count c.min-within.result c.in-Ok.ensures.bound.0 c.min-within.ensures c.in-Ok.ensures.bytes in
    (piece_fails s input whole c.args.steps.now c.answer_piece.new.steps (h.bytes ++ take c.in-Ok.count room) (h.bytes ++ take c.min-within.result (room ++ more)) all answered inner c.in-Err-answer_piece.fault (c.answer_piece.new.steps + owed c.args.terms.now.given.now.desk.now now.table) now.session refl refl c.reads.invariant.out (c.in-Err-answer_piece.ensures.answered had first h.bytes line talks)).1

pub returns-in_default-clause-heard : goal.returns-in_default-clause-heard
returns-in_default-clause-heard g c =
    inr
    (reads_on (setting_of c.args.terms.now.given.now) (g.S.Source.state c.reads.input).rest (g.K.Sink.state c.args.out.now).received (g.K.Sink.state c.reads.out).received (c.args.steps.now + cells_of c.args.terms.now.given.now.desk.now)
    (c.reads.steps + owed c.args.terms.now.given.now.desk.now c.reads.judging.table) c.reads.lines c.reads.judging.session c.reads.taken (source (g.S.Source.state c.args.input.now) (g.S.Source.state c.read.new.self))
    (g.S.Source.state c.reads.input).reads (calls.Failed) c.reads.invariant.held c.reads-test.true c.reads.invariant.made c.in_default.ensures.reads)

pub returns-in-Ok-answer_line-clause-heard : goal.returns-in-Ok-answer_line-clause-heard
returns-in-Ok-answer_line-clause-heard g c =
    inr
    (reads_on (setting_of c.args.terms.now.given.now) (g.S.Source.state c.reads.input).rest (g.K.Sink.state c.args.out.now).received (g.K.Sink.state c.reads.out).received (c.args.steps.now + cells_of c.args.terms.now.given.now.desk.now)
    (c.reads.steps + owed c.args.terms.now.given.now.desk.now c.reads.judging.table) c.reads.lines c.reads.judging.session c.reads.taken (source (g.S.Source.state c.args.input.now) (g.S.Source.state c.read.new.self))
    (g.S.Source.state c.reads.input).reads (calls.Gave c.in-Ok.count) c.reads.invariant.held c.reads-test.true c.reads.invariant.made c.in-Ok.ensures.reads)

pub returns-in-Err-clause-heard : goal.returns-in-Err-clause-heard
returns-in-Err-clause-heard g c =
    inr
    (reads_on (setting_of c.args.terms.now.given.now) (g.S.Source.state c.reads.input).rest (g.K.Sink.state c.args.out.now).received (g.K.Sink.state c.reads.out).received (c.args.steps.now + cells_of c.args.terms.now.given.now.desk.now)
    (c.reads.steps + owed c.args.terms.now.given.now.desk.now c.reads.judging.table) c.reads.lines c.reads.judging.session c.reads.taken (source (g.S.Source.state c.args.input.now) (g.S.Source.state c.read.new.self))
    (g.S.Source.state c.reads.input).reads (calls.Gave c.in-Ok.count) c.reads.invariant.held c.reads-test.true c.reads.invariant.made c.in-Ok.ensures.reads)

pub returns-in-Ok-Quit-clause-heard : goal.returns-in-Ok-Quit-clause-heard
returns-in-Ok-Quit-clause-heard g c =
    inr
    (reads_on (setting_of c.args.terms.now.given.now) (g.S.Source.state c.reads.input).rest (g.K.Sink.state c.args.out.now).received (g.K.Sink.state c.reads.out).received (c.args.steps.now + cells_of c.args.terms.now.given.now.desk.now)
    (c.reads.steps + owed c.args.terms.now.given.now.desk.now c.reads.judging.table) c.reads.lines c.reads.judging.session c.reads.taken (source (g.S.Source.state c.args.input.now) (g.S.Source.state c.read.new.self))
    (g.S.Source.state c.reads.input).reads (calls.Gave c.in-Ok.count) c.reads.invariant.held c.reads-test.true c.reads.invariant.made c.in-Ok.ensures.reads)

pub returns-in-Err-answer_piece-clause-heard : goal.returns-in-Err-answer_piece-clause-heard
returns-in-Err-answer_piece-clause-heard g c =
    inr
    (reads_on (setting_of c.args.terms.now.given.now) (g.S.Source.state c.reads.input).rest (g.K.Sink.state c.args.out.now).received (g.K.Sink.state c.reads.out).received (c.args.steps.now + cells_of c.args.terms.now.given.now.desk.now)
    (c.reads.steps + owed c.args.terms.now.given.now.desk.now c.reads.judging.table) c.reads.lines c.reads.judging.session c.reads.taken (source (g.S.Source.state c.args.input.now) (g.S.Source.state c.read.new.self))
    (g.S.Source.state c.reads.input).reads (calls.Gave c.in-Ok.count) c.reads.invariant.held c.reads-test.true c.reads.invariant.made c.in-Ok.ensures.reads)

pub returns-clause-heard : goal.returns-clause-heard
returns-clause-heard g c = c.reads.invariant.heard
