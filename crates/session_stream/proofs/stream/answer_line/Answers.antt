use Rattle.std.proofs.Common.{◌+◌, ◌*◌, codes, refl, ◌∙◌}
use Rattle.desk_outside.specs.Seen.{sink}
use Rattle.judge_session.specs.Request.{heard_of}
use Rattle.session_replies.specs.Replies.{accepted, refusal}
use Rattle.session_replies.specs.State.{setting_of, IsReadyForLine, owed, pairs_in}
use Rattle.session_stream.proofs.OneLine.{kept_some, steps_put, steps_still, ok_there, answers_too_long, answers_text, text_ready, quit_ends, quit_ready, steps_counted}
use Rattle.session_stream.proofs.stream.answer_line.Goals as goal

pub returns-in_default-clause-answered : goal.returns-in_default-clause-answered
returns-in_default-clause-answered g c line held =
    answers_too_long (setting_of c.args.terms.now.given.now) line c.args.judging.now.session (sink (g.K.Sink.state c.args.out.now) (g.K.Sink.state c.put_reply.new.out)) c.put_reply.result (c.in_default.ensures.line ∙ held) c.put_reply.ensures.put

pub returns-in_default-clause-ready : goal.returns-in_default-clause-ready
returns-in_default-clause-ready g c =
    ok_there c.put_reply.result (IsReadyForLine (record { name = g.P.Made.Measure.measured; cell = g.P.Made.Measure.cell_of; bound = g.P.Made.Measure.bounds_of }) (setting_of c.args.terms.now.given.now) c.args.judging.now) c.requires.ready

pub returns-in_default-clause-steps : goal.returns-in_default-clause-steps
returns-in_default-clause-steps g c line held =
    steps_put c.args.terms.now.given.now.desk.now line c.args.judging.now.session c.args.judging.now.table c.args.judging.now.table c.args.steps.now c.args.steps.now (sink (g.K.Sink.state c.args.out.now) (g.K.Sink.state c.put_reply.new.out)) (refusal (codes "LineTooLong")) c.put_reply.result c.put_reply.ensures.put
    (steps_still (c.args.steps.now + owed c.args.terms.now.given.now.desk.now c.args.judging.now.table) (pairs_in c.args.terms.now.given.now.desk.now * accepted c.args.terms.now.given.now.desk.now (heard_of line) c.args.judging.now.session))

pub returns-in-Ok-Text-clause-answered : goal.returns-in-Ok-Text-clause-answered
returns-in-Ok-Text-clause-answered g c line held =
    answers_text (record { name = g.P.Made.Measure.measured; cell = g.P.Made.Measure.cell_of; bound = g.P.Made.Measure.bounds_of }) (setting_of c.args.terms.now.given.now) c.in-Some.line.now c.args.judging.now c.reply_to.new.judging c.in-Ok-Text.field-0 c.in-Ok-Text.ensures.answered line c.deref.result.now (sink (g.K.Sink.state c.args.out.now) (g.K.Sink.state c.put_reply-in-Ok-Text.new.out)) c.put_reply-in-Ok-Text.result c.in-Ok-Text.text c.in-Ok-Text.field-0-is (kept_some line c.in-Some.line.now (c.in-Some.ensures.line ∙ held)) c.deref.ensures.value c.put_reply-in-Ok-Text.ensures.put

pub returns-in-Ok-Text-clause-ready : goal.returns-in-Ok-Text-clause-ready
returns-in-Ok-Text-clause-ready g c =
    ok_there c.put_reply-in-Ok-Text.result (IsReadyForLine (record { name = g.P.Made.Measure.measured; cell = g.P.Made.Measure.cell_of; bound = g.P.Made.Measure.bounds_of }) (setting_of c.args.terms.now.given.now) c.reply_to.new.judging) (text_ready (record { name = g.P.Made.Measure.measured; cell = g.P.Made.Measure.cell_of; bound = g.P.Made.Measure.bounds_of }) (setting_of c.args.terms.now.given.now) c.in-Some.line.now c.args.judging.now c.reply_to.new.judging c.in-Ok-Text.field-0 c.in-Ok-Text.ensures.answered c.in-Ok-Text.text c.in-Ok-Text.field-0-is)

pub returns-in-Ok-Text-clause-steps : goal.returns-in-Ok-Text-clause-steps
returns-in-Ok-Text-clause-steps g c line held =
    steps_put c.args.terms.now.given.now.desk.now line c.args.judging.now.session c.args.judging.now.table c.reply_to.new.judging.table c.args.steps.now c.reply_to.new.steps (sink (g.K.Sink.state c.args.out.now) (g.K.Sink.state c.put_reply-in-Ok-Text.new.out)) c.deref.result.now c.put_reply-in-Ok-Text.result c.put_reply-in-Ok-Text.ensures.put (steps_counted (setting_of c.args.terms.now.given.now) c.in-Some.line.now line c.args.judging.now c.reply_to.new.judging c.args.steps.now c.reply_to.new.steps (kept_some line c.in-Some.line.now (c.in-Some.ensures.line ∙ held)) c.in-Ok-Text.ensures.counts)

pub returns-in-Ok-Quit-clause-answered : goal.returns-in-Ok-Quit-clause-answered
returns-in-Ok-Quit-clause-answered g c line held =
    (quit_ends (record { name = g.P.Made.Measure.measured; cell = g.P.Made.Measure.cell_of; bound = g.P.Made.Measure.bounds_of }) (setting_of c.args.terms.now.given.now) c.in-Some.line.now c.args.judging.now c.reply_to.new.judging c.in-Ok-Quit.field-0 c.in-Ok-Quit.ensures.answered line c.in-Ok-Quit.field-0-is (kept_some line c.in-Some.line.now (c.in-Some.ensures.line ∙ held)), refl)

pub returns-in-Ok-Quit-clause-ready : goal.returns-in-Ok-Quit-clause-ready
returns-in-Ok-Quit-clause-ready g c =
    quit_ready (record { name = g.P.Made.Measure.measured; cell = g.P.Made.Measure.cell_of; bound = g.P.Made.Measure.bounds_of }) (setting_of c.args.terms.now.given.now) c.in-Some.line.now c.args.judging.now c.reply_to.new.judging c.in-Ok-Quit.field-0 c.in-Ok-Quit.ensures.answered c.in-Ok-Quit.field-0-is

pub returns-in-Ok-Quit-clause-steps : goal.returns-in-Ok-Quit-clause-steps
returns-in-Ok-Quit-clause-steps g c line held =
    steps_counted (setting_of c.args.terms.now.given.now) c.in-Some.line.now line c.args.judging.now c.reply_to.new.judging c.args.steps.now c.reply_to.new.steps (kept_some line c.in-Some.line.now (c.in-Some.ensures.line ∙ held)) c.in-Ok-Quit.ensures.counts
