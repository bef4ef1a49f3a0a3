use Rattle.session_replies.specs.State.{setting_of, owed}
use Rattle.std.proofs.Common.{ap}
use Rattle.session_stream.proofs.Ending.{no_memory_yet, no_cells_yet}
use Rattle.session_stream.proofs.stream.hold_session.Goals as goal

pub returns-in_default-clause-ends : goal.returns-in_default-clause-ends
returns-in_default-clause-ends g c = no_memory_yet (setting_of c.args.given.now) (g.S.Source.state c.args.input.now).reads (g.S.Source.state c.args.input.now).rest (g.K.Sink.state c.args.out.now).received (g.S.Source.state c.args.input.now).faults (g.S.Source.state c.args.input.now).faults (g.K.Sink.state c.args.out.now).faults (g.K.Sink.state c.args.out.now).faults

pub returns-in_default-clause-cells : goal.returns-in_default-clause-cells
returns-in_default-clause-cells g c = no_cells_yet (setting_of c.args.given.now) (g.S.Source.state c.args.input.now).reads (g.S.Source.state c.args.input.now).rest (g.S.Source.state c.args.input.now).faults (g.S.Source.state c.args.input.now).faults c.args.steps.now

pub returns-in_default-new-clause-ends : goal.returns-in_default-new-clause-ends
returns-in_default-new-clause-ends g c = no_memory_yet (setting_of c.args.given.now) (g.S.Source.state c.args.input.now).reads (g.S.Source.state c.args.input.now).rest (g.K.Sink.state c.args.out.now).received (g.S.Source.state c.args.input.now).faults (g.S.Source.state c.args.input.now).faults (g.K.Sink.state c.args.out.now).faults (g.K.Sink.state c.args.out.now).faults

pub returns-in_default-new-clause-cells : goal.returns-in_default-new-clause-cells
returns-in_default-new-clause-cells g c = no_cells_yet (setting_of c.args.given.now) (g.S.Source.state c.args.input.now).reads (g.S.Source.state c.args.input.now).rest (g.S.Source.state c.args.input.now).faults (g.S.Source.state c.args.input.now).faults c.args.steps.now

pub answer_input-requires-clause-owes : goal.answer_input-requires-clause-owes
answer_input-requires-clause-owes g c = ap (owed c.args.given.now.desk.now) c.in-Ok-new.ensures.table

pub answer_input-requires-clause-ready : goal.answer_input-requires-clause-ready
answer_input-requires-clause-ready g c = c.in-Ok-new.ensures.ready c.args.given.now.measure.now
