use Rattle.std.proofs.Common.{◌≤◌, ◌+◌, ◌-◌}
use Rattle.session_replies.specs.State.{setting_of, cells_of, IsReadyForLine, owed}
use Rattle.desk_outside.specs.Seen.{source}
use Rattle.session_stream.specs.Held.{IsHeld}
use Rattle.session_stream.specs.NoMore.{ReadsNoMore}
use Rattle.session_stream.proofs.LastRead.{ReadSoFar}
use Rattle.session_stream.proofs.stream.answer_input.Given as goal

abbrev pub invariant-reads : goal.invariant-reads
invariant-reads g l = record {
  within : l.taken ≤ 1073741825;
  held : IsHeld (setting_of l.terms.given.now) (g.S.Source.state l.fn.input).rest (g.S.Source.state l.input).rest (g.K.Sink.state l.fn.out).received (g.K.Sink.state l.out).received (l.fn.steps + cells_of l.terms.given.now.desk.now)
      (l.steps + owed l.terms.given.now.desk.now l.judging.table) l.lines l.judging.session l.taken;
  ready : IsReadyForLine (record { name = g.P.Made.Measure.measured; cell = g.P.Made.Measure.cell_of; bound = g.P.Made.Measure.bounds_of }) (setting_of l.terms.given.now) l.judging;
  input : (g.S.Source.state l.fn.input).faults ≤ (g.S.Source.state l.input).faults;
  out : (g.K.Sink.state l.fn.out).faults ≤ (g.K.Sink.state l.out).faults;
  made : ReadSoFar (g.S.Source.state l.fn.input).reads (g.S.Source.state l.input).reads l.taken;
  heard : ReadsNoMore (source (g.S.Source.state l.fn.input) (g.S.Source.state l.input));
}

abbrev pub decreases-reads : goal.decreases-reads
decreases-reads g l = 1073741825 - l.taken
