use Rattle.std.proofs.Common.{◌≡◌, ◌≤◌, ◌+◌, ◌-◌, ◌++◌, List, ℕ, Option, length, take}
use Rattle.desk_text.specs.Lines.{kept_line, unended}
use Rattle.session_replies.specs.State.{setting_of, IsReadyForLine, owed}
use Rattle.session_stream.specs.Held.{Talks}
use Rattle.session_stream.proofs.stream.answer_piece.Given as goal

abbrev pub invariant-loop-at : goal.invariant-loop-at
invariant-loop-at g l = record {
  within : l.at ≤ length l.piece;
  line : (taken : List ℕ) → l.fn.lines ≡ kept_line (unended taken) → l.lines ≡ kept_line (unended (taken ++ take l.at l.piece));
  talks : (had : Option (List ℕ)) (first : ℕ) (taken : List ℕ) → l.fn.lines ≡ kept_line (unended taken) →
      Talks (setting_of l.terms.given.now) had (g.K.Sink.state l.fn.out).received first (l.fn.steps + owed l.terms.given.now.desk.now l.fn.judging.table) taken l.fn.judging.session →
      Talks (setting_of l.terms.given.now) had (g.K.Sink.state l.out).received first (l.steps + owed l.terms.given.now.desk.now l.judging.table) (taken ++ take l.at l.piece) l.judging.session;
  ready : IsReadyForLine (record { name = g.P.Made.Measure.measured; cell = g.P.Made.Measure.cell_of; bound = g.P.Made.Measure.bounds_of }) (setting_of l.terms.given.now) l.judging;
  later : (g.K.Sink.state l.fn.out).faults ≤ (g.K.Sink.state l.out).faults;
}

abbrev pub decreases-loop-at : goal.decreases-loop-at
decreases-loop-at g l = length l.piece - l.at
