use Rattle.std.proofs.Common.{ap, not, sym, subst, ◌∙◌}
use Rattle.desk_model.specs.Desk.{AreMarksOf}
use Rattle.desk_report.specs.Reports.{IsTableOn, subject}
use Rattle.session_replies.specs.State.{setting_of}
use Rattle.session_replies.proofs.Marks.{marks_of_desk}
use Rattle.session_replies.proofs.Weighing.{weights_where_none}
use Rattle.session_replies.proofs.comparing.prepare.Goals as goal

pub table_on-requires-clause-marks : goal.table_on-requires-clause-marks
table_on-requires-clause-marks g c =
    let s = setting_of c.args.given.now in
    subst (AreMarksOf s.desk) (sym c.requires.ready.marked) (marks_of_desk s c.args.judging.now.session c.valid.ensures)

pub returns-in_ok-table-clause-ready : goal.returns-in_ok-table-clause-ready
returns-in_ok-table-clause-ready g c =
    let s = setting_of c.args.given.now in
    let M = g.P.Made.Measure in
    let kept = c.in_ok-table.table in
    record {
      on_desk = c.requires.ready.on_desk;
      marked = c.requires.ready.marked;
      pools = c.requires.ready.pools;
      table = subst (λ marks. IsTableOn (M.measured kept.measure) (M.cell_of kept.measure) (M.bounds_of kept.measure) (subject s.measure s.level s.depth s.desk marks) kept) c.requires.ready.marked c.in_ok-table.ensures.table;
      weights = weights_where_none (record { name = M.measured; cell = M.cell_of; bound = M.bounds_of }) s.desk c.args.judging.now.marks.rows c.args.judging.now.weights c.args.judging.now.table kept (c.is_none.ensures ∙ ap not c.if-is_none.true) c.requires.ready.weights;
    }
