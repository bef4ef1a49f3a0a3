use Rattle.std.proofs.Common.{refl, sym, subst, ap, ◌∙◌, ◌++◌, map}
use Rattle.desk_model.specs.Desk.{AreMarksOf}
use Rattle.desk_model.specs.Verdict.{verdict}
use Rattle.demo_desk.specs.Summary.{summary_lines, summary_text}
use Rattle.desk_report.specs.Reports.{IsSubjectOf}
use Rattle.desk_report.proofs.Reporting.{table_numbers}
use Rattle.std.specs.Prelude.{None}
use Rattle.desk_top.specs.Showing.{demo_subject}
use Rattle.desk_top.proofs.Marking.{marks_known}
use Rattle.desk_top.proofs.demo.texts_of.Goals as goal

pub summary_text-requires : goal.summary_text-requires
summary_text-requires g c = let desk = c.args.demo.now.desk in subst (AreMarksOf desk) (sym (c.rows.ensures ∙ c.requires.marks)) (marks_known 1 None desk c.requires.valid)

pub next_report-requires-clause-marks : goal.next_report-requires-clause-marks
next_report-requires-clause-marks g c = let desk = c.args.demo.now.desk in subst (AreMarksOf desk) (sym c.requires.marks) (marks_known 1 None desk c.requires.valid)

pub returns : goal.returns
returns g c =
    let demo = c.args.demo.now in
    let desk = demo.desk in
    let sums = c.args.sums.now in
    let M = g.M.Measure in
    let s = demo_subject desk in
    let seed = c.args.seed in
    let of : IsSubjectOf (M.measured sums.measure) (M.cell_of sums.measure) (M.bounds_of sums.measure) desk sums s = record { over = refl; marked = marks_known 1 None desk c.requires.valid; on = c.requires.sums } in
    record {
      lines = summary_lines seed demo.rows s.marks (map verdict sums.totals);
      next = c.in_ok-next.next.items;
      texts = record {
        totals = sums.totals;
        numbers = (table_numbers (M.measured sums.measure) (M.cell_of sums.measure) (M.bounds_of sums.measure) desk c.requires.valid sums s of).pairs;
        summary = refl;
        proposal = c.in_ok-next.ensures s (sym c.requires.marks) of;
      };
      is = c.in_ok-extend_from_slice.ensures.items ∙ ap (λ n. c.in_ok-text.text.items ++ n) c.deref.ensures.value
          ∙ ap (λ t. t ++ c.in_ok-next.next.items) (c.in_ok-text.ensures ∙ ap (λ m. summary_text seed demo.rows m c.verdicts.result.now) (c.rows.ensures ∙ c.requires.marks) ∙ ap (summary_text seed demo.rows s.marks) c.verdicts.ensures);
    }
