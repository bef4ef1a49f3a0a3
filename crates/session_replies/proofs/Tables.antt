-- The table of a session.
use Rattle.std.proofs.Common.{◌≡◌, List, Option, Some, refl, subst}
use Rattle.std.specs.Prelude.{IfSome}
use Rattle.desk_model.specs.Desk.{IsDesk}
use Rattle.judge_session.specs.declared.change.Change.{Change}
use Rattle.desk_report.specs.Reports.{IsSumsOn, IsTableOn, IsSubjectOf}
use Rattle.pair_table.specs.Kept.{Kept, table_sums}
use Rattle.pair_table.proofs.Saying.{sums_too}
use Rattle.session_replies.specs.Replies.{Setting, subject_after}
use Rattle.session_replies.specs.State.{Numbers, IsReadyForLine}
use Rattle.session_replies.specs.declared.state.Judging.{Judging}
use Rattle.session_replies.proofs.Marks.{marks_of_desk}

-- what the sums of a table that is there speak of
pub subject_ready : {M : Type 0} (n : Numbers M) (s : Setting) (kept : Judging M) (t : Kept M) (before : List Change) → IsDesk s.desk → IsReadyForLine n s kept → kept.table ≡ Some t → kept.session ≡ before →
    IsSubjectOf (n.name t.measure) (n.cell t.measure) (n.bound t.measure) s.desk (table_sums t) (subject_after s before)
subject_ready {M} n s kept t before valid ready there session = record {
  over = refl;
  marked = marks_of_desk s before valid;
  on = subst (λ xs. IsSumsOn (n.name t.measure) (n.cell t.measure) (n.bound t.measure) (subject_after s xs) (table_sums t)) session
      (sums_too _ _ _ _ _ _ t (subst (λ (o : Option (Kept M)). IfSome o (λ table. IsTableOn (n.name table.measure) (n.cell table.measure) (n.bound table.measure) (subject_after s kept.session) table)) there ready.table));
}
