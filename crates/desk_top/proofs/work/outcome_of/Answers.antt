use Rattle.desk_outside.specs.Seen.{shelf}
use Rattle.desk_files.proofs.InTurn.{none_or_memory}
use Rattle.desk_top.proofs.work.outcome_of.Goals as goal

pub returns-in-Session-clause-works : goal.returns-in-Session-clause-works
returns-in-Session-clause-works g c = rw c.in-Session.is (c.session_outcome.ensures.works c.args.steps.now)

pub returns-in-Verify-clause-works : goal.returns-in-Verify-clause-works
returns-in-Verify-clause-works g c = rw c.in-Verify.is (c.check_outcome.ensures.works c.args.steps.now)

pub returns-in-Demo-clause-works : goal.returns-in-Demo-clause-works
returns-in-Demo-clause-works g c = rw c.in-Demo.is (c.demo_outcome.ensures.works (shelf (g.F.Shelf.state c.args.files.now) (g.F.Shelf.state c.args.files.now)))

pub returns-in-Demo-clause-reads : goal.returns-in-Demo-clause-reads
returns-in-Demo-clause-reads g c = none_or_memory (g.F.Shelf.state c.args.files.now).calls c.demo_outcome.result c.demo_outcome.ensures.memory

pub returns-in-Graded-clause-works : goal.returns-in-Graded-clause-works
returns-in-Graded-clause-works g c = rw c.in-Graded.is c.graded_outcome.ensures.works

pub returns-in-Merge-clause-works : goal.returns-in-Merge-clause-works
returns-in-Merge-clause-works g c = rw c.in-Merge.is (c.merge_outcome.ensures.works c.args.steps.now)

pub returns-in-Apply-clause-works : goal.returns-in-Apply-clause-works
returns-in-Apply-clause-works g c = rw c.in-Apply.is (c.apply_outcome.ensures.works c.args.steps.now)
