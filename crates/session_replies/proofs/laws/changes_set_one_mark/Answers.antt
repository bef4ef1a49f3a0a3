use Rattle.std.proofs.Common.{sym}
use Rattle.judge_session.specs.Session.{judged, undone, redone}
use Rattle.session_replies.proofs.Elsewhere.{not_both, judged_elsewhere, undone_elsewhere, redone_elsewhere}
use Rattle.session_replies.proofs.Marks.{marks_set}
use Rattle.session_replies.proofs.laws.changes_set_one_mark.Goals as goal

pub returns-clause-judged : goal.returns-clause-judged
returns-clause-judged c = λ s who topic doc grade changes valid in_topics in_docs.
    sym (marks_set s valid changes (judged who topic doc grade changes) topic doc in_topics in_docs (λ file t d apart. judged_elsewhere who topic doc grade changes file t d (not_both topic t doc d apart)))

pub returns-clause-undone : goal.returns-clause-undone
returns-clause-undone c = λ s who changes change valid on last.
    sym (marks_set s valid changes (undone who changes) change.topic change.doc on.topic on.doc (λ file t d apart. undone_elsewhere t d change (not_both change.topic t change.doc d apart) who changes file last))

pub returns-clause-redone : goal.returns-clause-redone
returns-clause-redone c = λ s who changes change valid on first.
    sym (marks_set s valid changes (redone who changes) change.topic change.doc on.topic on.doc (λ file t d apart. redone_elsewhere t d change (not_both change.topic t change.doc d apart) who changes file first))
