use Rattle.std.proofs.Common.{◌≡◌, ℕ, ◌≤ℤ◌, ℤ, pos, negsuc, List, map, to_z, of_z, w32, refl, ap, sym, ◌∙◌, subst}
use Rattle.desk_model.specs.Book.{Book}
use Rattle.desk_model.specs.Desk.{AreMarksOf}
use Rattle.desk_model.specs.Name.{number_of}
use Rattle.desk_report.specs.Judging.{qrels_text}
use Rattle.desk_report.specs.Reports.{IsTableText, IsPairText, IsNextText}
use Rattle.judge_session.specs.declared.change.Change.{Change}
use Rattle.judge_session.specs.Request.{Asked}
use Rattle.judge_session.specs.Forms.{IsWithin}
use Rattle.judge_session.specs.Said.{request_said}
use Rattle.judge_session.specs.declared.types.Request.{Request}
use Rattle.judge_session.specs.declared.types.Request.TheVariants as requests
use Rattle.session_replies.specs.Replies.{refusal, subject_after, all_in_force, marks_after, IsCertified, IsPoolReply}
use Rattle.session_replies.specs.State.{setting_of, word_of, owed, Answers}
use Rattle.session_replies.proofs.Answering.{grade_kept, on_refusal, on_runs, stopped_still, stopped_at, stopped_more, counts_still, counts_owed, counts_said, answers_said, answers_told}
use Rattle.session_replies.proofs.Marks.{marks_of_desk}
use Rattle.session_replies.proofs.replies.answer.Goals as goal

pub pool-requires : goal.pool-requires
pool-requires g c =
    let s = setting_of c.args.given.now in
    record { marks = subst (AreMarksOf s.desk) (sym c.requires.ready.marked) (marks_of_desk s c.args.judging.now.session c.valid.ensures) }

pub returns-in-Undo-clause-answers : goal.returns-in-Undo-clause-answers
returns-in-Undo-clause-answers g c =
    answers_said (record { name = g.P.Made.Measure.measured; cell = g.P.Made.Measure.cell_of; bound = g.P.Made.Measure.bounds_of }) (setting_of c.args.given.now) c.args.request (requests.Undo c.in-Undo.who) c.args.judging.now c.undo.new.self c.undo.result c.in-Undo.is c.undo.ensures.answers

pub returns-in-Undo-clause-counts : goal.returns-in-Undo-clause-counts
returns-in-Undo-clause-counts g c =
    counts_said (setting_of c.args.given.now) c.args.request (requests.Undo c.in-Undo.who) c.args.judging.now c.undo.new.self c.args.steps.now c.undo.new.steps c.in-Undo.is c.undo.ensures.counts

pub returns-in-Undo-clause-stopped : goal.returns-in-Undo-clause-stopped
returns-in-Undo-clause-stopped g c =
    stopped_at c.undo.result c.args.steps.now c.undo.new.steps (owed c.args.given.now.desk.now c.args.judging.now.table) c.undo.ensures.stopped

pub returns-in-Redo-clause-answers : goal.returns-in-Redo-clause-answers
returns-in-Redo-clause-answers g c =
    answers_said (record { name = g.P.Made.Measure.measured; cell = g.P.Made.Measure.cell_of; bound = g.P.Made.Measure.bounds_of }) (setting_of c.args.given.now) c.args.request (requests.Redo c.in-Redo.who) c.args.judging.now c.redo.new.self c.redo.result c.in-Redo.is c.redo.ensures.answers

pub returns-in-Redo-clause-counts : goal.returns-in-Redo-clause-counts
returns-in-Redo-clause-counts g c =
    counts_said (setting_of c.args.given.now) c.args.request (requests.Redo c.in-Redo.who) c.args.judging.now c.redo.new.self c.args.steps.now c.redo.new.steps c.in-Redo.is c.redo.ensures.counts

pub returns-in-Redo-clause-stopped : goal.returns-in-Redo-clause-stopped
returns-in-Redo-clause-stopped g c =
    stopped_at c.redo.result c.args.steps.now c.redo.new.steps (owed c.args.given.now.desk.now c.args.judging.now.table) c.redo.ensures.stopped

pub returns-in-Judge-clause-stopped : goal.returns-in-Judge-clause-stopped
returns-in-Judge-clause-stopped g c =
    stopped_at c.judge.result c.args.steps.now c.judge.new.steps (owed c.args.given.now.desk.now c.args.judging.now.table) c.judge.ensures.stopped

pub returns-in-Table-clause-answers : goal.returns-in-Table-clause-answers
returns-in-Table-clause-answers g c =
    answers_told (record { name = g.P.Made.Measure.measured; cell = g.P.Made.Measure.cell_of; bound = g.P.Made.Measure.bounds_of }) (setting_of c.args.given.now) c.args.request requests.Table c.args.judging.now c.make_report.new.judging c.make_report.result c.in-Table.is (IsTableText (subject_after (setting_of c.args.given.now) c.args.judging.now.session)) c.make_report.ensures.ready c.make_report.ensures.session
    (λ text told. told) c.make_report.ensures.told

pub returns-in-Table-clause-counts : goal.returns-in-Table-clause-counts
returns-in-Table-clause-counts g c =
    counts_owed (setting_of c.args.given.now) (Asked (request_said c.args.request)) c.args.judging.now c.make_report.new.judging c.args.steps.now c.make_report.new.steps c.make_report.ensures.steps

pub returns-in-Table-clause-stopped : goal.returns-in-Table-clause-stopped
returns-in-Table-clause-stopped g c =
    stopped_more c.make_report.result c.args.steps.now c.make_report.new.steps (owed c.args.given.now.desk.now c.make_report.new.judging.table) (owed c.args.given.now.desk.now c.args.judging.now.table) c.make_report.ensures.steps

pub returns-in-Next-clause-answers : goal.returns-in-Next-clause-answers
returns-in-Next-clause-answers g c =
    answers_told (record { name = g.P.Made.Measure.measured; cell = g.P.Made.Measure.cell_of; bound = g.P.Made.Measure.bounds_of }) (setting_of c.args.given.now) c.args.request requests.Next c.args.judging.now c.make_next.new.judging c.make_next.result c.in-Next.is (IsNextText (subject_after (setting_of c.args.given.now) c.args.judging.now.session)) c.make_next.ensures.ready c.make_next.ensures.session
    (λ text told. told) c.make_next.ensures.told

pub returns-in-Next-clause-counts : goal.returns-in-Next-clause-counts
returns-in-Next-clause-counts g c =
    counts_owed (setting_of c.args.given.now) (Asked (request_said c.args.request)) c.args.judging.now c.make_next.new.judging c.args.steps.now c.make_next.new.steps c.make_next.ensures.steps

pub returns-in-Next-clause-stopped : goal.returns-in-Next-clause-stopped
returns-in-Next-clause-stopped g c =
    stopped_more c.make_next.result c.args.steps.now c.make_next.new.steps (owed c.args.given.now.desk.now c.make_next.new.judging.table) (owed c.args.given.now.desk.now c.args.judging.now.table) c.make_next.ensures.steps

pub returns-in-Ok-clause-answers : goal.returns-in-Ok-clause-answers
returns-in-Ok-clause-answers g c =
    answers_told (record { name = g.P.Made.Measure.measured; cell = g.P.Made.Measure.cell_of; bound = g.P.Made.Measure.bounds_of }) (setting_of c.args.given.now) c.args.request (requests.Pair c.in-Pair.first c.in-Pair.second) c.args.judging.now c.make_report-in-Ok.new.judging c.make_report-in-Ok.result c.in-Pair.is (IsPairText (subject_after (setting_of c.args.given.now) c.args.judging.now.session) c.in-Ok.runs.0 c.in-Ok.runs.1) c.make_report-in-Ok.ensures.ready c.make_report-in-Ok.ensures.session
    (λ text told. on_runs (number_of c.args.given.now.desk.now.runs c.in-Pair.first.now) (number_of c.args.given.now.desk.now.runs c.in-Pair.second.now) c.in-Ok.runs.0 c.in-Ok.runs.1 (IsPairText (subject_after (setting_of c.args.given.now) c.args.judging.now.session)) text c.in-Ok.ensures.first c.in-Ok.ensures.second c.in-Ok.ensures.runs.different told) c.make_report-in-Ok.ensures.told

pub returns-in-Ok-clause-counts : goal.returns-in-Ok-clause-counts
returns-in-Ok-clause-counts g c =
    counts_owed (setting_of c.args.given.now) (Asked (request_said c.args.request)) c.args.judging.now c.make_report-in-Ok.new.judging c.args.steps.now c.make_report-in-Ok.new.steps c.make_report-in-Ok.ensures.steps

pub returns-in-Ok-clause-stopped : goal.returns-in-Ok-clause-stopped
returns-in-Ok-clause-stopped g c =
    stopped_more c.make_report-in-Ok.result c.args.steps.now c.make_report-in-Ok.new.steps (owed c.args.given.now.desk.now c.make_report-in-Ok.new.judging.table) (owed c.args.given.now.desk.now c.args.judging.now.table) c.make_report-in-Ok.ensures.steps

pub returns-in-Ok-find_runs-clause-answers : goal.returns-in-Ok-find_runs-clause-answers
returns-in-Ok-find_runs-clause-answers g c =
    answers_told (record { name = g.P.Made.Measure.measured; cell = g.P.Made.Measure.cell_of; bound = g.P.Made.Measure.bounds_of }) (setting_of c.args.given.now) c.args.request (requests.Certify c.in-Certify.first c.in-Certify.second) c.args.judging.now c.make_report-in-Ok-find_runs.new.judging c.make_report-in-Ok-find_runs.result c.in-Certify.is (IsCertified (subject_after (setting_of c.args.given.now) c.args.judging.now.session) c.in-Ok-find_runs.runs.0 c.in-Ok-find_runs.runs.1) c.make_report-in-Ok-find_runs.ensures.ready c.make_report-in-Ok-find_runs.ensures.session
    (λ text told. on_runs (number_of c.args.given.now.desk.now.runs c.in-Certify.first.now) (number_of c.args.given.now.desk.now.runs c.in-Certify.second.now) c.in-Ok-find_runs.runs.0 c.in-Ok-find_runs.runs.1 (IsCertified (subject_after (setting_of c.args.given.now) c.args.judging.now.session)) text c.in-Ok-find_runs.ensures.first c.in-Ok-find_runs.ensures.second c.in-Ok-find_runs.ensures.runs.different told) c.make_report-in-Ok-find_runs.ensures.told

pub returns-in-Ok-find_runs-clause-counts : goal.returns-in-Ok-find_runs-clause-counts
returns-in-Ok-find_runs-clause-counts g c =
    counts_owed (setting_of c.args.given.now) (Asked (request_said c.args.request)) c.args.judging.now c.make_report-in-Ok-find_runs.new.judging c.args.steps.now c.make_report-in-Ok-find_runs.new.steps c.make_report-in-Ok-find_runs.ensures.steps

pub returns-in-Ok-find_runs-clause-stopped : goal.returns-in-Ok-find_runs-clause-stopped
returns-in-Ok-find_runs-clause-stopped g c =
    stopped_more c.make_report-in-Ok-find_runs.result c.args.steps.now c.make_report-in-Ok-find_runs.new.steps (owed c.args.given.now.desk.now c.make_report-in-Ok-find_runs.new.judging.table) (owed c.args.given.now.desk.now c.args.judging.now.table) c.make_report-in-Ok-find_runs.ensures.steps

pub returns-in-Err-clause-answers : goal.returns-in-Err-clause-answers
returns-in-Err-clause-answers g c =
    answers_told (record { name = g.P.Made.Measure.measured; cell = g.P.Made.Measure.cell_of; bound = g.P.Made.Measure.bounds_of }) (setting_of c.args.given.now) c.args.request (requests.Pair c.in-Pair.first c.in-Pair.second) c.args.judging.now c.args.judging.now c.refused_runs.result c.in-Pair.is (λ (text : List ℕ). text ≡ refusal (word_of c.in-Err.fault)) c.requires.ready refl
    (λ text told. on_refusal (number_of c.args.given.now.desk.now.runs c.in-Pair.first.now) (number_of c.args.given.now.desk.now.runs c.in-Pair.second.now) (IsPairText (subject_after (setting_of c.args.given.now) c.args.judging.now.session)) text (refusal (word_of c.in-Err.fault)) told c.in-Err.ensures.refused) c.refused_runs.ensures

pub returns-in-Err-clause-counts : goal.returns-in-Err-clause-counts
returns-in-Err-clause-counts g c =
    counts_still (setting_of c.args.given.now) (Asked (request_said c.args.request)) c.args.judging.now c.args.steps.now

pub returns-in-Err-clause-stopped : goal.returns-in-Err-clause-stopped
returns-in-Err-clause-stopped g c =
    stopped_still c.refused_runs.result c.args.steps.now (owed c.args.given.now.desk.now c.args.judging.now.table)

pub returns-in-Err-find_runs-clause-answers : goal.returns-in-Err-find_runs-clause-answers
returns-in-Err-find_runs-clause-answers g c =
    answers_told (record { name = g.P.Made.Measure.measured; cell = g.P.Made.Measure.cell_of; bound = g.P.Made.Measure.bounds_of }) (setting_of c.args.given.now) c.args.request (requests.Certify c.in-Certify.first c.in-Certify.second) c.args.judging.now c.args.judging.now c.refused_runs-in-Err-find_runs.result c.in-Certify.is (λ (text : List ℕ). text ≡ refusal (word_of c.in-Err-find_runs.fault)) c.requires.ready refl
    (λ text told. on_refusal (number_of c.args.given.now.desk.now.runs c.in-Certify.first.now) (number_of c.args.given.now.desk.now.runs c.in-Certify.second.now) (IsCertified (subject_after (setting_of c.args.given.now) c.args.judging.now.session)) text (refusal (word_of c.in-Err-find_runs.fault)) told c.in-Err-find_runs.ensures.refused) c.refused_runs-in-Err-find_runs.ensures

pub returns-in-Err-find_runs-clause-counts : goal.returns-in-Err-find_runs-clause-counts
returns-in-Err-find_runs-clause-counts g c =
    counts_still (setting_of c.args.given.now) (Asked (request_said c.args.request)) c.args.judging.now c.args.steps.now

pub returns-in-Err-find_runs-clause-stopped : goal.returns-in-Err-find_runs-clause-stopped
returns-in-Err-find_runs-clause-stopped g c =
    stopped_still c.refused_runs-in-Err-find_runs.result c.args.steps.now (owed c.args.given.now.desk.now c.args.judging.now.table)

pub returns-in-Pool-clause-answers : goal.returns-in-Pool-clause-answers
returns-in-Pool-clause-answers g c =
    answers_told (record { name = g.P.Made.Measure.measured; cell = g.P.Made.Measure.cell_of; bound = g.P.Made.Measure.bounds_of }) (setting_of c.args.given.now) c.args.request (requests.Pool c.in-Pool.topic c.in-Pool.depth) c.args.judging.now c.args.judging.now c.pool.result c.in-Pool.is (λ (text : List ℕ). (changes : List Change) → c.args.judging.now.marks.rows ≡ marks_after (setting_of c.args.given.now) changes → IsPoolReply (setting_of c.args.given.now) changes c.in-Pool.depth (number_of (map (λ (book : Book). book.name) c.args.given.now.desk.now.topics) c.in-Pool.topic.now) text) c.requires.ready refl
    (λ text told. told c.args.judging.now.session c.requires.ready.marked) c.pool.ensures

pub returns-in-Pool-clause-counts : goal.returns-in-Pool-clause-counts
returns-in-Pool-clause-counts g c =
    counts_still (setting_of c.args.given.now) (Asked (request_said c.args.request)) c.args.judging.now c.args.steps.now

pub returns-in-Pool-clause-stopped : goal.returns-in-Pool-clause-stopped
returns-in-Pool-clause-stopped g c =
    stopped_still c.pool.result c.args.steps.now (owed c.args.given.now.desk.now c.args.judging.now.table)

pub returns-in-Qrels-clause-answers : goal.returns-in-Qrels-clause-answers
returns-in-Qrels-clause-answers g c =
    answers_told (record { name = g.P.Made.Measure.measured; cell = g.P.Made.Measure.cell_of; bound = g.P.Made.Measure.bounds_of }) (setting_of c.args.given.now) c.args.request requests.Qrels c.args.judging.now c.args.judging.now c.qrels.result c.in-Qrels.is (λ (text : List ℕ). text ≡ qrels_text c.args.given.now.desk.now (all_in_force c.args.given.now.desk.now c.args.judging.now.session)) c.requires.ready refl
    (λ text told. told) c.qrels.ensures

pub returns-in-Qrels-clause-counts : goal.returns-in-Qrels-clause-counts
returns-in-Qrels-clause-counts g c =
    counts_still (setting_of c.args.given.now) (Asked (request_said c.args.request)) c.args.judging.now c.args.steps.now

pub returns-in-Qrels-clause-stopped : goal.returns-in-Qrels-clause-stopped
returns-in-Qrels-clause-stopped g c =
    stopped_still c.qrels.result c.args.steps.now (owed c.args.given.now.desk.now c.args.judging.now.table)

pub returns-in-Quit-clause-answers : goal.returns-in-Quit-clause-answers
returns-in-Quit-clause-answers g c =
    subst (λ (request : Request). Answers (record { name = g.P.Made.Measure.measured; cell = g.P.Made.Measure.cell_of; bound = g.P.Made.Measure.bounds_of }) (setting_of c.args.given.now) (Asked (request_said request)) c.args.judging.now c.args.judging.now c.new.result.items) (sym c.in-Quit.is) (record { ready = c.requires.ready; changes = refl; is = c.new.ensures.items })

pub returns-in-Quit-clause-counts : goal.returns-in-Quit-clause-counts
returns-in-Quit-clause-counts g c =
    counts_still (setting_of c.args.given.now) (Asked (request_said c.args.request)) c.args.judging.now c.args.steps.now

pub invariant_of-judgement-clause-named : goal.invariant_of-judgement-clause-named
invariant_of-judgement-clause-named g c = (subst (λ (request : Request). IsWithin (request_said request)) c.in-Judge.is c.requires.within).0

pub invariant_of-judgement-clause-low : goal.invariant_of-judgement-clause-low
invariant_of-judgement-clause-low g c =
    let grade = (subst (λ (request : Request). IsWithin (request_said request)) c.in-Judge.is c.requires.within).3 in
    subst (λ (z : ℤ). negsuc 999 ≤ℤ z) (sym (grade_kept c.in-Judge.grade grade)) grade.0

pub invariant_of-judgement-clause-high : goal.invariant_of-judgement-clause-high
invariant_of-judgement-clause-high g c =
    let grade = (subst (λ (request : Request). IsWithin (request_said request)) c.in-Judge.is c.requires.within).3 in
    subst (λ (z : ℤ). z ≤ℤ pos 1000) (sym (grade_kept c.in-Judge.grade grade)) grade.1

pub returns-in-Judge-clause-answers : goal.returns-in-Judge-clause-answers
returns-in-Judge-clause-answers g c =
    let said = requests.Judge c.in-Judge.who c.in-Judge.topic c.in-Judge.doc in
    let is : c.args.request ≡ said (to_z w32 (of_z w32 c.in-Judge.grade)) = c.in-Judge.is ∙ ap said (sym (grade_kept c.in-Judge.grade (subst (λ (request : Request). IsWithin (request_said request)) c.in-Judge.is c.requires.within).3)) in
    answers_said (record { name = g.P.Made.Measure.measured; cell = g.P.Made.Measure.cell_of; bound = g.P.Made.Measure.bounds_of }) (setting_of c.args.given.now) c.args.request (said (to_z w32 (of_z w32 c.in-Judge.grade))) c.args.judging.now c.judge.new.self c.judge.result is c.judge.ensures.answers

pub returns-in-Judge-clause-counts : goal.returns-in-Judge-clause-counts
returns-in-Judge-clause-counts g c =
    let said = requests.Judge c.in-Judge.who c.in-Judge.topic c.in-Judge.doc in
    let is : c.args.request ≡ said (to_z w32 (of_z w32 c.in-Judge.grade)) = c.in-Judge.is ∙ ap said (sym (grade_kept c.in-Judge.grade (subst (λ (request : Request). IsWithin (request_said request)) c.in-Judge.is c.requires.within).3)) in
    counts_said (setting_of c.args.given.now) c.args.request (said (to_z w32 (of_z w32 c.in-Judge.grade))) c.args.judging.now c.judge.new.self c.args.steps.now c.judge.new.steps is c.judge.ensures.counts
