use Rattle.std.proofs.Common.{◌+◌, ◌-◌, ◌<◌, ◌≤◌, ℕ, List, arith, refl, ap, sym, ◌∙◌, subst, ◌++◌, append-nil, drop, length, length-drop, take}
use Rattle.std.proofs.Math.Nat.{le_refl, le_trans}
use Rattle.std.proofs.lemmas.List.{length-take, take_all}
use Rattle.session_replies.specs.State.{setting_of, owed}
use Rattle.desk_outside.specs.Seen.{sink}
use Rattle.desk_text.specs.Lines.{kept_line, unended}
use Rattle.session_stream.specs.Held.{Talks}
use Rattle.session_stream.proofs.Going.{talks_on}
use Rattle.session_stream.proofs.Pieces.{taken_on, line_on, line_cleared, line_so_far, used_within, used_some, rest_of, line_goes, line_stops, quit_not_more, err_not_more}
use Rattle.std.specs.Prelude.{Ok, Err}
use Rattle.session_stream.specs.declared.stream.Next.TheVariants as next
use Rattle.session_stream.proofs.stream.answer_piece.Goals as goal

pub loop-at-preserved : goal.loop-at-preserved
loop-at-preserved g c =
    let piece = c.args.piece.now in
    let at = c.loop-at.at in
    let old = c.loop-at.lines in
    let new = c.push-pushed.new.self in
    let push = c.push-pushed.ensures in
    let used = c.push-pushed.result in
    let state = c.loop-at.judging in
    let s = setting_of c.args.terms.now.given.now in
    record {
      within = used_within piece at old new used push c.loop-at.invariant.within;
      line = λ taken held. line_on piece taken at old new used push c.if-pushed.false (c.loop-at.invariant.line taken held);
      talks = λ had first taken held before.
          talks_on s had (g.K.Sink.state c.loop-at.out).received first (c.loop-at.steps + owed c.args.terms.now.given.now.desk.now state.table) (taken ++ take at piece) push.line (taken ++ take (at + used.used) piece) state.session
          (taken_on piece taken at old new used push c.if-pushed.false) push.in_line (c.loop-at.invariant.talks had first taken held before);
      ready = c.loop-at.invariant.ready;
      later = c.loop-at.invariant.later;
    }

pub loop-at-preserved-in-Ok-More : goal.loop-at-preserved-in-Ok-More
loop-at-preserved-in-Ok-More g c =
    let piece = c.args.piece.now in
    let at = c.loop-at.at in
    let old = c.loop-at.lines in
    let new = c.push-pushed.new.self in
    let push = c.push-pushed.ensures in
    let used = c.push-pushed.result in
    let state = c.loop-at.judging in
    let now = c.answer_line.new.judging in
    let s = setting_of c.args.terms.now.given.now in
    record {
      within = used_within piece at old new used push c.loop-at.invariant.within;
      line = λ taken held. line_cleared piece taken at old new used push c.clear.new.self c.if-pushed.true c.clear.ensures;
      talks = λ had first taken held before.
          let line_is = line_so_far piece taken at old new used push (c.loop-at.invariant.line taken held) in
          line_goes s had (sink (g.K.Sink.state c.loop-at.out) (g.K.Sink.state c.answer_line.new.out)) first c.loop-at.steps c.answer_line.new.steps piece taken at old new used
          state.session now.session state.table now.table push c.if-pushed.true (c.loop-at.invariant.talks had first taken held before)
          (rw c.in-Ok-More.field-0-is at c.in-Ok-More.ensures.answered (unended (taken ++ take at piece) ++ push.line) line_is) (c.in-Ok-More.ensures.steps (unended (taken ++ take at piece) ++ push.line) line_is);
      ready = c.in-Ok-More.ensures.ready;
      later = le_trans c.loop-at.invariant.later c.answer_line.ensures.later;
    }

pub returns-in-Ok-Quit-clause-answered : goal.returns-in-Ok-Quit-clause-answered
returns-in-Ok-Quit-clause-answered g c had first taken held before =
    let piece = c.args.piece.now in
    let at = c.loop-at.at in
    let old = c.loop-at.lines in
    let new = c.push-pushed.new.self in
    let push = c.push-pushed.ensures in
    let used = c.push-pushed.result in
    let state = c.loop-at.judging in
    let now = c.answer_line.new.judging in
    let s = setting_of c.args.terms.now.given.now in
    let line_is = line_so_far piece taken at old new used push (c.loop-at.invariant.line taken held) in
    line_stops s had (sink (g.K.Sink.state c.loop-at.out) (g.K.Sink.state c.answer_line.new.out))
    (sink (g.K.Sink.state c.args.out.now) (g.K.Sink.state c.answer_line.new.out)) first c.loop-at.steps c.answer_line.new.steps piece taken at old new used
    state.session now.session state.table now.table (c.answer_line.new.steps + owed c.args.terms.now.given.now.desk.now now.table) push c.if-pushed.true (c.loop-at.invariant.talks had first taken held before) refl refl c.loop-at.invariant.later
    (Ok next.Quit) (λ e. quit_not_more e) (rw c.in-Ok-Quit.field-0-is at c.in-Ok-Quit.ensures.answered (unended (taken ++ take at piece) ++ push.line) line_is) (c.in-Ok-Quit.ensures.steps (unended (taken ++ take at piece) ++ push.line) line_is)

pub returns-in-Err-clause-answered : goal.returns-in-Err-clause-answered
returns-in-Err-clause-answered g c had first taken held before =
    let piece = c.args.piece.now in
    let at = c.loop-at.at in
    let old = c.loop-at.lines in
    let new = c.push-pushed.new.self in
    let push = c.push-pushed.ensures in
    let used = c.push-pushed.result in
    let state = c.loop-at.judging in
    let now = c.answer_line.new.judging in
    let s = setting_of c.args.terms.now.given.now in
    let line_is = line_so_far piece taken at old new used push (c.loop-at.invariant.line taken held) in
    line_stops s had (sink (g.K.Sink.state c.loop-at.out) (g.K.Sink.state c.answer_line.new.out))
    (sink (g.K.Sink.state c.args.out.now) (g.K.Sink.state c.answer_line.new.out)) first c.loop-at.steps c.answer_line.new.steps piece taken at old new used
    state.session now.session state.table now.table (c.answer_line.new.steps + owed c.args.terms.now.given.now.desk.now now.table) push c.if-pushed.true (c.loop-at.invariant.talks had first taken held before) refl refl c.loop-at.invariant.later
    (Err c.in-Err.fault) (λ e. err_not_more e) (c.in-Err.ensures.answered (unended (taken ++ take at piece) ++ push.line) line_is) (c.in-Err.ensures.steps (unended (taken ++ take at piece) ++ push.line) line_is)

none_yet : (n : ℕ) → 0 ≤ n
none_yet n = omega arith

pub loop-at-init : goal.loop-at-init
loop-at-init g c =
    let s = setting_of c.args.terms.now.given.now in
    record {
      within = none_yet (length c.args.piece.now);
      line = λ taken held. held ∙ ap (λ (xs : List ℕ). kept_line (unended xs)) (sym (append-nil taken));
      talks = λ had first taken held before.
          subst (λ (xs : List ℕ). Talks s had (g.K.Sink.state c.args.out.now).received first (c.args.steps.now + owed c.args.terms.now.given.now.desk.now c.args.judging.now.table) xs c.args.judging.now.session) (sym (append-nil taken)) before;
      ready = c.requires.ready;
      later = le_refl (g.K.Sink.state c.args.out.now).faults;
    }

-- what is left of a piece grows smaller
rest_some : (piece : List ℕ) (at : ℕ) → at < length piece → 0 < length (rest_of at piece)
rest_some piece at lt = omega (arith, length-take (length piece - at) (drop at piece), length-drop at piece)

smaller : (n at used : ℕ) → at < n → 0 < used → n - (at + used) < n - at
smaller n at used lt some = omega arith

pub loop-at-smaller : goal.loop-at-smaller
loop-at-smaller g c =
    let piece = c.args.piece.now in
    smaller (length piece) c.loop-at.at c.push-pushed.result.used c.loop-at-test.true (used_some piece c.loop-at.at c.loop-at.lines c.push-pushed.new.self c.push-pushed.result c.push-pushed.ensures (rest_some piece c.loop-at.at c.loop-at-test.true))

pub loop-at-smaller-in-Ok-More : goal.loop-at-smaller-in-Ok-More
loop-at-smaller-in-Ok-More g c =
    let piece = c.args.piece.now in
    smaller (length piece) c.loop-at.at c.push-pushed.result.used c.loop-at-test.true (used_some piece c.loop-at.at c.loop-at.lines c.push-pushed.new.self c.push-pushed.result c.push-pushed.ensures (rest_some piece c.loop-at.at c.loop-at-test.true))

pub returns-clause-answered : goal.returns-clause-answered
returns-clause-answered g c had first taken held before =
    let s = setting_of c.args.terms.now.given.now in
    let state = c.loop-at.judging in
    subst (λ (xs : List ℕ). Talks s had (g.K.Sink.state c.loop-at.out).received first (c.loop-at.steps + owed c.args.terms.now.given.now.desk.now state.table) (taken ++ xs) state.session) (take_all c.loop-at.at c.args.piece.now c.loop-at-test.false)
    (c.loop-at.invariant.talks had first taken held before)

pub returns-clause-line : goal.returns-clause-line
returns-clause-line g c taken held e = c.loop-at.invariant.line taken held ∙ ap (λ (xs : List ℕ). kept_line (unended (taken ++ xs))) (take_all c.loop-at.at c.args.piece.now c.loop-at-test.false)

pub returns-in-Err-clause-line : goal.returns-in-Err-clause-line
returns-in-Err-clause-line g c taken held e = absurd (err_not_more e)

pub returns-in-Err-clause-ready : goal.returns-in-Err-clause-ready
returns-in-Err-clause-ready g c e = absurd (err_not_more e)

pub returns-in-Ok-Quit-clause-line : goal.returns-in-Ok-Quit-clause-line
returns-in-Ok-Quit-clause-line g c taken held e = absurd (quit_not_more e)

pub returns-in-Ok-Quit-clause-ready : goal.returns-in-Ok-Quit-clause-ready
returns-in-Ok-Quit-clause-ready g c e = absurd (quit_not_more e)
