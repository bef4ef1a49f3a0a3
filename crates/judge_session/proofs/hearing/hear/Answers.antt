use Rattle.std.proofs.Common.{◌≡◌, length, false, sym, ap, subst, ◌∙◌, arith}
use Rattle.std.proofs.lemmas.Bool.{le-ltb}
use Rattle.desk_text.specs.declared.line.TheConstants.{LONGEST_LINE}
use Rattle.judge_session.specs.Forms.{IsHeardWithin}
use Rattle.judge_session.specs.Request.{Asked, heard_of, heard_request}
use Rattle.judge_session.specs.Said.{request_said}
use Rattle.judge_session.proofs.Lines.{bad_there, heard_is, no_bad, within}
use Rattle.judge_session.proofs.hearing.hear.Goals as goal

pub returns-in_default-clause-heard : goal.returns-in_default-clause-heard
returns-in_default-clause-heard c =
    let line = c.args.line.now in
    sym (heard_is false false _ line (le-ltb LONGEST_LINE (length line) (omega arith)) (sym c.is_blank.ensures ∙ c.if-is_blank.false) (bad_there line _ _ c.in_default.ensures.bad))

asked : (c : goal.In-Some) → Asked (request_said c.in-Some.request) ≡ heard_of c.args.line.now
asked c =
    let line = c.args.line.now in
    ap heard_request c.in-Some.ensures
    ∙ sym (heard_is false false false line (le-ltb LONGEST_LINE (length line) (omega arith)) (sym c.is_blank.ensures ∙ c.if-is_blank.false) (no_bad line _ c.in-Ok.ensures.bad))

pub returns-in-Some-clause-heard : goal.returns-in-Some-clause-heard
returns-in-Some-clause-heard c = asked c

pub returns-in-Some-clause-within : goal.returns-in-Some-clause-within
returns-in-Some-clause-within c = subst IsHeardWithin (sym (asked c)) (within c.args.line.now)
