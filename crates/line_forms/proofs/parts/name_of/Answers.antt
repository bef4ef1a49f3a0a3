use Rattle.std.proofs.Common.{ap, Err}
use Rattle.std.proofs.lemmas.Result.{err_from_is_err_and}
use Rattle.line_forms.proofs.WordParts.{no_name_after}
use Rattle.line_forms.proofs.parts.name_of.Goals as goal

pub returns-in_err-new : goal.returns-in_err-new
returns-in_err-new c =
    let p = err_from_is_err_and c.from_residual.result c.from_residual.ensures.1 in
    rw (p.1, p.2) (no_name_after c.args.word.now c.args.line.now c.in-Some.text.now c.in_err-new.field-0.0 c.in-Some.ensures.some (λ e. c.in_err-new.ensures.bad.0 (ap Err e)))
