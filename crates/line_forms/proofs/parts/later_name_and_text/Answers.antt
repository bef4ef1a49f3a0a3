use Rattle.std.proofs.Common.{◌≡◌, ◌∷◌, ◌++◌, ◌∙◌, sym, subst, Err}
use Rattle.std.proofs.lemmas.Result.{err_from_is_err_and}
use Rattle.line_forms.specs.declared.lines.FormFault.{FormFault}
use Rattle.line_forms.specs.declared.lines.FormFault.TheVariants.{Bad}
use Rattle.line_forms.specs.Places.{IsLaterName}
use Rattle.line_forms.specs.Reading.{IsPartOf}
use Rattle.line_forms.proofs.Cuts.{free_parts, above_free}
use Rattle.line_forms.proofs.Shown.{name_above}
use Rattle.line_forms.proofs.WordParts.{after_word}
use Rattle.line_forms.proofs.parts.later_name_and_text.Goals as goal

pub returns-in_default-cut-clause-bad : goal.returns-in_default-cut-clause-bad
returns-in_default-cut-clause-bad c same name rest next e =
    c.in_default-cut.ensures.none name rest (after_word c.args.word.now c.args.line.now c.in-Some.text.now (name ++ 32 ∷ rest) c.in-Some.ensures.some e)

pub returns-in_err-name-clause-bad : goal.returns-in_err-name-clause-bad
returns-in_err-name-clause-bad c same name rest later e =
    let p = err_from_is_err_and c.from_residual.result c.from_residual.ensures.1 in
    let is = p.1 in
    let of = p.2 in
    let bad : c.in_err-name.field-0.0 ≡ Bad = cc in
    let text = after_word c.args.word.now c.args.line.now c.in-Some.text.now (name ++ 32 ∷ rest) c.in-Some.ensures.some e in
    let at = free_parts 32 c.in-Some-cut.name.now name c.in-Some-cut.rest.now rest c.in-Some-cut.ensures.free (above_free 32 name (name_above name later.0)) (sym c.in-Some-cut.ensures.some ∙ text) in
    let none = subst (λ (f : FormFault). IsPartOf (λ name. name) (IsLaterName c.args.before.now) c.in-Some-cut.name.now (Err f)) bad c.in_err-name.ensures in
    none name later at.0
