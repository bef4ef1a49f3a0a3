use Rattle.std.proofs.Common.{◌∙◌, ◌∷◌, append_assoc, decimal, arith}
use Rattle.line_forms.proofs.WordParts.{one_name}
use Rattle.line_forms.proofs.parts.name_and_count_of.Goals as goal

pub returns-in-None : goal.returns-in-None
returns-in-None c p fits e =
    let word = c.args.word.now in
    let cut = one_name word c.args.line.now c.in_ok-name.name c.in_ok-name.text.now p.0 (decimal p.1) c.in_ok-name.ensures.later.0 fits.0.0 c.in_ok-name.ensures.ok (e ∙ append_assoc word p.0 (32 ∷ decimal p.1)) in
    c.in-None.ensures.none p.1 (omega arith) fits.1 cut.1
