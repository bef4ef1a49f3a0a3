use Rattle.std.proofs.Common.{decimal}
use Rattle.line_forms.proofs.WordParts.{after_word}
use Rattle.line_forms.proofs.parts.number_of.Goals as goal

pub returns-in-None : goal.returns-in-None
returns-in-None c n fits e = c.in-None.ensures.none n fits.0 fits.1 (after_word c.args.word.now c.args.line.now c.in-Some.text.now (decimal n) c.in-Some.ensures.some e)
