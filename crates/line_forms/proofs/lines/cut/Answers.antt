use Rattle.line_forms.proofs.WordParts.{cut_free, cut_none}
use Rattle.line_forms.proofs.lines.cut.Goals as goal

pub returns-in-Some-clause-free : goal.returns-in-Some-clause-free
returns-in-Some-clause-free c = cut_free c.args.byte c.args.text.now c.in-Some.at c.in-Some.ensures

pub returns-in-None-clause-none : goal.returns-in-None-clause-none
returns-in-None-clause-none c = cut_none c.args.byte c.args.text.now c.in-None.ensures
