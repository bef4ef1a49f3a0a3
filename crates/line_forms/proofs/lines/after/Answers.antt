use Rattle.desk_model.proofs.Decimals.{split_some, split_none}
use Rattle.line_forms.proofs.lines.after.Goals as goal

pub returns-clause-some : goal.returns-clause-some
returns-clause-some c = split_some c.strip_prefix.result c.args.text.now c.args.prefix.now c.strip_prefix.ensures.cases

pub returns-clause-none : goal.returns-clause-none
returns-clause-none c = split_none c.strip_prefix.result c.args.text.now c.args.prefix.now c.strip_prefix.ensures.cases
