use Rattle.line_forms.specs.Places.{IsLaterName}
use Rattle.line_forms.proofs.WordParts.{part_after}
use Rattle.line_forms.proofs.parts.later_name_of.Goals as goal

pub returns-in-Some : goal.returns-in-Some
returns-in-Some c = part_after c.args.word.now c.in-Some.text.now c.args.line.now (IsLaterName c.args.before.now) c.later_name.result c.in-Some.ensures.some c.later_name.ensures
