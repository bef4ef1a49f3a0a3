use Rattle.desk_text.proofs.Sizes.{zeros_moved}
use Rattle.desk_text.proofs.key.raised_short.Goals as goal

pub returns-then-number-bound-clause-same : goal.returns-then-number-bound-clause-same
returns-then-number-bound-clause-same c = zeros_moved c.args.number.digits c.args.factor c.args.places c.args.number.power c.requires.factor c.requires.places
