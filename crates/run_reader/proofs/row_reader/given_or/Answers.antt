use Rattle.std.proofs.Common.{◌≡◌, List, ℕ, refl, ◌∙◌}
use Rattle.std.specs.Prelude.{Option, Some, None}
use Rattle.std.specs.Option.{option_or}
use Rattle.run_reader.specs.Reader.{given_or}
use Rattle.run_reader.proofs.row_reader.given_or.Goals as goal

either : (given tag : Option (List ℕ)) → option_or given tag ≡ given_or given tag
either (Some name) tag = refl
either None tag = refl

pub returns : goal.returns
returns c = c.or.ensures ∙ either c.args.given c.args.tag
