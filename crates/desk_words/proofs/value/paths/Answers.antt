use Rattle.std.proofs.Common.{arith}
use Rattle.desk_words.proofs.Values.{handed_on, no_path}
use Rattle.desk_words.proofs.value.paths.Goals as goal

pub returns-in_err-path-clause-usage : goal.returns-in_err-path-clause-usage
returns-in_err-path-clause-usage c e =
    no_path c.args.values.now c.loop-value.value-index _ (omega arith) (c.in_err-path.ensures.usage (handed_on c.from_residual.result c.in_err-path.field-0.0 c.from_residual.ensures.1 e))
