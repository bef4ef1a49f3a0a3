use Rattle.clap.specs.Words.{app_of}
use Rattle.command_line.specs.Parser.{flag_rule}
use Rattle.command_line.proofs.Making.{one_more}
use Rattle.command_line.proofs.parser.with_flags.Goals as goal

pub loop-name-preserved : goal.loop-name-preserved
loop-name-preserved c = one_more flag_rule c.args.names.now c.loop-name.name-index _ (app_of c.args.command) (app_of c.loop-name.built) (app_of c.in_ok-built.built) c.loop-name-test.true c.loop-name.invariant c.in_ok-built.ensures.app
