use Rattle.std.proofs.Common.{◌≡◌}
use Rattle.std.specs.Prelude.{IfOk, Result, Ok, Err}
use Rattle.std.specs.declared.alloc.AllocError.{AllocError}
use Rattle.clap.specs.Words.{App, app_of}
use Rattle.clap.specs.declared.builder.command.Command.{Command}
use Rattle.command_line.proofs.Making.{all_rules}
use Rattle.command_line.proofs.parser.command_for.Goals as goal

if_ok : (r : Result Command AllocError) (before after : App) → ((all : App) → all ≡ before → all ≡ after) → IfOk r (λ c. app_of c ≡ before) → IfOk r (λ c. app_of c ≡ after)
if_ok (Ok c) before after goes is = goes (app_of c) is
if_ok (Err e) before after goes is = tt

pub returns : goal.returns
returns c = record {
  app = if_ok c.with_others.result _ _
      (λ all is. all_rules _ _ c.row.view_is (app_of c.bare.result) (app_of c.in_ok-needed.needed) (app_of c.in_ok-optional.optional) (app_of c.in_ok-flagged.flagged) all c.bare.ensures c.in_ok-needed.ensures.app c.in_ok-optional.ensures.app c.in_ok-flagged.ensures.app is)
      c.with_others.ensures.app;
}
