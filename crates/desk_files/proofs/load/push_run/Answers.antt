use Rattle.std.proofs.Common.{[], ◌∷◌, ◌++◌, ap, ◌∙◌}
use Rattle.run_reader.specs.Run.{Run}
use Rattle.desk_files.proofs.load.push_run.Goals as goal

pub returns : goal.returns
returns c = c.in_ok-push.ensures.items ∙ ap (λ (one : Run). c.args.runs.now.items ++ one ∷ []) c.in_ok-of.ensures
