use Rattle.std.proofs.Common.{length, ap, ◌∙◌}
use Rattle.std.proofs.lemmas.List.{length-map}
use Rattle.run_reader.specs.Run.{Run}
use Rattle.graded_trials.proofs.desks.desk_of.Goals as goal

pub returns : goal.returns
returns c = ap length c.in_ok-desk.ensures.desk.run_names ∙ length-map c.in_ok-runs.runs.items (λ (run : Run). run.name) ∙ c.in_ok-runs.ensures.two
