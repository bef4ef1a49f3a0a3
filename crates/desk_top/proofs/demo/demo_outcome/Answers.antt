use Rattle.std.proofs.Common.{refl}
use Rattle.desk_files.specs.declared.stop.Stop.TheVariants as kept
use Rattle.desk_top.specs.Meaning.{demo_meaning}
use Rattle.desk_top.specs.Works.{Works}
use Rattle.desk_top.proofs.Reporting.{handed_on}
use Rattle.desk_top.proofs.Showing.{demo_works, demo_memory}
use Rattle.desk_top.proofs.demo.demo_outcome.Goals as goal

pub returns-in_err-text-clause-works : goal.returns-in_err-text-clause-works
returns-in_err-text-clause-works g c =
    let seed = c.args.seed in
    λ files. handed_on (Works (demo_meaning seed) files c.args.steps.now c.demo_text.new.steps) c.from_residual.result kept.Memory c.from_residual.ensures.1 (demo_memory seed files _ _ kept.Memory refl c.demo_text.ensures.steps)

pub returns-clause-works : goal.returns-clause-works
returns-clause-works g c = λ files. demo_works c.args.seed files _ _ c.in_ok-text.text c.in_ok-text.ensures.text c.demo_text.ensures.steps
