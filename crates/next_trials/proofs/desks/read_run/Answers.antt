use Rattle.std.proofs.Common.{◌≡◌}
use Rattle.run_reader.specs.Run.{run_of}
use Rattle.topics_pool.proofs.AddedUp.{added_up, answered}
use Rattle.next_trials.proofs.desks.read_run.Goals as goal

pub returns : goal.returns
returns c =
    let run = c.in_ok-run.run' in
    let fed = c.feed_run.new.reader in
    let used : fed.used ≡ c.args.used = rw c.in_ok-reader.ensures at c.feed_run.ensures in
    rw used at (added_up fed.given fed.qrels fed.used fed.fed run (answered run (run_of fed.given fed.qrels fed.used fed.fed) c.in_ok-run.ensures.run))
