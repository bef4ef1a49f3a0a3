use Rattle.std.proofs.Common.{sym}
use Rattle.std.proofs.lemmas.Option.{slice_get_within}
use Rattle.pair_table.proofs.Listing.{there_number}
use Rattle.session_replies.proofs.comparing.find_runs.Goals as goal

pub returns-else-first-second-clause-runs : goal.returns-else-first-second-clause-runs
returns-else-first-second-clause-runs c =
    let runs = c.args.desk.now.runs in
    record {
      first = slice_get_within runs c.in-Some-Some.first c.args.first.now (there_number runs c.args.first.now c.in-Some-Some.first (sym c.in-Some-Some.ensures));
      second = slice_get_within runs c.in-Some-Some.second c.args.second.now (there_number runs c.args.second.now c.in-Some-Some.second (sym c.in-Some-Some.ensures'));
      different = c.if-first-second.false;
    }
