use Rattle.average_precision.proofs.average_precision.AveragePrecision.kept_run.Goals as goal

pub returns-clause-kept : goal.returns-clause-kept
returns-clause-kept c =
    let run = c.args.run.now in
    let numbers = c.known_run-numbers.ensures in
    let documents = c.documents-documents.ensures in
    record {
      lo = numbers.lo;
      hi = numbers.hi;
      low_in_high = numbers.low_in_high;
      high_in_low = numbers.high_in_low;
      in_high = documents.in_high;
      in_low = documents.in_low;
      taken = run.are.high.count;
      left_out = run.are.low.count;
    }
