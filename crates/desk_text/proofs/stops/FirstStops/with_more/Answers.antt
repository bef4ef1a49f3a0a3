use Rattle.desk_text.proofs.FieldBytes.{more_known}
use Rattle.desk_text.proofs.stops.FirstStops.with_more.Goals as goal

pub returns-clause-known : goal.returns-clause-known
returns-clause-known c = more_known c.args.line.now c.args.self c.args.from c.stops.result c.requires.known c.requires.next c.requires.more c.requires.few c.stops.ensures.few c.stops.ensures.bits c.requires.within
