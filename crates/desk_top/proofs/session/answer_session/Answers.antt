use Rattle.std.proofs.Common.{refl}
use Rattle.std.specs.Prelude.{Ok}
use Rattle.session_stream.specs.declared.stream.Ended.TheVariants as ended
use Rattle.desk_top.proofs.Telling.{writes_nothing}
use Rattle.desk_top.proofs.session.answer_session.Goals as goal

pub returns-in-Ok-Done-clause-answered : goal.returns-in-Ok-Done-clause-answered
returns-in-Ok-Done-clause-answered g c = record { ended = Ok ended.Done; ends = rw c.in-Ok-Done.field-0-is at c.in-Ok-Done.ensures.ends; is = refl; line = writes_nothing _ _ }
