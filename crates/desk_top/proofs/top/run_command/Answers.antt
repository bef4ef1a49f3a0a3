use Rattle.std.proofs.Common.{refl, subst}
use Rattle.desk_outside.specs.Seen.{source}
use Rattle.session_stream.specs.Text.{EvaluatesWithin}
use Rattle.desk_top.specs.Meaning.{meaning_of}
use Rattle.desk_top.specs.Works.{MakesOutcome}
use Rattle.desk_top.proofs.Conversing.{meets_held}
use Rattle.desk_top.proofs.Meeting.{meets_put, meets_refused, meets_stopped}
use Rattle.desk_top.proofs.top.run_command.Goals as goal

pub returns-in-Ok-Prints-clause-meets : goal.returns-in-Ok-Prints-clause-meets
returns-in-Ok-Prints-clause-meets g c =
    let works = c.in-Ok-Prints.ensures.works in
    let made = subst (MakesOutcome (meaning_of c.args.command.now) c.args.steps.now c.outcome_of.new.steps works.0) c.in-Ok-Prints.field-0-is works.2 in
    meets_put (meaning_of c.args.command.now) _ refl refl works.0 works.1 _ _ _ made.0 made.1 (rw c.deref.ensures.value at c.put_text.ensures) c.outcome_of.ensures.opened c.in-Ok-Prints.ensures.reads

pub returns-in-Ok-Refuses-clause-meets : goal.returns-in-Ok-Refuses-clause-meets
returns-in-Ok-Refuses-clause-meets g c =
    let works = c.in-Ok-Refuses.ensures.works in
    let made = subst (MakesOutcome (meaning_of c.args.command.now) c.args.steps.now c.outcome_of.new.steps works.0) c.in-Ok-Refuses.field-0-is works.2 in
    meets_refused (meaning_of c.args.command.now) _ refl refl works.0 works.1 _ _ made.0 made.1 c.tell_refusal.ensures.status refl (rw c.deref-in-Ok-Refuses.ensures.value at c.tell_refusal.ensures.line) c.outcome_of.ensures.opened c.in-Ok-Refuses.ensures.reads

pub returns-in-Ok-Holds-clause-meets : goal.returns-in-Ok-Holds-clause-meets
returns-in-Ok-Holds-clause-meets g c =
    let works = c.in-Ok-Holds.ensures.works in
    let made = subst (MakesOutcome (meaning_of c.args.command.now) c.args.steps.now c.outcome_of.new.steps works.0) c.in-Ok-Holds.field-0-is works.2 in
    meets_held (meaning_of c.args.command.now) _ works.0 works.1 _ made.0 _ c.answer_session.ensures.answered
    (subst (λ cells. EvaluatesWithin (record { measure = c.in-Ok-Holds.measure; level = c.in-Ok-Holds.grading.level; depth = c.in-Ok-Holds.grading.depth; desk = c.in-Ok-Holds.desk }) (source (g.S.Source.state c.args.input.now) (g.S.Source.state c.answer_session.new.input)) cells c.answer_session.new.steps) made.1 c.answer_session.ensures.cells) c.outcome_of.ensures.opened c.in-Ok-Holds.ensures.reads c.answer_session.ensures.heard

pub returns-in-Err-clause-meets : goal.returns-in-Err-clause-meets
returns-in-Err-clause-meets g c =
    let works = c.in-Err.ensures.works in
    meets_stopped (meaning_of c.args.command.now) _ refl refl c.in-Err.stop _ works.0 works.1 c.tell_stop.ensures refl c.outcome_of.ensures.opened c.in-Err.ensures.reads
