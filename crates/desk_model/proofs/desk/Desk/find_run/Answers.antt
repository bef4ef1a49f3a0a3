use Rattle.std.proofs.Common.{◌∙◌}
use Rattle.std.proofs.lemmas.Iterator.Adapters.{position_from-zero}
use Rattle.desk_model.specs.Name.{is_same_name}
use Rattle.desk_model.proofs.desk.Desk.find_run.Goals as goal

pub returns-in-Some : goal.returns-in-Some
returns-in-Some c = rw (← c.self.view_is, ← c.deref.ensures.value) (c.in-Some.ensures.place ∙ position_from-zero (λ each. is_same_name each c.args.name.now) c.deref.result.now)

pub returns-in-None : goal.returns-in-None
returns-in-None c = rw (← c.self.view_is, ← c.deref.ensures.value) (c.in-None.ensures.place ∙ position_from-zero (λ each. is_same_name each c.args.name.now) c.deref.result.now)
