use Rattle.line_forms.proofs.Cuts.{above_free}
use Rattle.line_forms.proofs.Sequel.{read_part, read_none}
use Rattle.order_bundle.specs.Bundle.{IsLowerBound, bound_line}
use Rattle.order_bundle.proofs.PickRows.{bound_kind}
use Rattle.order_bundle.proofs.places.bound_line.Goals as goal

pub returns-in-Some : goal.returns-in-Some
returns-in-Some c =
    read_part bound_line IsLowerBound c.args.lines.now.rest c.in-Some.line.now c.next_line.new.self c.bound_of.result (λ b fits. above_free 10 (bound_line b) ((bound_kind.plain tt).1 b fits)) c.next_line.ensures.last c.in-Some.ensures.some c.in-Some.ensures.feedless c.bound_of.ensures

pub returns-in-None : goal.returns-in-None
returns-in-None c = read_none bound_line IsLowerBound c.args.lines.now.rest c.next_line.new.self.last c.next_line.ensures.last c.in-None.ensures.none
