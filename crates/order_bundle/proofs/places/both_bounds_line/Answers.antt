use Rattle.line_forms.proofs.Cuts.{above_free}
use Rattle.line_forms.proofs.Sequel.{read_part, read_none}
use Rattle.order_bundle.specs.Bundle.{AreBothBounds, both_bounds_line}
use Rattle.order_bundle.proofs.PickRows.{both_bounds_kind}
use Rattle.order_bundle.proofs.places.both_bounds_line.Goals as goal

pub returns-in-Some : goal.returns-in-Some
returns-in-Some c =
    read_part both_bounds_line AreBothBounds c.args.lines.now.rest c.in-Some.line.now c.next_line.new.self c.both_bounds_of.result (λ b fits. above_free 10 (both_bounds_line b) ((both_bounds_kind.plain tt).1 b fits)) c.next_line.ensures.last c.in-Some.ensures.some c.in-Some.ensures.feedless c.both_bounds_of.ensures

pub returns-in-None : goal.returns-in-None
returns-in-None c = read_none both_bounds_line AreBothBounds c.args.lines.now.rest c.next_line.new.self.last c.next_line.ensures.last c.in-None.ensures.none
