use Rattle.line_forms.proofs.Cuts.{above_free}
use Rattle.line_forms.proofs.Sequel.{read_part, read_none}
use Rattle.order_bundle.specs.Places.{head_line}
use Rattle.order_bundle.proofs.ClaimRows.{FitsHead, head_plain}
use Rattle.order_bundle.proofs.places.head_line.Goals as goal

pub returns-in-Some : goal.returns-in-Some
returns-in-Some c =
    read_part head_line (FitsHead c.args.runs c.args.last) c.args.lines.now.rest c.in-Some.line.now c.next_line.new.self c.head_of.result (λ h fits. above_free 10 (head_line h) ((head_plain c.args.runs c.args.last c.requires).1 h fits)) c.next_line.ensures.last c.in-Some.ensures.some c.in-Some.ensures.feedless c.head_of.ensures

pub returns-in-None : goal.returns-in-None
returns-in-None c = read_none head_line (FitsHead c.args.runs c.args.last) c.args.lines.now.rest c.next_line.new.self.last c.next_line.ensures.last c.in-None.ensures.none
