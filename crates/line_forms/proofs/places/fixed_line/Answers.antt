use Rattle.line_forms.proofs.Sequel.{read_part, read_none}
use Rattle.line_forms.proofs.places.fixed_line.Goals as goal

pub returns-in-Some : goal.returns-in-Some
returns-in-Some c =
    read_part (λ _. c.args.text.now) (λ _. Unit {0}) c.args.lines.now.rest c.in-Some.line.now c.next_line.new.self c.fixed_of.result (λ p fits. c.requires) c.next_line.ensures.last c.in-Some.ensures.some c.in-Some.ensures.feedless c.fixed_of.ensures

pub returns-in-None : goal.returns-in-None
returns-in-None c = read_none (λ _. c.args.text.now) (λ _. Unit {0}) c.args.lines.now.rest c.next_line.new.self.last c.next_line.ensures.last c.in-None.ensures.none
