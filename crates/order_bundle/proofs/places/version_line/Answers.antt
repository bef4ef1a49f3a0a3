use Rattle.line_forms.proofs.Cuts.{above_free}
use Rattle.line_forms.proofs.Sequel.{read_part, read_none}
use Rattle.order_bundle.specs.Places.{version_line}
use Rattle.order_bundle.proofs.Either.{version_plain}
use Rattle.order_bundle.proofs.places.version_line.Goals as goal

pub returns-in-Some : goal.returns-in-Some
returns-in-Some c = read_part version_line (λ _. Unit {0}) c.args.lines.now.rest c.in-Some.line.now c.next_line.new.self c.version_of.result (λ v fits. above_free 10 (version_line v) (version_plain.1 v fits)) c.next_line.ensures.last c.in-Some.ensures.some c.in-Some.ensures.feedless c.version_of.ensures

pub returns-in-None : goal.returns-in-None
returns-in-None c = read_none version_line (λ _. Unit {0}) c.args.lines.now.rest c.next_line.new.self.last c.next_line.ensures.last c.in-None.ensures.none
