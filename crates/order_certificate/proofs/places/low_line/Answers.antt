use Rattle.line_forms.specs.Places.{IsLaterName}
use Rattle.order_certificate.specs.Certificate.{low_line, IsLowBound}
use Rattle.order_certificate.specs.declared.certificate.TopicBound.{TopicBound}
use Rattle.line_forms.proofs.Cuts.{above_free}
use Rattle.line_forms.proofs.Sequel.{read_part, read_none}
use Rattle.order_certificate.proofs.RowKinds.{low_kind}
use Rattle.order_certificate.proofs.places.low_line.Goals as goal

pub returns-in-Some : goal.returns-in-Some
returns-in-Some c =
    read_part low_line (λ (b : TopicBound). IsLaterName c.args.before.now b.topic × IsLowBound b) c.args.lines.now.rest c.in-Some.line.now c.next_line.new.self c.low_of.result (λ p fits. above_free 10 (low_line p) ((low_kind.plain c.args.before.now).1 p fits)) c.next_line.ensures.last c.in-Some.ensures.some c.in-Some.ensures.feedless c.low_of.ensures

pub returns-in-None : goal.returns-in-None
returns-in-None c = read_none low_line (λ (b : TopicBound). IsLaterName c.args.before.now b.topic × IsLowBound b) c.args.lines.now.rest c.next_line.new.self.last c.next_line.ensures.last c.in-None.ensures.none
