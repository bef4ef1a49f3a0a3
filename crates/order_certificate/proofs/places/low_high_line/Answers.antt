use Rattle.line_forms.specs.Places.{IsLaterName}
use Rattle.order_certificate.specs.Certificate.{low_high_line, IsLowHighBound}
use Rattle.order_certificate.specs.declared.certificate.TopicBound.{TopicBound}
use Rattle.line_forms.proofs.Cuts.{above_free}
use Rattle.line_forms.proofs.Sequel.{read_part, read_none}
use Rattle.order_certificate.proofs.RowKinds.{low_high_kind}
use Rattle.order_certificate.proofs.places.low_high_line.Goals as goal

pub returns-in-Some : goal.returns-in-Some
returns-in-Some c =
    read_part low_high_line (λ (b : TopicBound). IsLaterName c.args.before.now b.topic × IsLowHighBound b) c.args.lines.now.rest c.in-Some.line.now c.next_line.new.self c.low_high_of.result (λ p fits. above_free 10 (low_high_line p) ((low_high_kind.plain c.args.before.now).1 p fits)) c.next_line.ensures.last c.in-Some.ensures.some c.in-Some.ensures.feedless c.low_high_of.ensures

pub returns-in-None : goal.returns-in-None
returns-in-None c = read_none low_high_line (λ (b : TopicBound). IsLaterName c.args.before.now b.topic × IsLowHighBound b) c.args.lines.now.rest c.next_line.new.self.last c.next_line.ensures.last c.in-None.ensures.none
