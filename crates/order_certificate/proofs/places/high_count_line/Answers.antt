use Rattle.std.proofs.Common.{ℕ}
use Rattle.std.specs.Prelude.{codes}
use Rattle.line_forms.specs.Places.{count_line}
use Rattle.order_certificate.specs.Certificate.{IsDocumentCount}
use Rattle.line_forms.proofs.Cuts.{above_free}
use Rattle.line_forms.proofs.Sequel.{read_part, read_none}
use Rattle.order_certificate.proofs.RowKinds.{high_count_plain}
use Rattle.order_certificate.proofs.places.high_count_line.Goals as goal

pub returns-in-Some : goal.returns-in-Some
returns-in-Some c =
    read_part (λ (n : ℕ). count_line (codes "high ") c.args.topic.now n) IsDocumentCount c.args.lines.now.rest c.in-Some.line.now c.next_line.new.self c.high_count_of.result (λ n fits. above_free 10 (count_line (codes "high ") c.args.topic.now n) ((high_count_plain c.args.topic.now c.requires).1 n fits)) c.next_line.ensures.last c.in-Some.ensures.some c.in-Some.ensures.feedless c.high_count_of.ensures

pub returns-in-None : goal.returns-in-None
returns-in-None c = read_none (λ (n : ℕ). count_line (codes "high ") c.args.topic.now n) IsDocumentCount c.args.lines.now.rest c.next_line.new.self.last c.next_line.ensures.last c.in-None.ensures.none
