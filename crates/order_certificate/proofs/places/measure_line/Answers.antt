use Rattle.std.proofs.Common.{◌++◌, rules}
use Rattle.std.specs.Prelude.{codes}
use Rattle.desk_model.specs.MeasureText.{measure_text, IsMeasure}
use Rattle.line_forms.proofs.Cuts.{above_free}
use Rattle.line_forms.proofs.WordParts.{free-append}
use Rattle.line_forms.proofs.Sequel.{read_part, read_none}
use Rattle.order_certificate.proofs.Measures.{measure_above}
use Rattle.order_certificate.proofs.places.measure_line.Goals as goal

pub returns-in-Some : goal.returns-in-Some
returns-in-Some c =
    read_part (λ m. codes "measure " ++ measure_text m) IsMeasure c.args.lines.now.rest c.in-Some.line.now c.next_line.new.self c.measure_of.result (λ m is. free-append 10 (codes "measure ") (measure_text m) (search rules) (above_free 10 (measure_text m) (measure_above m))) c.next_line.ensures.last c.in-Some.ensures.some c.in-Some.ensures.feedless c.measure_of.ensures

pub returns-in-None : goal.returns-in-None
returns-in-None c = read_none (λ m. codes "measure " ++ measure_text m) IsMeasure c.args.lines.now.rest c.next_line.new.self.last c.next_line.ensures.last c.in-None.ensures.none
