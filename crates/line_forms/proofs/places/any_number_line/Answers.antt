use Rattle.std.proofs.Common.{◌<◌, ◌≤◌, ◌++◌, decimal}
use Rattle.line_forms.proofs.Cuts.{above_free}
use Rattle.line_forms.proofs.WordParts.{free-append}
use Rattle.line_forms.proofs.Sequel.{read_part, read_none}
use Rattle.line_forms.proofs.Plain.{decimal_in_line}
use Rattle.line_forms.proofs.places.any_number_line.Goals as goal

pub returns-in-Some : goal.returns-in-Some
returns-in-Some c =
    read_part (λ n. c.args.word.now ++ decimal n) (λ n. (c.args.least ≤ n) × (n < c.args.end)) c.args.lines.now.rest c.in-Some.line.now c.next_line.new.self c.number_below_of.result (λ n fits. free-append 10 c.args.word.now (decimal n) c.requires.word (above_free 10 (decimal n) (decimal_in_line n))) c.next_line.ensures.last c.in-Some.ensures.some c.in-Some.ensures.feedless c.number_below_of.ensures

pub returns-in-None : goal.returns-in-None
returns-in-None c = read_none (λ n. c.args.word.now ++ decimal n) (λ n. (c.args.least ≤ n) × (n < c.args.end)) c.args.lines.now.rest c.next_line.new.self.last c.next_line.ensures.last c.in-None.ensures.none
