use Rattle.std.proofs.Common.{◌++◌}
use Rattle.line_forms.specs.Places.{IsLaterName}
use Rattle.line_forms.proofs.Cuts.{above_free}
use Rattle.line_forms.proofs.WordParts.{free-append}
use Rattle.line_forms.proofs.Plain.{name_in_line}
use Rattle.line_forms.proofs.Sequel.{read_part, read_none}
use Rattle.line_forms.proofs.places.later_name_line.Goals as goal

pub returns-in-Some : goal.returns-in-Some
returns-in-Some c =
    read_part (λ name. c.args.word.now ++ name) (IsLaterName c.args.before.now) c.args.lines.now.rest c.in-Some.line.now c.next_line.new.self c.later_name_of.result (λ name later. free-append 10 c.args.word.now name c.requires (above_free 10 name (name_in_line name later.0))) c.next_line.ensures.last c.in-Some.ensures.some c.in-Some.ensures.feedless c.later_name_of.ensures

pub returns-in-None : goal.returns-in-None
returns-in-None c = read_none (λ name. c.args.word.now ++ name) (IsLaterName c.args.before.now) c.args.lines.now.rest c.next_line.new.self.last c.next_line.ensures.last c.in-None.ensures.none
