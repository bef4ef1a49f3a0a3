use Rattle.std.proofs.Common.{sym, ap, ◌∙◌}
use Rattle.file_rows.specs.Grouped.{stands_in}
use Rattle.file_rows.proofs.Places.{at_name, no_place, members_on-none}
use Rattle.file_rows.proofs.growing_rows.GrowingRows.contains.Goals as goal

pub at-requires : goal.at-requires
at-requires g c = (at_name c.args.self.now c.args.topic.now c.in-Some.t (sym c.requires ∙ c.in-Some.is)).0

pub returns-in-Some : goal.returns-in-Some
returns-in-Some g c =
    let at = at_name c.args.self.now c.args.topic.now c.in-Some.t (sym c.requires ∙ c.in-Some.is) in
    c.contains.ensures ∙ ap (stands_in c.args.document.now) (c.at.ensures ∙ at.1)

pub returns-in-None : goal.returns-in-None
returns-in-None g c =
    let none = no_place c.args.topic.now c.args.self.now (sym c.requires ∙ c.in-None.is) in
    ap (stands_in c.args.document.now) (sym (members_on-none c.args.topic.now c.args.self.now none))
