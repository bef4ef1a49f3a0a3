use Rattle.std.proofs.Common.{length, sym, ap, ◌∙◌}
use Rattle.file_rows.proofs.Places.{at_name, no_place, members_on-none}
use Rattle.run_reader.proofs.gathered.Gathered.depth.Goals as goal

pub returns-in-Some : goal.returns-in-Some
returns-in-Some c =
    let at = at_name c.args.self.now.kept c.args.topic.now c.in-Some.t (sym c.requires.place ∙ c.in-Some.is) in
    c.len.ensures ∙ ap length (c.at.ensures ∙ at.1)

pub returns-in-None : goal.returns-in-None
returns-in-None c =
    ap length (sym (members_on-none c.args.topic.now c.args.self.now.kept (no_place c.args.topic.now c.args.self.now.kept (sym c.requires.place ∙ c.in-None.is))))
