use Rattle.std.proofs.Common.{[], ◌∷◌, ◌++◌, ap, ◌∙◌}
use Rattle.std.specs.Prelude.{cond}
use Rattle.name_table.proofs.named_set.NamedSet.push.Goals as goal

pub returns-clause-names : goal.returns-clause-names
returns-clause-names g c =
    let old = c.args.self.now in
    c.in_ok-insert.ensures.names ∙ ap (λ b. cond b old (old ++ g.K.Named.name c.args.key ∷ [])) c.requires
