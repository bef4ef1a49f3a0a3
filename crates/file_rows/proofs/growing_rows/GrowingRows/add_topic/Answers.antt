use Rattle.std.proofs.Common.{ap, ap₂, sym, ◌∙◌, ◌++◌, ◌∷◌, []}
use Rattle.std.specs.List.{list_any}
use Rattle.std.specs.Str.{bytes_eq}
use Rattle.file_rows.proofs.Zipped.{names_held, topic_added}
use Rattle.file_rows.proofs.RowFiles.{holding, is_counted}
use Rattle.file_rows.proofs.growing_rows.GrowingRows.add_topic.Goals as goal

pub push-requires : goal.push-requires
push-requires g c =
    ap (list_any (bytes_eq c.args.name.now)) (sym (names_held (holding c.self.invariant c.self.view_is))) ∙ c.requires

pub invariant_of-self-2 : goal.invariant_of-self-2
invariant_of-self-2 g c =
    is_counted (topic_added (holding c.self.invariant c.self.view_is) _ _ c.args.name.now c.in_ok-push.ensures.names (c.push_reserved.ensures.items ∙ ap₂ (λ js j. js ++ j ∷ []) c.reserve.ensures.items c.in_ok-rows.ensures))

pub returns-clause-ok : goal.returns-clause-ok
returns-clause-ok g c =
    (topic_added (holding c.self.invariant c.self.view_is) _ _ c.args.name.now c.in_ok-push.ensures.names (c.push_reserved.ensures.items ∙ ap₂ (λ js j. js ++ j ∷ []) c.reserve.ensures.items c.in_ok-rows.ensures)).topics_are
