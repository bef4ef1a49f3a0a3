use Rattle.std.proofs.Common.{◌≡◌, Some, sym, subst, ◌∙◌}
use Rattle.std.specs.Prelude.{None}
use Rattle.std.proofs.lemmas.List.Elements.{recursion_from_All}
use Rattle.small_lemmas.proofs.Lists.{all_there}
use Rattle.topic_ends.proofs.DeskPlaces.{item_there}
use Rattle.bundle_verifier.specs.Refusal.{IsNoRunOf, IsRunOf}
use Rattle.bundle_verifier.proofs.names.run_number.Goals as goal

pub unreachable-requires : goal.unreachable-requires
unreachable-requires c =
    let desk = c.args.desk.now in
    let names = c.args.names.now in
    let name = c.index-names-run.result in
    let known = all_there (IsRunOf desk) names c.args.run name (recursion_from_All (IsRunOf desk) names c.requires.known) (item_there names c.args.run name c.requires.run c.index-names-run.is) in
    let none = subst (IsNoRunOf desk) c.as_bytes.ensures.bytes (sym c.find_run.ensures ∙ c.in-None.is) in
    let no : None ≡ Some known.0 = sym none ∙ known.1 in cc
