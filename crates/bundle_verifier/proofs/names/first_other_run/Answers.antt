use Rattle.std.proofs.Common.{◌≡◌, ◌+◌, take, ap, sym, subst, ◌∙◌}
use Rattle.std.specs.List.{AllByRecursion}
use Rattle.std.proofs.lemmas.List.{take_all}
use Rattle.std.proofs.lemmas.List.Elements.{All-from_recursion}
use Rattle.order_verifier.specs.Refusal.{IsFirstFailing}
use Rattle.order_verifier.proofs.FirstFailing.{all_more}
use Rattle.topic_ends.proofs.DeskPlaces.{item_there}
use Rattle.bundle_verifier.specs.Refusal.{IsNoRunOf, IsRunOf}
use Rattle.bundle_verifier.proofs.names.first_other_run.Goals as goal

pub returns-in-None : goal.returns-in-None
returns-in-None c =
    let desk = c.args.desk.now in
    let i = c.loop-name.name-index in
    let name = c.name-item.result in
    let none = subst (IsNoRunOf desk) c.as_bytes.ensures.bytes (sym c.find_run.ensures ∙ c.in-None.is) in
    subst (IsFirstFailing (IsRunOf desk) (IsNoRunOf desk) c.args.names.now) (sym c.loop-name.invariant.0)
    (record { before = c.loop-name.invariant.1; item = name; there = item_there c.args.names.now i name c.loop-name-test.true c.name-item.is; fails = none })

pub loop-name-preserved : goal.loop-name-preserved
loop-name-preserved c =
    let desk = c.args.desk.now in
    let i = c.loop-name.name-index in
    let name = c.name-item.result in
    let some = subst (IsRunOf desk) c.as_bytes.ensures.bytes (c.in-Some._number, sym c.find_run.ensures ∙ c.in-Some.is) in
    (ap (λ k. k + 1) c.loop-name.invariant.0, all_more (IsRunOf desk) c.args.names.now i name c.loop-name.invariant.1 (item_there c.args.names.now i name c.loop-name-test.true c.name-item.is) some)

pub returns : goal.returns
returns c =
    let names = c.args.names.now in
    let whole : take c.loop-name.name-index names ≡ names = take_all c.loop-name.name-index names c.loop-name-test.false in
    All-from_recursion (IsRunOf c.args.desk.now) names (subst (AllByRecursion (IsRunOf c.args.desk.now)) whole c.loop-name.invariant.1)
