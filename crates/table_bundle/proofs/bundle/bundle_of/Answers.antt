use Rattle.std.proofs.Common.{◌≡◌, ℕ, ◌<◌, List, length, map, ap, sym, subst, ◌∙◌, arith}
use Rattle.std.specs.Prelude.{All}
use Rattle.std.proofs.lemmas.List.Elements.{All-from_recursion}
use Rattle.desk_model.specs.Desk.{AreMarksOf, topics_under}
use Rattle.desk_model.specs.MeasureText.{IsMeasure}
use Rattle.desk_model.specs.declared.types.Mark.{Mark}
use Rattle.pair_table.specs.Kept.{StandsFor}
use Rattle.pair_table.specs.Numbers.{HasCellEnds}
use Rattle.table_bundle.specs.Bundles.{IsBundleOf}
use Rattle.order_bundle.specs.Bundle.{IsEvidenceOn}
use Rattle.order_bundle.specs.Evidence.{name_at}
use Rattle.order_bundle.specs.declared.bundle.PairClaim.{PairClaim}
use Rattle.table_bundle.specs.Drafts.{all_documents, drafts, drafts_on, pairs_in, picked_places, picked_topics, IsRunPair}
use Rattle.table_bundle.proofs.InOrder.{length-order, order_within}
use Rattle.table_bundle.proofs.Pairing.{drafts_in, few_named, of_runs}
use Rattle.table_bundle.proofs.Made.{claims_on, made_from}
use Rattle.table_bundle.proofs.bundle.bundle_of.Goals as goal

pub run_names-requires : goal.run_names-requires
run_names-requires g c =
    let desk = c.args.desk.now in
    subst (All (λ run. run < length desk.runs)) (sym c.deref.ensures.value) (order_within desk c.valid.ensures c.in_ok-order.order.items c.in_ok-order.ensures)

pub named_pairs-requires-clause-some : goal.named_pairs-requires-clause-some
named_pairs-requires-clause-some g c = omega (arith, ap length c.deref-2.ensures.value, length-order c.args.desk.now c.valid.ensures c.in_ok-order.order.items c.in_ok-order.ensures, c.requires.runs)

pub named_pairs-requires-clause-few : goal.named_pairs-requires-clause-few
named_pairs-requires-clause-few g c = omega (arith, ap length c.deref-2.ensures.value, length-order c.args.desk.now c.valid.ensures c.in_ok-order.order.items c.in_ok-order.ensures, c.valid.ensures.runs)

pub invariant_of-standing-clause-marked : goal.invariant_of-standing-clause-marked
invariant_of-standing-clause-marked g c = subst (AreMarksOf c.args.desk.now) (sym c.rows-rows.ensures) c.requires.marks

pub invariant_of-standing-clause-stands : goal.invariant_of-standing-clause-stands
invariant_of-standing-clause-stands g c =
    let table = c.args.table.now in
    subst (λ (ms : List (List Mark)). StandsFor (g.M.Measure.cell_of table.measure) (g.M.Measure.bounds_of table.measure) c.args.desk.now ms table) (sym c.rows-rows.ensures) c.requires.stands

pub invariant_of-pairs-clause-known : goal.invariant_of-pairs-clause-known
invariant_of-pairs-clause-known g c =
    let desk = c.args.desk.now in
    subst (All (IsRunPair (length desk.runs))) (sym (c.deref-3.ensures.value ∙ c.in_ok-pairs.ensures ∙ ap pairs_in c.deref-2.ensures.value)) (of_runs desk c.valid.ensures c.in_ok-order.order.items c.in_ok-order.ensures)

pub invariant_of-pairs-clause-few : goal.invariant_of-pairs-clause-few
invariant_of-pairs-clause-few g c =
    let pairs_are : c.deref-3.result.now ≡ pairs_in c.in_ok-order.order.items = c.deref-3.ensures.value ∙ c.in_ok-pairs.ensures ∙ ap pairs_in c.deref-2.ensures.value in
    omega (arith, ap length pairs_are, few_named c.args.desk.now c.valid.ensures c.in_ok-order.order.items c.in_ok-order.ensures)

pub picked_documents-requires : goal.picked_documents-requires
picked_documents-requires g c =
    let table = c.args.table.now in
    let name = g.M.Measure.measured table.measure in
    let cell = g.M.Measure.cell_of table.measure in
    let desk = c.args.desk.now in
    let marks = c.rows-rows.result.now in
    let order : List ℕ = c.in_ok-order.order.items in
    let named : c.name-measure.result ≡ name = c.name-measure.ensures.name ∙ ap g.M.Measure.measured c.measure.ensures in
    let valid : IsMeasure name = subst IsMeasure named c.name-measure.ensures.built in
    let laws = g.met.M.Measure.laws table.measure valid in
    let items : c.in_ok-claims.claims.items ≡ drafts cell name (topics_under desk marks) order = c.in_ok-claims.ensures ∙ ap (drafts_on cell name (topics_under desk marks)) (c.deref-3.ensures.value ∙ c.in_ok-pairs.ensures ∙ ap pairs_in c.deref-2.ensures.value) ∙ drafts_in cell name (topics_under desk marks) order in
    let On = λ (claim : PairClaim). IsEvidenceOn (all_documents desk) claim.evidence in
    subst (All On) (sym (c.deref-4.ensures.value ∙ items))
    (All-from_recursion On (drafts cell name (topics_under desk marks) order)
    (claims_on name cell (g.M.Measure.bounds_of table.measure) valid laws desk marks c.valid.ensures (subst (AreMarksOf c.args.desk.now) (sym c.rows-rows.ensures) c.requires.marks) c.args.level c.requires.level order c.in_ok-order.ensures c.requires.runs))

pub invariant_of-result : goal.invariant_of-result
invariant_of-result g c =
    let table = c.args.table.now in
    let name = g.M.Measure.measured table.measure in
    let cell = g.M.Measure.cell_of table.measure in
    let desk = c.args.desk.now in
    let marks = c.rows-rows.result.now in
    let order : List ℕ = c.in_ok-order.order.items in
    let named : c.name-measure.result ≡ name = c.name-measure.ensures.name ∙ ap g.M.Measure.measured c.measure.ensures in
    let valid : IsMeasure name = subst IsMeasure named c.name-measure.ensures.built in
    let laws = g.met.M.Measure.laws table.measure valid in
    let items : c.in_ok-claims.claims.items ≡ drafts cell name (topics_under desk marks) order = c.in_ok-claims.ensures ∙ ap (drafts_on cell name (topics_under desk marks)) (c.deref-3.ensures.value ∙ c.in_ok-pairs.ensures ∙ ap pairs_in c.deref-2.ensures.value) ∙ drafts_in cell name (topics_under desk marks) order in
    (made_from name cell (g.M.Measure.bounds_of table.measure) valid laws desk marks c.valid.ensures (subst (AreMarksOf c.args.desk.now) (sym c.rows-rows.ensures) c.requires.marks) c.args.level c.requires.level order c.in_ok-order.ensures c.requires.runs
    c.name-measure.result c.in_ok-runs.runs c.new.result c.in_ok-claims-2.claims c.in_ok-claims.claims.items c.deref-5.result.now
    named (c.in_ok-runs.ensures ∙ ap (map (name_at desk.runs)) c.deref.ensures.value) items
    (c.new.ensures ∙ c.in_ok-topics.ensures.topics ∙ ap (λ cs. picked_topics cs (all_documents desk)) c.deref-4.ensures.value)
    (c.deref-5.ensures.value ∙ c.in_ok-topics.ensures.places ∙ ap (λ cs. picked_places cs (all_documents desk)) c.deref-4.ensures.value)
    c.in_ok-claims-2.ensures).form

pub returns : goal.returns
returns g c =
    let table = c.args.table.now in
    let name = g.M.Measure.measured table.measure in
    let cell = g.M.Measure.cell_of table.measure in
    let desk = c.args.desk.now in
    let marks = c.rows-rows.result.now in
    let order : List ℕ = c.in_ok-order.order.items in
    let named : c.name-measure.result ≡ name = c.name-measure.ensures.name ∙ ap g.M.Measure.measured c.measure.ensures in
    let valid : IsMeasure name = subst IsMeasure named c.name-measure.ensures.built in
    let laws = g.met.M.Measure.laws table.measure valid in
    let items : c.in_ok-claims.claims.items ≡ drafts cell name (topics_under desk marks) order = c.in_ok-claims.ensures ∙ ap (drafts_on cell name (topics_under desk marks)) (c.deref-3.ensures.value ∙ c.in_ok-pairs.ensures ∙ ap pairs_in c.deref-2.ensures.value) ∙ drafts_in cell name (topics_under desk marks) order in
    subst (λ (ms : List (List Mark)). IsBundleOf (HasCellEnds cell) name desk ms c.args.level (record { measure = c.name-measure.result; level = c.args.level; runs = c.in_ok-runs.runs; topics = c.new.result; claims = c.in_ok-claims-2.claims })) c.rows-rows.ensures
    (made_from name cell (g.M.Measure.bounds_of table.measure) valid laws desk marks c.valid.ensures (subst (AreMarksOf c.args.desk.now) (sym c.rows-rows.ensures) c.requires.marks) c.args.level c.requires.level order c.in_ok-order.ensures c.requires.runs
    c.name-measure.result c.in_ok-runs.runs c.new.result c.in_ok-claims-2.claims c.in_ok-claims.claims.items c.deref-5.result.now
    named (c.in_ok-runs.ensures ∙ ap (map (name_at desk.runs)) c.deref.ensures.value) items
    (c.new.ensures ∙ c.in_ok-topics.ensures.topics ∙ ap (λ cs. picked_topics cs (all_documents desk)) c.deref-4.ensures.value)
    (c.deref-5.ensures.value ∙ c.in_ok-topics.ensures.places ∙ ap (λ cs. picked_places cs (all_documents desk)) c.deref-4.ensures.value)
    c.in_ok-claims-2.ensures)
