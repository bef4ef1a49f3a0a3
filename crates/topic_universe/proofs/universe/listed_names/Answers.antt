use Rattle.std.proofs.Common.{◌≡◌, ◌≤◌, [], length, refl, sym, ap, ◌∙◌, arith, subst}
use Rattle.std.specs.Prelude.{slice_get, Some}
use Rattle.std.proofs.lemmas.List.{take_all, length-map}
use Rattle.std.proofs.lemmas.Option.{slice_get-map}
use Rattle.file_rows.specs.Grouped.{Valued, rows_at}
use Rattle.topic_universe.specs.Names.{with_names, AreDistinctNames}
use Rattle.topic_universe.specs.Universe.{listed}
use Rattle.topic_universe.proofs.Sets.{AreNames-nil, AreNames-with_name, gather_step, added-whole}
use Rattle.topic_universe.proofs.universe.listed_names.Goals as goal

pub loop-i-init : goal.loop-i-init
loop-i-init c = record { documents = c.new-names.ensures; names = subst AreDistinctNames (sym c.new-names.ensures) AreNames-nil }

pub loop-i-preserved : goal.loop-i-preserved
loop-i-preserved c =
    let docs = rows_at c.args.qrels.now c.args.t in
    let got : slice_get (listed docs) c.loop-i.i ≡ Some c.doc_name.result.now = slice_get-map (λ (d : Valued). d.document) docs c.loop-i.i ∙ c.doc_name.ensures.bytes in
    record {
      documents = gather_step [] (listed docs) c.loop-i.i c.doc_name.result.now _ _ got c.loop-i.invariant.documents c.in_ok-add.ensures.names;
      names = subst AreDistinctNames (sym c.in_ok-add.ensures.names) (AreNames-with_name _ c.doc_name.result.now c.loop-i.invariant.names c.doc_name.ensures.name);
    }

pub returns-clause-documents : goal.returns-clause-documents
returns-clause-documents c =
    let docs = rows_at c.args.qrels.now c.args.t in
    let long = length-map docs (λ (d : Valued). d.document) in
    let past : length (listed docs) ≤ c.loop-i.i = omega (arith, long, c.loop-i-test.false, c.doc_count-i-end.ensures.count) in
    c.loop-i.invariant.documents ∙ ap (with_names []) (take_all c.loop-i.i (listed docs) past) ∙ added-whole [] (listed docs) c.doc_count-i-end.ensures.distinct (λ m is. refl)
