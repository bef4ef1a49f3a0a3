use Rattle.std.proofs.Common.{◌≡◌, ℕ, ◌+◌, ◌<◌, ◌≤◌, true, List, [], ◌∷◌, ◌++◌, length, get_or, map, refl, ap, arith}
use Rattle.std.proofs.lemmas.List.{length_push}
use Rattle.std.proofs.lemmas.Option.{get_or_from_slice_get}
use Rattle.desk_model.proofs.Words.{name_most}
use Rattle.order_certificate.specs.Certificate.{document_line}
use Rattle.order_bundle.specs.Lengths.{text_length}
use Rattle.pair_table.proofs.Listing.{passed, passed_more, passed_same}
use Rattle.table_bundle.specs.Lengths.{is_counted}
use Rattle.table_bundle.proofs.ListLengths.{document_more, no_count, some_count}
use Rattle.table_bundle.proofs.topic_length.documents_length.Goals as goal
use Rattle.table_bundle.proofs.topic_length.documents_length.Goals.{then-counts-doc-gt0, else-counts-doc-gt0}

pub loop-doc-preserved : goal.loop-doc-preserved
loop-doc-preserved c =
    let docs = c.args.book.now.docs in
    let doc = c.loop-doc.doc in
    let counts : List ℕ = c.args.counts.now in
    let test = is_counted counts in
    let before : List (List ℕ) = passed docs test doc in
    let here = c.loop-doc.invariant in
    let within : doc < length docs = omega (arith, c.loop-doc-test.true, c.doc_count-doc-end.ensures.count) in
    elim c.if-counts-doc-gt0.branch [
      | then-counts-doc-gt0 w ↦
          let name : List ℕ = w.doc_name.result.now in
          let at : get_or docs doc [] ≡ name = get_or_from_slice_get docs doc name [] w.doc_name.ensures in
          let short : length name ≤ 255 = omega (arith, name_most (get_or docs doc []) (c.doc_count-doc-end.ensures.book.documents doc [] within), ap length at) in
          let passes : test doc ≡ true = some_count (get_or counts doc 0) w.if-counts-doc-gt0.true in
          let more : before ++ name ∷ [] ≡ passed docs test (doc + 1) = passed_more docs test doc name before refl passes at in
          record {
            documents = omega (arith, w.documents-is, here.documents, ap length more, length_push before name);
            bytes = omega (arith, w.bytes-is, here.bytes, ap (λ (ns : List (List ℕ)). text_length (map document_line ns)) more, document_more before name);
            few_documents = omega (arith, w.documents-is, here.few_documents);
            few = omega (arith, w.bytes-is, here.few, short);
          }
      | else-counts-doc-gt0 w ↦
          let same : before ≡ passed docs test (doc + 1) = passed_same docs test doc before refl (no_count (get_or counts doc 0) w.if-counts-doc-gt0.false) in
          record {
            documents = omega (arith, w.documents-is, here.documents, ap length same);
            bytes = omega (arith, w.bytes-is, here.bytes, ap (λ (ns : List (List ℕ)). text_length (map document_line ns)) same);
            few_documents = omega (arith, w.documents-is, here.few_documents);
            few = omega (arith, w.bytes-is, here.few);
          }
    ]
