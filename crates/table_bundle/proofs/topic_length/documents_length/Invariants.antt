use Rattle.std.proofs.Common.{◌≡◌, ◌*◌, ◌≤◌, length, map}
use Rattle.order_certificate.specs.Certificate.{document_line}
use Rattle.order_bundle.specs.Lengths.{text_length}
use Rattle.pair_table.proofs.Listing.{passed}
use Rattle.table_bundle.specs.Lengths.{is_counted}
use Rattle.table_bundle.proofs.topic_length.documents_length.Given as goal

abbrev pub invariant-loop-doc : goal.invariant-loop-doc
invariant-loop-doc l = record {
  documents : l.documents ≡ length (passed l.book.docs (is_counted l.counts) l.doc);
  bytes : l.bytes ≡ text_length (map document_line (passed l.book.docs (is_counted l.counts) l.doc));
  few_documents : l.documents ≤ l.doc;
  few : l.bytes ≤ 260 * l.doc;
}
