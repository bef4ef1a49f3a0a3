use Rattle.std.proofs.Common.{◌≡◌, ◌≤◌, ◌<◌, ℕ, List, length, get_or, map, sym, ap, ◌∙◌, subst, arith}
use Rattle.std.specs.Prelude.{All, IsPermutation, Vec}
use Rattle.std.specs.List.{AllZip, range_with_len}
use Rattle.std.specs.declared.alloc.Global.{Global}
use Rattle.desk_model.specs.Book.{Book, IsBook}
use Rattle.file_rows.specs.Grouped.{rows_at}
use Rattle.qrels_reader.specs.declared.limits.TheConstants.{MOST_QRELS_ROWS}
use Rattle.run_reader.specs.Run.{Run, rows_on_topic}
use Rattle.topic_universe.specs.Sorted.{IsPlaceOf}
use Rattle.topic_universe.specs.Universe.{AreRankedNumbers}
use Rattle.topic_universe.proofs.Placing.{name_of, number_of, same_count}
use Rattle.topic_universe.proofs.Zips.{zip-weaker}
use Rattle.std.proofs.lemmas.Result.{IfOk-from_err}
use Rattle.topics_pool.specs.Rows.{IsBookOf}
use Rattle.topics_pool.specs.Made.{AreDocsOf, IsNumberedAfter, book_over}
use Rattle.topics_pool.proofs.Books.{at_number, is_book, is_book_of, few_documents, numbered_after}
use Rattle.topics_pool.proofs.Docs.{are_docs}
use Rattle.topics_pool.proofs.book.topic_book.Goals as goal

pub graded_book-requires-clause-numbers : goal.graded_book-requires-clause-numbers
graded_book-requires-clause-numbers c =
    subst (All (λ pair. IsNumberedAfter (rows_at c.args.qrels.now c.args.t) pair.0.now pair.1)) (sym c.deref.ensures.value)
    (numbered_after c.args.qrels.now c.args.runs.now c.args.name.now c.args.t c.in_ok-universe.universe.pairs.items _ c.in_ok-universe.ensures)

pub graded_book-requires-clause-book : goal.graded_book-requires-clause-book
graded_book-requires-clause-book c =
    let rows = subst (λ n. n ≤ MOST_QRELS_ROWS) c.rows.ensures.count c.rows.ensures.most in
    subst (λ pairs. IsBook (book_over c.args.qrels.now c.args.t c.args.name.now (map name_of pairs))) (sym c.deref.ensures.value)
    (is_book c.args.qrels.now c.args.runs.now c.args.name.now c.args.t c.in_ok-universe.universe.pairs.items _ c.in_ok-universe.ensures c.requires.named rows c.requires.rows)

pub places-requires : goal.places-requires
places-requires c =
    let universe = c.in_ok-universe.ensures in
    let pairs = c.in_ok-universe.universe.pairs.items in
    let rows = subst (λ n. n ≤ MOST_QRELS_ROWS) c.rows.ensures.count c.rows.ensures.most in
    let few = few_documents c.args.qrels.now c.args.runs.now c.args.name.now c.args.t pairs _ universe rows c.requires.rows in
    record {
      few = omega (arith, few, ap length c.deref-2.ensures.value);
      all = subst (λ each. IsPermutation (range_with_len 0 (length each)) (map number_of each)) (sym c.deref-2.ensures.value)
          (subst (λ n. IsPermutation (range_with_len 0 n) (map number_of pairs)) (same_count universe.names pairs universe.sorted) universe.sorted.numbers);
    }

pub rank_topic-requires-clause-docs : goal.rank_topic-requires-clause-docs
rank_topic-requires-clause-docs c =
    let items = λ (each : Vec ℕ Global). each.items in
    let universe = c.in_ok-universe.ensures in
    let runs = c.args.runs.now in
    let name = c.args.name.now in
    let pairs = c.in_ok-universe.universe.pairs.items in
    let book = c.in_ok-book.book in
    let places = c.deref-4.result.now in
    let made : book ≡ book_over c.args.qrels.now c.args.t name (map name_of pairs) = c.in_ok-book.ensures ∙ ap (λ each. book_over c.args.qrels.now c.args.t name (map name_of each)) c.deref.ensures.value in
    let has : book.docs ≡ map name_of pairs = ap (λ (b : Book). b.docs) made in
    let named : book.name ≡ name = ap (λ (b : Book). b.name) made in
    let count : length places ≡ length pairs = ap length c.deref-4.ensures.value ∙ c.in_ok-places.ensures.count ∙ ap length c.deref-2.ensures.value in
    let placed = subst (λ ps. (n : ℕ) → n < length pairs → IsPlaceOf pairs n (get_or ps n 0)) (sym c.deref-4.ensures.value)
    (subst (λ each. (n : ℕ) → n < length each → IsPlaceOf each n (get_or c.in_ok-places.places.items n 0)) c.deref-2.ensures.value c.in_ok-places.ensures.places) in
    let numbers = subst (λ each. AllZip (λ (run : Run) (each : List ℕ). AreRankedNumbers universe.names (rows_on_topic run name) each) runs (map items each)) (sym c.deref-3.ensures.value) universe.ranked in
    zip-weaker (λ (run : Run) (each : List ℕ). AreRankedNumbers universe.names (rows_on_topic run name) each) (λ run each. AreDocsOf run book places each) runs (map items c.deref-3.result.now)
    (λ run each are. are_docs universe.names pairs places book universe.sorted has count placed run name each named are) numbers

pub returns-clause-of_rows : goal.returns-clause-of_rows
returns-clause-of_rows c =
    subst (IsBookOf c.args.qrels.now c.args.runs.now)
    (ap (λ each. book_over c.args.qrels.now c.args.t c.args.name.now (map name_of each)) (sym c.deref.ensures.value) ∙ sym c.in_ok-book.ensures)
    (is_book_of c.args.qrels.now c.args.runs.now c.args.name.now c.args.t c.in_ok-universe.universe.pairs.items _ c.in_ok-universe.ensures c.requires.place)

pub returns-in_err-universe-clause-name : goal.returns-in_err-universe-clause-name
returns-in_err-universe-clause-name c = IfOk-from_err c.from_residual.result _ c.from_residual.ensures.0

pub returns-in_err-universe-clause-book : goal.returns-in_err-universe-clause-book
returns-in_err-universe-clause-book c = IfOk-from_err c.from_residual.result _ c.from_residual.ensures.0

pub returns-in_err-universe-clause-of_rows : goal.returns-in_err-universe-clause-of_rows
returns-in_err-universe-clause-of_rows c = IfOk-from_err c.from_residual.result _ c.from_residual.ensures.0

pub returns-in_err-universe-clause-ranked : goal.returns-in_err-universe-clause-ranked
returns-in_err-universe-clause-ranked c = IfOk-from_err c.from_residual.result _ c.from_residual.ensures.0

pub returns-in_err-book-clause-name : goal.returns-in_err-book-clause-name
returns-in_err-book-clause-name c = IfOk-from_err c.from_residual-in_err-book.result _ c.from_residual-in_err-book.ensures.0

pub returns-in_err-book-clause-book : goal.returns-in_err-book-clause-book
returns-in_err-book-clause-book c = IfOk-from_err c.from_residual-in_err-book.result _ c.from_residual-in_err-book.ensures.0

pub returns-in_err-book-clause-of_rows : goal.returns-in_err-book-clause-of_rows
returns-in_err-book-clause-of_rows c = IfOk-from_err c.from_residual-in_err-book.result _ c.from_residual-in_err-book.ensures.0

pub returns-in_err-book-clause-ranked : goal.returns-in_err-book-clause-ranked
returns-in_err-book-clause-ranked c = IfOk-from_err c.from_residual-in_err-book.result _ c.from_residual-in_err-book.ensures.0

pub returns-in_err-places-clause-name : goal.returns-in_err-places-clause-name
returns-in_err-places-clause-name c = IfOk-from_err c.from_residual-in_err-places.result _ c.from_residual-in_err-places.ensures.0

pub returns-in_err-places-clause-book : goal.returns-in_err-places-clause-book
returns-in_err-places-clause-book c = IfOk-from_err c.from_residual-in_err-places.result _ c.from_residual-in_err-places.ensures.0

pub returns-in_err-places-clause-of_rows : goal.returns-in_err-places-clause-of_rows
returns-in_err-places-clause-of_rows c = IfOk-from_err c.from_residual-in_err-places.result _ c.from_residual-in_err-places.ensures.0

pub returns-in_err-places-clause-ranked : goal.returns-in_err-places-clause-ranked
returns-in_err-places-clause-ranked c = IfOk-from_err c.from_residual-in_err-places.result _ c.from_residual-in_err-places.ensures.0

pub returns-in_err-rank_topic-clause-name : goal.returns-in_err-rank_topic-clause-name
returns-in_err-rank_topic-clause-name c = IfOk-from_err c.from_residual-in_err-rank_topic.result _ c.from_residual-in_err-rank_topic.ensures.0

pub returns-in_err-rank_topic-clause-book : goal.returns-in_err-rank_topic-clause-book
returns-in_err-rank_topic-clause-book c = IfOk-from_err c.from_residual-in_err-rank_topic.result _ c.from_residual-in_err-rank_topic.ensures.0

pub returns-in_err-rank_topic-clause-of_rows : goal.returns-in_err-rank_topic-clause-of_rows
returns-in_err-rank_topic-clause-of_rows c = IfOk-from_err c.from_residual-in_err-rank_topic.result _ c.from_residual-in_err-rank_topic.ensures.0

pub returns-in_err-rank_topic-clause-ranked : goal.returns-in_err-rank_topic-clause-ranked
returns-in_err-rank_topic-clause-ranked c = IfOk-from_err c.from_residual-in_err-rank_topic.result _ c.from_residual-in_err-rank_topic.ensures.0

pub graded_book-requires-clause-topic : goal.graded_book-requires-clause-topic
graded_book-requires-clause-topic c = (at_number c.args.qrels.now c.args.name.now c.args.t c.requires.place).0

pub rank_topic-requires-clause-each : goal.rank_topic-requires-clause-each
rank_topic-requires-clause-each c = c.requires.each

pub returns-clause-name : goal.returns-clause-name
returns-clause-name c = ap (λ (b : Book). b.name) c.in_ok-book.ensures

pub returns-clause-ranked : goal.returns-clause-ranked
returns-clause-ranked c = c.in_ok-rank_topic.ensures

pub universe_of-requires : goal.universe_of-requires
universe_of-requires c = (at_number c.args.qrels.now c.args.name.now c.args.t c.requires.place).0

pub returns-clause-book : goal.returns-clause-book
returns-clause-book c =
    let rows = subst (λ n. n ≤ MOST_QRELS_ROWS) c.rows.ensures.count c.rows.ensures.most in
    subst IsBook (ap (λ each. book_over c.args.qrels.now c.args.t c.args.name.now (map name_of each)) (sym c.deref.ensures.value) ∙ sym c.in_ok-book.ensures)
    (is_book c.args.qrels.now c.args.runs.now c.args.name.now c.args.t c.in_ok-universe.universe.pairs.items _ c.in_ok-universe.ensures c.requires.named rows c.requires.rows)
