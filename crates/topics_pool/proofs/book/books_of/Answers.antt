use Rattle.std.proofs.Common.{◌≡◌, List, ℕ, length, true, false, true≢false, map, refl, sym, ap, ap₂, ◌∙◌, ◌++◌, ◌∷◌, [], subst, get_or, arith}
use Rattle.std.specs.Prelude.{All, Vec, is_some}
use Rattle.std.specs.declared.alloc.Global.{Global}
use Rattle.std.specs.List.{AllZip, list_any}
use Rattle.std.specs.Str.{bytes_eq}
use Rattle.std.proofs.lemmas.List.{get_or_default, map-append, length-map}
use Rattle.std.proofs.lemmas.List.Elements.{All-push}
use Rattle.std.proofs.lemmas.Option.{slice_get_read}
use Rattle.desk_model.specs.Book.{Book, IsBook}
use Rattle.desk_model.proofs.Nested.{take-there, length-zipped}
use Rattle.topics_pool.specs.Rows.{IsBookOf}
use Rattle.topics_pool.specs.Made.{AreRankingsOf, Forgets, HasRowsFrom}
use Rattle.topics_pool.proofs.Ranked.{topic_step}
use Rattle.topics_pool.proofs.Finding.{among-at}
use Rattle.topics_pool.proofs.Forgetting.{HasRowsOn, zip-itself, rows_left, rest_left, rows_here, book_still, more_still}
use Rattle.topics_pool.proofs.book.books_of.Goals as goal

pub loop-name-init : goal.loop-name-init
loop-name-init c =
    let none = c.in_ok-books.ensures.items in
    let items = λ (each : Vec (List ℕ) Global). each.items in
    record {
      names = ap (λ bs. map (λ (b : Book). b.name) bs) none;
      books = subst (All IsBook) (sym {A = List Book} none) (λ k d lt. absurd (omega arith));
      of_rows = subst (All (IsBookOf c.args.qrels.now c.args.runs.now)) (sym {A = List Book} none) (λ k d lt. absurd (omega arith));
      rankings = subst (λ bs. AllZip (AreRankingsOf bs) c.args.runs.now (map items c.args.rankings.now)) (sym {A = List Book} none) c.requires.none;
      left = zip-itself (HasRowsFrom c.args.names.now 0) (λ run k le lt. refl) c.args.runs.now;
      rows = c.requires.rows;
    }

pub unreachable-requires : goal.unreachable-requires
unreachable-requires c =
    let names = c.args.names.now in
    let name = c.name-item.result in
    let got = slice_get_read names _ c.loop-name.name-index name refl c.loop-name-test.true c.name-item.is in
    let there : list_any (bytes_eq name) c.args.topics.now ≡ true = c.requires.names name (among-at names c.loop-name.name-index name got) in
    let missing : list_any (bytes_eq c.as_bytes.result.now) c.args.topics.now ≡ false = sym c.place.ensures.found ∙ ap is_some c.in_default.is in
    true≢false (sym there ∙ ap (λ n. list_any (bytes_eq n) c.args.topics.now) (sym c.as_bytes.ensures.bytes) ∙ missing)

pub topic_book-requires-clause-each : goal.topic_book-requires-clause-each
topic_book-requires-clause-each c =
    let items = λ (each : Vec (List ℕ) Global). each.items in
    let rankings = length-map c.loop-name.rankings items in
    let zipped = length-zipped (AreRankingsOf c.loop-name.books.items) c.args.runs.now (map items c.loop-name.rankings) c.loop-name.invariant.rankings in
    omega (arith, rankings, zipped, c.loop-name.auto.runs)

-- one more topic
pub loop-name-preserved : goal.loop-name-preserved
loop-name-preserved c =
    let names = c.args.names.now in
    let i = c.loop-name.name-index in
    let name = c.name-item.result in
    let first = c.args.runs.now in
    let now = c.loop-name.runs in
    let new = c.forget_topic.new.runs in
    let before = c.loop-name.invariant in
    let made = c.in_ok-topic_book.ensures in
    let book = c.in_ok-topic_book.field-0 in
    let books = c.loop-name.books.items in
    let pushed = c.in_ok-push.ensures.items in
    let got = slice_get_read names _ i name refl c.loop-name-test.true c.name-item.is in
    let named : book.name ≡ name = made.name ∙ c.as_bytes-in-loop-name.ensures.bytes in
    let is : name ≡ get_or names i [] = c.name-item.is ∙ get_or_default names i name [] c.loop-name-test.true in
    let same : AllZip (HasRowsOn book.name) first now = subst (λ n. AllZip (HasRowsOn n) first now) (sym named) (rows_here names i name first now c.loop-name-test.true is before.left) in
    let forgets : AllZip (Forgets name) now new = subst (λ n. AllZip (Forgets n) now new) c.as_bytes-in-loop-name-2.ensures.bytes c.forget_topic.ensures in
    let fewer = rows_left name now new forgets in
    let items = λ (each : Vec (List ℕ) Global). each.items in
    let long : length (map items c.topic_book.new.rankings) ≡ length (map items c.loop-name.rankings) = length-map c.topic_book.new.rankings items ∙ c.topic_book.auto.rankings ∙ sym (length-map c.loop-name.rankings items) in
    let ranked = more_still first now book (map items c.loop-name.rankings) (map items c.topic_book.new.rankings) same made.ranked in
    record {
      names = ap (λ bs. map (λ (b : Book). b.name) bs) pushed ∙ map-append (λ (b : Book). b.name) books (book ∷ []) ∙ ap₂ (λ ns n. ns ++ n ∷ []) before.names named ∙ sym (take-there names i name got);
      books = subst (All IsBook) (sym {A = List Book} pushed) (All-push IsBook books book before.books made.book);
      of_rows = subst (All (IsBookOf c.args.qrels.now first)) (sym {A = List Book} pushed)
          (All-push (IsBookOf c.args.qrels.now first) books book before.of_rows (book_still c.args.qrels.now first now book same made.of_rows));
      rankings = subst (λ bs. AllZip (AreRankingsOf bs) first (map items c.topic_book.new.rankings)) (sym {A = List Book} pushed)
          (topic_step first books book (map items c.loop-name.rankings) (map items c.topic_book.new.rankings) before.rankings long ranked);
      left = rest_left names i name first now new c.requires.distinct is before.left forgets;
      rows = omega (arith, fewer, before.rows);
    }
