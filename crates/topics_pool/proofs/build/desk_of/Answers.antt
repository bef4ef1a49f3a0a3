use Rattle.std.proofs.Common.{◌<◌, ◌≤◌, List, ℕ, [], length, map, ap, sym, subst, arith, ◌≡◌}
use Rattle.std.specs.Prelude.{Vec}
use Rattle.std.specs.List.{AllZip}
use Rattle.std.specs.declared.alloc.Global.{Global}
use Rattle.std.proofs.lemmas.List.{with_items_is}
use Rattle.topics_pool.specs.Made.{AreRankingsOf}
use Rattle.topics_pool.proofs.Desks.{is_desk, is_desk_of}
use Rattle.topics_pool.proofs.build.desk_of.Goals as goal

pub topic_books-requires-clause-none : goal.topic_books-requires-clause-none
topic_books-requires-clause-none c =
    let items = λ (each : Vec (List ℕ) Global). each.items in
    subst (λ each. AllZip (AreRankingsOf []) c.args.runs.now (map items each)) (sym c.deref_mut.ensures.value) c.in_ok-rankings.ensures

pub new-requires : goal.new-requires
new-requires c =
    let items = λ (each : Vec (List ℕ) Global). each.items in
    let new = c.topic_books.new.rankings in
    let whole : length new ≡ c.in_ok-rankings.rankings.len = omega (arith, c.topic_books.auto.rankings, c.deref_mut.ensures.len, ap length c.deref_mut.ensures.value, c.in_ok-rankings.rankings.ok.0) in
    let zipped = subst (AllZip (AreRankingsOf c.in_ok-books.books.items) c.args.runs.now) (ap (map items) (sym (with_items_is c.in_ok-rankings.rankings new whole))) c.in_ok-books.ensures.rankings in
    is_desk c.args.qrels.now c.args.runs.now c.in_ok-books.books.items c.in_ok-names.names.items _ c.in_ok-books.ensures.books c.in_ok-names.ensures.names zipped
    c.requires.right c.in_ok-names.ensures.named (subst (λ n. 0 < n) c.topics-topics.ensures.count c.topics-topics.ensures.some) (subst (λ n. n ≤ 10000) c.topics-topics.ensures.count c.topics-topics.ensures.most) c.requires.some c.requires.few

pub returns : goal.returns
returns c =
    let items = λ (each : Vec (List ℕ) Global). each.items in
    let new = c.topic_books.new.rankings in
    let whole : length new ≡ c.in_ok-rankings.rankings.len = omega (arith, c.topic_books.auto.rankings, c.deref_mut.ensures.len, ap length c.deref_mut.ensures.value, c.in_ok-rankings.rankings.ok.0) in
    let zipped = subst (AllZip (AreRankingsOf c.in_ok-books.books.items) c.args.runs.now) (ap (map items) (sym (with_items_is c.in_ok-rankings.rankings new whole))) c.in_ok-books.ensures.rankings in
    let valid = is_desk c.args.qrels.now c.args.runs.now c.in_ok-books.books.items c.in_ok-names.names.items _ c.in_ok-books.ensures.books c.in_ok-names.ensures.names zipped
    c.requires.right c.in_ok-names.ensures.named (subst (λ n. 0 < n) c.topics-topics.ensures.count c.topics-topics.ensures.some) (subst (λ n. n ≤ 10000) c.topics-topics.ensures.count c.topics-topics.ensures.most) c.requires.some c.requires.few in
    is_desk_of c.args.qrels.now c.args.runs.now c.in_ok-books.books.items c.in_ok-names.names.items _ c.in_ok-books.ensures.books c.in_ok-names.ensures.names zipped c.new.result c.new.ensures valid
