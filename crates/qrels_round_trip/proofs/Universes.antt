-- A desk whose topics have the same names and universes.
use Rattle.std.proofs.Common.{◌≡◌, ℕ, zero, suc, ◌*◌, ◌≤◌, List, [], ◌∷◌, length, get_or, refl, ap, sym, subst, ◌∙◌}
use Rattle.std.specs.Prelude.{map, Some, slice_get}
use Rattle.std.proofs.lemmas.List.{length-map}
use Rattle.std.proofs.lemmas.List.Elements.{All-weaker}
use Rattle.small_lemmas.proofs.Lists.{map_there}
use Rattle.desk_model.specs.Limits.{CELL_LIMIT}
use Rattle.desk_model.specs.Book.{Book}
use Rattle.desk_model.specs.Ranking.{IsRanking}
use Rattle.desk_model.specs.Desk.{Desk, IsDesk, AreRankingsOver, pair_count, ranking_of}
use Rattle.file_rows.specs.Grouped.{TopicRows, rows_in}
use Rattle.file_rows.proofs.Mapped.{map-map}
use Rattle.run_reader.specs.Run.{Run}
use Rattle.topic_universe.specs.Order.{IsTrecOrder}
use Rattle.topics_pool.specs.Rows.{IsDeskOf, topic_names}
use Rattle.topics_pool.proofs.OneDesk.{one_desk}
use Rattle.qrels_round_trip.specs.RoundTrip.{said_by}

-- an item whose value stands at a place
record IsAt {X Y : Type 0} (f : X → Y) (xs : List X) (i : ℕ) (y : Y) : Type 0 where
  pub item : X
  pub stands : slice_get xs i ≡ Some item
  pub value : f item ≡ y

item_at : {X Y : Type 0} (f : X → Y) (xs : List X) (i : ℕ) (y : Y) → slice_get (map f xs) i ≡ Some y → IsAt f xs i y
item_at f [] i y e = absurd (cc)
item_at f (x ∷ xs) zero y e = record { item = x; stands = refl; value = cc }
item_at f (x ∷ xs) (suc i) y e = let rest = item_at f xs i y e in record { item = rest.item; stands = rest.stands; value = rest.value }

over_same : (books others : List Book) (rankings : List (List ℕ)) → map (λ (book : Book). book.docs) books ≡ map (λ (book : Book). book.docs) others → AreRankingsOver books rankings → AreRankingsOver others rankings
over_same [] [] rankings e h = h
over_same [] (y ∷ ys) rankings e h = absurd (cc)
over_same (x ∷ xs) [] rankings e h = absurd (cc)
over_same (x ∷ xs) (y ∷ ys) [] e h = h
over_same (x ∷ xs) (y ∷ ys) (r ∷ rs) e h =
    let first : x.docs ≡ y.docs = cc in
    let later : map (λ (book : Book). book.docs) xs ≡ map (λ (book : Book). book.docs) ys = cc in
    (subst (λ docs. IsRanking (length docs) r) first h.0, over_same xs ys rs later h.1)

module _ (qrels said : List TopicRows) (runs others : List Run) (desk again : Desk) (is_desk : IsDeskOf qrels runs desk) (is_again : IsDeskOf said others again)
    (names : topic_names again.topics ≡ topic_names desk.topics) (docs : map (λ (book : Book). book.docs) again.topics ≡ map (λ (book : Book). book.docs) desk.topics) (same_runs : map said_by others ≡ map said_by runs)
  where
    -- the desk with the other's topics
    abbrev pub mixed : Desk
    mixed = record { topics = again.topics; runs = desk.runs; rankings = desk.rankings }

    many : length desk.topics ≡ length again.topics
    many = sym (length-map desk.topics (λ (book : Book). book.docs)) ∙ ap length (sym docs) ∙ length-map again.topics (λ (book : Book). book.docs)

    mixed_valid : IsDesk mixed
    mixed_valid = record {
      books = is_again.valid.books;
      ascending = is_again.valid.ascending;
      some_topic = is_again.valid.some_topic;
      topics = is_again.valid.topics;
      named = is_desk.valid.named;
      distinct = is_desk.valid.distinct;
      some_run = is_desk.valid.some_run;
      runs = is_desk.valid.runs;
      cells = subst (λ n. pair_count (length desk.runs) * n ≤ CELL_LIMIT) many is_desk.valid.cells;
      ranked = is_desk.valid.ranked;
      rankings = All-weaker (AreRankingsOver desk.topics) (AreRankingsOver again.topics) (λ each h. over_same desk.topics again.topics each (sym docs) h) desk.rankings is_desk.valid.rankings;
    }

    mixed_rankings : (r t : ℕ) (run : Run) (book : Book) → slice_get others r ≡ Some run → slice_get again.topics t ≡ Some book →
        IsTrecOrder (rows_in book.name run.topics) (map (λ doc. get_or book.docs doc []) (ranking_of desk r t))
    mixed_rankings r t run book got there =
        let old_run = item_at said_by runs r (said_by run) (ap (λ xs. slice_get xs r) (sym same_runs) ∙ map_there said_by others r run got) in
        let old_book = item_at (λ (book : Book). book.name) desk.topics t book.name (ap (λ xs. slice_get xs t) (sym names) ∙ map_there (λ (book : Book). book.name) again.topics t book there) in
        let own : Some old_book.item.docs ≡ Some book.docs =
        sym (map_there (λ (book : Book). book.docs) desk.topics t old_book.item old_book.stands) ∙ ap (λ xs. slice_get xs t) (sym docs) ∙ map_there (λ (book : Book). book.docs) again.topics t book there in
        let same_docs : old_book.item.docs ≡ book.docs = cc in
        subst (λ ds. IsTrecOrder (rows_in book.name run.topics) (map (λ doc. get_or ds doc []) (ranking_of desk r t))) same_docs
        (subst (λ name. IsTrecOrder (rows_in name run.topics) (map (λ doc. get_or old_book.item.docs doc []) (ranking_of desk r t))) old_book.value
        (subst (λ topics. IsTrecOrder (rows_in old_book.item.name topics) (map (λ doc. get_or old_book.item.docs doc []) (ranking_of desk r t))) (ap (λ p. p.1) old_run.value)
        (is_desk.rankings r t old_run.item old_book.item old_run.stands old_book.stands)))

    run_names_are : map (λ (run : Run). run.name) runs ≡ map (λ (run : Run). run.name) others
    run_names_are =
        let name : List ℕ × List TopicRows → List ℕ = λ p. p.0 in
        sym (map-map name said_by (λ (run : Run). run.name) (λ run. refl) runs) ∙ ap (map name) (sym same_runs) ∙ map-map name said_by (λ (run : Run). run.name) (λ run. refl) others

    -- is the other
    pub with_topics : again ≡ mixed
    with_topics = one_desk said others again mixed is_again (record {
      valid = mixed_valid;
      topics = is_again.topics;
      books = is_again.books;
      run_names = is_desk.run_names ∙ run_names_are;
      rankings = mixed_rankings;
    })
