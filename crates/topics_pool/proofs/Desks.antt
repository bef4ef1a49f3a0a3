-- The parts of a desk make a desk.
use Rattle.std.proofs.Common.{◌≡◌, ℕ, zero, suc, ◌+◌, ◌*◌, ◌<◌, ◌≤◌, Bool, true, false, true≢false, List, [], ◌∷◌, length, get_or, take, Some, None, refl, ap, ap₂, sym, ◌∙◌, subst, arith}
use Rattle.std.specs.Prelude.{All, find}
use Rattle.std.specs.List.{AllZip, IsDistinct, list_any, range_with_len}
use Rattle.std.specs.Str.{bytes_eq}
use Rattle.std.proofs.lemmas.List.{length-map, get_or_default}
use Rattle.std.proofs.lemmas.List.Elements.{All-nil, All-cons}
use Rattle.std.proofs.lemmas.Map.Keys.{IsDistinct-from_apart}
use Rattle.desk_model.specs.Name.{is_name}
use Rattle.desk_model.specs.Book.{Book}
use Rattle.desk_model.specs.Ranking.{IsRanking}
use Rattle.desk_model.specs.Desk.{Desk, IsDesk, AreRankingsOver, pair_count}
use Rattle.desk_model.proofs.Nested.{zipped_at, length-zipped}
use Rattle.file_rows.specs.Grouped.{TopicRows}
use Rattle.qrels_reader.specs.declared.limits.TheConstants.{MOST_TOPICS}
use Rattle.file_rows.proofs.Seen.{laws}
use Rattle.run_reader.specs.Run.{Run}
use Rattle.topics_pool.specs.Rows.{IsDeskOf, IsNoFault, run_names, first_repeated, is_repeated}
use Rattle.topics_pool.specs.Made.{AreBooksOf, IsRankingOf, AreRankingsOf}
use Rattle.topic_universe.proofs.Zips.{zip-weaker}

-- ---- names of which none is repeated differ
none-passes : (p : ℕ → Bool) (a n k : ℕ) → find p (range_with_len a n) ≡ None → k < n → p (a + k) ≡ false
none-passes p a zero k none lt = absurd (omega arith)
none-passes p a (suc n) k none lt = go (p a) refl k lt (none-passes p (a + 1) n)
  where
    go : (b : Bool) → p a ≡ b → (k : ℕ) → k < suc n → ((j : ℕ) → find p (range_with_len (a + 1) n) ≡ None → j < n → p (a + 1 + j) ≡ false) → p (a + k) ≡ false
    go true e k lt later = let bad : Some a ≡ None = rw e at none in absurd (cc)
    go false e zero lt later = let start : a + 0 ≡ a = omega arith in ap p start ∙ e
    go false e (suc k) lt later =
        let shift : a + suc k ≡ a + 1 + k = omega arith in
        ap p shift ∙ later k (rw e at none) (omega arith)

earlier-differs : (p : List ℕ → Bool) (names : List (List ℕ)) (i j : ℕ) (d : List ℕ) → i < j → j ≤ length names → list_any p (take j names) ≡ false → p (get_or names i d) ≡ false
earlier-differs p [] i j d lt le none = absurd (omega arith)
earlier-differs p (x ∷ names) i zero d lt le none = absurd (omega arith)
earlier-differs p (x ∷ names) i (suc j) d lt le none = go (p x) refl i lt (λ k below rest. earlier-differs p names k j d below (omega arith) rest)
  where
    go : (b : Bool) → p x ≡ b → (i : ℕ) → i < suc j → ((k : ℕ) → k < j → list_any p (take j names) ≡ false → p (get_or names k d) ≡ false) → p (get_or (x ∷ names) i d) ≡ false
    go true e i lt later = absurd (true≢false (rw e at none))
    go false e zero lt later = e
    go false e (suc i) lt later = later i (omega arith) (rw e at none)

pub all_differ : (names : List (List ℕ)) → first_repeated names ≡ None → IsDistinct bytes_eq names
all_differ names none = IsDistinct-from_apart bytes_eq names (λ i j d lt within.
    let start : 0 + j ≡ j = omega arith in
    let new : is_repeated names j ≡ false = ap (is_repeated names) (sym start) ∙ none-passes (is_repeated names) 0 (length names) j none within in
    let apart = earlier-differs (bytes_eq (get_or names j [])) names i j d lt (omega arith) new in
    laws.symm (get_or names i d) (get_or names j d) ∙ ap (λ n. bytes_eq n (get_or names i d)) (get_or_default names j d [] within) ∙ apart)

-- ---- the desk
all-zipped : {A B : Type 0} (R : A → B → Type 0) (Q : B → Type 0) (xs : List A) (ys : List B) → ((x : A) (y : B) → R x y → Q y) → AllZip R xs ys → All Q ys
all-zipped R Q [] [] says h = All-nil Q
all-zipped R Q [] (y ∷ ys) says h = absurd h
all-zipped R Q (x ∷ xs) [] says h = absurd h
all-zipped R Q (x ∷ xs) (y ∷ ys) says h = All-cons Q y ys (says x y h.0) (all-zipped R Q xs ys says h.1)

module _ (qrels : List TopicRows) (runs : List Run) (books : List Book) (names : List (List ℕ)) (rankings : List (List (List ℕ)))
    (are : AreBooksOf qrels runs books) (named : names ≡ run_names runs) (zipped : AllZip (AreRankingsOf books) runs rankings)
  where
    pub is_desk : IsNoFault qrels runs → All (λ name. is_name name ≡ true) (run_names runs) → 0 < length qrels → length qrels ≤ MOST_TOPICS → 0 < length runs → length runs ≤ 256 →
        IsDesk (record { topics = books; runs = names; rankings = rankings })
    is_desk right is_named some_topic few_topics some_run few_runs =
        let long : length names ≡ length runs = ap length named ∙ length-map runs (λ (run : Run). run.name) in
        let over = λ (book : Book) (docs : List ℕ). IsRanking (length book.docs) docs in
        record {
          books = are.sound;
          ascending = are.ascending;
          some_topic = omega (arith, are.count, some_topic);
          topics = omega (arith, are.count, few_topics);
          named = subst (All (λ name. is_name name ≡ true)) (sym named) is_named;
          distinct = subst (IsDistinct bytes_eq) (sym named) (all_differ (run_names runs) right.names);
          some_run = omega (arith, long, some_run);
          runs = omega (arith, long, few_runs);
          cells = subst (λ n. n ≤ 10000000) (sym (ap₂ (λ r t. pair_count r * t) long are.count)) right.cells;
          ranked = length-zipped (AreRankingsOf books) runs rankings zipped ∙ sym long;
          rankings = all-zipped (AreRankingsOf books) (AreRankingsOver books) runs rankings (λ run per h. zip-weaker (IsRankingOf run) over books per (λ book docs r. r.ranking) h) zipped;
        }

    pub is_desk_of : (desk : Desk) → desk ≡ record { topics = books; runs = names; rankings = rankings } → IsDesk (record { topics = books; runs = names; rankings = rankings }) → IsDeskOf qrels runs desk
    is_desk_of desk is valid = subst (IsDeskOf qrels runs) (sym is) (record {
      valid = valid;
      topics = are.topics;
      books = are.of_rows;
      run_names = named;
      rankings = λ r t run book got_run got_book.
          let per = zipped_at (AreRankingsOf books) runs rankings r run [] zipped got_run in
          let one = zipped_at (IsRankingOf run) books (get_or rankings r []) t book [] per got_book in
          one.order;
    })
