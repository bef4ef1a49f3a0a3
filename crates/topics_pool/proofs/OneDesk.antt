-- Rows make one desk.
use Rattle.std.proofs.Common.{◌≡◌, ℕ, ◌<◌, Bool, true, false, true≢false, List, [], ◌∷◌, length, get_or, map, Some, None, refl, ap, sym, ◌∙◌, subst, arith}
use Rattle.std.specs.Prelude.{◌||◌, All, slice_get}
use Rattle.std.specs.List.{list_any, AllByRecursion}
use Rattle.std.specs.Str.{bytes_eq}
use Rattle.std.specs.declared.cmp.Ordering.TheVariants.{Less}
use Rattle.std.proofs.lemmas.Map.Keys.{sorted_head, sorted_tail}
use Rattle.std.proofs.lemmas.List.{same_lists, ext_get_or, length-map, get_or-map, map-id}
use Rattle.std.proofs.lemmas.Option.{slice_get-get_or}
use Rattle.desk_model.specs.Name.{name_cmp, AreAscending}
use Rattle.desk_model.specs.Book.{Book, IsBook}
use Rattle.desk_model.specs.Ranking.{IsRanking}
use Rattle.desk_model.specs.Desk.{Desk, ranking_of}
use Rattle.desk_model.proofs.Names.{same_name, two_ways, none_above, ascending_far}
use Rattle.desk_model.proofs.Nested.{length-rankings, ranking_over}
use Rattle.file_rows.specs.Grouped.{TopicRows, rows_in}
use Rattle.file_rows.proofs.Seen.{laws}
use Rattle.run_reader.specs.Run.{Run, rows_on_topic}
use Rattle.topic_universe.proofs.Unique.{one_order}
use Rattle.topic_universe.specs.Names.{HaveSameNames}
use Rattle.topics_pool.specs.Rows.{IsDeskOf, IsBookOf, doc_names, topic_names, names_on, grade_in}

-- ---- names that ascend are one list with the same names
-- a name that is found among names above another is above it
above : (x q : List ℕ) (xs : List (List ℕ)) → AllByRecursion (λ z. name_cmp x z ≡ Less) xs → list_any (bytes_eq q) xs ≡ true → name_cmp x q ≡ Less
above x q [] h is = absurd (true≢false (sym is))
above x q (z ∷ zs) h is = go (bytes_eq q z) refl (above x q zs h.1)
  where
    go : (b : Bool) → bytes_eq q z ≡ b → (list_any (bytes_eq q) zs ≡ true → name_cmp x q ≡ Less) → name_cmp x q ≡ Less
    go true e later = ap (name_cmp x) (same_name q z e) ∙ h.0
    go false e later = later (sym (ap (λ b. b || list_any (bytes_eq q) zs) e) ∙ is)

first_found : (x : List ℕ) (xs : List (List ℕ)) → list_any (bytes_eq x) (x ∷ xs) ≡ true
first_found x xs = ap (λ b. b || list_any (bytes_eq x) xs) (laws.refl x)

-- the first of names that ascend are one
one_first : (x y : List ℕ) (xs ys : List (List ℕ)) → AreAscending (x ∷ xs) → AreAscending (y ∷ ys) → HaveSameNames (x ∷ xs) (y ∷ ys) → x ≡ y
one_first x y xs ys s t h = go (bytes_eq x y) refl
  where
    go : (b : Bool) → bytes_eq x y ≡ b → x ≡ y
    go true e = same_name x y e
    go false e =
        let found : list_any (bytes_eq x) ys ≡ true = sym (ap (λ b. b || list_any (bytes_eq x) ys) e) ∙ sym (h x) ∙ first_found x xs in
        let back : list_any (bytes_eq y) xs ≡ true = sym (ap (λ b. b || list_any (bytes_eq y) xs) (laws.symm y x ∙ e)) ∙ h y ∙ first_found y ys in
        absurd (two_ways x y (above x y xs (sorted_head name_cmp x xs s) back) (above y x ys (sorted_head name_cmp y ys t) found))

one_rest : (x : List ℕ) (xs ys : List (List ℕ)) → AllByRecursion (λ z. name_cmp x z ≡ Less) xs → AllByRecursion (λ z. name_cmp x z ≡ Less) ys → HaveSameNames (x ∷ xs) (x ∷ ys) → HaveSameNames xs ys
one_rest x xs ys s t h q = go (bytes_eq q x) refl
  where
    go : (b : Bool) → bytes_eq q x ≡ b → list_any (bytes_eq q) xs ≡ list_any (bytes_eq q) ys
    go true e =
        ap (λ n. list_any (bytes_eq n) xs) (same_name q x e) ∙ none_above x xs s ∙ sym (none_above x ys t) ∙ ap (λ n. list_any (bytes_eq n) ys) (sym (same_name q x e))
    go false e = sym (ap (λ b. b || list_any (bytes_eq q) xs) e) ∙ h q ∙ ap (λ b. b || list_any (bytes_eq q) ys) e

pub one_names : (xs ys : List (List ℕ)) → AreAscending xs → AreAscending ys → HaveSameNames xs ys → xs ≡ ys
one_names [] [] s t h = refl
one_names [] (y ∷ ys) s t h = absurd (true≢false (sym (h y ∙ first_found y ys)))
one_names (x ∷ xs) [] s t h = absurd (true≢false (sym (first_found x xs) ∙ h x))
one_names (x ∷ xs) (y ∷ ys) s t h =
    let first = one_first x y xs ys s t h in
    let later : AllByRecursion (λ z. name_cmp x z ≡ Less) ys = subst (λ n. AllByRecursion (λ z. name_cmp n z ≡ Less) ys) (sym first) (sorted_head name_cmp y ys t) in
    let both : HaveSameNames (x ∷ xs) (x ∷ ys) = subst (λ n. HaveSameNames (x ∷ xs) (n ∷ ys)) (sym first) h in
    let rest = one_names xs ys (sorted_tail name_cmp x xs s) (sorted_tail name_cmp y ys t) (one_rest x xs ys (sorted_head name_cmp x xs s) later both) in
    λ i. first i ∷ rest i

-- ---- topics
module _ (qrels : List TopicRows) (runs : List Run) where
  one_book : (b c : Book) → IsBook b → IsBook c → IsBookOf qrels runs b → IsBookOf qrels runs c → b.name ≡ c.name → b ≡ c
  one_book b c sound_b sound_c of_b of_c name =
      let docs : b.docs ≡ c.docs = one_names b.docs c.docs sound_b.ascending sound_c.ascending
      (λ q. of_b.universe q ∙ ap (λ n. list_any (bytes_eq q) (names_on qrels runs n)) name ∙ sym (of_c.universe q)) in
      let long : length b.grades ≡ length c.grades = sound_b.graded ∙ ap length docs ∙ sym sound_c.graded in
      let grades : b.grades ≡ c.grades = ext_get_or None b.grades c.grades long (λ i lt.
      let within : i < length b.docs = omega (arith, lt, sound_b.graded) in
      let there = slice_get-get_or b.docs i [] within in
      of_b.grades i (get_or b.docs i []) there
      ∙ ap (λ n. grade_in (rows_in n qrels) (get_or b.docs i [])) name
      ∙ sym (of_c.grades i (get_or b.docs i []) (ap (λ ds. slice_get ds i) (sym docs) ∙ there))) in
      λ i. record { name = name i; docs = docs i; grades = grades i }

  one_books : (bs cs : List Book) → All IsBook bs → All IsBook cs → All (IsBookOf qrels runs) bs → All (IsBookOf qrels runs) cs → topic_names bs ≡ topic_names cs → bs ≡ cs
  one_books bs cs sound_b sound_c of_b of_c names =
      let name = λ (book : Book). book.name in
      let long : length bs ≡ length cs = sym (length-map bs name) ∙ ap length names ∙ length-map cs name in
      same_lists bs cs long (λ i d lt.
      let within : i < length cs = omega (arith, lt, long) in
      one_book (get_or bs i d) (get_or cs i d) (sound_b i d lt) (sound_c i d within) (of_b i d lt) (of_c i d within)
      (sym (get_or-map name bs i d [] lt) ∙ ap (λ ns. get_or ns i []) names ∙ get_or-map name cs i d [] within))

-- ---- rankings
-- numbers of names that ascend are one where the names are
one_number : (names : List (List ℕ)) (i j : ℕ) → AreAscending names → i < length names → j < length names → get_or names i [] ≡ get_or names j [] → i ≡ j
one_number names i j up in_i in_j is =
    let up_same : AreAscending (map (λ n. n) names) = subst AreAscending (sym (map-id names)) up in
    let not_below : i < j → ⊥ = λ lt. let low = ascending_far (λ n. n) names i j [] up_same lt in_j in two_ways (get_or names i []) (get_or names j []) low (ap (λ n. name_cmp n (get_or names i [])) (sym is) ∙ ap (name_cmp (get_or names i [])) is ∙ low) in
    let not_above : j < i → ⊥ = λ lt. let low = ascending_far (λ n. n) names j i [] up_same lt in_i in two_ways (get_or names j []) (get_or names i []) low (ap (λ n. name_cmp n (get_or names j [])) is ∙ ap (name_cmp (get_or names j [])) (sym is) ∙ low) in
    grind (arith, not_below, not_above)

one_numbers : (book : Book) (xs ys : List ℕ) → AreAscending book.docs → IsRanking (length book.docs) xs → IsRanking (length book.docs) ys → doc_names book xs ≡ doc_names book ys → xs ≡ ys
one_numbers book xs ys up sound_x sound_y names =
    let name = λ (doc : ℕ). get_or book.docs doc [] in
    let long : length xs ≡ length ys = sym (length-map xs name) ∙ ap length names ∙ length-map ys name in
    same_lists xs ys long (λ k d lt.
    let within : k < length ys = omega (arith, lt, long) in
    one_number book.docs (get_or xs k d) (get_or ys k d) up (sound_x.within k d lt) (sound_y.within k d within)
    (sym (get_or-map name xs k d [] lt) ∙ ap (λ ns. get_or ns k []) names ∙ get_or-map name ys k d [] within))

-- ---- the desk
no_book : Book
no_book = record { name = []; docs = []; grades = [] }

no_run : Run
no_run = record { name = []; topics = []; used = record { rows = 0; name_bytes = 0 } }

module _ (qrels : List TopicRows) (runs : List Run) (d e : Desk) (is_d : IsDeskOf qrels runs d) (is_e : IsDeskOf qrels runs e) where
  one_topics : d.topics ≡ e.topics
  one_topics =
      one_books qrels runs d.topics e.topics is_d.valid.books is_e.valid.books is_d.books is_e.books
      (one_names (topic_names d.topics) (topic_names e.topics) is_d.valid.ascending is_e.valid.ascending (λ q. is_d.topics q ∙ sym (is_e.topics q)))

  one_ranking : (r t : ℕ) → r < length d.runs → t < length d.topics → ranking_of d r t ≡ ranking_of e r t
  one_ranking r t in_runs in_topics =
      let book = get_or d.topics t no_book in
      let there : slice_get d.topics t ≡ Some book = slice_get-get_or d.topics t no_book in_topics in
      let there_e : slice_get e.topics t ≡ Some book = ap (λ ts. slice_get ts t) (sym one_topics) ∙ there in
      let many : length d.runs ≡ length runs = ap length is_d.run_names ∙ length-map runs (λ (run : Run). run.name) in
      let many_e : length e.runs ≡ length runs = ap length is_e.run_names ∙ length-map runs (λ (run : Run). run.name) in
      let in_rows : r < length runs = omega (arith, in_runs, many) in
      let in_e : r < length e.runs = omega (arith, in_rows, many_e) in
      let run = get_or runs r no_run in
      let got : slice_get runs r ≡ Some run = slice_get-get_or runs r no_run in_rows in
      one_numbers book (ranking_of d r t) (ranking_of e r t) (is_d.valid.books t no_book in_topics).ascending
      (ranking_over d is_d.valid r in_runs t book there) (ranking_over e is_e.valid r in_e t book there_e)
      (one_order (rows_on_topic run book.name) (doc_names book (ranking_of d r t)) (doc_names book (ranking_of e r t))
      (is_d.rankings r t run book got there) (is_e.rankings r t run book got there_e))

  -- the rows determine the desk
  pub one_desk : d ≡ e
  one_desk =
      let runs_are : d.runs ≡ e.runs = is_d.run_names ∙ sym is_e.run_names in
      let long : length d.rankings ≡ length e.rankings = is_d.valid.ranked ∙ ap length runs_are ∙ sym is_e.valid.ranked in
      let rankings_are : d.rankings ≡ e.rankings = ext_get_or [] d.rankings e.rankings long (λ r lt.
      let in_d : r < length d.runs = omega (arith, lt, is_d.valid.ranked) in
      let in_e : r < length e.runs = omega (arith, lt, long, is_e.valid.ranked) in
      let long_d = length-rankings d is_d.valid r in_d in
      let long_e = length-rankings e is_e.valid r in_e in
      ext_get_or [] (get_or d.rankings r []) (get_or e.rankings r []) (long_d ∙ ap length one_topics ∙ sym long_e) (λ t below. one_ranking r t in_d (omega (arith, below, long_d)))) in
      λ i. record { topics = one_topics i; runs = runs_are i; rankings = rankings_are i }
