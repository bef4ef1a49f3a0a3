-- The topics of a desk under marks.
use Rattle.std.proofs.Common.{◌≡◌, ℕ, zero, suc, ◌+◌, ◌<◌, ◌≤◌, List, [], ◌∷◌, length, get_or, Some, ap, sym, ◌∙◌, subst, arith}
use Rattle.std.specs.Prelude.{slice_get, All}
use Rattle.std.specs.Option.{option_map}
use Rattle.std.specs.List.{enumerate_from}
use Rattle.std.proofs.lemmas.List.{length-map}
use Rattle.std.proofs.lemmas.List.FromFn.{length-enumerate_from}
use Rattle.std.proofs.lemmas.Option.{slice_get-map, slice_get_within}
use Rattle.desk_model.proofs.Nested.{length-zipped, zipped_at, ranking_over, get_or-there}
use Rattle.desk_model.proofs.PairPlace.{there}
use Rattle.desk_model.specs.Book.{Book, IsBook}
use Rattle.desk_model.specs.Desk.{Desk, IsDesk, AreMarksOf, ranking_of, topics_under}
use Rattle.desk_model.specs.Order.{Topic}
use Rattle.desk_model.specs.Ranking.{IsRanking}
use Rattle.desk_model.specs.declared.types.Mark.{Mark}

enumerated : {X : Type 0} (n : ℕ) (xs : List X) (i : ℕ) (x : X) → slice_get xs i ≡ Some x → slice_get (enumerate_from n xs) i ≡ Some (n + i, x)
enumerated n [] i x e = absurd (cc)
enumerated n (y ∷ xs) zero x e =
    let p : y ≡ x = cc in
    let q : n ≡ n + zero = omega arith in
    ap (λ v. Some (n, v)) p ∙ ap (λ (m : ℕ). Some (m, x)) q
enumerated n (y ∷ xs) (suc i) x e =
    let q : n + 1 + i ≡ n + suc i = omega arith in
    enumerated (n + 1) xs i x e ∙ ap (λ (m : ℕ). Some (m, x)) q

none : (n : ℕ) → 0 + n ≡ n
none n = omega arith

-- a topic of the desk under marks
abbrev pub topic_of : Desk → ℕ → List Mark → Topic
topic_of desk t m = record { marks = m; ranking = λ run. ranking_of desk run t }

pub topic_there : (desk : Desk) (marks : List (List Mark)) (t : ℕ) (m : List Mark) → slice_get marks t ≡ Some m → slice_get (topics_under desk marks) t ≡ Some (topic_of desk t m)
topic_there desk marks t m e =
    let f = λ (p : ℕ × List Mark). topic_of desk p.0 p.1 in
    slice_get-map f (enumerate_from 0 marks) t ∙ ap (option_map f) (enumerated 0 marks t m e ∙ ap (λ (n : ℕ). Some (n, m)) (none t))

pub length-marks : (desk : Desk) (marks : List (List Mark)) → AreMarksOf desk marks → length marks ≡ length desk.topics
length-marks desk marks known = length-zipped (λ (book : Book) (topic : List Mark). length topic ≡ length book.docs) desk.topics marks known

pub length-topics_under : (desk : Desk) (marks : List (List Mark)) → AreMarksOf desk marks → length (topics_under desk marks) ≡ length desk.topics
length-topics_under desk marks known =
    length-map (enumerate_from 0 marks) (λ (p : ℕ × List Mark). topic_of desk p.0 p.1) ∙ length-enumerate_from 0 marks ∙ length-marks desk marks known

module _ (desk : Desk) (marks : List (List Mark)) (valid : IsDesk desk) (known : AreMarksOf desk marks) where
  -- the marks of a topic are those of a universe
  universe_at : (t : ℕ) (m : List Mark) → slice_get marks t ≡ Some m → (book : Book) × (slice_get desk.topics t ≡ Some book) × (length m ≡ length book.docs) × IsBook book
  universe_at t m e =
      let inside : t < length desk.topics = omega (arith, slice_get_within marks t m e, length-marks desk marks known) in
      let book = there desk.topics t inside in
      let sized : length (get_or marks t []) ≡ length book.0.docs = zipped_at (λ (each : Book) (topic : List Mark). length topic ≡ length each.docs) desk.topics marks t book.0 [] known book.1 in
      let size : length m ≡ length book.0.docs = ap length (sym (get_or-there marks t m [] e)) ∙ sized in
      (book.0, book.1, size, subst IsBook (get_or-there desk.topics t book.0 book.0 book.1) (valid.books t book.0 inside))

  pub ranking_at : (run t : ℕ) (m : List Mark) → run < length desk.runs → slice_get marks t ≡ Some m → IsRanking (length m) (ranking_of desk run t)
  ranking_at run t m in_range e = let u = universe_at t m e in rw (u.2) (ranking_over desk valid run in_range t u.0 u.1)

  pub small_at : (t : ℕ) (m : List Mark) → slice_get marks t ≡ Some m → length m ≤ 25000000
  small_at t m e = let u = universe_at t m e in omega (arith, u.2, u.3.small)

  -- what holds of each topic by its marks holds of the topics
  pub each_topic : (P : Topic → Type 0) → ((t : ℕ) (m : List Mark) → slice_get marks t ≡ Some m → P (topic_of desk t m)) → All P (topics_under desk marks)
  each_topic P h k d lt =
      let inside : k < length marks = omega (arith, lt, length-topics_under desk marks known, length-marks desk marks known) in
      let m = there marks k inside in
      let is : get_or (topics_under desk marks) k d ≡ topic_of desk k m.0 = get_or-there (topics_under desk marks) k (topic_of desk k m.0) d (topic_there desk marks k m.0 m.1) in
      subst P (sym is) (h k m.0 m.1)

  pub rankings_over_universes : (run : ℕ) → run < length desk.runs → All (λ (topic : Topic). IsRanking (length topic.marks) (topic.ranking run)) (topics_under desk marks)
  rankings_over_universes run in_range = each_topic (λ (topic : Topic). IsRanking (length topic.marks) (topic.ranking run)) (λ t m e. ranking_at run t m in_range e)

  pub small_universes : All (λ (topic : Topic). length topic.marks ≤ 25000000) (topics_under desk marks)
  small_universes = each_topic (λ (topic : Topic). length topic.marks ≤ 25000000) small_at
