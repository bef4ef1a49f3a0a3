-- A table after a change of marks in one topic.
use Rattle.std.proofs.Common.{◌≡◌, ◌≢◌, ℕ, zero, suc, ◌+◌, ◌<◌, List, [], ◌∷◌, map, length, Some, refl, ap, sym, ◌∙◌, arith}
use Rattle.std.specs.Prelude.{slice_get, slice_set}
use Rattle.std.specs.List.{enumerate_from}
use Rattle.std.specs.Option.{option_map}
use Rattle.std.proofs.lemmas.Option.{slice_get-map}
use Rattle.small_lemmas.proofs.Lists.{map_there}
use Rattle.desk_model.proofs.DeskTopics.{topic_of}
use Rattle.desk_model.specs.Desk.{Desk, AreMarksOf, topics_under}
use Rattle.desk_model.specs.Order.{Topic}
use Rattle.desk_model.specs.declared.types.Mark.{Mark}
use Rattle.desk_model.specs.declared.types.Totals.{Totals}
use Rattle.topic_counts.specs.declared.span.Span.{Span}
use Rattle.measure_core.specs.declared.cell.Cell.{Cell}
use Rattle.pair_table.specs.Kept.{HeldSums, Kept, TopicNumbers, SumsStandFor, StandsFor, StandsElsewhere, table_sums, all_numbers, numbers_on, topic_at, kept_totals, kept_bounds}
use Rattle.pair_table.proofs.DeskTopics.{topic_at_there}
use Rattle.pair_table.proofs.Keeping.{length-all_numbers, totals_stand, bounds_stand}

-- ---- lists that agree but for one place
pub set_agrees : {A : Type 0} (xs ys : List A) (k : ℕ) (v : A) → length xs ≡ length ys → slice_get ys k ≡ Some v → ((t : ℕ) → t ≢ k → slice_get xs t ≡ slice_get ys t) → slice_set xs k v ≡ ys
set_agrees [] [] k v e there h = absurd (cc)
set_agrees [] (y ∷ ys) k v e there h = absurd (omega (arith, e))
set_agrees (x ∷ xs) [] k v e there h = absurd (omega (arith, e))
set_agrees {A = A} (x ∷ xs) (y ∷ ys) zero v e there h =
    let same : v ≡ y = cc in
    ap (λ z. z ∷ xs) same ∙ ap (λ l. y ∷ l) (all_same xs ys (omega (arith, e)) (λ t. h (suc t) (λ q. absurd (omega (arith, q)))))
  where
    all_same : (us vs : List A) → length us ≡ length vs → ((t : ℕ) → slice_get us t ≡ slice_get vs t) → us ≡ vs
    all_same [] [] q f = refl
    all_same [] (b ∷ bs) q f = absurd (omega (arith, q))
    all_same (a ∷ more) [] q f = absurd (omega (arith, q))
    all_same (a ∷ more) (b ∷ bs) q f = let first : Some a ≡ Some b = f 0 in let same : a ≡ b = cc in ap (λ z. z ∷ more) same ∙ ap (λ l. b ∷ l) (all_same more bs (omega (arith, q)) (λ t. f (suc t)))
set_agrees (x ∷ xs) (y ∷ ys) (suc k) v e there h =
    let first : Some x ≡ Some y = h 0 (λ q. absurd (omega (arith, q))) in
    let same : x ≡ y = cc in
    ap (λ z. z ∷ slice_set xs k v) same ∙ ap (λ l. y ∷ l) (set_agrees xs ys k v (omega (arith, e)) there (λ t q. h (suc t) (λ p. q (omega (arith, p)))))

set_elsewhere : {A : Type 0} (xs : List A) (k t : ℕ) (v : A) → t ≢ k → slice_get (slice_set xs k v) t ≡ slice_get xs t
set_elsewhere [] k t v h = refl
set_elsewhere (x ∷ xs) zero zero v h = absurd (h refl)
set_elsewhere (x ∷ xs) zero (suc t) v h = refl
set_elsewhere (x ∷ xs) (suc k) zero v h = refl
set_elsewhere (x ∷ xs) (suc k) (suc t) v h = set_elsewhere xs k t v (λ e. h (ap suc e))

numbered_same : {A B : Type 0} (f : ℕ × A → B) (n : ℕ) (xs ys : List A) (t : ℕ) → slice_get xs t ≡ slice_get ys t → slice_get (map f (enumerate_from n xs)) t ≡ slice_get (map f (enumerate_from n ys)) t
numbered_same f n [] [] t e = refl
numbered_same f n [] (y ∷ ys) zero e = absurd (cc)
numbered_same f n [] (y ∷ ys) (suc t) e = numbered_same f (n + 1) [] ys t e
numbered_same f n (x ∷ xs) [] zero e = absurd (cc)
numbered_same f n (x ∷ xs) [] (suc t) e = numbered_same f (n + 1) xs [] t e
numbered_same f n (x ∷ xs) (y ∷ ys) zero e = let same : x ≡ y = cc in ap (λ z. Some (f (n, z))) same
numbered_same f n (x ∷ xs) (y ∷ ys) (suc t) e = numbered_same f (n + 1) xs ys t e

-- the numbers of one topic alone change with its marks
pub numbers_elsewhere : {M : Type 0} (cell : List Mark → List ℕ → List ℕ → Cell) (bound : List Mark → List ℕ → Span) (desk : Desk) (marks : List (List Mark)) (topic : ℕ) (row : List Mark) (table : Kept M) → AreMarksOf desk marks →
    StandsFor cell bound desk marks table → StandsElsewhere cell bound desk (slice_set marks topic row) topic table
numbers_elsewhere cell bound desk marks topic row table known h =
    let f : Topic → TopicNumbers = numbers_on cell bound (length desk.runs) in
    let later : List (List Mark) = slice_set marks topic row in
    record {
      runs = h.sums.runs;
      count = ap length h.topics ∙ length-all_numbers cell bound desk marks known;
      others = λ t apart. ap (λ (l : List TopicNumbers). slice_get l t) h.topics ∙ slice_get-map f (topics_under desk marks) t
          ∙ ap (option_map f) (sym (numbered_same (λ (p : ℕ × List Mark). topic_of desk p.0 p.1) 0 later marks t (set_elsewhere marks topic t row apart)))
          ∙ sym (slice_get-map f (topics_under desk later) t);
    }

-- sums of the numbers of all topics stand for the desk and the marks
pub sums_stand : {M : Type 0} (cell : List Mark → List ℕ → List ℕ → Cell) (bound : List Mark → List ℕ → Span) (desk : Desk) (marks : List (List Mark)) (sums : HeldSums M) → sums.runs ≡ length desk.runs →
    sums.totals ≡ kept_totals (length desk.runs) (all_numbers cell bound desk marks) → sums.bounds ≡ kept_bounds (length desk.runs) (all_numbers cell bound desk marks) → SumsStandFor cell bound desk marks sums
sums_stand cell bound desk marks sums runs totals bounds = record {
  runs = runs;
  totals = totals ∙ totals_stand cell bound (length desk.runs) (topics_under desk marks);
  bounds = bounds ∙ bounds_stand cell bound (length desk.runs) (topics_under desk marks);
}

-- a table that was made stands for its desk and marks
pub made_stands : {M : Type 0} (cell : List Mark → List ℕ → List ℕ → Cell) (bound : List Mark → List ℕ → Span) (desk : Desk) (marks : List (List Mark)) (new : Kept M) → new.runs ≡ length desk.runs → new.topics ≡ all_numbers cell bound desk marks →
    new.totals ≡ kept_totals (length desk.runs) new.topics → new.bounds ≡ kept_bounds (length desk.runs) new.topics → StandsFor cell bound desk marks new
made_stands cell bound desk marks new runs topics totals bounds = record {
  sums = sums_stand cell bound desk marks (table_sums new) runs (totals ∙ ap (kept_totals (length desk.runs)) topics) (bounds ∙ ap (kept_bounds (length desk.runs)) topics);
  topics = topics;
}

-- a table whose other topics have the numbers under marks stands for them, once the one topic has its numbers and the sums are those of all
pub changed_stands : {M : Type 0} (cell : List Mark → List ℕ → List ℕ → Cell) (bound : List Mark → List ℕ → Span) (desk : Desk) (marks : List (List Mark)) (topic : ℕ) (old new : Kept M) → AreMarksOf desk marks → topic < length desk.topics →
    StandsElsewhere cell bound desk marks topic old → new.runs ≡ old.runs → new.topics ≡ slice_set old.topics topic (numbers_on cell bound (length desk.runs) (topic_at desk marks topic)) →
    new.totals ≡ kept_totals (length desk.runs) new.topics → new.bounds ≡ kept_bounds (length desk.runs) new.topics → StandsFor cell bound desk marks new
changed_stands cell bound desk marks topic old new known lt h runs topics totals bounds =
    let f : Topic → TopicNumbers = numbers_on cell bound (length desk.runs) in
    let whole : new.topics ≡ all_numbers cell bound desk marks =
    topics ∙ set_agrees old.topics (all_numbers cell bound desk marks) topic (f (topic_at desk marks topic)) (h.count ∙ sym (length-all_numbers cell bound desk marks known))
    (map_there f (topics_under desk marks) topic (topic_at desk marks topic) (topic_at_there desk marks topic known lt)) h.others in
    made_stands cell bound desk marks new (runs ∙ h.runs) whole totals bounds

-- two tables of one measure that stand for the same are the same
pub standing_are_one : {M : Type 0} (cell : List Mark → List ℕ → List ℕ → Cell) (bound : List Mark → List ℕ → Span) (desk : Desk) (marks : List (List Mark)) (a b : Kept M) → a.measure ≡ b.measure → StandsFor cell bound desk marks a → StandsFor cell bound desk marks b → a ≡ b
standing_are_one {M = M} cell bound desk marks a b same h k = kept_same _ _ _ _ _ b same (h.sums.runs ∙ sym k.sums.runs) (h.topics ∙ sym k.topics) (h.sums.totals ∙ sym k.sums.totals) (h.sums.bounds ∙ sym k.sums.bounds)
  where
    kept_same : (m : M) (r : ℕ) (ts : List TopicNumbers) (us : List Totals) (vs : List Span) (x : Kept M) → m ≡ x.measure → r ≡ x.runs → ts ≡ x.topics → us ≡ x.totals → vs ≡ x.bounds →
        (let y : Kept M = record { measure = m; runs = r; topics = ts; totals = us; bounds = vs } in y) ≡ x
    kept_same m r ts us vs x p q s t u =
        ap (λ z. record { measure = z; runs = r; topics = ts; totals = us; bounds = vs }) p
        ∙ ap (λ z. record { measure = x.measure; runs = z; topics = ts; totals = us; bounds = vs }) q
        ∙ ap (λ z. record { measure = x.measure; runs = x.runs; topics = z; totals = us; bounds = vs }) s
        ∙ ap (λ z. record { measure = x.measure; runs = x.runs; topics = x.topics; totals = z; bounds = vs }) t
        ∙ ap (λ z. record { measure = x.measure; runs = x.runs; topics = x.topics; totals = x.totals; bounds = z }) u
