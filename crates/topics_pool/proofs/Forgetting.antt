-- Runs that give back the rows of a topic keep those of the others.
use Rattle.std.proofs.Common.{◌≡◌, ◌≢◌, ℕ, zero, suc, set, ◌+◌, ◌<◌, ◌≤◌, Bool, true, false, true≢false, nat_eq, List, [], ◌∷◌, ◌++◌, length, get_or, Some, None, refl, ap, ap₂, sym, ◌∙◌, subst, arith}
use Rattle.std.specs.Prelude.{flat_map, map, slice_get}
use Rattle.std.specs.List.{AllZip, IsDistinct, list_any}
use Rattle.std.specs.Str.{bytes_eq}
use Rattle.std.proofs.lemmas.Bool.Decides.{nat_tests}
use Rattle.std.proofs.lemmas.List.{get_or_default, get_or-set_other, get_or-set_same, length-set}
use Rattle.std.proofs.lemmas.List.Sums.{sum_by-cons}
use Rattle.std.proofs.lemmas.Map.Keys.{apart_from_distinct}
use Rattle.desk_model.specs.Book.{Book}
use Rattle.file_rows.specs.Grouped.{TopicRows, Valued, rows_in, row_count}
use Rattle.run_reader.specs.Run.{Run, rows_on_topic}
use Rattle.topic_universe.specs.Order.{IsTrecOrder}
use Rattle.topic_universe.specs.Universe.{listed, retrieved}
use Rattle.topic_universe.proofs.Zips.{zip-weaker}
use Rattle.topics_pool.specs.Rows.{IsBookOf, doc_names, total_rows}
use Rattle.topics_pool.specs.Made.{Forgets, HasRowsFrom, HaveOneMore}

-- ---- lists side by side
pub zip-itself : {A : Type 0} (R : A → A → Type 0) → ((x : A) → R x x) → (xs : List A) → AllZip R xs xs
zip-itself R is [] = tt
zip-itself R is (x ∷ xs) = (is x, zip-itself R is xs)

zip-then : {A : Type 0} (R S T : A → A → Type 0) → ((x y z : A) → R x y → S y z → T x z) → (xs ys zs : List A) → AllZip R xs ys → AllZip S ys zs → AllZip T xs zs
zip-then R S T joins [] [] [] r s = tt
zip-then R S T joins [] [] (z ∷ zs) r s = absurd s
zip-then R S T joins [] (y ∷ ys) zs r s = absurd r
zip-then R S T joins (x ∷ xs) [] zs r s = absurd r
zip-then R S T joins (x ∷ xs) (y ∷ ys) [] r s = absurd s
zip-then R S T joins (x ∷ xs) (y ∷ ys) (z ∷ zs) r s = (joins x y z r.0 s.0, zip-then R S T joins xs ys zs r.1 s.1)

-- ---- one topic is done
pub rows_left : (topic : List ℕ) (old new : List Run) → AllZip (Forgets topic) old new → total_rows new ≤ total_rows old
rows_left topic [] [] h = omega arith
rows_left topic [] (y ∷ ys) h = absurd h
rows_left topic (x ∷ xs) [] h = absurd h
rows_left topic (x ∷ xs) (y ∷ ys) h =
    let rest = rows_left topic xs ys h.1 in
    let first = h.0.rows in
    omega (arith, rest, first, sum_by-cons (λ (run : Run). row_count run.topics) x xs, sum_by-cons (λ (run : Run). row_count run.topics) y ys)

pub rest_left : (names : List (List ℕ)) (i : ℕ) (name : List ℕ) (first now new : List Run) → IsDistinct bytes_eq names → name ≡ get_or names i [] → AllZip (HasRowsFrom names i) first now → AllZip (Forgets name) now new → AllZip (HasRowsFrom names (i + 1)) first new
rest_left names i name first now new distinct is had forgets =
    zip-then (HasRowsFrom names i) (Forgets name) (HasRowsFrom names (i + 1)) (λ x y z before after k le lt.
    after.others (get_or names k []) (ap (λ n. bytes_eq n (get_or names k [])) is ∙ apart_from_distinct bytes_eq names i k [] distinct (omega (arith, le)) lt) ∙ before k (omega (arith, le)) lt)
    first now new had forgets

-- ---- what is made of the rows that are left
abbrev pub HasRowsOn : List ℕ → Run → Run → Type 0
HasRowsOn topic first now = rows_on_topic now topic ≡ rows_on_topic first topic

pub rows_here : (names : List (List ℕ)) (i : ℕ) (name : List ℕ) (first now : List Run) → i < length names → name ≡ get_or names i [] → AllZip (HasRowsFrom names i) first now → AllZip (HasRowsOn name) first now
rows_here names i name first now lt is had =
    zip-weaker (HasRowsFrom names i) (HasRowsOn name) first now (λ x y from. subst (λ n. rows_on_topic y n ≡ rows_on_topic x n) (sym is) (from i (omega arith) lt)) had

flat_same : (topic : List ℕ) (first now : List Run) → AllZip (HasRowsOn topic) first now → flat_map (retrieved topic) now ≡ flat_map (retrieved topic) first
flat_same topic [] [] h = refl
flat_same topic [] (y ∷ ys) h = absurd h
flat_same topic (x ∷ xs) [] h = absurd h
flat_same topic (x ∷ xs) (y ∷ ys) h = ap₂ (λ (a b : List (List ℕ)). a ++ b) (ap (map (λ (row : Valued). row.document)) h.0) (flat_same topic xs ys h.1)

pub book_still : (qrels : List TopicRows) (first now : List Run) (book : Book) → AllZip (HasRowsOn book.name) first now → IsBookOf qrels now book → IsBookOf qrels first book
book_still qrels first now book same of_rows = record {
  universe = λ m. of_rows.universe m ∙ ap (λ names. list_any (bytes_eq m) (listed (rows_in book.name qrels) ++ names)) (flat_same book.name first now same);
  grades = of_rows.grades;
}

-- a run and what is left of it
record IsLeft (topic : List ℕ) (run : Run) (now : List Run) (k : ℕ) : Type 0 where
  pub left : Run
  pub stands : slice_get now k ≡ Some left
  pub same : HasRowsOn topic run left

left_at : (topic : List ℕ) (first now : List Run) (k : ℕ) (run : Run) → AllZip (HasRowsOn topic) first now → slice_get first k ≡ Some run → IsLeft topic run now k
left_at topic [] now k run h got = (let none : None ≡ Some run = got in absurd (cc))
left_at topic (x ∷ xs) [] k run h got = absurd h
left_at topic (x ∷ xs) (y ∷ ys) zero run h got =
    let is : x ≡ run = cc in
    record { left = y; stands = refl; same = subst (λ r. HasRowsOn topic r y) is h.0 }
left_at topic (x ∷ xs) (y ∷ ys) (suc k) run h got = let rest = left_at topic xs ys k run h.1 got in record { left = rest.left; stands = rest.stands; same = rest.same }

pub more_still : (first now : List Run) (book : Book) (old new : List (List (List ℕ))) → AllZip (HasRowsOn book.name) first now → HaveOneMore now book old new → HaveOneMore first book old new
more_still first now book old new same more k run got =
    let at = left_at book.name first now k run same got in
    let one = more k at.left at.stands in
    record {
      docs = one.docs;
      ranking = record { ranking = one.ranking.ranking; order = subst (λ rows. IsTrecOrder rows (doc_names book one.docs)) at.same one.ranking.order };
      added = one.added;
    }

-- ---- the runs give back their rows one after the other
-- the runs before one have given back their rows on a topic, and the others are as they were
pub record ForgetBefore (topic : List ℕ) (r : ℕ) (old new : List Run) : Type 0 where
  pub long : length new ≡ length old
  pub before : (k : ℕ) (run : Run) → k < r → k < length old → Forgets topic (get_or old k run) (get_or new k run)
  pub rest : (k : ℕ) (run : Run) → r ≤ k → get_or new k run ≡ get_or old k run

pub forget_step : (topic : List ℕ) (r : ℕ) (old now new : List Run) (run left : Run) → ForgetBefore topic r old now → r < length old → run ≡ get_or now r run → Forgets topic run left → new ≡ set now r left → ForgetBefore topic (r + 1) old new
forget_step topic r old now new run left so_far within is forgets written = record {
  long = ap length written ∙ length-set now r left ∙ so_far.long;
  before = λ k each lt low. go k each low (nat_eq k r) refl lt;
  rest = λ k each le. kept k each (omega (arith, le)) ∙ so_far.rest k each (omega (arith, le));
}
  where
    kept : (k : ℕ) (each : Run) → k ≢ r → get_or new k each ≡ get_or now k each
    kept k each other = ap (λ runs. get_or runs k each) written ∙ get_or-set_other now r k left each other

    here : (each : Run) → Forgets topic (get_or old r each) (get_or new r each)
    here each =
        let long = so_far.long in
        let there : get_or new r each ≡ left = ap (λ runs. get_or runs r each) written ∙ get_or-set_same now r left each (omega (arith, within, long)) in
        let was : run ≡ get_or old r each = is ∙ get_or_default now r run each (omega (arith, within, long)) ∙ so_far.rest r each (omega arith) in
        subst (λ z. Forgets topic (get_or old r each) z) (sym there) (subst (λ z. Forgets topic z left) was forgets)

    go : (k : ℕ) (each : Run) → k < length old → (b : Bool) → nat_eq k r ≡ b → k < r + 1 → Forgets topic (get_or old k each) (get_or new k each)
    go k each low true t lt = let same : r ≡ k = grind (arith, nat_tests, t) in subst (λ n. Forgets topic (get_or old n each) (get_or new n each)) same (here each)
    go k each low false t lt =
        let other : k ≢ r = λ same. true≢false (sym (let one : nat_eq k r ≡ true = grind (arith, nat_tests, same) in one) ∙ t) in
        subst (λ z. Forgets topic (get_or old k each) z) (sym (kept k each other)) (so_far.before k each (omega (arith, lt, other)) low)

pub all_forget : (topic : List ℕ) (old new : List Run) → length new ≡ length old → ((k : ℕ) (run : Run) → k < length old → Forgets topic (get_or old k run) (get_or new k run)) → AllZip (Forgets topic) old new
all_forget topic [] [] long h = tt
all_forget topic [] (y ∷ ys) long h = absurd (omega (arith, long))
all_forget topic (x ∷ xs) [] long h = absurd (omega (arith, long))
all_forget topic (x ∷ xs) (y ∷ ys) long h = (h 0 x (omega arith), all_forget topic xs ys (omega (arith, long)) (λ k run lt. h (suc k) run (omega (arith, lt))))
