-- The marks of a topic's documents, one by one.
use Rattle.std.proofs.Common.{◌≡◌, ℕ, ◌+◌, ◌<◌, ◌≤◌, Bool, true, List, [], ◌∷◌, ◌++◌, map, length, get_or, take, Option, Some, None, ℤ, ap, ◌∙◌, arith}
use Rattle.std.specs.List.{range_with_len}
use Rattle.std.specs.Option.{option_map_or}
use Rattle.std.proofs.lemmas.List.{map-append, take_more, length-map, length-take-le, get_or-map}
use Rattle.std.proofs.lemmas.List.FromFn.{length-range_with_len, get_or-range_with_len, map-range_with_len_more}
use Rattle.desk_model.specs.Book.{Book}
use Rattle.desk_model.specs.Desk.{Desk, file_marks, is_pooled}
use Rattle.desk_model.specs.Mark.{mark_of}
use Rattle.desk_model.specs.Pool.{docs_of}
use Rattle.desk_model.specs.declared.types.Mark.{Mark}
use Rattle.desk_model.proofs.Nested.{take-there}
use Rattle.std.specs.Prelude.{slice_get}
use Rattle.desk_model.specs.Closing.{closed, closed_topic, closed_under}
use Rattle.desk_model.proofs.Numbered.{numbered-push, numbered-same_within}

pub row_more : (p : ℕ → Bool) (level : ℕ) (grades : List (Option ℤ)) (doc : ℕ) → doc < length grades →
    closed_topic p (map (λ grade. mark_of grade level) (take (doc + 1) grades)) ≡ closed_topic p (map (λ grade. mark_of grade level) (take doc grades)) ++ closed (p doc) (mark_of (get_or grades doc None) level) ∷ []
row_more p level grades doc lt =
    let mk = λ (grade : Option ℤ). mark_of grade level in
    let before = map mk (take doc grades) in
    let long : 0 + length before ≡ doc = omega (arith, length-map (take doc grades) mk, length-take-le doc grades (omega (arith, lt))) in
    ap (λ gs. closed_topic p (map mk gs)) (take_more grades doc None lt)
    ∙ ap (closed_topic p) (map-append mk (take doc grades) (get_or grades doc None ∷ []))
    ∙ numbered-push (λ d m. closed (p d) m) 0 before (mk (get_or grades doc None))
    ∙ ap (λ k. closed_topic p before ++ closed (p k) (mk (get_or grades doc None)) ∷ []) long

-- two pools that agree on the documents
pub same_row : (p q : ℕ → Bool) (marks : List Mark) → ((doc : ℕ) → doc < length marks → p doc ≡ q doc) → closed_topic p marks ≡ closed_topic q marks
same_row p q marks h = numbered-same_within (λ d m. closed (p d) m) (λ d m. closed (q d) m) 0 marks (λ d m le lt. ap (λ b. closed b m) (h d (omega (arith, lt))))

pub rows_more : (desk : Desk) (depth level t : ℕ) (topics : List Book) (book : Book) → slice_get topics t ≡ Some book → t ≤ length topics →
    closed_under desk (Some depth) (map (file_marks level) (take (t + 1) topics)) ≡ closed_under desk (Some depth) (map (file_marks level) (take t topics)) ++ closed_topic (is_pooled desk t depth) (file_marks level book) ∷ []
rows_more desk depth level t topics book e le =
    let before = map (file_marks level) (take t topics) in
    let long : 0 + length before ≡ t = omega (arith, length-map (take t topics) (file_marks level), length-take-le t topics le) in
    ap (λ bs. closed_under desk (Some depth) (map (file_marks level) bs)) (take-there topics t book e)
    ∙ ap (closed_under desk (Some depth)) (map-append (file_marks level) (take t topics) (book ∷ []))
    ∙ numbered-push (λ k ms. closed_topic (is_pooled desk k depth) ms) 0 before (file_marks level book)
    ∙ ap (λ k. closed_under desk (Some depth) before ++ closed_topic (is_pooled desk k depth) (file_marks level book) ∷ []) long

pub pools_more : {X : Type 0} (f : ℕ → X) (t : ℕ) → map f (range_with_len 0 (t + 1)) ≡ map f (range_with_len 0 t) ++ f t ∷ []
pools_more f t = map-range_with_len_more f 0 t t (omega arith)

-- whether a document is in the pool, by the list of the topic
pub pool_at : (desk : Desk) (t depth : ℕ) (book : Book) (doc : ℕ) → slice_get desk.topics t ≡ Some book → doc < length book.docs → get_or (map (is_pooled desk t depth) (docs_of desk t)) doc true ≡ is_pooled desk t depth doc
pool_at desk t depth book doc e lt =
    let count : length (docs_of desk t) ≡ length book.docs = length-range_with_len 0 _ ∙ ap (λ o. option_map_or (λ (b : Book). length b.docs) o 0) e in
    let size : option_map_or (λ (b : Book). length b.docs) (slice_get desk.topics t) 0 ≡ length book.docs = ap (λ o. option_map_or (λ (b : Book). length b.docs) o 0) e in
    let is : 0 + doc ≡ doc = omega arith in
    get_or-map (is_pooled desk t depth) (docs_of desk t) doc 0 true (omega (arith, lt, count))
    ∙ ap (is_pooled desk t depth) (get_or-range_with_len 0 _ doc 0 (omega (arith, lt, size)) ∙ is)
