-- Rows that are grouped by their topics, one after the other.
use Rattle.std.proofs.Common.{◌≡◌, ℕ, ◌+◌, List, [], ◌∷◌, ◌++◌, length, true, false, cond, refl, ap, ap₂, sym, subst, ◌∙◌, arith}
use Rattle.std.specs.Prelude.{Bool, ◌||◌, map, filter, sum_by}
use Rattle.std.specs.List.{list_any}
use Rattle.std.specs.Str.{bytes_eq}
use Rattle.std.proofs.lemmas.List.{append-nil, length-map, length-append, map-append, append_assoc}
use Rattle.std.proofs.lemmas.List.Elements.{filter-append}
use Rattle.std.proofs.lemmas.List.Sums.{sum_by-cons, sum_by_push}
use Rattle.std.proofs.lemmas.Map.Steps.{list_any_congr}
use Rattle.file_rows.proofs.Mapped.{list_any-map}
use Rattle.small_lemmas.proofs.Tests.{neither}
use Rattle.desk_model.proofs.Names.{same_name}
use Rattle.file_rows.proofs.Seen.{laws, add_name, first_seen-append, IsDistinct, list_any-first_seen, IsDistinct-first_seen}
use Rattle.file_rows.proofs.Zipped.{counted-cons}
use Rattle.file_rows.specs.Rows.{rows_on, has_topic, has_document, name_bytes_of, topics_of, Row, first_seen}
use Rattle.file_rows.specs.Grouped.{topic_of, grouped, names_of, is_topic, bytes_in, Valued, TopicRows, valued_of, rows_in, with_row_on}
use Rattle.file_rows.proofs.RowFiles.{counted, topic_with}

-- where no test passes nothing is left
filter_none : {A : Type 0} (p : A → Bool) (xs : List A) → list_any p xs ≡ false → filter p xs ≡ []
filter_none p [] e = refl
filter_none p (x ∷ xs) e =
    let parts = neither (p x) (list_any p xs) e in
    ap (λ b. cond b (x ∷ filter p xs) (filter p xs)) parts.0 ∙ filter_none p xs parts.1

-- one for each is how many there are
ones : {A : Type 0} (xs : List A) → sum_by (λ (x : A). 1) xs ≡ length xs
ones [] = refl
ones {A} (x ∷ xs) = let h = sum_by-cons (λ (x : A). 1) x xs in omega (arith, h, ones xs)

-- what a row adds to the rows of a topic
pub rows_on-append : (name : List ℕ) (rows : List Row) (row : Row) (b : Bool) → bytes_eq name row.topic ≡ b → rows_on name (rows ++ row ∷ []) ≡ rows_on name rows ++ cond b (row ∷ []) []
rows_on-append name rows row b e =
    filter-append (λ r. bytes_eq name r.topic) rows (row ∷ []) ∙ ap (λ b. rows_on name rows ++ cond b (row ∷ []) []) e

-- the topics have the names of the rows' topics
pub names-grouped : (rows : List Row) → names_of (grouped rows) ≡ topics_of rows
names-grouped rows = by (topics_of rows)
  where
    by : (ns : List (List ℕ)) → names_of (map (topic_of rows) ns) ≡ ns
    by [] = refl
    by (n ∷ ns) = ap (λ ns. n ∷ ns) (by ns)

pub has_topic-topics : (name : List ℕ) (rows : List Row) → list_any (bytes_eq name) (topics_of rows) ≡ has_topic name rows
has_topic-topics name rows = list_any-first_seen name (map (λ (row : Row). row.topic) rows) ∙ sym (list_any-map (bytes_eq name) (λ (row : Row). row.topic) rows)

pub is_topic-grouped : (name : List ℕ) (rows : List Row) → is_topic name (grouped rows) ≡ has_topic name rows
is_topic-grouped name rows = ap (list_any (bytes_eq name)) (names-grouped rows) ∙ has_topic-topics name rows

-- where rows have no topic of a name, none of them stands on it
none_on : (name : List ℕ) (rows : List Row) → list_any (bytes_eq name) (topics_of rows) ≡ false → rows_on name rows ≡ []
none_on name rows e = filter_none (λ r. bytes_eq name r.topic) rows (sym (has_topic-topics name rows) ∙ e)

-- topics before and after one more row
module _ (rows : List Row) (row : Row) where
  abbrev before : List ℕ → TopicRows
  before = topic_of rows

  abbrev after : List ℕ → TopicRows
  after = topic_of (rows ++ row ∷ [])

  -- a topic with the row
  abbrev with_it : List ℕ → TopicRows
  with_it name = topic_with name (map valued_of (rows_on name rows) ++ valued_of row ∷ [])

  other : (name : List ℕ) → bytes_eq row.topic name ≡ false → after name ≡ before name
  other name e =
      ap (λ rs. topic_with name (map valued_of rs)) (rows_on-append name rows row false (laws.symm name row.topic ∙ e) ∙ append-nil (rows_on name rows))

  own : (name : List ℕ) → bytes_eq row.topic name ≡ true → after name ≡ with_it name
  own name e =
      ap (λ rs. topic_with name (map valued_of rs)) (rows_on-append name rows row true (laws.symm name row.topic ∙ e))
      ∙ ap (topic_with name) (map-append valued_of (rows_on name rows) (row ∷ []))

  others : (ns : List (List ℕ)) → list_any (bytes_eq row.topic) ns ≡ false → map after ns ≡ map before ns
  others [] e = refl
  others (n ∷ ns) e =
      let parts = neither (bytes_eq row.topic n) (list_any (bytes_eq row.topic) ns) e in
      ap₂ (λ x xs. x ∷ xs) (other n parts.0) (others ns parts.1)

  added : (ns : List (List ℕ)) → IsDistinct ns → (list_any (bytes_eq row.topic) ns ≡ false → rows_on row.topic rows ≡ []) → map after (add_name ns row.topic) ≡ with_row_on (map before ns) row
  added [] d none =
      let name = row.topic in
      ap (λ x. x ∷ []) (own name (laws.refl name) ∙ ap (λ rs. topic_with name (map valued_of rs ++ valued_of row ∷ [])) (none refl))
  added (n ∷ ns) d none =
      by (added ns d.1) (bytes_eq row.topic n) refl
    where
      by : ((list_any (bytes_eq row.topic) ns ≡ false → rows_on row.topic rows ≡ []) → map after (add_name ns row.topic) ≡ with_row_on (map before ns) row) → (b : Bool) → bytes_eq row.topic n ≡ b
          → map after (cond b (n ∷ ns) (n ∷ add_name ns row.topic)) ≡ cond b (with_it n ∷ map before ns) (before n ∷ with_row_on (map before ns) row)
      by rest true e = ap₂ (λ x xs. x ∷ xs) (own n e) (others ns (list_any_congr laws row.topic n ns e ∙ d.0))
      by rest false e = ap₂ (λ x xs. x ∷ xs) (other n e) (rest (λ f. none (ap₂ (λ a b. a || b) e f)))

  -- one more row
  pub grouped-append : grouped (rows ++ row ∷ []) ≡ with_row_on (grouped rows) row
  grouped-append =
      ap (λ ns. map after (first_seen ns)) (map-append (λ (row : Row). row.topic) rows (row ∷ []))
      ∙ ap (map after) (first_seen-append (map (λ (row : Row). row.topic) rows) row.topic)
      ∙ added (topics_of rows) (IsDistinct-first_seen (map (λ (row : Row). row.topic) rows)) (none_on row.topic rows)

on_names : (name : List ℕ) (rows : List Row) (ns : List (List ℕ)) → rows_in name (map (topic_of rows) ns) ≡ cond (list_any (bytes_eq name) ns) (map valued_of (rows_on name rows)) []
on_names name rows [] = refl
on_names name rows (n ∷ ns) =
    by (on_names name rows ns) (bytes_eq name n) refl
  where
    by : rows_in name (map (topic_of rows) ns) ≡ cond (list_any (bytes_eq name) ns) (map valued_of (rows_on name rows)) [] → (b : Bool) → bytes_eq name n ≡ b
        → cond b (map valued_of (rows_on n rows)) (rows_in name (map (topic_of rows) ns)) ≡ cond (b || list_any (bytes_eq name) ns) (map valued_of (rows_on name rows)) []
    by rest true e = ap (λ m. map valued_of (rows_on m rows)) (sym (same_name name n e))
    by rest false e = rest

pub members_on-grouped : (name : List ℕ) (rows : List Row) → rows_in name (grouped rows) ≡ map valued_of (rows_on name rows)
members_on-grouped name rows = on_names name rows (topics_of rows) ∙ by (list_any (bytes_eq name) (topics_of rows)) refl
  where
    by : (b : Bool) → list_any (bytes_eq name) (topics_of rows) ≡ b → cond b (map valued_of (rows_on name rows)) [] ≡ map valued_of (rows_on name rows)
    by true e = refl
    by false e = sym (ap (map valued_of) (none_on name rows e))

pub repeated : (name document : List ℕ) (rows : List Row) → list_any (λ member. bytes_eq document member.document) (rows_in name (grouped rows)) ≡ has_document name document rows
repeated name document rows =
    ap (list_any (λ member. bytes_eq document member.document)) (members_on-grouped name rows)
    ∙ sym (list_any-map (λ member. bytes_eq document member.document) valued_of (rows_on name rows))

-- what is counted over the members of each topic is what is counted over the rows
module _ (count : List Valued → ℕ) (weight : Row → ℕ) (none : count [] ≡ 0) (more : (ms : List Valued) (row : Row) → count (ms ++ valued_of row ∷ []) ≡ count ms + weight row) where
  counted-with_row : (ts : List TopicRows) (row : Row) → counted count (with_row_on ts row) ≡ counted count ts + weight row
  counted-with_row [] row =
      let one = counted-cons count (topic_with row.topic (valued_of row ∷ [])) [] in
      omega (arith, one, more [] row, none)
  counted-with_row (x ∷ ts) row = by (counted-with_row ts row) (bytes_eq row.topic x.name)
    where
      by : counted count (with_row_on ts row) ≡ counted count ts + weight row → (b : Bool)
          → counted count (cond b (topic_with x.name (x.rows ++ valued_of row ∷ []) ∷ ts) (x ∷ with_row_on ts row)) ≡ counted count (x ∷ ts) + weight row
      by rest true =
          omega (arith, counted-cons count (topic_with x.name (x.rows ++ valued_of row ∷ [])) ts, counted-cons count x ts, more x.rows row)
      by rest false = omega (arith, counted-cons count x (with_row_on ts row), counted-cons count x ts, rest)

  counted_on : (done rest : List Row) → counted count (grouped done) ≡ sum_by weight done → counted count (grouped (done ++ rest)) ≡ sum_by weight (done ++ rest)
  counted_on done [] e = subst (λ rows. counted count (grouped rows) ≡ sum_by weight rows) (sym (append-nil done)) e
  counted_on done (row ∷ rest) e =
      let step = ap (counted count) (grouped-append done row) ∙ counted-with_row (grouped done) row in
      let one : counted count (grouped (done ++ row ∷ [])) ≡ sum_by weight (done ++ row ∷ []) = omega (arith, step, sum_by_push weight done row, e) in
      subst (λ rows. counted count (grouped rows) ≡ sum_by weight rows) (append_assoc done (row ∷ []) rest) (counted_on (done ++ row ∷ []) rest one)

pub row_count-with_row : (ts : List TopicRows) (row : Row) → counted length (with_row_on ts row) ≡ counted length ts + 1
row_count-with_row = counted-with_row length (λ row. 1) refl (λ ms row. length-append ms (valued_of row ∷ []))

pub row_count-grouped : (rows : List Row) → counted length (grouped rows) ≡ length rows
row_count-grouped rows = counted_on length (λ row. 1) refl (λ ms row. length-append ms (valued_of row ∷ [])) [] rows refl ∙ ones rows

bytes_more : (ms : List Valued) (row : Row) → bytes_in (ms ++ valued_of row ∷ []) ≡ bytes_in ms + length row.document
bytes_more ms row = sum_by_push (λ member. length member.document) ms (valued_of row)

pub name_bytes_in-with_row : (ts : List TopicRows) (row : Row) → counted bytes_in (with_row_on ts row) ≡ counted bytes_in ts + length row.document
name_bytes_in-with_row = counted-with_row bytes_in (λ row. length row.document) refl bytes_more

pub name_bytes_in-grouped : (rows : List Row) → counted bytes_in (grouped rows) ≡ name_bytes_of rows
name_bytes_in-grouped rows = counted_on bytes_in (λ row. length row.document) refl bytes_more [] rows refl

pub length-grouped : (rows : List Row) → length (grouped rows) ≡ length (topics_of rows)
length-grouped rows = length-map (topics_of rows) (topic_of rows)
