-- What holds of the names and documents of rows, and so of their topics.
use Rattle.std.proofs.Common.{◌≡◌, ℕ, List, [], ◌∷◌, ◌++◌, get_or, true, false, refl, ap, sym, subst, ◌∙◌}
use Rattle.std.specs.Prelude.{Bool, map, filter, All}
use Rattle.std.specs.List.{list_any, IsDistinct as AllDiffer}
use Rattle.std.specs.Str.{bytes_eq}
use Rattle.std.proofs.lemmas.List.{append-nil, map-append}
use Rattle.std.proofs.lemmas.List.Elements.{All-cons, All-head, All-tail, All-map, All-filter}
use Rattle.desk_model.specs.Name.{is_name}
use Rattle.file_rows.proofs.Mapped.{list_any-map, map-map}
use Rattle.desk_model.proofs.Names.{same_name}
use Rattle.file_rows.proofs.Seen.{others, IsDistinct, IsDistinct-first_seen, IsDistinct-push, all_differ}
use Rattle.file_rows.proofs.Grouping.{names-grouped, rows_on-append}
use Rattle.file_rows.specs.Rows.{rows_on, has_document, topics_of, Row, first_seen}
use Rattle.file_rows.specs.Grouped.{topic_of, grouped, names_of, Valued, TopicRows, valued_of}

all_first_seen : (P : List ℕ → Type 0) (xs : List (List ℕ)) → All P xs → All P (first_seen xs)
all_first_seen P [] h = h
all_first_seen P (x ∷ xs) h =
    All-cons P x (filter (others x) (first_seen xs)) (All-head P x xs h) (All-filter (others x) P (first_seen xs) (all_first_seen P xs (All-tail P x xs h)))

-- the topic and the document of a row are names
abbrev pub IsNamed : Row → Type 0
IsNamed row = (is_name row.topic ≡ true) × (is_name row.document ≡ true)

-- the documents of a topic differ after one more row whose document is new
pub documents_more : (rows : List Row) (row : Row) (name : List ℕ) → IsDistinct (map (λ (row : Row). row.document) (rows_on name rows)) → has_document row.topic row.document rows ≡ false → IsDistinct (map (λ (row : Row). row.document) (rows_on name (rows ++ row ∷ [])))
documents_more rows row name distinct new = by (bytes_eq name row.topic) refl
  where
    absent : bytes_eq name row.topic ≡ true → list_any (bytes_eq row.document) (map (λ (row : Row). row.document) (rows_on name rows)) ≡ false
    absent e =
        sym (list_any-map (bytes_eq row.document) (λ (row : Row). row.document) (rows_on name rows))
        ∙ ap (λ n. list_any (λ r. bytes_eq row.document r.document) (rows_on n rows)) (same_name name row.topic e) ∙ new

    by : (b : Bool) → bytes_eq name row.topic ≡ b → IsDistinct (map (λ (row : Row). row.document) (rows_on name (rows ++ row ∷ [])))
    by true e =
        subst IsDistinct (sym (ap (map (λ (row : Row). row.document)) (rows_on-append name rows row true e) ∙ map-append (λ (row : Row). row.document) (rows_on name rows) (row ∷ [])))
        (IsDistinct-push (map (λ (row : Row). row.document) (rows_on name rows)) row.document distinct (absent e))
    by false e = subst IsDistinct (sym (ap (map (λ (row : Row). row.document)) (rows_on-append name rows row false e ∙ append-nil (rows_on name rows)))) distinct

-- what holds of each row's topic holds of the names of the topics
pub names_right : (P : List ℕ → Type 0) (rows : List Row) → All (λ row. P row.topic) rows → All P (names_of (grouped rows))
names_right P rows h = subst (All P) (sym (names-grouped rows)) (all_first_seen P (map (λ (row : Row). row.topic) rows) (All-map P (λ (row : Row). row.topic) rows h))

pub names_differ : (rows : List Row) → AllDiffer bytes_eq (names_of (grouped rows))
names_differ rows = subst (AllDiffer bytes_eq) (sym (names-grouped rows)) (all_differ (topics_of rows) (IsDistinct-first_seen (map (λ (row : Row). row.topic) rows)))

-- what holds of the members that the rows of each name make holds of the members of each topic
pub members_right : (P : List Valued → Type 0) (rows : List Row) → ((name : List ℕ) → P (map valued_of (rows_on name rows))) → All (λ topic. P topic.rows) (grouped rows)
members_right P rows h = All-map (λ topic. P topic.rows) (topic_of rows) (topics_of rows) (λ k d lt. of_topic (get_or (topics_of rows) k d))
  where
    of_topic : (name : List ℕ) → P ((λ (topic : TopicRows). topic.rows) (topic_of rows name))
    of_topic name = h name

pub documents_right : (P : List ℕ → Type 0) (rows : List Row) → All (λ row. P row.document) rows → All (λ topic. All (λ member. P member.document) topic.rows) (grouped rows)
documents_right P rows h =
    members_right (All (λ member. P member.document)) rows
    (λ name. All-map (λ member. P member.document) valued_of (rows_on name rows) (All-filter (λ r. bytes_eq name r.topic) (λ r. P r.document) rows h))

pub documents_differ : (rows : List Row) → ((name : List ℕ) → IsDistinct (map (λ (row : Row). row.document) (rows_on name rows))) → All (λ topic. AllDiffer bytes_eq (map (λ (valued : Valued). valued.document) topic.rows)) (grouped rows)
documents_differ rows h =
    members_right (λ members. AllDiffer bytes_eq (map (λ (valued : Valued). valued.document) members)) rows
    (λ name. subst (AllDiffer bytes_eq) (sym (map-map (λ (valued : Valued). valued.document) valued_of (λ (row : Row). row.document) (λ row. refl) (rows_on name rows))) (all_differ (map (λ (row : Row). row.document) (rows_on name rows)) (h name)))
