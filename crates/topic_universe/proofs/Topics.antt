-- Topics of which the names and the rows are kept in two lists.
use Rattle.std.proofs.Common.{◌≡◌, ℕ, List, [], ◌∷◌, ◌++◌, length, refl, sym, subst, arith}
use Rattle.std.specs.Prelude.{All}
use Rattle.std.specs.List.Sorted.{IsStrictlySortedBy}
use Rattle.std.proofs.lemmas.List.Elements.{All-nil, All-cons, All-head, All-tail}
use Rattle.std.proofs.lemmas.List.Sorted.{IsPermutation-refl}
use Rattle.file_rows.specs.Grouped.{Valued, TopicRows, row_count, name_bytes_in}
use Rattle.file_rows.specs.Names.{topics_in}
use Rattle.file_rows.proofs.RowFiles.{Holds, topic_with}
use Rattle.topic_universe.specs.Order.{IsTrecOrder}
use Rattle.topic_universe.specs.Universe.{AreRankedNumbers}

pub held_in : {names : List (List ℕ)} {rows : List (List Valued)} {topics : List TopicRows} → length names ≡ length rows → topics_in names rows ≡ topics → Holds names rows (row_count topics) (name_bytes_in topics) topics
held_in matched is = record { matched = matched; topics_are = is; rows_counted = refl; bytes_counted = refl }

-- what holds of the rows of each topic
pub all_in : (P : List Valued → Type 0) (names : List (List ℕ)) (rows : List (List Valued)) → length names ≡ length rows → All (λ (topic : TopicRows). P topic.rows) (topics_in names rows) → All P rows
all_in P [] [] e h = All-nil P
all_in P [] (r ∷ rows) e h = absurd (omega arith)
all_in P (n ∷ names) [] e h = absurd (omega arith)
all_in P (n ∷ names) (r ∷ rows) e h =
    All-cons P r rows (All-head (λ (topic : TopicRows). P topic.rows) (topic_with n r) (topics_in names rows) h)
    (all_in P names rows (omega arith) (All-tail (λ (topic : TopicRows). P topic.rows) (topic_with n r) (topics_in names rows) h))

-- and of one that stands between others
pub all_there : {X : Type 0} (P : X → Type 0) (xs ys : List X) (x : X) → All P (xs ++ x ∷ ys) → P x
all_there P [] ys x h = All-head P x ys h
all_there P (z ∷ zs) ys x h = all_there P zs ys x (All-tail P z (zs ++ x ∷ ys) h)

-- no row is in order
pub none_in_order : (rows : List Valued) (names : List (List ℕ)) → rows ≡ [] → names ≡ [] → IsTrecOrder rows names
unfolding IsStrictlySortedBy
none_in_order rows names none empty =
    subst (λ rs. IsTrecOrder rs names) (sym none) (subst (IsTrecOrder []) (sym empty) (record { ranked = []; once = IsPermutation-refl []; ordered = tt; are_names = refl }))

pub none_ranked : (names : List (List ℕ)) (rows : List Valued) (numbers : List ℕ) → rows ≡ [] → numbers ≡ [] → AreRankedNumbers names rows numbers
none_ranked names rows numbers none empty =
    subst (AreRankedNumbers names rows) (sym empty) (record { within = λ k d lt. absurd (omega arith); order = none_in_order rows [] none refl })
