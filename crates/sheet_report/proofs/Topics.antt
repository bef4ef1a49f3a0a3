-- The judgements on topics, one topic after the other.
use Rattle.std.proofs.Common.{◌≡◌, ℕ, ◌+◌, ◌≤◌, List, [], ◌∷◌, ◌++◌, length, take, Option, Some, ℤ, ap, sym, ◌∙◌, append-nil, arith}
use Rattle.std.specs.Prelude.{flat_map, slice_get}
use Rattle.std.specs.List.{zip}
use Rattle.std.proofs.lemmas.Grind.{flat_map-append}
use Rattle.std.proofs.lemmas.List.{take_all}
use Rattle.small_lemmas.proofs.Lists.{slice_get-zip}
use Rattle.desk_model.specs.Book.{Book}
use Rattle.desk_model.specs.Desk.{Desk}
use Rattle.desk_model.proofs.Nested.{length-zip, take-there}
use Rattle.desk_report.specs.Judging.{topic_qrels_text, qrels_text}

-- the text of a topic with its grades
abbrev text_on : Book × List (Option ℤ) → List ℕ
text_on judged = topic_qrels_text judged.0 judged.1

-- the text of the first topics
abbrev pub text_to : List Book → List (List (Option ℤ)) → ℕ → List ℕ
text_to books grades t = flat_map text_on (take t (zip books grades))

-- one more topic
pub more_topics : (books : List Book) (grades : List (List (Option ℤ))) (t : ℕ) (book : Book) (own : List (Option ℤ)) (before now : List ℕ) → slice_get books t ≡ Some book → slice_get grades t ≡ Some own → before ≡ text_to books grades t → now ≡ before ++ topic_qrels_text book own → now ≡ text_to books grades (t + 1)
more_topics books grades t book own before now there graded is more =
    let first = take t (zip books grades) in
    more ∙ ap (λ text. text ++ text_on (book, own)) is
    ∙ sym (flat_map-append text_on first ((book, own) ∷ []) ∙ ap (λ text. flat_map text_on first ++ text) (append-nil (text_on (book, own))))
    ∙ sym (ap (flat_map text_on) (take-there (zip books grades) t (book, own) (slice_get-zip books grades t book own there graded)))

-- all topics
pub all_topics : (desk : Desk) (grades : List (List (Option ℤ))) (t : ℕ) (text : List ℕ) → length grades ≡ length desk.topics → length desk.topics ≤ t → text ≡ text_to desk.topics grades t → text ≡ qrels_text desk grades
all_topics desk grades t text same end is = is ∙ ap (flat_map text_on) (take_all t (zip desk.topics grades) (omega (arith, end, length-zip desk.topics grades same)))
