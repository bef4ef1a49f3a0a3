-- The judgements in force, topic by topic.
use Rattle.std.proofs.Common.{◌≡◌, ℕ, ◌+◌, ◌<◌, ◌≤◌, List, [], ◌∷◌, ◌++◌, length, map, take, Option, Some, ℤ, ap, sym, ◌∙◌, append-nil, arith}
use Rattle.std.specs.Prelude.{flat_map, slice_get}
use Rattle.std.specs.List.{zip, range_with_len}
use Rattle.std.proofs.lemmas.Grind.{flat_map-append}
use Rattle.std.proofs.lemmas.List.{take_all}
use Rattle.std.proofs.lemmas.List.FromFn.{get_or-map-range_with_len, length-map-range_with_len}
use Rattle.std.proofs.lemmas.Option.{slice_get-get_or}
use Rattle.small_lemmas.proofs.Lists.{slice_get-zip}
use Rattle.desk_model.specs.Book.{Book}
use Rattle.desk_model.specs.Desk.{Desk}
use Rattle.desk_model.proofs.Nested.{length-zip, take-there}
use Rattle.desk_report.specs.Judging.{topic_qrels_text, qrels_text}
use Rattle.judge_session.specs.declared.change.Change.{Change}
use Rattle.judge_session.specs.InForce.{grades_in_force}
use Rattle.desk_model.specs.Named.{book_at}
use Rattle.session_replies.specs.Replies.{all_in_force}

abbrev Judged : Type 0
Judged = Book × List (Option ℤ)

-- the topics with their grades in force
abbrev pub judged_topics : Desk → List Change → List Judged
judged_topics desk changes = zip desk.topics (all_in_force desk changes)

-- the text of the first topics
abbrev pub text_to : Desk → List Change → ℕ → List ℕ
text_to desk changes t = flat_map (λ (p : Judged). topic_qrels_text p.0 p.1) (take t (judged_topics desk changes))

one_more : (f : Judged → List ℕ) (ps : List Judged) (p : Judged) → flat_map f (ps ++ p ∷ []) ≡ flat_map f ps ++ f p
one_more f ps p = flat_map-append f ps (p ∷ []) ∙ ap (λ t. flat_map f ps ++ t) (append-nil (f p))

topic_there : (desk : Desk) (changes : List Change) (t : ℕ) → t < length desk.topics → slice_get (judged_topics desk changes) t ≡ Some (book_at desk t, grades_in_force desk t changes)
topic_there desk changes t lt =
    let n = length desk.topics in
    let f = λ (topic : ℕ). grades_in_force desk topic changes in
    let all = map f (range_with_len 0 n) in
    let within : t < length all = omega (arith, lt, length-map-range_with_len f 0 n) in
    slice_get-zip desk.topics all t (book_at desk t) (f t) (slice_get-get_or desk.topics t (record { name = []; docs = []; grades = [] }) lt)
    (slice_get-get_or all t [] within ∙ ap Some (get_or-map-range_with_len f 0 n t t [] lt (omega arith)))

-- one more topic
pub more_topics : (desk : Desk) (changes : List Change) (t : ℕ) (before now : List ℕ) → t < length desk.topics → before ≡ text_to desk changes t → now ≡ before ++ topic_qrels_text (book_at desk t) (grades_in_force desk t changes) → now ≡ text_to desk changes (t + 1)
more_topics desk changes t before now lt is more =
    let all = judged_topics desk changes in
    let f = λ (p : Judged). topic_qrels_text p.0 p.1 in
    more ∙ ap (λ text. text ++ f (book_at desk t, grades_in_force desk t changes)) is ∙ sym (one_more f (take t all) (book_at desk t, grades_in_force desk t changes))
    ∙ sym (ap (flat_map f) (take-there all t (book_at desk t, grades_in_force desk t changes) (topic_there desk changes t lt)))

-- all topics
pub all_topics : (desk : Desk) (changes : List Change) (t : ℕ) (text : List ℕ) → length desk.topics ≤ t → text ≡ text_to desk changes t → text ≡ qrels_text desk (all_in_force desk changes)
all_topics desk changes t text end is =
    let all = judged_topics desk changes in
    let same : length (all_in_force desk changes) ≡ length desk.topics = length-map-range_with_len (λ topic. grades_in_force desk topic changes) 0 (length desk.topics) in
    is ∙ ap (flat_map (λ (p : Judged). topic_qrels_text p.0 p.1)) (take_all t all (omega (arith, end, length-zip desk.topics (all_in_force desk changes) same)))
