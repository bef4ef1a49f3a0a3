-- The runs and the topics of a bundle, as they are written line by line.
use Rattle.std.proofs.Common.{◌≡◌, ℕ, List, [], ◌∷◌, length, refl, ap, sym, subst, ◌∙◌, arith, rules, map, flat_map}
use Rattle.std.specs.Prelude.{codes}
use Rattle.std.proofs.lemmas.List.{length-map}
use Rattle.std.proofs.lemmas.List.Elements.{All-from_recursion, recursion_from_All}
use Rattle.line_forms.specs.Form.{Whole, Spells}
use Rattle.line_forms.specs.Places.{IsLaterName, count_line}
use Rattle.line_forms.specs.Rows.{named_rows}
use Rattle.line_forms.proofs.Cuts.{AreAbove}
use Rattle.line_forms.proofs.Forms.{IsPlain, bind_plain}
use Rattle.line_forms.proofs.Names.{follow_names, names_follow, rows_apart, rows_together}
use Rattle.line_forms.proofs.Plain.{name_and_count_plain, number_plain}
use Rattle.line_forms.proofs.Rows.{Kind, rows_forth, rows_back, rows_plain}
use Rattle.line_forms.proofs.Spelling.{line_forth, made_forth, made_back}
use Rattle.order_certificate.specs.Certificate.{AreDocuments, IsDocumentCount, IsTopicCount, document_line, topics_line}
use Rattle.order_certificate.specs.Places.{name_places, topics_place}
use Rattle.order_certificate.proofs.RowKinds.{doc_above, names_back, names_forth, names_plain}
use Rattle.order_certificate.proofs.Whole.{topics_plain}
use Rattle.order_bundle.specs.Bundle.{AreBundleRuns, AreTopicNames, IsRunCount, number_line, run_line, topic_lines}
use Rattle.order_bundle.specs.Places.{listed_topic, run_places, runs_place, topic_place, topic_places, topics_places}
use Rattle.order_bundle.specs.declared.bundle.TopicNames.{TopicNames}

-- ---- runs
pub run_above : AreAbove 10 (codes "run ")
run_above = search rules

pub runs_place_plain : IsPlain runs_place
runs_place_plain = number_plain (codes "runs ") (search rules) IsRunCount (λ n fits. omega (arith, fits))

pub runs_plain : IsPlain run_places
runs_plain = bind_plain runs_place (name_places (codes "run ")) runs_place_plain (names_plain (codes "run ") run_above)

pub runs_forth : (ls : List (List ℕ)) (names : List (List ℕ)) → Spells run_places ls names → AreBundleRuns names × (ls ≡ number_line (codes "runs ") (length names) ∷ map run_line names)
runs_forth ls names s =
    let head = line_forth (number_line (codes "runs ")) IsRunCount (name_places (codes "run ")) ls names s in
    let n = names_forth (codes "run ") run_above head.0 head.1 names head.4 in (
      record { count = subst IsRunCount (sym n.0) head.2; ascending = n.1 },
      head.3 ∙ ap (λ zs. number_line (codes "runs ") head.0 ∷ zs) n.2 ∙ ap (λ k. number_line (codes "runs ") k ∷ map run_line names) (sym n.0),
    )

pub runs_back : (names : List (List ℕ)) → AreBundleRuns names → Spells run_places (number_line (codes "runs ") (length names) ∷ map run_line names) names
runs_back names are = (length names, are.count, refl, names_back (codes "run ") run_above names are.ascending)

-- ---- topics with their documents
abbrev pub with_docs : List ℕ → List (List ℕ) → TopicNames
with_docs topic docs = record { topic = topic; docs = docs }

abbrev topic_head : List ℕ × ℕ → List ℕ
topic_head p = count_line (codes "topic ") p.0 p.1

abbrev IsTopicHead : List ℕ → List ℕ × ℕ → Type 0
IsTopicHead before p = IsLaterName before p.0 × IsDocumentCount p.1

abbrev pub HasDocuments : TopicNames → Type 0
HasDocuments t = AreDocuments t.docs

abbrev pub TopicFollows : List ℕ → TopicNames → Type 0
TopicFollows before t = IsLaterName before t.topic × HasDocuments t

topic_forth : (before : List ℕ) (ls : List (List ℕ)) (t : TopicNames) → Spells (topic_places before) ls t → TopicFollows before t × (ls ≡ topic_lines t)
topic_forth before ls t s =
    let head = line_forth topic_head (IsTopicHead before) (λ p. listed_topic p.0 p.1) ls t s in
    let p = head.0 in
    let made = made_forth (name_places (codes "doc ") p.1) (with_docs p.0) head.1 t head.4 in
    let docs = names_forth (codes "doc ") doc_above p.1 head.1 made.0 made.2 in
    let are : AreDocuments made.0 = record { count = subst IsDocumentCount (sym docs.0) head.2.1; ascending = docs.1 } in
    let lines : ls ≡ topic_lines (with_docs p.0 made.0) =
    head.3 ∙ ap (λ zs. topic_head p ∷ zs) docs.2 ∙ ap (λ n. count_line (codes "topic ") p.0 n ∷ map document_line made.0) (sym docs.0) in
    subst (λ z. TopicFollows before z × (ls ≡ topic_lines z)) made.1 ((head.2.0, are), lines)

topic_back : (before : List ℕ) (t : TopicNames) → TopicFollows before t → Spells (topic_places before) (topic_lines t) t
topic_back before t fits =
    ((t.topic, length t.docs), (fits.0, fits.1.count), refl, made_back (name_places (codes "doc ") (length t.docs)) (with_docs t.topic) (map document_line t.docs) t.docs (names_back (codes "doc ") doc_above t.docs fits.1.ascending))

pub topic_place_plain : (before : List ℕ) → IsPlain (topic_place before)
topic_place_plain = name_and_count_plain (codes "topic ") (search rules) IsDocumentCount (λ n le. omega arith)

pub listed_plain : (topic : List ℕ) (n : ℕ) → IsPlain (listed_topic topic n)
listed_plain topic n = bind_plain (name_places (codes "doc ") n) (λ docs. Whole (with_docs topic docs)) (names_plain (codes "doc ") doc_above n) (λ docs. tt)

topic_plain : (before : List ℕ) → IsPlain (topic_places before)
topic_plain before = bind_plain (topic_place before) (λ p. listed_topic p.0 p.1) (topic_place_plain before) (λ p. listed_plain p.0 p.1)

pub topic_kind : Kind topic_places topic_lines TopicFollows
topic_kind = record { forth = topic_forth; back = topic_back; plain = topic_plain }

abbrev pub topic_name : TopicNames → List ℕ
topic_name t = t.topic

pub listed_topics_plain : (n : ℕ) → IsPlain (named_rows topic_places topic_name n)
listed_topics_plain n = rows_plain topic_places (λ _ t. topic_name t) topic_lines TopicFollows topic_kind n []

pub topic_names_plain : IsPlain topics_places
topic_names_plain = bind_plain topics_place (named_rows topic_places topic_name) topics_plain listed_topics_plain

pub topics_forth : (ls : List (List ℕ)) (ts : List TopicNames) → Spells topics_places ls ts → AreTopicNames ts × (ls ≡ topics_line (length ts) ∷ flat_map topic_lines ts)
topics_forth ls ts s =
    let head = line_forth topics_line IsTopicCount (named_rows topic_places topic_name) ls ts s in
    let h = rows_forth topic_places (λ _ t. topic_name t) topic_lines TopicFollows topic_kind head.0 [] head.1 ts head.4 in
    let apart = rows_apart topic_name HasDocuments [] ts h.1 in
    let count : length (map topic_name ts) ≡ head.0 = length-map ts topic_name ∙ h.0 in (
      record {
        names = record { count = subst IsTopicCount (sym count) head.2; ascending = follow_names (map topic_name ts) apart.0 };
        docs = All-from_recursion HasDocuments ts apart.1;
      },
      head.3 ∙ ap (λ zs. topics_line head.0 ∷ zs) h.2 ∙ ap (λ k. topics_line k ∷ flat_map topic_lines ts) (sym h.0),
    )

pub topics_back : (ts : List TopicNames) → AreTopicNames ts → Spells topics_places (topics_line (length ts) ∷ flat_map topic_lines ts) ts
topics_back ts are = (
  length ts,
  subst IsTopicCount (length-map ts topic_name) are.names.count,
  refl,
  rows_back topic_places (λ _ t. topic_name t) topic_lines TopicFollows topic_kind ts [] (rows_together topic_name HasDocuments [] ts (names_follow (map topic_name ts) are.names.ascending) (recursion_from_All HasDocuments ts are.docs)),
)
