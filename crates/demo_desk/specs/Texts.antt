-- The texts of the demo: judgements and eight runs of 50 topics, by a seed.
use Rattle.std.specs.Prelude.{ℕ, ◌+◌, ◌*◌, ◌/◌, ◌%◌, Bool, ◌||◌, ◌==◌, List, [], ◌∷◌, ◌++◌, if◌then◌else◌, map, flat_map, drop, codes, decimal, pos}
use Rattle.std.specs.List.{range_with_len}
use Rattle.desk_report.specs.Judging.{qrels_line}
use Rattle.desk_report.specs.Table.{ended}
use Rattle.demo_desk.specs.Draws.{state_after, drawn}
use Rattle.demo_desk.specs.declared.sizes.TheConstants.{TOPICS, DOCUMENTS, PLACES}

-- topics 401 to 450, by their numbers from 0
abbrev pub topic_text : ℕ → List ℕ
topic_text topic = decimal (401 + topic)

-- documents D0000 to D1999
abbrev pub document_text : ℕ → List ℕ
document_text doc = 68 ∷ drop 1 (decimal (10000 + doc))

-- runs S1 to S8, by their numbers from 0
abbrev pub tag_text : ℕ → List ℕ
tag_text run = 83 ∷ decimal (1 + run)

-- a score in thousandths, with three digits after the point
abbrev pub score_text : ℕ → List ℕ
score_text score = decimal (score / 1000) ++ 46 ∷ drop 1 (decimal (1000 + score % 1000))

-- a document is listed where the value of its draw ends in 0, and the first one always
abbrev pub is_listed : ℕ → ℕ → Bool
is_listed doc value = value % 10 == 0 || doc == 0

-- its grade is the rest of the value modulo 3
abbrev pub grade_by : ℕ → ℕ
grade_by value = (value / 10) % 3

-- the line of a document in the judgements, by the value of its draw
abbrev pub judgement_lines : ℕ → ℕ → ℕ → List (List ℕ)
judgement_lines topic doc value = if is_listed doc value then qrels_line (topic_text topic) (document_text doc) (pos (grade_by value)) ∷ [] else []

-- the lines of a topic in the judgements, for the first so many documents: one draw for each, after a state
unfoldable pub topic_judgements : ℕ → ℕ → ℕ → List (List ℕ)
topic_judgements x topic documents = flat_map (λ doc. judgement_lines topic doc (drawn x doc)) (range_with_len 0 documents)

-- the lines of the judgements for the first so many topics, topic after topic, after a state
unfoldable pub judgements_on : ℕ → ℕ → ℕ → List (List ℕ)
judgements_on x documents topics = flat_map (λ topic. topic_judgements (state_after x (documents * topic)) topic documents) (range_with_len 0 topics)

-- the line of a place in a run: `TOPIC Q0 DOC PLACE SCORE TAG`
abbrev pub place_line : ℕ → ℕ → ℕ → ℕ → ℕ → List ℕ
place_line run topic doc place score =
    topic_text topic ++ codes " Q0 " ++ document_text doc ++ 32 ∷ decimal place ++ 32 ∷ score_text score ++ 32 ∷ tag_text run

-- the document of a place: from the first one on, every seventh
abbrev pub document_at : ℕ → ℕ → ℕ
document_at first place = (first + 7 * place) % DOCUMENTS

-- the lines of a topic in a run, for the first so many places, after a state: a draw for the first document, and one for each score
unfoldable pub topic_places : ℕ → ℕ → ℕ → ℕ → List (List ℕ)
topic_places x run topic places = map (λ place. place_line run topic (document_at (drawn x 0 % DOCUMENTS) place) place (drawn x (1 + place) % 100000)) (range_with_len 0 places)

-- the lines of a run for the first so many topics, topic after topic, after a state
unfoldable pub places_on : ℕ → ℕ → ℕ → ℕ → List (List ℕ)
places_on x run places topics = flat_map (λ topic. topic_places (state_after x ((1 + places) * topic)) run topic places) (range_with_len 0 topics)

-- the text of the judgements after a state: 50 topics of 2,000 documents
abbrev pub qrels_after : ℕ → List ℕ
qrels_after x = flat_map ended (judgements_on x DOCUMENTS TOPICS)

-- the text of a run after a state, by its number from 0: 50 topics of 500 places
abbrev pub run_after : ℕ → ℕ → List ℕ
run_after x run = flat_map ended (places_on x run PLACES TOPICS)

-- the text of the judgements, of a seed
abbrev pub demo_qrels : ℕ → List ℕ
demo_qrels seed = qrels_after seed

-- the state before a run: all draws of the judgements and of the runs before it were made
abbrev pub state_before : ℕ → ℕ → ℕ
state_before seed run = state_after seed (DOCUMENTS * TOPICS + (1 + PLACES) * TOPICS * run)

-- the text of a run, by its number from 0
abbrev pub demo_run : ℕ → ℕ → List ℕ
demo_run seed run = run_after (state_before seed run) run
