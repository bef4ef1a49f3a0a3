-- The texts of judging: what a change told, the counts of a pool, the next document, and the judgements in force.
use Rattle.std.specs.Prelude.{ℕ, List, [], ◌∷◌, ◌++◌, flat_map, codes, decimal, Option, None, Some, ℤ, negsuc}
use Rattle.std.specs.Fmt.{signed_decimal}
use Rattle.std.specs.List.{zip}
use Rattle.desk_model.specs.Book.{Book}
use Rattle.desk_model.specs.Desk.{Desk}
use Rattle.desk_model.specs.Named.{book_at, name_at}
use Rattle.desk_model.specs.declared.pool.PoolCount.{PoolCount}
use Rattle.next_document.specs.declared.proposal.Proposal.{Proposal}
use Rattle.desk_report.specs.Table.{ended}

-- a grade in force, and `-` where the document has none
abbrev pub grade_text : Option ℤ → List ℕ
grade_text None = codes "-"
grade_text (Some grade) = signed_decimal grade

-- `WORD TOPIC DOC NOW`
abbrev pub changed_line : List ℕ → List ℕ → List ℕ → Option ℤ → List ℕ
changed_line word topic doc grade = word ++ 32 ∷ topic ++ 32 ∷ doc ++ 32 ∷ grade_text grade

-- `pool SIZE JUDGED RELEVANT UNJUDGED`
abbrev pub pool_line : PoolCount → List ℕ
pool_line count = codes "pool " ++ decimal count.size ++ 32 ∷ decimal count.judged ++ 32 ∷ decimal count.relevant ++ 32 ∷ decimal count.unjudged

-- `next TOPIC DOC WEIGHT`, and `next none` where there is no proposal
abbrev pub next_line : Desk → Option Proposal → List ℕ
next_line desk None = codes "next none"
next_line desk (Some p) = codes "next " ++ (book_at desk p.topic).name ++ 32 ∷ name_at desk p.topic p.doc ++ 32 ∷ decimal p.weight

-- `TOPIC 0 DOC GRADE`
abbrev pub qrels_line : List ℕ → List ℕ → ℤ → List ℕ
qrels_line topic doc grade = topic ++ codes " 0 " ++ doc ++ 32 ∷ signed_decimal grade

-- the line of a document: its grade in force; -1 where it has none and the judgements file lists it; no line where it has none and is not listed
abbrev pub qrels_lines_of : List ℕ → List ℕ → Option ℤ → Option ℤ → List (List ℕ)
qrels_lines_of topic doc None None = []
qrels_lines_of topic doc (Some file) None = qrels_line topic doc (negsuc 0) ∷ []
qrels_lines_of topic doc file (Some grade) = qrels_line topic doc grade ∷ []

-- the lines of a topic's documents, in ascending order, by the grades in force
abbrev pub topic_qrels_lines : Book → List (Option ℤ) → List (List ℕ)
topic_qrels_lines book grades = flat_map (λ p. qrels_lines_of book.name p.0 p.1.0 p.1.1) (zip book.docs (zip book.grades grades))

-- the judgements in force on a topic, as lines of a judgements file
abbrev pub topic_qrels_text : Book → List (Option ℤ) → List ℕ
topic_qrels_text book grades = flat_map ended (topic_qrels_lines book grades)

-- the judgements in force on all topics of a desk, in ascending order
abbrev pub qrels_text : Desk → List (List (Option ℤ)) → List ℕ
qrels_text desk grades = flat_map (λ p. topic_qrels_text p.0 p.1) (zip desk.topics grades)
