-- What the bytes of files say: rows by topics, or the first fault.
use Rattle.std.proofs.Common.{◌≡◌, ◌^◌, List, [], ◌∷◌, ◌++◌, replicate, refl, Some, None, pos, negsuc}
use Rattle.std.specs.Prelude.{codes, Ok, Err}
use Rattle.desk_text.specs.Reading.{score_of, zeros_of}
use Rattle.file_rows.specs.Reading.{read_line}
use Rattle.file_rows.specs.Rows.{Row}
use Rattle.qrels_reader.specs.Rows.{read_row}
use Rattle.file_rows.specs.Grouped.{TopicRows}
use Rattle.qrels_reader.specs.Grouped.{qrels_of}
use Rattle.file_rows.specs.declared.fault.LineFault.TheVariants.{BadByte, BadFieldCount, NameTooLong, BadGrade, BadScore, RepeatedDocument}
use Rattle.file_rows.specs.declared.fault.FileFault.TheVariants.{Line, NoTopics, NoTag}
use Rattle.run_reader.specs.Run.{run_of, name_of}
use Rattle.run_reader.specs.declared.used.Used.{Used}

-- ---- judgements
pub one_judgement : qrels_of (codes "401 0 d1 1") ≡ Ok (record { name = codes "401"; rows = record { document = codes "d1"; value = pos 1 } ∷ [] } ∷ [])
one_judgement = refl

-- topics and documents stand as they first came, a negative grade is kept as it is, and a blank line is passed over
pub judgements_of_two_topics : qrels_of (codes "402 0 d7 -1" ++ 10 ∷ 32 ∷ 10 ∷ codes "401 0 d1 1" ++ 10 ∷ codes "402 0 d3 +2" ++ 10 ∷ [])
    ≡ Ok (record { name = codes "402"; rows = record { document = codes "d7"; value = negsuc 0 } ∷ record { document = codes "d3"; value = pos 2 } ∷ [] }
    ∷ record { name = codes "401"; rows = record { document = codes "d1"; value = pos 1 } ∷ [] } ∷ [])
judgements_of_two_topics = refl

pub no_judgements : qrels_of [] ≡ Err NoTopics
no_judgements = refl

pub blank_lines_alone : qrels_of (10 ∷ 32 ∷ 10 ∷ []) ≡ Err NoTopics
blank_lines_alone = refl

-- lines are numbered from 1, and blank ones count
pub document_judged_twice : qrels_of (codes "401 0 d1 1" ++ 10 ∷ 10 ∷ codes "401 0 d1 0") ≡ Err (Line 3 RepeatedDocument)
document_judged_twice = refl

-- a document may stand on two topics
pub same_document_on_two_topics : qrels_of (codes "401 0 d1 1" ++ 10 ∷ codes "402 0 d1 0")
    ≡ Ok (record { name = codes "401"; rows = record { document = codes "d1"; value = pos 1 } ∷ [] } ∷ record { name = codes "402"; rows = record { document = codes "d1"; value = pos 0 } ∷ [] } ∷ [])
same_document_on_two_topics = refl

pub line_of_three_fields : qrels_of (codes "401 0 d1") ≡ Err (Line 1 BadFieldCount)
line_of_three_fields = refl

pub grade_with_a_point : qrels_of (codes "401 0 d1 1.0") ≡ Err (Line 1 BadGrade)
grade_with_a_point = refl

pub grade_of_1001 : qrels_of (codes "401 0 d1 1001") ≡ Err (Line 1 BadGrade)
grade_of_1001 = refl

-- the bad byte is told before the number of fields, and the first line before the second
pub bad_byte_goes_first : qrels_of (7 ∷ 10 ∷ codes "401 0 d1 1.0") ≡ Err (Line 1 BadByte)
bad_byte_goes_first = refl

pub document_of_256_bytes : qrels_of (codes "401 0 " ++ replicate 256 100 ++ codes " x") ≡ Err (Line 1 NameTooLong)
document_of_256_bytes = refl

-- ---- single lines after the rows before them
abbrev d1_judged : Row
d1_judged = record { topic = codes "401"; document = codes "d1"; value = pos 1 }

pub row_of_a_line : read_row [] (codes "401 0 d1 1") ≡ Ok (Some d1_judged)
row_of_a_line = refl

pub row_of_a_line_after_itself : read_row (d1_judged ∷ []) (codes "401 0 d1 1") ≡ Err RepeatedDocument
row_of_a_line_after_itself = refl

pub row_of_an_empty_line : read_row [] [] ≡ Err BadFieldCount
row_of_an_empty_line = refl

-- a blank line is passed over before its fields are counted, and a fault has the number of its line
pub blank_line_read : read_line read_row 7 [] [] ≡ Ok None
blank_line_read = refl

pub line_read : read_line read_row 7 [] (codes "401 0 d1 1") ≡ Ok (Some d1_judged)
line_read = refl

pub faulty_line_read : read_line read_row 7 (d1_judged ∷ []) (codes "401 0 d1 0") ≡ Err (Line 7 RepeatedDocument)
faulty_line_read = refl

-- ---- runs, beside judgements on topic 401 alone
abbrev judged_401 : List TopicRows
judged_401 = record { name = codes "401"; rows = record { document = codes "d1"; value = pos 1 } ∷ [] } ∷ []

abbrev nothing_used : Used
nothing_used = record { rows = 0; name_bytes = 0 }

-- the row of topic 403 is dropped; the name is the tag
pub run_with_a_row_of_another_topic : run_of None judged_401 nothing_used (codes "403 Q0 x 1 2 T" ++ 10 ∷ codes "401 Q0 d1 1 1 T") ≡ Ok (record {
  name = codes "T";
  topics = record { name = codes "401"; rows = record { document = codes "d1"; value = pos (10 ^ 999) } ∷ [] } ∷ [];
  used = record { rows = 1; name_bytes = 2 };
})
unfolding score_of zeros_of
run_with_a_row_of_another_topic = refl

-- a run without a row on the topics of the judgements, with the name that is given
pub run_without_the_topics : run_of (Some (codes "mine")) judged_401 nothing_used (codes "403 Q0 x 1 2 T") ≡ Ok (record { name = codes "mine"; topics = []; used = record { rows = 0; name_bytes = 0 } })
unfolding score_of zeros_of
run_without_the_topics = refl

pub empty_run_without_a_name : run_of None judged_401 nothing_used [] ≡ Err NoTag
empty_run_without_a_name = refl

pub empty_run_with_a_name : run_of (Some (codes "mine")) judged_401 nothing_used [] ≡ Ok (record { name = codes "mine"; topics = []; used = record { rows = 0; name_bytes = 0 } })
empty_run_with_a_name = refl

-- the form of a line is looked at before its row is dropped
pub bad_score_on_another_topic : run_of None judged_401 nothing_used (codes "403 Q0 x 1 inf T") ≡ Err (Line 1 BadScore)
unfolding score_of zeros_of
bad_score_on_another_topic = refl

pub document_retrieved_twice : run_of None judged_401 nothing_used (codes "401 Q0 d1 1 2 T" ++ 10 ∷ codes "401 Q0 d1 2 1 T") ≡ Err (Line 2 RepeatedDocument)
unfolding score_of zeros_of
document_retrieved_twice = refl

-- the first tag counts, and a blank line has none
pub name_of_the_first_tag : name_of None ([] ∷ codes "403 Q0 x 1 2 T" ∷ codes "401 Q0 d1 1 1 U" ∷ []) ≡ Some (codes "T")
name_of_the_first_tag = refl

pub given_name_before_the_tag : name_of (Some (codes "mine")) (codes "403 Q0 x 1 2 T" ∷ []) ≡ Some (codes "mine")
given_name_before_the_tag = refl

pub no_name_of_blank_lines : name_of None ([] ∷ []) ≡ None
no_name_of_blank_lines = refl
