use Rattle.std.proofs.Common.{◌≡◌, ◌+◌, List, length, true, false, refl, sym, ap, ◌∙◌, arith}
use Rattle.std.specs.Prelude.{Option, ℕ, not, ◌&&◌, is_some, nat_le}
use Rattle.std.specs.Str.{bytes_eq}
use Rattle.std.proofs.Math.Bool.{and-false}
use Rattle.std.proofs.lemmas.Bool.{lt-ltb, le-ltb, le-leb, lt-leb, and_from}
use Rattle.qrels_reader.specs.declared.limits.TheConstants.{MOST_TOPICS, MOST_QRELS_ROWS}
use Rattle.file_rows.specs.declared.limits.TheConstants.{MOST_NAME_BYTES}
use Rattle.file_rows.specs.Grouped.{is_topic, names_of, place_of, row_count, name_bytes_in, TopicRows}
use Rattle.qrels_reader.specs.Reader.{row_said}
use Rattle.file_rows.proofs.Places.{is_some-position}
use Rattle.qrels_reader.proofs.Chains.{limits_are}
use Rattle.qrels_reader.proofs.row_reader.RowReader.room.Goals as goal
use Rattle.qrels_reader.proofs.row_reader.RowReader.room.Goals.{else-is_none-via-then-is_none+else-topics-ge-MOST_TOPICS, else-is_none-via-else-is_none}

-- a topic is known where it has a place
known : (topics : List TopicRows) (name : List ℕ) (place : Option ℕ) → place ≡ place_of name topics → is_topic name topics ≡ is_some place
known topics name place e = sym (is_some-position (bytes_eq name) (names_of topics)) ∙ ap is_some (sym e)

pub returns-then-topics-ge-MOST_TOPICS-clause-fault : goal.returns-then-topics-ge-MOST_TOPICS-clause-fault
returns-then-topics-ge-MOST_TOPICS-clause-fault c =
    let topics = c.args.self.now.groups in
    let row = row_said c.args.row.now in
    let there = known topics row.topic c.args.place c.requires in
    sym (limits_are topics row true _ _ (and_from _ _ (ap not (there ∙ c.if-is_none.ensures)) (le-leb MOST_TOPICS (length topics) (omega arith))) refl refl)

pub returns-then-rows-ge-MOST_QRELS_ROWS-clause-fault : goal.returns-then-rows-ge-MOST_QRELS_ROWS-clause-fault
returns-then-rows-ge-MOST_QRELS_ROWS-clause-fault c =
    let topics = c.args.self.now.groups in
    let row = row_said c.args.row.now in
    let there = known topics row.topic c.args.place c.requires in
    let fits : (not (is_topic row.topic topics) && nat_le MOST_TOPICS (length topics)) ≡ false = elim c.else-is_none.branch [
      | else-is_none-via-then-is_none+else-topics-ge-MOST_TOPICS w ↦ ap (λ b. not (is_topic row.topic topics) && b) (lt-leb MOST_TOPICS (length topics) (omega arith)) ∙ and-false (not (is_topic row.topic topics))
      | else-is_none-via-else-is_none w ↦ ap (λ b. not b && nat_le MOST_TOPICS (length topics)) (there ∙ w.if-is_none.ensures)
    ] in
    sym (limits_are topics row false true _ fits (le-leb MOST_QRELS_ROWS (row_count topics) (omega arith)) refl)

pub returns-then-name_bytes-row-clause-fault : goal.returns-then-name_bytes-row-clause-fault
returns-then-name_bytes-row-clause-fault c =
    let topics = c.args.self.now.groups in
    let row = row_said c.args.row.now in
    let there = known topics row.topic c.args.place c.requires in
    let fits : (not (is_topic row.topic topics) && nat_le MOST_TOPICS (length topics)) ≡ false = elim c.else-is_none.branch [
      | else-is_none-via-then-is_none+else-topics-ge-MOST_TOPICS w ↦ ap (λ b. not (is_topic row.topic topics) && b) (lt-leb MOST_TOPICS (length topics) (omega arith)) ∙ and-false (not (is_topic row.topic topics))
      | else-is_none-via-else-is_none w ↦ ap (λ b. not b && nat_le MOST_TOPICS (length topics)) (there ∙ w.if-is_none.ensures)
    ] in
    sym (limits_are topics row false false true fits (lt-leb MOST_QRELS_ROWS (row_count topics) (omega arith)) (lt-ltb MOST_NAME_BYTES (name_bytes_in topics + length row.document) (omega arith)))

pub returns-clause-fault : goal.returns-clause-fault
returns-clause-fault c =
    let topics = c.args.self.now.groups in
    let row = row_said c.args.row.now in
    let there = known topics row.topic c.args.place c.requires in
    let fits : (not (is_topic row.topic topics) && nat_le MOST_TOPICS (length topics)) ≡ false = elim c.else-is_none.branch [
      | else-is_none-via-then-is_none+else-topics-ge-MOST_TOPICS w ↦ ap (λ b. not (is_topic row.topic topics) && b) (lt-leb MOST_TOPICS (length topics) (omega arith)) ∙ and-false (not (is_topic row.topic topics))
      | else-is_none-via-else-is_none w ↦ ap (λ b. not b && nat_le MOST_TOPICS (length topics)) (there ∙ w.if-is_none.ensures)
    ] in
    sym (limits_are topics row false false false fits (lt-leb MOST_QRELS_ROWS (row_count topics) (omega arith)) (le-ltb MOST_NAME_BYTES (name_bytes_in topics + length row.document) (omega arith)))
