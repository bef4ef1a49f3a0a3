use Rattle.std.proofs.Common.{◌<◌, ◌++◌, ap, ◌∙◌, [], length, arith}
use Rattle.std.proofs.lemmas.List.{length-map}
use Rattle.std.proofs.lemmas.Option.{slice_get-get_or}
use Rattle.small_lemmas.proofs.Lists.{map_there}
use Rattle.desk_model.specs.Book.{Book}
use Rattle.desk_model.specs.Named.{book_at}
use Rattle.desk_report.specs.Judging.{topic_qrels_text}
use Rattle.sheet_merge.specs.Placed.{grades_under}
use Rattle.sheet_merge.proofs.Standing.{length-grades_under}
use Rattle.sheet_report.specs.Applied.{all_under}
use Rattle.sheet_report.proofs.Topics.{more_topics, all_topics}
use Rattle.sheet_report.proofs.applied.applied_text.Goals as goal

pub qrels_text-requires-clause-count : goal.qrels_text-requires-clause-count
qrels_text-requires-clause-count c =
    let desk = c.args.desk.now in
    let t = c.loop-topic.topic in
    let lt : t < length desk.topics = omega (arith, c.loop-topic-test.true, c.topic_count-topic-end.ensures.count) in
    let none : Book = record { name = []; docs = []; grades = [] } in
    ap length (c.deref.ensures.value ∙ c.in_ok-grades.ensures) ∙ length-grades_under (book_at desk t) c.args.sheet.now (c.topic_count-topic-end.ensures.desk.books t none lt)

pub loop-topic-preserved : goal.loop-topic-preserved
loop-topic-preserved c =
    let desk = c.args.desk.now in
    let rows = c.args.sheet.now in
    let t = c.loop-topic.topic in
    let lt : t < length desk.topics = omega (arith, c.loop-topic-test.true, c.topic_count-topic-end.ensures.count) in
    let book = book_at desk t in
    let there = slice_get-get_or desk.topics t (record { name = []; docs = []; grades = [] }) lt in
    more_topics desk.topics (all_under desk rows) t book (grades_under book rows) c.loop-topic.out.items c.extend_from_slice.new.self.items there
    (map_there (λ (each : Book). grades_under each rows) desk.topics t book there) c.loop-topic.invariant
    (c.in_ok-extend_from_slice.ensures.items ∙ ap (λ text. c.loop-topic.out.items ++ text) (c.deref-in-loop-topic.ensures.value ∙ c.in_ok-text.ensures ∙ ap (topic_qrels_text book) (c.deref.ensures.value ∙ c.in_ok-grades.ensures)))

pub returns : goal.returns
returns c =
    let desk = c.args.desk.now in
    let rows = c.args.sheet.now in
    all_topics desk (all_under desk rows) c.loop-topic.topic c.loop-topic.out.items (length-map desk.topics (λ (each : Book). grades_under each rows))
    (omega (arith, c.loop-topic-test.false, c.topic_count-topic-end.ensures.count)) c.loop-topic.invariant
