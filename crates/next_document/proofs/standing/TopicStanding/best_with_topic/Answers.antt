use Rattle.std.proofs.Common.{◌≡◌, List, [], length, arith}
use Rattle.desk_model.specs.Book.{Book}
use Rattle.desk_model.specs.declared.types.Mark.{Mark}
use Rattle.desk_model.proofs.Nested.{zipped_at}
use Rattle.next_document.specs.Shown.{shown_at}
use Rattle.next_document.proofs.Choosing.{best_of_topic}
use Rattle.next_document.proofs.standing.TopicStanding.best_with_topic.Goals as goal

pub invariant_of-document : goal.invariant_of-document
invariant_of-document g c =
    let size = zipped_at (λ (book : Book) (topic : List Mark). length topic ≡ length book.docs) c.args.self.now.standing.on.desk.now.topics c.args.self.now.standing.on.marks.now c.args.self.now.number c.topic.result.now [] c.args.self.now.standing.on.marked c.topic.ensures in
    omega (arith, size, c.loop-doc-test.true, c.doc_count-doc-end.ensures.count)

pub returns : goal.returns
returns g c =
    let s = shown_at g.M.Measure.measured c.args.self.now in
    let size = zipped_at (λ (book : Book) (topic : List Mark). length topic ≡ length book.docs) c.args.self.now.standing.on.desk.now.topics c.args.self.now.standing.on.marks.now c.args.self.now.number c.topic.result.now [] c.args.self.now.standing.on.marked c.topic.ensures in
    best_of_topic s c.args.self.now.number c.loop-doc.doc c.loop-doc.best c.loop-doc.invariant (omega (arith, size, c.loop-doc-test.false, c.doc_count-doc-end.ensures.count))
