use Rattle.std.proofs.Common.{◌≡◌, ℕ, List, [], ◌∷◌, length, map, ap, sym, ◌∙◌, subst}
use Rattle.std.specs.Prelude.{All}
use Rattle.std.specs.List.{AllZip}
use Rattle.std.proofs.lemmas.List.{length-map}
use Rattle.std.proofs.lemmas.List.Elements.{All-head, All-tail}
use Rattle.desk_model.specs.Book.{Book, IsBook}
use Rattle.desk_model.specs.Desk.{AreMarksOf, file_marks}
use Rattle.desk_model.specs.Graded.{Marked}
use Rattle.desk_model.specs.Mark.{mark_of}
use Rattle.desk_model.specs.declared.types.Mark.{Mark}
use Rattle.desk_model.proofs.Closing.{marks-closed}
use Rattle.next_trials.proofs.desks.marks_of.Goals as goal

marks_fit : (level : ℕ) (topics : List Book) → All IsBook topics → AllZip (λ (book : Book) (topic : List Mark). length topic ≡ length book.docs) topics (map (file_marks level) topics)
marks_fit level [] are = tt
marks_fit level (book ∷ topics) are = (length-map book.grades (λ grade. mark_of grade level) ∙ (All-head IsBook book topics are).graded, marks_fit level topics (All-tail IsBook book topics are))

pub returns : goal.returns
returns c =
    subst (AreMarksOf c.args.desk.now) (sym (ap (λ (m : Marked). m.rows) c.in_ok-marks.ensures))
    (marks-closed c.args.desk.now c.args.desk.now c.args.depth (map (file_marks 1) c.args.desk.now.topics) (marks_fit 1 c.args.desk.now.topics c.topic_count.ensures.desk.books))
