-- The marks that the judgements file gives under a depth.
use Rattle.std.proofs.Common.{◌≡◌, ℕ, List, length, map, ◌∙◌}
use Rattle.std.specs.Prelude.{Option}
use Rattle.std.proofs.lemmas.List.{length-map}
use Rattle.std.proofs.lemmas.List.Elements.{recursion_from_All}
use Rattle.desk_model.specs.Book.{Book, IsBook}
use Rattle.desk_model.specs.Closing.{closed_under}
use Rattle.desk_model.specs.Desk.{Desk, IsDesk, AreMarksOf, file_marks}
use Rattle.desk_model.specs.Mark.{mark_of}
use Rattle.desk_model.specs.declared.types.Mark.{Mark}
use Rattle.desk_model.proofs.Closing.{marks-closed}
use Rattle.pair_table.proofs.Zips.{zip_making, all_then}

marks_given : (level : ℕ) (desk : Desk) → IsDesk desk → AreMarksOf desk (map (file_marks level) desk.topics)
marks_given level desk valid =
    zip_making (λ (book : Book) (topic : List Mark). length topic ≡ length book.docs) (file_marks level) desk.topics
    (all_then IsBook (λ book. length (file_marks level book) ≡ length book.docs) (λ book is. length-map book.grades (λ grade. mark_of grade level) ∙ is.graded) desk.topics (recursion_from_All IsBook desk.topics valid.books))

pub marks_known : (level : ℕ) (depth : Option ℕ) (desk : Desk) → IsDesk desk → AreMarksOf desk (closed_under desk depth (map (file_marks level) desk.topics))
marks_known level depth desk valid = marks-closed desk desk depth (map (file_marks level) desk.topics) (marks_given level desk valid)
