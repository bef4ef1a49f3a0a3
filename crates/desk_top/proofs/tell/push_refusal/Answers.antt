use Rattle.std.proofs.Common.{◌++◌, ap, ◌∙◌, append_assoc}
use Rattle.std.specs.Prelude.{codes, decimal}
use Rattle.std.proofs.lemmas.Result.{on_ok_weaker}
use Rattle.desk_top.proofs.tell.push_refusal.Goals as goal

pub returns-in_ok-extend_from_slice-in-TooManyCells :
    goal.returns-in_ok-extend_from_slice-in-TooManyCells
returns-in_ok-extend_from_slice-in-TooManyCells c =
    let cells = decimal c.in-TooManyCells.cells in
    let head = c.in_ok-extend_from_slice-in-TooManyCells.ensures.items in
    rw c.in-TooManyCells.is (on_ok_weaker c.push_number.result (λ is. is ∙ ap (λ xs. xs ++ cells) head ∙ append_assoc c.args.line.now.items (codes "desk: TooManyCells ") cells) c.push_number.ensures)
