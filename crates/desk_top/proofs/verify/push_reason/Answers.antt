use Rattle.std.proofs.Common.{◌++◌, ap, sym, ◌∙◌, append_assoc}
use Rattle.std.specs.Prelude.{codes, decimal}
use Rattle.std.proofs.lemmas.Result.{on_ok_weaker}
use Rattle.desk_top.specs.Verification.{file_line}
use Rattle.desk_top.proofs.Checks.{topic_name_there}
use Rattle.desk_top.proofs.Telling.{grown_where_ok}
use Rattle.desk_top.proofs.verify.push_reason.Goals as goal

pub returns-in_ok-extend_from_slice-in-WrongNames : goal.returns-in_ok-extend_from_slice-in-WrongNames
returns-in_ok-extend_from_slice-in-WrongNames c =
    let line = decimal (file_line c.args.depth c.in-WrongNames.line) in
    let head = c.in_ok-extend_from_slice-in-WrongNames.ensures.items in
    rw c.in-WrongNames.is (on_ok_weaker c.push_line.result (λ is. is ∙ ap (λ xs. xs ++ line) head ∙ append_assoc c.args.text.now.items (codes "WrongNames line ") line) c.push_line.ensures)

pub returns-in_ok-extend_from_slice-in-BoundTooGreat : goal.returns-in_ok-extend_from_slice-in-BoundTooGreat
returns-in_ok-extend_from_slice-in-BoundTooGreat c =
    let head = c.in_ok-extend_from_slice-in-BoundTooGreat.ensures.items in
    let named = topic_name_there c.args.desk.now.topics c.in-BoundTooGreat.topic c.topic.result.now c.topic.ensures in
    let text = c.args.text.now.items in
    let word = codes "BoundTooGreat topic " in
    rw c.in-BoundTooGreat.is (on_ok_weaker c.extend_from_slice-in-BoundTooGreat-2.result (λ is. is ∙ ap (λ xs. xs ++ c.name.result.now) head ∙ append_assoc text word c.name.result.now ∙ ap (λ xs. text ++ (word ++ xs)) (c.name.ensures.name ∙ sym named)) (grown_where_ok c.extend_from_slice-in-BoundTooGreat-2.result _ _ _ c.extend_from_slice-in-BoundTooGreat-2.ensures.items))

pub returns-in_ok-extend_from_slice-in-NotCompletion : goal.returns-in_ok-extend_from_slice-in-NotCompletion
returns-in_ok-extend_from_slice-in-NotCompletion c =
    let line = decimal (file_line c.args.depth c.in-NotCompletion.line) in
    let head = c.in_ok-extend_from_slice-in-NotCompletion.ensures.items in
    rw c.in-NotCompletion.is (on_ok_weaker c.push_line-in-NotCompletion.result (λ is. is ∙ ap (λ xs. xs ++ line) head ∙ append_assoc c.args.text.now.items (codes "NotCompletion line ") line) c.push_line-in-NotCompletion.ensures)

pub returns-in-NoDifference : goal.returns-in-NoDifference
returns-in-NoDifference c = rw c.in-NoDifference.is (grown_where_ok c.extend_from_slice-in-NoDifference.result _ _ _ c.extend_from_slice-in-NoDifference.ensures.items)
