use Rattle.std.proofs.Common.{◌≡◌, ◌<◌, ◌+◌, [], ◌∷◌, ◌++◌, take, length, get_or, arith, sym, ap, ◌∙◌, Some}
use Rattle.std.specs.Prelude.{if◌then◌else◌}
use Rattle.std.proofs.lemmas.List.{take_more}
use Rattle.judge_session.specs.InForce.{counted_grade, grade_after, is_live_on}
use Rattle.judge_session.proofs.Grades.{counted-more}
use Rattle.judge_session.proofs.force.replay.Goals as goal

pub loop-change-preserved : goal.loop-change-preserved
loop-change-preserved c = λ doc e within.
    let xs = c.args.changes.now in
    let i = c.loop-change.change-index in
    let x = c.change-item.result in
    let file = get_or c.args.grades.now doc e in
    let lt : i < length xs = omega arith in
    let more : take (i + 1) xs ≡ take i xs ++ x ∷ [] = take_more xs i x lt ∙ ap (λ y. take i xs ++ y ∷ []) (sym c.change-item.is) in
    let in_range : doc < length c.loop-change.grades = omega arith in
    c.replay_one.ensures doc e in_range
    ∙ ap (λ g. if is_live_on c.args.topic doc x then counted_grade (Some x.grade) else g) (c.loop-change.invariant doc e within)
    ∙ sym (ap (λ ys. counted_grade (grade_after file c.args.topic doc ys)) more ∙ counted-more file c.args.topic doc (take i xs) x)
