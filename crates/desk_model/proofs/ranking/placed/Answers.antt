use Rattle.std.proofs.Common.{◌≡◌, ◌+◌, take, length, get_or, arith}
use Rattle.std.proofs.lemmas.List.{take_more}
use Rattle.std.proofs.lemmas.Grind.{common_steps}
use Rattle.desk_model.proofs.Places.{placed_from-push}
use Rattle.desk_model.proofs.ranking.placed.Goals as goal

pub loop-doc-preserved : goal.loop-doc-preserved
loop-doc-preserved c =
    let docs = c.args.docs.now in
    let i = c.loop-doc.doc-index in
    let first = placed_from-push 1 (take i docs) (get_or docs i 0) in
    let taken = take_more docs i 0 (omega arith) in
    let long : 1 + length (take i docs) ≡ c.loop-doc.rank = grind (arith, common_steps) in
    record { places = rw (taken, first, long) (grind (arith, common_steps)); rank = omega arith }
