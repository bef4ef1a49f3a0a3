use Rattle.desk_model.proofs.Places.{keeps_places}
use Rattle.desk_model.proofs.ranking.Ranking.new.Goals as goal

pub invariant_of-result : goal.invariant_of-result
invariant_of-result c =
    let moved = rw c.deref.ensures.value at c.in_ok-by_doc.ensures.moved in
    keeps_places c.args.docs.items c.in_ok-by_doc.by_doc.items c.requires.short c.requires.distinct moved c.in_ok-by_doc.ensures.ascending
