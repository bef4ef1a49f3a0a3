use Rattle.std.proofs.Common.{ap, sym}
use Rattle.std.proofs.lemmas.List.{drop_all}
use Rattle.desk_model.specs.Placed.{lookup}
use Rattle.desk_model.specs.declared.placed.Placed.{Placed}
use Rattle.marked_lists.proofs.InStep.{absent_at}
use Rattle.marked_lists.proofs.more_lists.rank_from.Goals as goal
use Rattle.marked_lists.proofs.more_lists.rank_from.Goals.{else-at-places-via-then-at-places+else-places-at, else-at-places-via-else-at-places}

abbrev nowhere : Placed
nowhere = record { doc = 0; rank = 0 }

pub returns-else-at-places : goal.returns-else-at-places
returns-else-at-places c =
    elim c.else-at-places.branch [
      | else-at-places-via-then-at-places+else-places-at w ↦ sym (absent_at c.args.doc c.args.at c.args.marked.now.places.now nowhere c.args.marked.now.left.ascending c.requires w.if-at-places.true w.if-places-at.false)
      | else-at-places-via-else-at-places w ↦ sym (ap (λ ps. lookup ps c.args.doc) (drop_all c.args.at c.args.marked.now.places.now w.if-at-places.false))
    ]
