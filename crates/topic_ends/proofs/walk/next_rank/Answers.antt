use Rattle.std.proofs.Common.{length, arith}
use Rattle.topic_ends.proofs.Walks.{none_left, rank_other}
use Rattle.topic_ends.proofs.walk.next_rank.Goals.{else-not-is_empty-via-then-not-is_empty+else-places-doc, else-not-is_empty-via-else-not-is_empty}
use Rattle.topic_ends.proofs.walk.next_rank.Goals as goal

pub returns-else-not-is_empty : goal.returns-else-not-is_empty
returns-else-not-is_empty c =
    let places = c.args.places.now in
    λ docs h. elim c.else-not-is_empty.branch [
      | else-not-is_empty-via-then-not-is_empty+else-places-doc w ↦ rank_other c.args.doc docs places (record { doc = 0; rank = 0 }) h (λ _. w.if-places-doc.false)
      | else-not-is_empty-via-else-not-is_empty w ↦ rank_other c.args.doc docs places (record { doc = 0; rank = 0 }) h (λ some. absurd (omega (arith, some, none_left (length places) c.is_empty.result c.is_empty.ensures w.if-not-is_empty.false)))
    ]
