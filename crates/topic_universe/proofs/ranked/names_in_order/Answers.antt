use Rattle.std.proofs.Common.{◌∙◌}
use Rattle.std.proofs.lemmas.List.Sorted.{IsPermutation-refl}
use Rattle.topic_universe.proofs.Ranks.{in_order}
use Rattle.topic_universe.proofs.ranked.names_in_order.Goals as goal

pub returns-then-are_in_order : goal.returns-then-are_in_order
returns-then-are_in_order c = record {
  ranked = c.args.rows.now;
  once = IsPermutation-refl c.args.rows.now;
  ordered = in_order c.args.rows.now c.requires (c.are_in_order.ensures c.if-are_in_order.true);
  are_names = c.in_ok-packed.ensures ∙ c.documents.ensures;
}
