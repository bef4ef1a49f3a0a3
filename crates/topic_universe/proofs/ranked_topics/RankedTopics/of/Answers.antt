use Rattle.std.proofs.Common.{List, length, map, sym, subst, ap, ◌∙◌}
use Rattle.std.specs.Prelude.{All}
use Rattle.std.specs.List.{IsDistinct}
use Rattle.std.specs.Str.{bytes_eq}
use Rattle.file_rows.specs.Grouped.{Valued, TopicRows}
use Rattle.file_rows.specs.Names.{topics_in}
use Rattle.topic_universe.proofs.Topics.{all_in}
use Rattle.topic_universe.proofs.ranked_topics.RankedTopics.of.Goals as goal

abbrev Differ : List Valued → Type 0
Differ rows = IsDistinct bytes_eq (map (λ (row : Valued). row.document) rows)

pub all_ranked-requires : goal.all_ranked-requires
all_ranked-requires c =
    all_in Differ c.into_parts-topics.result.0 c.into_parts-topics.result.1.items c.into_parts-topics.ensures.each
    (subst (All (λ (topic : TopicRows). Differ topic.rows)) (sym c.into_parts-topics.ensures.topics) c.requires)

pub returns : goal.returns
returns c = ap (topics_in c.into_parts-topics.result.0) c.in_ok-ranked.ensures ∙ c.into_parts-topics.ensures.topics

pub invariant_of-result : goal.invariant_of-result
invariant_of-result c = c.into_parts-topics.ensures.each ∙ sym (ap length c.in_ok-ranked.ensures)
