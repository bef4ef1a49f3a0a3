use Rattle.std.proofs.Common.{ap, sym, ◌∙◌, position}
use Rattle.std.specs.Str.{bytes_eq}
use Rattle.file_rows.proofs.Zipped.{names_held}
use Rattle.topic_universe.proofs.Topics.{held_in}
use Rattle.topic_universe.proofs.ranked_topics.RankedTopics.place.Goals as goal

pub returns : goal.returns
returns c =
    c.place.ensures.place
    ∙ ap (position (bytes_eq c.args.topic.now)) (sym (names_held (held_in c.self.invariant c.self.view_is)))
