use Rattle.std.proofs.Common.{◌≡◌, false, sym, ap, ◌∙◌, ◌++◌, ◌∷◌, [], subst}
use Rattle.std.specs.List.{list_any}
use Rattle.std.specs.Str.{bytes_eq}
use Rattle.desk_model.proofs.Nested.{take-there}
use Rattle.file_rows.specs.Grouped.{names_of}
use Rattle.topic_universe.specs.Names.{AreDistinctNames}
use Rattle.topic_universe.proofs.Sets.{AreNames-nil, AreNames-with_name, fresh, added_new}
use Rattle.topics_pool.proofs.book.qrels_topics.Goals as goal

pub loop-t-init : goal.loop-t-init
loop-t-init c = record { topics = c.new-names.ensures; names = subst AreDistinctNames (sym c.new-names.ensures) AreNames-nil }

pub loop-t-preserved : goal.loop-t-preserved
loop-t-preserved c =
    let name = c.topic_name.result.now in
    let new : list_any (bytes_eq name) c.loop-t.names ≡ false = ap (list_any (bytes_eq name)) c.loop-t.invariant.topics
    ∙ fresh (names_of c.args.qrels.now) c.loop-t.t name c.topics-t-end.ensures.distinct c.topic_name.ensures.bytes in
    record {
      topics = c.in_ok-add.ensures.names ∙ added_new c.loop-t.names name new ∙ ap (λ names. names ++ name ∷ []) c.loop-t.invariant.topics ∙ sym (take-there (names_of c.args.qrels.now) c.loop-t.t name c.topic_name.ensures.bytes);
      names = subst AreDistinctNames (sym c.in_ok-add.ensures.names) (AreNames-with_name c.loop-t.names name c.loop-t.invariant.names c.topic_name.ensures.name);
    }
