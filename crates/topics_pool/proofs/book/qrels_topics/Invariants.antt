use Rattle.std.proofs.Common.{◌≡◌, take}
use Rattle.file_rows.specs.Grouped.{names_of}
use Rattle.topic_universe.specs.Names.{AreDistinctNames}
use Rattle.topics_pool.proofs.book.qrels_topics.Given as goal

abbrev pub invariant-loop-t : goal.invariant-loop-t
invariant-loop-t l = record { topics : l.names ≡ take l.t (names_of l.qrels); names : AreDistinctNames l.names }
