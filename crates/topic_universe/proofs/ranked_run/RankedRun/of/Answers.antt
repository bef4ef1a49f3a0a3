use Rattle.std.proofs.Common.{◌∙◌, sym, subst}
use Rattle.run_reader.specs.Run.{IsRun}
use Rattle.topic_universe.proofs.ranked_run.RankedRun.of.Goals as goal

pub of-requires : goal.of-requires
of-requires c = c.into_parts-name.ensures.run.distinct_documents

pub returns : goal.returns
returns c = λ i. record { name = c.into_parts-name.ensures.name i; topics = (c.in_ok-topics.ensures ∙ c.into_parts-name.ensures.kept) i; used = c.into_parts-name.ensures.used i }

pub invariant_of-result : goal.invariant_of-result
invariant_of-result c = (c.into_parts-name.ensures.named, subst IsRun (sym c.in_ok-topics.ensures) c.into_parts-name.ensures.run, c.into_parts-name.ensures.within)
