use Rattle.std.proofs.Common.{ap, sym, ◌∙◌}
use Rattle.topic_counts.proofs.Prefixes.{is_by, rank_by}
use Rattle.topic_ends.proofs.ranks.is_within.Goals as goal

pub returns-in-Some : goal.returns-in-Some
returns-in-Some c = λ docs doc h. ap (is_by c.args.k) (sym c.in-Some.is ∙ h) ∙ sym (rank_by c.args.k doc docs)

pub returns-in-None : goal.returns-in-None
returns-in-None c = λ docs doc h. ap (is_by c.args.k) (sym c.in-None.is ∙ h) ∙ sym (rank_by c.args.k doc docs)
