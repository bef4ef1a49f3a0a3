use Rattle.topic_ends.specs.Kinds.{name_of}
use Rattle.topic_ends.proofs.Named.{kind_measure, upper_modest}
use Rattle.topic_ends.proofs.ends.TopicEnds.upper_ends.Goals as goal

pub returns-clause-low_modest : goal.returns-clause-low_modest
returns-clause-low_modest g c =
    upper_modest (name_of c.self.inside.kind) (g.T.Relevance.universe c.args.low.now) (g.T.Relevance.truth c.args.low.now) c.args.a.now c.args.b.now c.upper_ends.result.low (kind_measure c.self.inside.kind c.self.invariant) c.requires.low.first c.requires.low.second c.upper_ends.ensures.low

pub returns-clause-high_modest : goal.returns-clause-high_modest
returns-clause-high_modest g c =
    upper_modest (name_of c.self.inside.kind) (g.T.Relevance.universe c.args.high.now) (g.T.Relevance.truth c.args.high.now) c.args.b.now c.args.a.now c.upper_ends.result.high (kind_measure c.self.inside.kind c.self.invariant) c.requires.high.first c.requires.high.second c.upper_ends.ensures.high
