use Rattle.std.proofs.Common.{false, arith}
use Rattle.precision_candidates.proofs.Visits.{documents_fit, possible_fits, relevant_fits}
use Rattle.precision_candidates.proofs.candidate.SideCandidate.documents.Goals as goal

pub overflow_add-result : goal.overflow_add-result
overflow_add-result c =
    let side = c.args.self.side.now in omega (arith, relevant_fits side.marks.now side.docs.now side.all c.args.self.count side.ranking side.counts c.args.self.within)

pub overflow_sub-result : goal.overflow_sub-result
overflow_sub-result c =
    let side = c.args.self.side.now in possible_fits side.marks.now side.docs.now side.all c.args.self.count side.ranking side.counts c.args.self.within

pub returns-then-self-clause-few : goal.returns-then-self-clause-few
returns-then-self-clause-few c = let side = c.args.self.side.now in relevant_fits side.marks.now side.docs.now side.all c.args.self.count side.ranking side.counts c.args.self.within

pub returns-else-self-clause-few : goal.returns-else-self-clause-few
returns-else-self-clause-few c = let side = c.args.self.side.now in documents_fit false side.marks.now side.docs.now side.all c.args.self.count side.ranking side.counts c.args.self.within
