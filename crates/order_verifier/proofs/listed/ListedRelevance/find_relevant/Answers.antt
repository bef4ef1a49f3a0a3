use Rattle.order_verifier.specs.Checks.{unranked}
use Rattle.order_verifier.proofs.Unjudged.{known_names}
use Rattle.order_verifier.proofs.listed.ListedRelevance.find_relevant.Goals as goal

pub find-requires-clause-known : goal.find-requires-clause-known
find-requires-clause-known c =
    let h = c.self.invariant in
    record {
      docs_ascend = h.docs;
      names_ascend = h.names;
      known = known_names (unranked (record { docs = c.self.inside.documents.now.docs; marks = c.self.inside.marks.now; names = c.self.inside.documents.now.names })) c.self.inside.documents.now.names h.unjudged;
    }
