use Rattle.std.proofs.Common.{◌≡◌, ◌+◌, true, false, List, ℕ}
use Rattle.desk_model.specs.Classes.{prefix_count}
use Rattle.desk_model.specs.declared.types.Mark.{Mark}
use Rattle.topic_counts.specs.Seen.{AreSeenCounts}
use Rattle.topic_counts.specs.declared.counts.Counts.{Counts}
use Rattle.topic_counts.proofs.Own.{AreShared, shared_swapped, fewer_relevant, fewer_unjudged, own_is}
use Rattle.topic_counts.proofs.Seen.{shared_by_marks, IsRanking-wider}
use Rattle.topic_counts.proofs.marked.own_by_marks.Goals as goal

-- the counts of a pass over the second's documents
second_shared : (k : ℕ) (marks seen : List Mark) (a b : List ℕ) (one two shared : Counts) → AreSeenCounts k marks a b one two seen →
    shared.relevant ≡ prefix_count false k seen b → shared.relevant + shared.unjudged ≡ prefix_count true k seen b → AreShared k marks b a shared
second_shared k marks seen a b one two shared h least most = shared_by_marks k marks seen a b shared h.other h.alone least most

first_shared : (k : ℕ) (marks seen : List Mark) (a b : List ℕ) (one two shared : Counts) → AreSeenCounts k marks a b one two seen →
    shared.relevant ≡ prefix_count false k seen b → shared.relevant + shared.unjudged ≡ prefix_count true k seen b → AreShared k marks a b shared
first_shared k marks seen a b one two shared h least most = shared_swapped k marks b a shared h.other h.ranking (second_shared k marks seen a b one two shared h least most)

pub prefix_documents-shared-requires : goal.prefix_documents-shared-requires
prefix_documents-shared-requires c = let h = c.requires.2 in IsRanking-wider _ _ c.args.ranking.now h.alone.long h.other

pub without-requires-clause-relevant : goal.without-requires-clause-relevant
without-requires-clause-relevant c =
    let h = c.requires.2 in
    fewer_relevant _ _ _ _ _ _ h.first (first_shared c.args.k _ c.args.seen.now _ c.args.ranking.now c.args.first c.args.second c.prefix_documents-shared.result h c.prefix_documents-shared.ensures.least c.prefix_documents-shared.ensures.most)

pub without-requires-clause-unjudged : goal.without-requires-clause-unjudged
without-requires-clause-unjudged c =
    let h = c.requires.2 in
    fewer_unjudged _ _ _ _ _ _ h.first (first_shared c.args.k _ c.args.seen.now _ c.args.ranking.now c.args.first c.args.second c.prefix_documents-shared.result h c.prefix_documents-shared.ensures.least c.prefix_documents-shared.ensures.most)

pub without-requires-2-clause-relevant : goal.without-requires-2-clause-relevant
without-requires-2-clause-relevant c =
    let h = c.requires.2 in
    fewer_relevant _ _ _ _ _ _ h.second (second_shared c.args.k _ c.args.seen.now _ c.args.ranking.now c.args.first c.args.second c.prefix_documents-shared.result h c.prefix_documents-shared.ensures.least c.prefix_documents-shared.ensures.most)

pub without-requires-2-clause-unjudged : goal.without-requires-2-clause-unjudged
without-requires-2-clause-unjudged c =
    let h = c.requires.2 in
    fewer_unjudged _ _ _ _ _ _ h.second (second_shared c.args.k _ c.args.seen.now _ c.args.ranking.now c.args.first c.args.second c.prefix_documents-shared.result h c.prefix_documents-shared.ensures.least c.prefix_documents-shared.ensures.most)

pub returns-clause-first : goal.returns-clause-first
returns-clause-first c = λ marks a h.
    own_is _ _ _ _ _ _ _ h.first (first_shared c.args.k marks c.args.seen.now a c.args.ranking.now c.args.first c.args.second c.prefix_documents-shared.result h c.prefix_documents-shared.ensures.least c.prefix_documents-shared.ensures.most)
    c.without.ensures.relevant c.without.ensures.unjudged

pub returns-clause-second : goal.returns-clause-second
returns-clause-second c = λ marks a h.
    own_is _ _ _ _ _ _ _ h.second (second_shared c.args.k marks c.args.seen.now a c.args.ranking.now c.args.first c.args.second c.prefix_documents-shared.result h c.prefix_documents-shared.ensures.least c.prefix_documents-shared.ensures.most)
    c.without-2.ensures.relevant c.without-2.ensures.unjudged
