use Rattle.topic_counts.specs.Seen.{ArePrefix}
use Rattle.topic_counts.proofs.Own.{AreShared, shared_swapped, fewer_relevant, fewer_unjudged, own_is}
use Rattle.topic_counts.proofs.counts.own_counts.Goals as goal

pub without-requires-clause-relevant : goal.without-requires-clause-relevant
without-requires-clause-relevant c =
    let prefix : ArePrefix c.args.k c.args.marks.now c.args.a.now c.prefix_documents.result = record { least = c.prefix_documents.ensures.least; most = c.prefix_documents.ensures.most; few = c.prefix_documents.ensures.few } in
    let shared : AreShared c.args.k c.args.marks.now c.args.a.now c.args.b.now c.shared_documents-shared.result = record { least = c.shared_documents-shared.ensures.least; most = c.shared_documents-shared.ensures.most } in
    fewer_relevant _ _ _ _ _ _ prefix shared

pub without-requires-clause-unjudged : goal.without-requires-clause-unjudged
without-requires-clause-unjudged c =
    let prefix : ArePrefix c.args.k c.args.marks.now c.args.a.now c.prefix_documents.result = record { least = c.prefix_documents.ensures.least; most = c.prefix_documents.ensures.most; few = c.prefix_documents.ensures.few } in
    let shared : AreShared c.args.k c.args.marks.now c.args.a.now c.args.b.now c.shared_documents-shared.result = record { least = c.shared_documents-shared.ensures.least; most = c.shared_documents-shared.ensures.most } in
    fewer_unjudged _ _ _ _ _ _ prefix shared

pub without-requires-2-clause-relevant : goal.without-requires-2-clause-relevant
without-requires-2-clause-relevant c =
    let prefix : ArePrefix c.args.k c.args.marks.now c.args.b.now c.prefix_documents-2.result = record { least = c.prefix_documents-2.ensures.least; most = c.prefix_documents-2.ensures.most; few = c.prefix_documents-2.ensures.few } in
    let shared : AreShared c.args.k c.args.marks.now c.args.a.now c.args.b.now c.shared_documents-shared.result = record { least = c.shared_documents-shared.ensures.least; most = c.shared_documents-shared.ensures.most } in
    fewer_relevant _ _ _ _ _ _ prefix (shared_swapped _ _ _ _ _ c.requires.first c.requires.second shared)

pub without-requires-2-clause-unjudged : goal.without-requires-2-clause-unjudged
without-requires-2-clause-unjudged c =
    let prefix : ArePrefix c.args.k c.args.marks.now c.args.b.now c.prefix_documents-2.result = record { least = c.prefix_documents-2.ensures.least; most = c.prefix_documents-2.ensures.most; few = c.prefix_documents-2.ensures.few } in
    let shared : AreShared c.args.k c.args.marks.now c.args.a.now c.args.b.now c.shared_documents-shared.result = record { least = c.shared_documents-shared.ensures.least; most = c.shared_documents-shared.ensures.most } in
    fewer_unjudged _ _ _ _ _ _ prefix (shared_swapped _ _ _ _ _ c.requires.first c.requires.second shared)

pub returns-clause-first : goal.returns-clause-first
returns-clause-first c =
    let prefix : ArePrefix c.args.k c.args.marks.now c.args.a.now c.prefix_documents.result = record { least = c.prefix_documents.ensures.least; most = c.prefix_documents.ensures.most; few = c.prefix_documents.ensures.few } in
    let shared : AreShared c.args.k c.args.marks.now c.args.a.now c.args.b.now c.shared_documents-shared.result = record { least = c.shared_documents-shared.ensures.least; most = c.shared_documents-shared.ensures.most } in
    own_is _ _ _ _ _ _ _ prefix shared c.without.ensures.relevant c.without.ensures.unjudged

pub returns-clause-second : goal.returns-clause-second
returns-clause-second c =
    let prefix : ArePrefix c.args.k c.args.marks.now c.args.b.now c.prefix_documents-2.result = record { least = c.prefix_documents-2.ensures.least; most = c.prefix_documents-2.ensures.most; few = c.prefix_documents-2.ensures.few } in
    let shared : AreShared c.args.k c.args.marks.now c.args.a.now c.args.b.now c.shared_documents-shared.result = record { least = c.shared_documents-shared.ensures.least; most = c.shared_documents-shared.ensures.most } in
    own_is _ _ _ _ _ _ _ prefix (shared_swapped _ _ _ _ _ c.requires.first c.requires.second shared) c.without-2.ensures.relevant c.without-2.ensures.unjudged
