use Rattle.std.proofs.Common.{◌≡◌, ℕ, List, length, ap₂, sym, subst, ◌∙◌, arith}
use Rattle.std.proofs.lemmas.List.{take_all}
use Rattle.std.proofs.lemmas.Option.{same_Some}
use Rattle.measure_core.specs.Lists.{case_documents, least_documents, AreCounted, HaveRoomFor}
use Rattle.measure_core.specs.PairLists.{documents_on, pair_documents, sizes_on}
use Rattle.measure_core.specs.Pairs.{ranking_on}
use Rattle.measure_core.specs.Ranks.{AreRanksIn}
use Rattle.measure_core.proofs.PairListing.{counted_more, made_more, room_for_next, sizes_are}
use Rattle.measure_core.proofs.measure.Measure.count_pairs.Goals as goal

pub count_lists-requires-clause-kept : goal.count_lists-requires-clause-kept
count_lists-requires-clause-kept g c =
    c.change_first.ensures.room c.args.marks.now c.loop-pair.invariant.topic
    (λ is. subst (λ (l : List ℕ). AreRanksIn c.args.marks.now l c.loop-pair.room.first.items) (sym c.ranking-a.ensures) (c.loop-pair.invariant.first _ is))

pub count_lists-requires-clause-room : goal.count_lists-requires-clause-room
count_lists-requires-clause-room g c =
    let measure = g.Self.Measure.measured c.args.self.now in
    let marks = c.args.marks.now in
    let now : List ℕ = c.loop-pair.counts in
    subst (HaveRoomFor now) (ap₂ (λ (a b : List ℕ). case_documents measure marks a b) (sym c.ranking-a.ensures) (sym c.ranking-b.ensures))
    (room_for_next (documents_on measure marks c.args.rankings.now) c.args.pairs.now c.loop-pair.pair-index _ c.loop-pair-test.true c.args.counts.now now (c.loop-pair.invariant.size ∙ sym c.requires.size) c.requires.room c.loop-pair.invariant.counted)

pub loop-pair-preserved : goal.loop-pair-preserved
loop-pair-preserved g c =
    let measure = g.Self.Measure.measured c.args.self.now in
    let marks = c.args.marks.now in
    let t = c.args.rankings.now in
    let pairs = c.args.pairs.now in
    let i = c.loop-pair.pair-index in
    let now : List ℕ = c.loop-pair.counts in
    let after = c.in_ok-count_lists.ensures in
    let sizes : c.in_ok-count_lists.field-0 ≡ record { least = length (least_documents measure marks c.ranking-a.result.now c.ranking-b.result.now); most = length (least_documents measure marks c.ranking-b.result.now c.ranking-a.result.now) } = sizes_are c.in_ok-count_lists.field-0 _ _ after.least after.most in
    record {
      topic = after.kept.topic;
      first = λ r is. subst (λ (n : ℕ). AreRanksIn marks (ranking_on t n) c.count_lists.new.room.first.items) (same_Some _ r (sym c.change_first.ensures.first ∙ is)) (subst (λ (l : List ℕ). AreRanksIn marks l c.count_lists.new.room.first.items) c.ranking-a.ensures after.kept.ranks);
      sizes = made_more (sizes_on measure marks t) pairs i _ c.loop-pair.sizes.items c.push.new.self.items c.in_ok-count_lists.field-0 c.loop-pair-test.true c.loop-pair.invariant.sizes c.in_ok-push.ensures.items
          (sizes ∙ ap₂ (λ (a b : List ℕ). record { least = length (least_documents measure marks a b); most = length (least_documents measure marks b a) }) c.ranking-a.ensures c.ranking-b.ensures);
      size = omega (arith, c.count_lists.auto.counts, c.loop-pair.invariant.size);
      counted = counted_more (documents_on measure marks t) pairs i _ c.loop-pair-test.true c.args.counts.now now c.count_lists.new.counts (c.loop-pair.invariant.size ∙ sym c.requires.size) c.loop-pair.invariant.counted
          (subst (λ (l : List ℕ). AreCounted now l c.count_lists.new.counts) (ap₂ (λ (a b : List ℕ). case_documents measure marks a b) c.ranking-a.ensures c.ranking-b.ensures) after.counts);
    }

pub returns-clause-counts : goal.returns-clause-counts
returns-clause-counts g c =
    let measure = g.Self.Measure.measured c.args.self.now in
    let documents = pair_documents measure c.args.marks.now c.args.rankings.now in
    subst (λ (l : List _). AreCounted c.args.counts.now (documents l) c.loop-pair.counts) (take_all c.loop-pair.pair-index c.args.pairs.now (omega (arith, c.loop-pair-test.false))) c.loop-pair.invariant.counted
