use Rattle.std.proofs.Common.{◌≡◌, ℕ, List, length, ap₂, sym, subst, ◌∙◌, arith}
use Rattle.std.proofs.lemmas.List.{take_all}
use Rattle.std.proofs.lemmas.Option.{same_Some}
use Rattle.desk_model.specs.declared.types.MeasureName.TheVariants.{RPrecision}
use Rattle.measure_core.specs.Lists.{case_documents, least_documents, AreCounted, HaveRoomFor}
use Rattle.measure_core.specs.PairLists.{documents_on, pair_documents, sizes_on}
use Rattle.measure_core.specs.Pairs.{ranking_on}
use Rattle.measure_core.specs.Ranks.{AreRanksIn}
use Rattle.measure_core.proofs.PairListing.{counted_more, made_more, room_for_next, sizes_are}
use Rattle.rprec.proofs.pair_lists.count_by_sums.Goals as goal

pub count_cases-requires-clause-kept : goal.count_cases-requires-clause-kept
count_cases-requires-clause-kept c =
    c.change_first.ensures.room c.args.on.now.marks.now c.loop-pair.invariant.topic
    (λ is. subst (λ (l : List ℕ). AreRanksIn c.args.on.now.marks.now l c.loop-pair.room.first.items) (sym c.ranking-a.ensures) (c.loop-pair.invariant.first _ is))

pub count_cases-requires-clause-room : goal.count_cases-requires-clause-room
count_cases-requires-clause-room c =
    let marks = c.args.on.now.marks.now in
    let now : List ℕ = c.loop-pair.counts in
    subst (HaveRoomFor now) (ap₂ (λ (a b : List ℕ). case_documents RPrecision marks a b) (sym c.ranking-a.ensures) (sym c.ranking-b.ensures))
    (room_for_next (documents_on RPrecision marks c.args.on.now.rankings.now) c.args.pairs.now c.loop-pair.pair-index _ c.loop-pair-test.true c.args.counts.now now (c.loop-pair.invariant.size ∙ sym c.requires.size) c.requires.room c.loop-pair.invariant.counted)

pub loop-pair-preserved : goal.loop-pair-preserved
loop-pair-preserved c =
    let marks = c.args.on.now.marks.now in
    let t = c.args.on.now.rankings.now in
    let pairs = c.args.pairs.now in
    let i = c.loop-pair.pair-index in
    let now : List ℕ = c.loop-pair.counts in
    let after = c.count_cases.ensures in
    let sizes : c.count_cases.result ≡ record { least = length (least_documents RPrecision marks c.ranking-a.result.now c.ranking-b.result.now); most = length (least_documents RPrecision marks c.ranking-b.result.now c.ranking-a.result.now) } = sizes_are c.count_cases.result _ _ after.least after.most in
    record {
      topic = after.kept.topic;
      first = λ r is. subst (λ (n : ℕ). AreRanksIn marks (ranking_on t n) c.count_cases.new.room.first.items) (same_Some _ r (sym c.change_first.ensures.first ∙ is)) (subst (λ (l : List ℕ). AreRanksIn marks l c.count_cases.new.room.first.items) c.ranking-a.ensures after.kept.ranks);
      sizes = made_more (sizes_on RPrecision marks t) pairs i _ c.loop-pair.sizes.items c.push.new.self.items c.count_cases.result c.loop-pair-test.true c.loop-pair.invariant.sizes c.in_ok-push.ensures.items
          (sizes ∙ ap₂ (λ (a b : List ℕ). record { least = length (least_documents RPrecision marks a b); most = length (least_documents RPrecision marks b a) }) c.ranking-a.ensures c.ranking-b.ensures);
      size = omega (arith, c.count_cases.auto.counts, c.loop-pair.invariant.size);
      counted = counted_more (documents_on RPrecision marks t) pairs i _ c.loop-pair-test.true c.args.counts.now now c.count_cases.new.counts (c.loop-pair.invariant.size ∙ sym c.requires.size) c.loop-pair.invariant.counted
          (subst (λ (l : List ℕ). AreCounted now l c.count_cases.new.counts) (ap₂ (λ (a b : List ℕ). case_documents RPrecision marks a b) c.ranking-a.ensures c.ranking-b.ensures) after.counts);
    }

pub returns-clause-counts : goal.returns-clause-counts
returns-clause-counts c =
    let documents = pair_documents RPrecision c.args.on.now.marks.now c.args.on.now.rankings.now in
    subst (λ (l : List _). AreCounted c.args.counts.now (documents l) c.loop-pair.counts) (take_all c.loop-pair.pair-index c.args.pairs.now (omega (arith, c.loop-pair-test.false))) c.loop-pair.invariant.counted
