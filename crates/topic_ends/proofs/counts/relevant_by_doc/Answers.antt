use mir.Val.{bool_byte}
use Rattle.std.proofs.Common.{◌≡◌, ◌<◌, Bool, true, false, slice_index_or, refl, ap, arith}
use Rattle.desk_model.specs.declared.placed.Placed.{Placed}
use Rattle.desk_model.proofs.Counts.{one_if}
use Rattle.topic_counts.proofs.Places.{at_place, list_within, one_at_most}
use Rattle.topic_ends.proofs.ByDocument.{among, beyond, counted_done, counted_from, counted_whole, few_among}
use Rattle.topic_ends.proofs.counts.relevant_by_doc.Goals.{then-place-k, else-place-k}
use Rattle.topic_ends.proofs.counts.relevant_by_doc.Goals as goal

abbrev nowhere : Placed
nowhere = record { doc = 0; rank = 0 }

byte_is : (b : Bool) → bool_byte b ≡ one_if b
byte_is true = refl
byte_is false = refl

pub loop-place-init : goal.loop-place-init
loop-place-init g c =
    let relevant = c.args.relevant.now in
    let places = c.by_doc-place-items in
    omega (arith, counted_whole (g.T.Relevance.truth relevant) c.args.k (g.T.Relevance.universe relevant) c.args.ranking.now places.result.now c.requires places.ensures.ranks)

pub find_relevant-found-requires : goal.find_relevant-found-requires
find_relevant-found-requires g c =
    let places = c.by_doc-place-items in
    let n = g.T.Relevance.universe c.args.relevant.now in
    at_place (λ (e : Placed). e.doc < n) c.loop-place.place-index places.result.now nowhere c.loop-place-test.true (list_within n c.args.ranking.now places.result.now c.requires places.ensures.ranks)

pub overflow_add-count : goal.overflow_add-count
overflow_add-count g c =
    let relevant = c.args.relevant.now in
    let found = c.find_relevant-found.result.is_found in
    omega (arith, c.loop-place.invariant, few_among (g.T.Relevance.truth relevant) c.args.k (g.T.Relevance.universe relevant) c.args.ranking.now c.requires, c.from-count.ensures, byte_is found, one_at_most found)

pub loop-place-preserved : goal.loop-place-preserved
loop-place-preserved g c =
    let truth = g.T.Relevance.truth c.args.relevant.now in
    let n = g.T.Relevance.universe c.args.relevant.now in
    let k = c.args.k in
    let places = c.by_doc-place-items in
    let i = c.loop-place.place-index in
    let place = slice_index_or places.result.now i nowhere in
    let step = counted_from truth k n i places.result.now nowhere c.loop-place-test.true places.ensures.ascending (list_within n c.args.ranking.now places.result.now c.requires places.ensures.ranks) in
    elim c.if-place-k.branch [
      | then-place-k w ↦
          let found : one_if w.find_relevant-found.result.is_found ≡ one_if (truth place.doc) = ap one_if w.find_relevant-found.ensures in
          omega (arith, c.loop-place.invariant, step, among (truth place.doc) place.rank k w.if-place-k.true, found, byte_is w.find_relevant-found.result.is_found, w.from-count.ensures, w.count-is)
      | else-place-k w ↦ omega (arith, c.loop-place.invariant, step, beyond (truth place.doc) place.rank k w.if-place-k.false, w.count-is)
    ]

pub returns-clause-count : goal.returns-clause-count
returns-clause-count g c =
    let relevant = c.args.relevant.now in
    omega (arith, c.loop-place.invariant, counted_done (g.T.Relevance.truth relevant) c.args.k (g.T.Relevance.universe relevant) c.loop-place.place-index c.by_doc-place-items.result.now c.loop-place-test.false)

pub returns-clause-few : goal.returns-clause-few
returns-clause-few g c =
    let relevant = c.args.relevant.now in
    omega (arith, c.loop-place.invariant, few_among (g.T.Relevance.truth relevant) c.args.k (g.T.Relevance.universe relevant) c.args.ranking.now c.requires)
