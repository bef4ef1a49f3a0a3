use Rattle.std.proofs.Common.{◌≡◌, ℕ, ◌+◌, ◌≤◌, ◌++◌, drop, length, take, slice_index_or, Option, None, Some, ap, sym, ◌∙◌, arith}
use Rattle.std.specs.Prelude.{◌&&◌}
use Rattle.std.proofs.lemmas.List.{drop_all}
use Rattle.desk_model.specs.Mark.{is_unjudged, mark_at}
use Rattle.desk_model.specs.declared.placed.Placed.{Placed}
use Rattle.desk_model.proofs.Counts.{one_if}
use Rattle.topic_counts.proofs.Places.{one_at_most}
use Rattle.measure_core.specs.Lists.{placed_documents}
use Rattle.measure_core.proofs.Placed.{placed_step}
use Rattle.measure_core.proofs.Pushing.{cond_pushed, all_pushed}
use Rattle.measure_core.proofs.Tallying.{known_rank}
use Rattle.measure_core.proofs.Walking.{rank_is_within}
use Rattle.measure_core.proofs.rank_lists.put_rest.Goals as goal

abbrev nowhere : Placed
nowhere = record { doc = 0; rank = 0 }

pub put-count-requires : goal.put-count-requires
put-count-requires g c = omega (arith, c.loop-place.invariant.room, c.loop-place.invariant.size, c.loop-place-test.true, c.requires)

pub loop-place-preserved : goal.loop-place-preserved
loop-place-preserved g c =
    let marks = c.args.marked.now.marks.now in
    let places = c.args.marked.now.places.now in
    let i = c.loop-place.place-index in
    let test = λ (p : Placed). g.T.RankTest.test c.args.test.now None (Some p.rank) in
    let place = slice_index_or places i nowhere in
    let b = c.is_listed-is_listed.result in
    let more : c.put-count.result ≡ c.loop-place.count + one_if b = c.put-count.ensures.count in
    record {
      made = cond_pushed (take c.loop-place.count c.loop-place.docs) (placed_documents marks test (drop i places)) (placed_documents marks test (drop (i + 1) places)) _ (take c.put-count.result c.put-count.new.docs) place.doc b
          (placed_step marks test places i nowhere b c.loop-place-test.true (sym (c.is_listed-is_listed.ensures ∙ ap (λ (r : Option ℕ). is_unjudged (mark_at marks place.doc) && g.T.RankTest.test c.args.test.now None r) (known_rank place.rank (rank_is_within (length marks) i places nowhere c.args.marked.now.left c.loop-place-test.true))))) c.put-count.ensures.first c.loop-place.invariant.made;
      size = omega (arith, c.put-count.ensures.size, c.loop-place.invariant.size);
      room = omega (arith, more, one_at_most b, c.loop-place.invariant.room);
    }

pub returns-clause-first : goal.returns-clause-first
returns-clause-first g c =
    let marks = c.args.marked.now.marks.now in
    let places = c.args.marked.now.places.now in
    let i = c.loop-place.place-index in
    let test = λ (p : Placed). g.T.RankTest.test c.args.test.now None (Some p.rank) in
    let end : length places ≤ i = omega (arith, c.loop-place-test.false) in
    all_pushed (take c.loop-place.count c.loop-place.docs) (placed_documents marks test (drop i places)) (take c.args.before c.args.docs.now ++ placed_documents marks test places) (ap (placed_documents marks test) (drop_all i places end)) c.loop-place.invariant.made
