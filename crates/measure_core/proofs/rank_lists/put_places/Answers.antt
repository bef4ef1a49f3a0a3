use Rattle.std.proofs.Common.{◌≡◌, ◌⊎◌, inl, inr, ◌≤◌, ◌+◌, ℕ, Bool, cond, ◌&&◌, nat_le, Option, Some, None, ◌++◌, List, length, take, slice_index_or, ap, ap₂, sym, subst, ◌∙◌, length-drop, arith}
use Rattle.desk_model.specs.Mark.{is_unjudged, mark_at}
use Rattle.desk_model.specs.declared.placed.Placed.{Placed}
use Rattle.desk_model.proofs.Counts.{one_if}
use Rattle.topic_counts.proofs.Places.{goes_on, one_at_most}
use Rattle.measure_core.specs.Lists.{placed_documents}
use Rattle.measure_core.specs.Places.{IsLeft}
use Rattle.measure_core.proofs.Placed.{walk_start, walk_next, walk_end}
use Rattle.measure_core.proofs.Slots.{one_of_both}
use Rattle.measure_core.proofs.Tallying.{known_rank}
use Rattle.measure_core.proofs.Walking.{doc_within, rank_is_within, IsLeft-drop}
use Rattle.measure_core.proofs.rank_lists.put_places.Goals as goal
use Rattle.measure_core.proofs.rank_lists.put_places.Goals.{then-loop-i-test+else-j-second, else-loop-i-test}

abbrev nowhere : Placed
nowhere = record { doc = 0; rank = 0 }

pub loop-i-init : goal.loop-i-init
loop-i-init g c = record {
  first_in = omega arith;
  second_in = omega arith;
  walked = walk_start c.args.other.now.marks.now (g.T.RankTest.test c.args.test.now) c.args.one.now.places.now c.args.other.now.places.now (take c.args.before c.args.docs.now);
  size = omega arith;
  room = omega arith;
}

pub bounds-marks-y : goal.bounds-marks-y
bounds-marks-y g c = doc_within (length c.args.other.now.marks.now) c.loop-i.j c.args.other.now.places.now nowhere c.args.other.now.left c.if-j-second.true

pub put-count-requires : goal.put-count-requires
put-count-requires g c = omega (arith, c.loop-i.invariant.room, c.loop-i.invariant.size, c.if-j-second.true, c.requires)

pub loop-i-smaller : goal.loop-i-smaller
loop-i-smaller g c =
    let x = slice_index_or c.args.one.now.places.now c.loop-i.i nowhere in
    let y = slice_index_or c.args.other.now.places.now c.loop-i.j nowhere in
    let p : c.passed-i.result ≡ one_if (nat_le x.doc y.doc) = c.passed-i.ensures in
    let q : c.passed-j.result ≡ one_if (nat_le y.doc x.doc) = c.passed-j.ensures in
    omega (arith, p, q, goes_on x.doc y.doc, one_at_most (nat_le x.doc y.doc), one_at_most (nat_le y.doc x.doc))

pub loop-i-preserved : goal.loop-i-preserved
loop-i-preserved g c =
    let marks = c.args.other.now.marks.now in
    let test = g.T.RankTest.test c.args.test.now in
    let es = c.args.one.now.places.now in
    let fs = c.args.other.now.places.now in
    let l = c.loop-i in
    let x = slice_index_or es l.i nowhere in
    let y = slice_index_or fs l.j nowhere in
    let listed = c.lists_second-is_listed in
    let p : c.passed-i.result ≡ one_if (nat_le x.doc y.doc) = c.passed-i.ensures in
    let q : c.passed-j.result ≡ one_if (nat_le y.doc x.doc) = c.passed-j.ensures in
    let first_known = known_rank x.rank (rank_is_within (length c.args.one.now.marks.now) l.i es nowhere c.args.one.now.left c.loop-i-test.true) in
    let second_known = known_rank y.rank (rank_is_within (length marks) l.j fs nowhere c.args.other.now.left c.if-j-second.true) in
    let told = listed.ensures ∙ ap₂ (λ (r s : Option ℕ). nat_le y.doc x.doc && (is_unjudged (mark_at marks y.doc) && test (cond (nat_le x.doc y.doc) r None) s)) first_known second_known in
    let more : c.put-count.result ≡ l.count + one_if listed.result = c.put-count.ensures.count in
    record {
      first_in = omega (arith, p, one_at_most (nat_le x.doc y.doc));
      second_in = omega (arith, q, one_at_most (nat_le y.doc x.doc));
      walked = walk_next marks test es fs (take c.args.before c.args.docs.now) l.i l.j _ _ nowhere (take l.count l.docs) (take c.put-count.result c.put-count.new.docs) listed.result c.loop-i-test.true c.if-j-second.true c.args.one.now.left.ascending c.args.other.now.left.ascending l.invariant.walked
          (ap (λ m. l.i + m) p) (ap (λ m. l.j + m) q) told c.put-count.ensures.first;
      size = omega (arith, c.put-count.ensures.size, l.invariant.size);
      room = omega (arith, more, q, one_of_both listed.result (nat_le y.doc x.doc) _ listed.ensures, l.invariant.room);
    }

pub invariant_of-left : goal.invariant_of-left
invariant_of-left g c =
    let n = length c.args.other.now.marks.now in
    record { left = subst (IsLeft n) (sym c.rest.ensures) (IsLeft-drop n c.loop-i.j c.args.other.now.places.now c.args.other.now.left) }

pub put_rest-requires : goal.put_rest-requires
put_rest-requires g c =
    let left = length-drop {A = Placed} c.loop-i.j c.args.other.now.places.now in
    omega (arith, c.loop-i.invariant.room, c.loop-i.invariant.size, c.loop-i.invariant.second_in, c.requires, ap (λ (ps : List Placed). length ps) c.rest.ensures, left)

pub returns-clause-first : goal.returns-clause-first
returns-clause-first g c =
    let marks = c.args.other.now.marks.now in
    let test = g.T.RankTest.test c.args.test.now in
    let es = c.args.one.now.places.now in
    let fs = c.args.other.now.places.now in
    let l = c.loop-i in
    let before = take c.args.before c.args.docs.now in
    let from_none : Placed → Bool = λ p. test None (Some p.rank) in
    let ended : (length es ≤ l.i) ⊎ (length fs ≤ l.j) = elim c.loop-i-test.branch [ then-loop-i-test+else-j-second w ↦ inr w.if-j-second.false | else-loop-i-test w ↦ inl w.loop-i-test.false ] in
    let walked = walk_end marks test es fs before l.i l.j (take l.count l.docs) ended l.invariant.walked in
    c.put_rest.ensures.first ∙ ap (λ ps. take l.count l.docs ++ placed_documents marks from_none ps) c.rest.ensures ∙ walked
