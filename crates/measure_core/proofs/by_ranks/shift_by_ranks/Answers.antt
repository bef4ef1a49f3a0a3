use Rattle.std.proofs.Common.{◌≡◌, ◌⊎◌, inl, inr, ◌≤◌, ◌+◌, ℕ, Option, nat_le, min, List, drop, length, slice_index_or, refl, ap, sym, subst, ◌∙◌, arith}
use Rattle.std.proofs.Math.ListN.{set}
use Rattle.desk_model.specs.Placed.{lookup}
use Rattle.desk_model.specs.Ranking.{rank}
use Rattle.desk_model.specs.declared.placed.Placed.{Placed}
use Rattle.desk_model.proofs.Counts.{one_if}
use Rattle.measure_core.specs.Shifts.{HasRoom, IsShifted, HaveRoom, AreShifted}
use Rattle.topic_counts.proofs.Places.{goes_on, one_at_most}
use Rattle.measure_core.specs.Places.{IsLeft, rank_unless_after}
use Rattle.measure_core.specs.Worths.{worths_apart}
use Rattle.measure_core.proofs.Apart.{apart, none_apart, one_ended}
use Rattle.measure_core.proofs.Sides.{room_first, room_second, both_shifted}
use Rattle.measure_core.proofs.Walking.{left_whole, first_head, second_head, AreBalanced, doc_within, rank_is_within, IsLeft-drop, balanced_start, balanced_done, room_for_rest, placed_step, placed_room}
use Rattle.measure_core.proofs.by_ranks.shift_by_ranks.Goals as goal
use Rattle.measure_core.proofs.by_ranks.shift_by_ranks.Goals.{then-loop-i-test+else-j-second, else-loop-i-test}

abbrev nowhere : Placed
nowhere = record { doc = 0; rank = 0 }

pub loop-i-init : goal.loop-i-init
loop-i-init g c =
    let worth = g.W.RankWorth.worth c.args.ranks.now in
    let es = c.by_doc-first.result.now in
    let fs = c.by_doc-second.result.now in
    record {
      first_in = omega arith;
      second_in = omega arith;
      balanced = balanced_start (apart worth) (none_apart worth) c.args.shift (worths_apart worth c.args.a.now c.args.b.now) c.args.totals.now es fs
          (λ doc. sym (ap (λ (x : Option ℕ). apart worth x (lookup fs doc)) (c.by_doc-first.ensures.ranks doc) ∙ ap (apart worth (rank c.args.a.now doc)) (c.by_doc-second.ensures.ranks doc)));
    }

pub loop-i-smaller : goal.loop-i-smaller
loop-i-smaller g c =
    let x = slice_index_or c.by_doc-first.result.now c.loop-i.i nowhere in
    let y = slice_index_or c.by_doc-second.result.now c.loop-i.j nowhere in
    let p : c.passed-i.result ≡ one_if (nat_le x.doc y.doc) = c.passed-i.ensures in
    let q : c.passed-j.result ≡ one_if (nat_le y.doc x.doc) = c.passed-j.ensures in
    omega (arith, p, q, goes_on x.doc y.doc, one_at_most (nat_le x.doc y.doc), one_at_most (nat_le y.doc x.doc))

pub first_weight-weight-requires-clause-first : goal.first_weight-weight-requires-clause-first
first_weight-weight-requires-clause-first g c =
    let n = length c.args.totals.now in
    let es = c.by_doc-first in
    rank_is_within n c.loop-i.i es.result.now nowhere (left_whole n c.args.a.now es.result.now c.requires.first es.ensures.ascending es.ensures.ranks) c.loop-i-test.true

pub first_weight-weight-requires-clause-second : goal.first_weight-weight-requires-clause-second
first_weight-weight-requires-clause-second g c =
    let n = length c.args.totals.now in
    let fs = c.by_doc-second in
    rank_is_within n c.loop-i.j fs.result.now nowhere (left_whole n c.args.b.now fs.result.now c.requires.second fs.ensures.ascending fs.ensures.ranks) c.if-j-second.true

pub bounds-totals-min : goal.bounds-totals-min
bounds-totals-min g c =
    let n = length c.args.totals.now in
    let es = c.by_doc-first in
    omega (arith, c.min.ensures, c.loop-i.auto.totals, doc_within n c.loop-i.i es.result.now nowhere (left_whole n c.args.a.now es.result.now c.requires.first es.ensures.ascending es.ensures.ranks) c.loop-i-test.true)

pub apply-requires : goal.apply-requires
apply-requires g c =
    let n = length c.args.totals.now in
    let worth = g.W.RankWorth.worth c.args.ranks.now in
    let first = c.by_doc-first in
    let second = c.by_doc-second in
    let es = first.result.now in
    let fs = second.result.now in
    let l = c.loop-i in
    let x = slice_index_or es l.i nowhere in
    let y = slice_index_or fs l.j nowhere in
    let left = left_whole n c.args.a.now es c.requires.first first.ensures.ascending first.ensures.ranks in
    let right = left_whole n c.args.b.now fs c.requires.second second.ensures.ascending second.ensures.ranks in
    subst (λ (doc : ℕ). HasRoom c.args.shift c.from.result (slice_index_or l.totals doc 0)) (sym c.min.ensures)
    (placed_room (apart worth) (none_apart worth) c.args.shift (worths_apart worth c.args.a.now c.args.b.now) c.args.totals.now es fs l.totals n (min x.doc y.doc) l.i l.j _ _ c.from.result (rank_unless_after x y) (rank_unless_after y x)
    l.invariant.balanced c.requires.room left right (first_head l.i _ es nowhere y c.loop-i-test.true refl) (second_head l.j _ fs nowhere x c.if-j-second.true refl) (omega (arith, doc_within n l.i es nowhere left c.loop-i-test.true))
    (c.from.ensures ∙ c.first_weight-weight.ensures))

pub loop-i-preserved : goal.loop-i-preserved
loop-i-preserved g c =
    let n = length c.args.totals.now in
    let worth = g.W.RankWorth.worth c.args.ranks.now in
    let first = c.by_doc-first in
    let second = c.by_doc-second in
    let es = first.result.now in
    let fs = second.result.now in
    let l = c.loop-i in
    let x = slice_index_or es l.i nowhere in
    let y = slice_index_or fs l.j nowhere in
    let left = left_whole n c.args.a.now es c.requires.first first.ensures.ascending first.ensures.ranks in
    let right = left_whole n c.args.b.now fs c.requires.second second.ensures.ascending second.ensures.ranks in
    let p : c.passed-i.result ≡ one_if (nat_le x.doc y.doc) = c.passed-i.ensures in
    let q : c.passed-j.result ≡ one_if (nat_le y.doc x.doc) = c.passed-j.ensures in
    let shifted : IsShifted c.args.shift c.from.result (slice_index_or l.totals (min x.doc y.doc) 0) c.apply.result =
    subst (λ (doc : ℕ). IsShifted c.args.shift c.from.result (slice_index_or l.totals doc 0) c.apply.result) c.min.ensures c.apply.ensures in
    record {
      first_in = omega (arith, p, one_at_most (nat_le x.doc y.doc));
      second_in = omega (arith, q, one_at_most (nat_le y.doc x.doc));
      balanced = subst (λ (doc : ℕ). AreBalanced (apart worth) (none_apart worth) c.args.shift (worths_apart worth c.args.a.now c.args.b.now) c.args.totals.now (drop (l.i + c.passed-i.result) es) (drop (l.j + c.passed-j.result) fs) (set l.totals doc c.apply.result)) (sym c.min.ensures)
          (placed_step (apart worth) (none_apart worth) c.args.shift (worths_apart worth c.args.a.now c.args.b.now) c.args.totals.now es fs l.totals n (min x.doc y.doc) l.i l.j (l.i + c.passed-i.result) (l.j + c.passed-j.result) c.from.result c.apply.result (rank_unless_after x y) (rank_unless_after y x)
          l.invariant.balanced left right (first_head l.i _ es nowhere y c.loop-i-test.true (ap (λ m. l.i + m) p)) (second_head l.j _ fs nowhere x c.if-j-second.true (ap (λ m. l.j + m) q)) (omega (arith, doc_within n l.i es nowhere left c.loop-i-test.true))
          (c.from.ensures ∙ c.first_weight-weight.ensures) shifted);
    }

pub shift_rest-requires-clause-places : goal.shift_rest-requires-clause-places
shift_rest-requires-clause-places g c =
    let n = length c.args.totals.now in
    let es = c.by_doc-first in
    subst (λ (m : ℕ). IsLeft m c.rest.result.now) (sym c.loop-i.auto.totals)
    (subst (IsLeft n) (sym c.rest.ensures) (IsLeft-drop n c.loop-i.i es.result.now (left_whole n c.args.a.now es.result.now c.requires.first es.ensures.ascending es.ensures.ranks)))

pub shift_rest-requires-2-clause-places : goal.shift_rest-requires-2-clause-places
shift_rest-requires-2-clause-places g c =
    let n = length c.args.totals.now in
    let fs = c.by_doc-second in
    subst (λ (m : ℕ). IsLeft m c.rest-2.result.now) (sym (c.shift_rest.ensures.count ∙ c.loop-i.auto.totals))
    (subst (IsLeft n) (sym c.rest-2.ensures) (IsLeft-drop n c.loop-i.j fs.result.now (left_whole n c.args.b.now fs.result.now c.requires.second fs.ensures.ascending fs.ensures.ranks)))

pub shift_rest-requires-clause-room : goal.shift_rest-requires-clause-room
shift_rest-requires-clause-room g c =
    let worth = g.W.RankWorth.worth c.args.ranks.now in
    let es = c.by_doc-first.result.now in
    let fs = c.by_doc-second.result.now in
    let l = c.loop-i in
    let left = drop l.i es in
    let right = drop l.j fs in
    let ended : (length es ≤ l.i) ⊎ (length fs ≤ l.j) = elim c.loop-i-test.branch [ then-loop-i-test+else-j-second w ↦ inr w.if-j-second.false | else-loop-i-test w ↦ inl w.loop-i-test.false ] in
    let sum = one_ended worth (g.met.W.RankWorth.absent c.args.ranks.now) es fs l.i l.j ended in
    subst (λ (zs : List Placed). HaveRoom c.args.shift (λ doc. worth (lookup zs doc)) l.totals) (sym c.rest.ensures)
    (room_first c.args.shift (λ doc. apart worth (lookup left doc) (lookup right doc)) (λ doc. worth (lookup left doc)) (λ doc. worth (lookup right doc)) sum l.totals (room_for_rest (apart worth) (none_apart worth) c.args.shift (worths_apart worth c.args.a.now c.args.b.now) c.args.totals.now left right l.totals l.invariant.balanced c.requires.room))

pub shift_rest-requires-2-clause-room : goal.shift_rest-requires-2-clause-room
shift_rest-requires-2-clause-room g c =
    let worth = g.W.RankWorth.worth c.args.ranks.now in
    let es = c.by_doc-first.result.now in
    let fs = c.by_doc-second.result.now in
    let l = c.loop-i in
    let left = drop l.i es in
    let right = drop l.j fs in
    let ended : (length es ≤ l.i) ⊎ (length fs ≤ l.j) = elim c.loop-i-test.branch [ then-loop-i-test+else-j-second w ↦ inr w.if-j-second.false | else-loop-i-test w ↦ inl w.loop-i-test.false ] in
    let sum = one_ended worth (g.met.W.RankWorth.absent c.args.ranks.now) es fs l.i l.j ended in
    let between = c.shift_rest.new.totals in
    let first : AreShifted c.args.shift (λ doc. worth (lookup left doc)) l.totals between =
    subst (λ (zs : List Placed). AreShifted c.args.shift (λ doc. worth (lookup zs doc)) l.totals between) c.rest.ensures c.shift_rest.ensures in
    subst (λ (zs : List Placed). HaveRoom c.args.shift (λ doc. worth (lookup zs doc)) between) (sym c.rest-2.ensures)
    (room_second c.args.shift (λ doc. apart worth (lookup left doc) (lookup right doc)) (λ doc. worth (lookup left doc)) (λ doc. worth (lookup right doc)) sum l.totals between (room_for_rest (apart worth) (none_apart worth) c.args.shift (worths_apart worth c.args.a.now c.args.b.now) c.args.totals.now left right l.totals l.invariant.balanced c.requires.room) first)

pub returns : goal.returns
returns g c =
    let worth = g.W.RankWorth.worth c.args.ranks.now in
    let es = c.by_doc-first.result.now in
    let fs = c.by_doc-second.result.now in
    let l = c.loop-i in
    let left = drop l.i es in
    let right = drop l.j fs in
    let ended : (length es ≤ l.i) ⊎ (length fs ≤ l.j) = elim c.loop-i-test.branch [ then-loop-i-test+else-j-second w ↦ inr w.if-j-second.false | else-loop-i-test w ↦ inl w.loop-i-test.false ] in
    let sum = one_ended worth (g.met.W.RankWorth.absent c.args.ranks.now) es fs l.i l.j ended in
    let between = c.shift_rest.new.totals in
    let now = c.shift_rest-2.new.totals in
    let first : AreShifted c.args.shift (λ doc. worth (lookup left doc)) l.totals between =
    subst (λ (zs : List Placed). AreShifted c.args.shift (λ doc. worth (lookup zs doc)) l.totals between) c.rest.ensures c.shift_rest.ensures in
    let second : AreShifted c.args.shift (λ doc. worth (lookup right doc)) between now =
    subst (λ (zs : List Placed). AreShifted c.args.shift (λ doc. worth (lookup zs doc)) between now) c.rest-2.ensures c.shift_rest-2.ensures in
    balanced_done (apart worth) (none_apart worth) c.args.shift (worths_apart worth c.args.a.now c.args.b.now) c.args.totals.now left right l.totals now l.invariant.balanced
    (both_shifted c.args.shift (λ doc. apart worth (lookup left doc) (lookup right doc)) (λ doc. worth (lookup left doc)) (λ doc. worth (lookup right doc)) sum l.totals between now first second)
