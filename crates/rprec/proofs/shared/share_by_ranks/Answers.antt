use Rattle.std.proofs.Common.{ℕ, ◌+◌, ◌≤◌, max, nat_lt, length, get_or, arith, refl, ap, ◌∙◌, sym, subst}
use Rattle.rprec.specs.Shared.{counted}
use Rattle.rprec.proofs.Ranked.{few_shared, rank_short, ranked_at, shared_end, shared_next, shared_start}
use Rattle.rprec.proofs.shared.share_by_ranks.Goals as goal

pub count-requires-clause-high : goal.count-requires-clause-high
count-requires-clause-high c =
    let known = c.args.known.now in
    let place = c.loop-place.place in
    let rank = get_or c.args.ranks.now (get_or known.b.now place 0) 0 in
    let ranked = ranked_at known.marks.now known.a.now known.b.now known.b.now c.args.ranks.now place refl c.loop-place-test.true known.met.second.within c.requires.ranks in
    let few : max rank (place + 1) ≤ length c.loop-place.counts = omega (arith, rank_short known.a.now (get_or known.b.now place 0) rank ranked, c.loop-place.invariant.first_fit, c.loop-place.invariant.second_fit, c.loop-place-test.true) in
    subst (λ (k : ℕ). k ≤ length c.loop-place.counts) (sym c.max.ensures) few

pub count-requires-clause-few : goal.count-requires-clause-few
count-requires-clause-few c = few_shared c.loop-place.place c.args.known.now.marks.now c.args.known.now.a.now c.args.known.now.b.now c.loop-place.counts c.loop-place.invariant

pub loop-place-init : goal.loop-place-init
loop-place-init c = shared_start c.args.known.now.marks.now c.args.known.now.a.now c.args.known.now.b.now c.args.counts.now c.requires.none c.requires.first c.requires.second

pub loop-place-preserved : goal.loop-place-preserved
loop-place-preserved c =
    let known = c.args.known.now in
    let place = c.loop-place.place in
    let rank = get_or c.args.ranks.now (get_or known.b.now place 0) 0 in
    let ranked = ranked_at known.marks.now known.a.now known.b.now known.b.now c.args.ranks.now place refl c.loop-place-test.true known.met.second.within c.requires.ranks in
    let after = c.count.ensures ∙ ap (λ (k : ℕ). counted known.marks.now (nat_lt 0 rank) (get_or known.b.now place 0) k c.loop-place.counts) c.max.ensures in
    let few : max rank (place + 1) ≤ length c.loop-place.counts = omega (arith, rank_short known.a.now (get_or known.b.now place 0) rank ranked, c.loop-place.invariant.first_fit, c.loop-place.invariant.second_fit, c.loop-place-test.true) in
    shared_next known.marks.now known.a.now known.b.now place known.met.first.distinct known.met.second.distinct c.loop-place-test.true rank c.loop-place.counts c.count.new.counts ranked few after c.loop-place.invariant

pub returns : goal.returns
returns c = shared_end c.loop-place.place c.args.known.now.marks.now c.args.known.now.a.now c.args.known.now.b.now c.loop-place.counts (omega (arith, c.loop-place-test.false)) c.loop-place.invariant
