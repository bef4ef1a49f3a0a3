use Rattle.std.proofs.Common.{◌≡◌, ◌+◌, get_or, Some, sym, subst, inl, inr, arith}
use Rattle.std.specs.Prelude.{slice_get}
use Rattle.std.proofs.lemmas.Option.{slice_get-get_or}
use Rattle.desk_model.specs.declared.pairs.PairPlaces.{PairPlaces}
use Rattle.desk_model.specs.declared.types.Verdict.{Verdict}
use Rattle.desk_model.specs.declared.types.Verdict.TheVariants.{Above}
use Rattle.measure_core.proofs.RunPairs.{IsAt, at_within, at_next}
use Rattle.order_tiers.specs.Rows.{IsSquare}
use Rattle.order_tiers.proofs.Directing.{pair_more, pair_less}
use Rattle.order_tiers.proofs.direct.add_pairs.Goals as goal

pub add_pair-requires : goal.add_pair-requires
add_pair-requires c =
    let n = c.args.pairs.now.runs in
    let inv = c.loop-place.invariant in
    let test = c.loop-place-test.true in
    let within = at_within n c.loop-place.place c.loop-place.at inv.at_pair (omega (arith, test, c.args.pairs.now.each)) in
    let count = inv.square.count in
    record {
      square = subst (λ k. IsSquare k c.loop-place.rows) (sym count) inv.square;
      order = inv.at_pair.placed.order;
      within = omega (arith, within, count);
    }

pub next-at-requires-clause-within : goal.next-at-requires-clause-within
next-at-requires-clause-within c =
    let test = c.loop-place-test.true in
    at_within c.args.pairs.now.runs c.loop-place.place c.loop-place.at c.loop-place.invariant.at_pair (omega (arith, test, c.args.pairs.now.each))

pub loop-place-preserved : goal.loop-place-preserved
loop-place-preserved c =
    let m = c.args.pairs.now.runs in
    let verdicts = c.args.pairs.now.verdicts.now in
    let at = c.loop-place.at in
    let place = c.loop-place.place in
    let inv = c.loop-place.invariant in
    let v : Verdict = get_or verdicts place Above in
    let test = c.loop-place-test.true in
    let step = at_next m place at inv.at_pair (omega (arith, test, c.args.pairs.now.each)) in
    let said : slice_get verdicts place ≡ Some v = slice_get-get_or verdicts place Above test in
    record {
      square = subst (λ k. IsSquare k c.add_pair.new.rows) inv.square.count c.add_pair.ensures.square;
      above = λ a b. (
        λ e. pair_more m verdicts place at.first at.second v step.0 said a b (elim ((c.add_pair.ensures.above a b).0 e) [ inl old ↦ inl ((inv.above a b).0 old) | inr new ↦ inr new ]),
        λ h. (c.add_pair.ensures.above a b).1 (elim (pair_less m verdicts place at.first at.second v step.0 said a b h) [ inl old ↦ inl ((inv.above a b).1 old) | inr new ↦ inr new ]),
      );
      at_pair = subst (λ (p : PairPlaces). IsAt m (place + 1) p) (sym c.next-at.ensures) step.1;
    }
