use Rattle.std.proofs.Common.{◌≡◌, ◌<◌, ℕ, List, length, get_or, pos, inl, inr, ap, sym, ◌∙◌, subst, arith}
use Rattle.std.specs.List.{Contains, zip}
use Rattle.std.proofs.lemmas.List.{get_or_default}
use Rattle.std.proofs.lemmas.Option.{slice_get_within}
use Rattle.desk_model.specs.Pairs.{pairs_of}
use Rattle.desk_model.specs.declared.types.Totals.{Totals}
use Rattle.pair_table.specs.Places.{IsPlaceOf}
use Rattle.pair_table.specs.Sums.{run_numbers, swapped_totals}
use Rattle.pair_table.proofs.Swapped.{swapped_twice}
use Rattle.pair_table.proofs.Zips.{beside}
use Rattle.pair_table.proofs.two_runs.TwoRuns.sums_in.Goals as goal

abbrev none : Totals
none = record { least_lo = pos 0; least_hi = pos 0; most_lo = pos 0; most_hi = pos 0 }

pub returns-in-InOrder : goal.returns-in-InOrder
returns-in-InOrder c =
    let two = c.args.self.now in
    let totals = c.args.totals.now in
    let place = c.in-InOrder.place in
    let pairs : List (ℕ × ℕ) = pairs_of (run_numbers two.runs) in
    let there = subst (IsPlaceOf two.runs two.first two.second) c.in-InOrder.is c.place.ensures in
    let within : place < length totals = omega (arith, slice_get_within pairs place (two.first, two.second) there, c.requires.count) in
    inl (beside pairs totals place (two.first, two.second) (get_or totals place none) c.requires.count there (get_or_default totals place none (get_or totals place none) within))

pub returns-in-Swapped : goal.returns-in-Swapped
returns-in-Swapped c =
    let two = c.args.self.now in
    let totals = c.args.totals.now in
    let place = c.in-Swapped.place in
    let value : Totals = get_or totals place none in
    let pairs : List (ℕ × ℕ) = pairs_of (run_numbers two.runs) in
    let there = subst (IsPlaceOf two.runs two.first two.second) c.in-Swapped.is c.place.ensures in
    let within : place < length totals = omega (arith, slice_get_within pairs place (two.second, two.first) there, c.requires.count) in
    let found = beside pairs totals place (two.second, two.first) value c.requires.count there (get_or_default totals place none value within) in
    let back : swapped_totals c.swapped_sums.result ≡ value = ap swapped_totals c.swapped_sums.ensures ∙ swapped_twice value in
    inr (subst (λ (t : Totals). Contains (zip pairs totals) ((two.second, two.first), t)) (sym back) found)
