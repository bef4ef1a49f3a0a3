use Rattle.std.proofs.Common.{◌≡◌, ◌++◌, to_z, of_z, arith, append_assoc, ◌∙◌}
use Rattle.std.specs.Int.{w128}
use Rattle.std.proofs.lemmas.Int.{ints}
use Rattle.std.proofs.lemmas.Result.{on_ok_weaker}
use Rattle.desk_report.specs.Close.{sum_text}
use Rattle.desk_report.proofs.Joins.{four}
use Rattle.desk_report.proofs.close.push_sums.Goals as goal

pub returns : goal.returns
returns c =
    let totals = c.args.totals.now in
    let least_lo : to_z w128 (of_z w128 totals.least_lo) ≡ totals.least_lo = omega (arith, ints) in
    let least_hi : to_z w128 (of_z w128 totals.least_hi) ≡ totals.least_hi = omega (arith, ints) in
    let most_lo : to_z w128 (of_z w128 totals.most_lo) ≡ totals.most_lo = omega (arith, ints) in
    let most_hi : to_z w128 (of_z w128 totals.most_hi) ≡ totals.most_hi = omega (arith, ints) in
    let first = rw least_lo at c.in_ok-push_sum.ensures in
    let second = rw least_hi at c.in_ok-push_sum-2.ensures in
    let third = rw most_lo at c.in_ok-push_sum-3.ensures in
    let last = rw most_hi at c.push_sum-4.ensures in
    on_ok_weaker c.push_sum-4.result (λ (e : c.push_sum-4.new.out.items ≡ c.push_sum-3.new.out.items ++ sum_text totals.most_hi).
    four _ _ _ _ _ (sum_text totals.least_lo) (sum_text totals.least_hi) (sum_text totals.most_lo) (sum_text totals.most_hi) first second third e ∙ simp append_assoc) last
