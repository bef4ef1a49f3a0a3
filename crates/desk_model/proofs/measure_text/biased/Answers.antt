use Rattle.std.proofs.Common.{◌≡◌, ◌++◌, ◌+◌, ◌∙◌, sym, drop, decimal, replicate}
use Rattle.desk_model.proofs.Decimals.{decimals_in, with_zeros}
use Rattle.desk_model.proofs.measure_text.biased.Goals as goal

pub returns-in_err-top-clause-none : goal.returns-in_err-top-clause-none
returns-in_err-top-clause-none c = rw c.from_residual-in_err-top.ensures (λ top bottom is (zeros, e, few).
    let ds = c.in_ok-decimals.decimals.now in
    let decimals : ds ≡ drop 1 (decimal (bottom + top)) ++ replicate zeros 48 = decimals_in ds (drop 1 (decimal (bottom + top))) (replicate zeros 48) (sym c.in_ok-decimals.ensures.some ∙ e) in
    let are = (with_zeros top bottom zeros ds is decimals few).0 in
    c.in_err-top.ensures.none _ are.some are.below_one are.few are.written)
