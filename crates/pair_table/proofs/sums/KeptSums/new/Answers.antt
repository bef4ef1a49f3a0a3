use Rattle.std.proofs.Common.{◌≡◌, [], ◌∙◌, ap, sym, pos, length, arith}
use Rattle.desk_model.specs.Desk.{pair_count}
use Rattle.desk_model.specs.Pairs.{pairs_of}
use Rattle.desk_model.specs.Verdict.{totals_of}
use Rattle.topic_counts.specs.declared.span.Span.{Span}
use Rattle.measure_core.proofs.RunPairs.{length-run_numbers}
use Rattle.pair_table.specs.Kept.{no_sums}
use Rattle.pair_table.specs.Sums.{run_numbers}
use Rattle.pair_table.proofs.Keeping.{all_copies, constant, same_sums}
use Rattle.pair_table.proofs.PairNumbers.{length-pairs}
use Rattle.pair_table.proofs.sums.KeptSums.new.Goals as goal

abbrev no_span : Span
no_span = record { lo = pos 0; hi = pos 0 }

pub invariant_of-result : goal.invariant_of-result
invariant_of-result c =
    let runs = c.run_count-runs.result in
    let totals = c.in_ok-totals.totals in
    let bounds = c.in_ok-bounds.bounds in
    let pairs : length totals.items ≡ pair_count runs = omega (arith, c.in_ok-totals.ensures.len, totals.ok.0) in
    let many : length bounds.items ≡ runs = omega (arith, c.in_ok-bounds.ensures.len, bounds.ok.0) in
    pairs ∙ sym (length-pairs runs) ∙ ap (λ n. length (pairs_of (run_numbers n))) (sym many)

pub returns : goal.returns
returns c =
    let runs = c.run_count-runs.result in
    let totals = c.in_ok-totals.totals in
    let bounds = c.in_ok-bounds.bounds in
    let pairs : length totals.items ≡ pair_count runs = omega (arith, c.in_ok-totals.ensures.len, totals.ok.0) in
    let many : length bounds.items ≡ runs = omega (arith, c.in_ok-bounds.ensures.len, bounds.ok.0) in
    same_sums _ _ _ _ (constant (totals_of []) (pairs_of (run_numbers runs)) totals.items (pairs ∙ sym (length-pairs runs)) (all_copies (totals_of []) totals.items c.in_ok-totals.ensures.items))
    (constant no_span (run_numbers runs) bounds.items (many ∙ sym (length-run_numbers runs)) (all_copies no_span bounds.items c.in_ok-bounds.ensures.items))
    ∙ ap no_sums c.run_count-runs.ensures.count
