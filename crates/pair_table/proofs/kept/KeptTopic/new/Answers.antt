use Rattle.std.proofs.Common.{◌≡◌, ◌∙◌, ap, sym, subst, pos, length, refl, arith}
use Rattle.std.proofs.lemmas.Int.{ints}
use Rattle.desk_model.specs.Desk.{pair_count}
use Rattle.desk_model.specs.Pairs.{pairs_of}
use Rattle.topic_counts.specs.declared.span.Span.{Span}
use Rattle.measure_core.specs.Laws.{CellIsModest, SpanIsModest}
use Rattle.measure_core.specs.declared.cell.Cell.{Cell}
use Rattle.pair_table.specs.Sums.{run_numbers}
use Rattle.pair_table.proofs.Keeping.{all_copies}
use Rattle.pair_table.proofs.PairNumbers.{length-pairs}
use Rattle.pair_table.proofs.kept.KeptTopic.new.Goals as goal

abbrev no_span : Span
no_span = record { lo = pos 0; hi = pos 0 }

abbrev no_cell : Cell
no_cell = record { least = no_span; most = no_span }

no_span_modest : SpanIsModest no_span
no_span_modest = (omega (arith, ints), omega (arith, ints))

pub invariant_of-result : goal.invariant_of-result
invariant_of-result c =
    let runs = c.run_count-runs.result in
    let cells = c.in_ok-cells.cells in
    let bounds = c.in_ok-bounds.bounds in
    let pairs : length cells.items ≡ pair_count runs = omega (arith, c.in_ok-cells.ensures.len, cells.ok.0) in
    let many : length bounds.items ≡ runs = omega (arith, c.in_ok-bounds.ensures.len, bounds.ok.0) in
    record {
      each_pair = pairs ∙ sym (length-pairs runs) ∙ ap (λ n. length (pairs_of (run_numbers n))) (sym many);
      each_run = refl;
      cells = λ k d lt. subst CellIsModest (sym (all_copies no_cell cells.items c.in_ok-cells.ensures.items k d lt)) (record { least = no_span_modest; most = no_span_modest });
      bounds = λ k d lt. subst SpanIsModest (sym (all_copies no_span bounds.items c.in_ok-bounds.ensures.items k d lt)) no_span_modest;
    }
