use Rattle.std.proofs.Common.{◌≡◌, ℕ, List, length, inl, inr, ap, sym, ◌∙◌, subst}
use Rattle.std.specs.List.{Contains, zip}
use Rattle.desk_model.specs.Pairs.{pairs_of}
use Rattle.measure_core.specs.Laws.{swapped_cell}
use Rattle.measure_core.specs.declared.cell.Cell.{Cell}
use Rattle.pair_table.specs.Kept.{TopicNumbers, IsCellOf}
use Rattle.pair_table.specs.Places.{IsPlaceOf}
use Rattle.pair_table.specs.Sums.{run_numbers}
use Rattle.pair_table.proofs.Swapped.{cell_swapped_twice}
use Rattle.pair_table.proofs.Zips.{beside}
use Rattle.pair_table.proofs.kept.KeptTopic.cell_of.Goals as goal

pub returns-in-InOrder : goal.returns-in-InOrder
returns-in-InOrder c =
    let two = c.args.pair in
    let cells : List Cell = c.self.inside.cells.items in
    let pairs : List (ℕ × ℕ) = pairs_of (run_numbers two.runs) in
    let runs = ap (λ (t : TopicNumbers). length t.bounds) c.self.view_is ∙ c.requires in
    let each : length cells ≡ length pairs = subst (λ n. length cells ≡ length (pairs_of (run_numbers n))) runs c.self.invariant.each_pair in
    let there = subst (IsPlaceOf two.runs two.first two.second) c.in-InOrder.is c.place.ensures in
    let found = beside pairs cells c.in-InOrder.place (two.first, two.second) c.index.result.now each there c.index.ensures in
    subst (λ (t : TopicNumbers). IsCellOf two.runs two.first two.second c.cell.result t) c.self.view_is
    (inl (subst (λ (x : Cell). Contains (zip pairs cells) ((two.first, two.second), x)) (sym c.cell.ensures.cell) found))

pub returns-in-Swapped : goal.returns-in-Swapped
returns-in-Swapped c =
    let two = c.args.pair in
    let cells : List Cell = c.self.inside.cells.items in
    let cell : Cell = c.index-in-Swapped.result.now in
    let pairs : List (ℕ × ℕ) = pairs_of (run_numbers two.runs) in
    let runs = ap (λ (t : TopicNumbers). length t.bounds) c.self.view_is ∙ c.requires in
    let each : length cells ≡ length pairs = subst (λ n. length cells ≡ length (pairs_of (run_numbers n))) runs c.self.invariant.each_pair in
    let there = subst (IsPlaceOf two.runs two.first two.second) c.in-Swapped.is c.place.ensures in
    let found = beside pairs cells c.in-Swapped.place (two.second, two.first) cell each there c.index-in-Swapped.ensures in
    let back : swapped_cell c.swapped.result ≡ cell = ap swapped_cell c.swapped.ensures ∙ cell_swapped_twice cell in
    subst (λ (t : TopicNumbers). IsCellOf two.runs two.first two.second c.swapped.result t) c.self.view_is
    (inr (subst (λ (x : Cell). Contains (zip pairs cells) ((two.second, two.first), x)) (sym back) found))
