use Rattle.std.proofs.Common.{◌≡◌, ℕ, ◌+◌, List, All, length, refl, ap, sym, subst, ◌∙◌, arith}
use Rattle.std.proofs.lemmas.List.{with_items_is}
use Rattle.desk_model.specs.Pairs.{pairs_of}
use Rattle.topic_counts.specs.declared.span.Span.{Span}
use Rattle.measure_core.specs.Laws.{CellIsModest, SpanIsModest}
use Rattle.measure_core.specs.declared.cell.Cell.{Cell}
use Rattle.pair_table.specs.Kept.{TopicNumbers, AreTopicNumbers}
use Rattle.pair_table.specs.Sums.{run_numbers}
use Rattle.pair_table.proofs.kept.KeptTopic.evaluate.Goals as goal

same_numbers : (cells others : List Cell) (bounds ends : List Span) → cells ≡ others → bounds ≡ ends → ◌≡◌ {A = TopicNumbers} (record { cells = cells; bounds = bounds }) (record { cells = others; bounds = ends })
same_numbers cells others bounds ends e f = ap (λ z. record { cells = z; bounds = bounds }) e ∙ ap (λ z. record { cells = others; bounds = z }) f

-- as many as the kept bounds say
pairs_counted : (n : ℕ) (inside old : TopicNumbers) → inside ≡ old → AreTopicNumbers (length inside.bounds) inside → length old.bounds ≡ n → length inside.cells ≡ length (pairs_of (run_numbers n))
pairs_counted n inside old same own count = own.each_pair ∙ ap (λ (m : ℕ). length (pairs_of (run_numbers m))) (ap (λ (t : TopicNumbers). length t.bounds) same ∙ count)

pub evaluate_cells-requires : goal.evaluate_cells-requires
evaluate_cells-requires g c = ap length c.deref_mut.ensures.value ∙ pairs_counted (length c.args.topic.now.desk.runs) _ c.args.self.now c.self.view_is c.self.invariant c.requires

pub returns : goal.returns
returns g c =
    let kept = c.self.inside in
    let runs = length c.args.topic.now.desk.runs in
    let cells = c.evaluate_cells in
    let bounds = c.evaluate_bounds in
    let pairs : length c.deref_mut.result.now ≡ length (pairs_of (run_numbers runs)) = ap length c.deref_mut.ensures.value ∙ pairs_counted runs _ c.args.self.now c.self.view_is c.self.invariant c.requires in
    let ranges : length c.deref_mut-2.result.now ≡ runs = ap length (c.deref_mut-2.ensures.value ∙ ap (λ (t : TopicNumbers). t.bounds) c.self.view_is) ∙ c.requires in
    let cells_is = with_items_is kept.cells cells.new.cells (omega (arith, cells.auto.cells, ap length c.deref_mut.ensures.value, kept.cells.ok.0)) in
    let bounds_is = with_items_is kept.bounds bounds.new.bounds (omega (arith, bounds.auto.bounds, ap length c.deref_mut-2.ensures.value, kept.bounds.ok.0)) in
    record {
      numbers = same_numbers _ _ _ _ (cells_is ∙ cells.ensures.cells) (bounds_is ∙ bounds.ensures.bounds);
      sizes = record {
        each_pair = ap length cells_is ∙ cells.auto.cells ∙ pairs;
        each_run = ap length bounds_is ∙ bounds.auto.bounds ∙ ranges;
        cells = subst (All CellIsModest) (sym cells_is) cells.ensures.modest;
        bounds = subst (All SpanIsModest) (sym bounds_is) bounds.ensures.modest;
      };
      steps = cells.ensures.steps ∙ ap (λ (n : ℕ). c.args.steps.now + n) pairs;
    }

pub invariant_of-self : goal.invariant_of-self
invariant_of-self g c =
    let kept = c.self.inside in
    let runs = length c.args.topic.now.desk.runs in
    let cells = c.evaluate_cells in
    let bounds = c.evaluate_bounds in
    let pairs : length c.deref_mut.result.now ≡ length (pairs_of (run_numbers runs)) = ap length c.deref_mut.ensures.value ∙ pairs_counted runs _ c.args.self.now c.self.view_is c.self.invariant c.requires in
    let ranges : length c.deref_mut-2.result.now ≡ runs = ap length (c.deref_mut-2.ensures.value ∙ ap (λ (t : TopicNumbers). t.bounds) c.self.view_is) ∙ c.requires in
    let cells_is = with_items_is kept.cells cells.new.cells (omega (arith, cells.auto.cells, ap length c.deref_mut.ensures.value, kept.cells.ok.0)) in
    let bounds_is = with_items_is kept.bounds bounds.new.bounds (omega (arith, bounds.auto.bounds, ap length c.deref_mut-2.ensures.value, kept.bounds.ok.0)) in
    let many = ap length bounds_is ∙ bounds.auto.bounds ∙ ranges in
    record {
      each_pair = ap length cells_is ∙ cells.auto.cells ∙ pairs ∙ ap (λ (n : ℕ). length (pairs_of (run_numbers n))) (sym many);
      each_run = refl;
      cells = subst (All CellIsModest) (sym cells_is) cells.ensures.modest;
      bounds = subst (All SpanIsModest) (sym bounds_is) bounds.ensures.modest;
    }
