use Rattle.std.proofs.Common.{◌≡◌, ℕ, ◌<◌, List, ◌++◌, length, ap, sym, subst, ◌∙◌, arith}
use Rattle.std.specs.Prelude.{All}
use Rattle.std.specs.List.{AllByRecursion}
use Rattle.std.proofs.lemmas.List.Elements.{All-from_recursion}
use Rattle.measure_laws.specs.Cases.{least_truth}
use Rattle.measure_core.specs.Lists.{least_documents}
use Rattle.measure_core.proofs.Tallying.{added_below, added_few}
use Rattle.measure_core.proofs.measure.Measure.count_pushed.Goals as goal

pub count_list-requires-clause-within : goal.count_list-requires-clause-within
count_list-requires-clause-within g c =
    let marks = c.args.marks.now in
    let measure = g.Self.Measure.measured c.args.self.now in
    let docs : List ℕ = least_documents measure marks c.args.a.now c.args.b.now in
    let n = length c.args.counts.now in
    let is : c.deref.result.now ≡ docs = c.deref.ensures.value ∙ c.in_ok-push_least_docs.ensures ∙ ap (λ (l : List ℕ). l ++ docs) c.clear.ensures.items in
    let below : AllByRecursion (λ (d : ℕ). d < n) docs = subst (λ (m : ℕ). AllByRecursion (λ (d : ℕ). d < m) docs) (sym c.requires.size) (added_below marks (least_truth measure marks c.args.a.now c.args.b.now)) in
    subst (All (λ (d : ℕ). d < n)) (sym is) (All-from_recursion (λ (d : ℕ). d < n) docs below)

pub overflow_cast-least : goal.overflow_cast-least
overflow_cast-least g c =
    let marks = c.args.marks.now in
    let measure = g.Self.Measure.measured c.args.self.now in
    let docs : List ℕ = least_documents measure marks c.args.a.now c.args.b.now in
    let is : c.deref.result.now ≡ docs = c.deref.ensures.value ∙ c.in_ok-push_least_docs.ensures ∙ ap (λ (l : List ℕ). l ++ docs) c.clear.ensures.items in
    omega (arith, c.len-least.ensures, c.deref.ensures.len, ap (λ (l : List ℕ). length l) is, added_few marks (least_truth measure marks c.args.a.now c.args.b.now), c.requires.met.small)

pub count_list-requires-2-clause-within : goal.count_list-requires-2-clause-within
count_list-requires-2-clause-within g c =
    let marks = c.args.marks.now in
    let measure = g.Self.Measure.measured c.args.self.now in
    let docs : List ℕ = least_documents measure marks c.args.b.now c.args.a.now in
    let n = length c.count_list.new.counts in
    let size : length marks ≡ n = omega (arith, c.count_list.auto.counts, c.requires.size) in
    let is : c.deref-2.result.now ≡ docs = c.deref-2.ensures.value ∙ c.in_ok-push_least_docs-2.ensures ∙ ap (λ (l : List ℕ). l ++ docs) c.clear-2.ensures.items in
    let below : AllByRecursion (λ (d : ℕ). d < n) docs = subst (λ (m : ℕ). AllByRecursion (λ (d : ℕ). d < m) docs) size (added_below marks (least_truth measure marks c.args.b.now c.args.a.now)) in
    subst (All (λ (d : ℕ). d < n)) (sym is) (All-from_recursion (λ (d : ℕ). d < n) docs below)

pub overflow_cast-result : goal.overflow_cast-result
overflow_cast-result g c =
    let marks = c.args.marks.now in
    let measure = g.Self.Measure.measured c.args.self.now in
    let docs : List ℕ = least_documents measure marks c.args.b.now c.args.a.now in
    let is : c.deref-2.result.now ≡ docs = c.deref-2.ensures.value ∙ c.in_ok-push_least_docs-2.ensures ∙ ap (λ (l : List ℕ). l ++ docs) c.clear-2.ensures.items in
    omega (arith, c.len.ensures, c.deref-2.ensures.len, ap (λ (l : List ℕ). length l) is, added_few marks (least_truth measure marks c.args.b.now c.args.a.now), c.requires.met.small)
