use Rattle.std.proofs.Common.{ℕ, List, length, ap, subst, ◌∙◌, rules}
use Rattle.std.specs.Prelude.{IsPermutation}
use Rattle.std.specs.Ordering.{is_lt}
use Rattle.std.proofs.lemmas.Cmp.{nat_list_cmp_total}
use Rattle.std.proofs.lemmas.Fn.{always_returns_same}
use Rattle.std.proofs.lemmas.List.Sorted.{ranks_by}
use Rattle.desk_model.specs.Name.{name_cmp}
use Rattle.measure_core.specs.Pairs.{run_numbers}
use Rattle.order_bundle.specs.Evidence.{name_at}
use Rattle.table_bundle.proofs.Ascending.{sorted_ascends}
use Rattle.table_bundle.proofs.order.runs_by_name.Goals as goal

pub returns : goal.returns
returns c =
    let runs = c.args.desk.now.runs in
    let order : List ℕ = c.sort_unstable_by.new.self.items in
    let moved : IsPermutation (run_numbers (length runs)) order =
    subst (λ ns. IsPermutation ns order) (c.in_ok-order.ensures ∙ ap run_numbers c.run_count.ensures.count) c.sort_unstable_by.ensures.permutation in
    record {
      moved = moved;
      ascending = sorted_ascends runs order c.valid.ensures.distinct moved
          (c.sort_unstable_by.ensures.sorted (λ x y. is_lt (name_cmp (name_at runs x) (name_at runs y))) (ranks_by nat_list_cmp_total (name_at runs)) (always_returns_same _ _ _ (λ a r g called. (search rules, search rules))));
    }
