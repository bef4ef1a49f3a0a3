use Rattle.std.proofs.Common.{◌≡◌, ◌++◌, ℕ, Bool, not, List, take, drop, length, ap, ap₂, sym, subst, ◌∙◌, arith}
use Rattle.std.specs.Prelude.{◌&&◌, filter, IsPermutation}
use Rattle.std.specs.List.{range_with_len}
use Rattle.std.specs.List.Sorted.{IsSorted}
use Rattle.std.specs.Ordering.{nat_cmp}
use Rattle.std.proofs.Math.Seq.{drop-append_seam, take-append_seam}
use Rattle.std.proofs.lemmas.List.{take-append-drop}
use Rattle.std.proofs.lemmas.List.Sorted.{IsNonDecreasingBy-from_sort}
use Rattle.std.proofs.lemmas.Result.{IfOk-weaker}
use Rattle.desk_model.specs.Completion.{with_picked}
use Rattle.desk_model.specs.Mark.{is_unjudged, mark_at}
use Rattle.desk_model.specs.Ranking.{is_in}
use Rattle.desk_model.proofs.Counts.{IsDistinct-take}
use Rattle.desk_model.proofs.PrecisionEnds.{prefix_within}
use Rattle.measure_laws.specs.Prefixes.{only_second}
use Rattle.measure_core.specs.Lists.{added_documents, passes_by_ranks}
use Rattle.measure_core.specs.OneSide.{is_by}
use Rattle.measure_core.proofs.Ascending.{own_test, sorted_are}
use Rattle.measure_core.proofs.Tallying.{own_by_ranks}
use Rattle.marked_lists.proofs.own_lists.push_own.Goals as goal

pub returns-then-k-gt-LOOKED_UP : goal.returns-then-k-gt-LOOKED_UP
returns-then-k-gt-LOOKED_UP c =
    let marks = c.args.pair.now.marks.now in
    let k = c.args.k in
    let a = c.args.pair.now.a.now in
    let b = c.args.pair.now.b.now in
    let before = c.args.docs.now.items in
    let now = c.push_by_ranks.new.docs.items in
    let by_ranks = passes_by_ranks (λ x y. is_by k y && not (is_by k x)) a b in
    let same = own_by_ranks k marks a b in
    IfOk-weaker c.push_by_ranks.result (λ _. now ≡ before ++ added_documents marks (with_picked marks by_ranks)) (λ _. now ≡ before ++ added_documents marks (with_picked marks (only_second k a b))) (λ _ is. is ∙ ap (λ ds. before ++ ds) same)
    c.push_by_ranks.ensures

pub returns : goal.returns
returns c =
    let marks = c.args.pair.now.marks.now in
    let n = length marks in
    let k = c.args.k in
    let a = c.args.pair.now.a.now in
    let b = c.args.pair.now.b.now in
    let before = c.args.docs.now.items in
    let now = c.sort_rest.new.docs.items in
    let keep : ℕ → Bool = λ d. is_unjudged (mark_at marks d) && not (is_in (take k a) d) in
    let test : ℕ → Bool = λ d. is_unjudged (mark_at marks d) && with_picked marks (only_second k a b) d in
    let found : c.push_found.new.docs.items ≡ before ++ filter keep (take k b) = c.in_ok-push_found.ensures in
    let start : c.len-start.result ≡ length before = omega (arith, c.len-start.ensures) in
    let front : take (length before) now ≡ before = ap (λ m. take m now) (sym start) ∙ c.sort_rest.ensures.before ∙ ap₂ take start found ∙ take-append_seam before (filter keep (take k b)) in
    let moved : IsPermutation (filter keep (take k b)) (drop (length before) now) =
    subst (λ m. IsPermutation (filter keep (take k b)) (drop m now)) start (subst (λ l. IsPermutation l (drop c.len-start.result now)) (ap₂ drop start found ∙ drop-append_seam before (filter keep (take k b))) c.sort_rest.ensures.moved) in
    let tail = drop (length before) now in
    let sorted = IsNonDecreasingBy-from_sort (λ (x : ℕ). x) tail (subst (λ m. IsSorted nat_cmp (drop m now)) start c.sort_rest.ensures.sorted) in
    let all : filter test (range_with_len 0 n) ≡ tail =
    sorted_are keep test n (take k b) tail (IsDistinct-take k b c.args.pair.now.met.second.distinct) (prefix_within k n b c.args.pair.now.met.second) moved sorted (λ d. own_test (is_in (take k a) d) (is_in (take k b) d) (mark_at marks d)) in
    sym (take-append-drop (length before) now) ∙ ap₂ (λ (x y : List ℕ). x ++ y) front (sym all)
