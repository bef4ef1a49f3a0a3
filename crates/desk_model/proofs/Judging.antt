-- Judgements under a depth.
use Rattle.std.proofs.Common.{◌≡◌, ℕ, ◌+◌, ◌<◌, true, List, [], map, length, get_or, set, slice_get, Option, Some, None, ℤ, refl, ap, sym, ◌∙◌, arith}
use Rattle.std.specs.List.{range_with_len}
use Rattle.std.proofs.lemmas.List.{get_or-map}
use Rattle.std.proofs.lemmas.List.FromFn.{length-range_with_len, get_or-range_with_len}
use Rattle.std.proofs.lemmas.Option.{slice_get_within}
use Rattle.desk_model.specs.Book.{Book}
use Rattle.desk_model.specs.Desk.{Desk, is_pooled}
use Rattle.desk_model.specs.Mark.{mark_of}
use Rattle.desk_model.specs.Pool.{docs_of}
use Rattle.desk_model.specs.declared.types.Mark.{Mark}
use Rattle.desk_model.specs.Closing.{closed, closed_under, is_within}
use Rattle.desk_model.specs.Graded.{is_in_pools, mark_within, pools_of, pool_rows}
use Rattle.desk_model.proofs.Closing.{set-closed}
use Rattle.desk_model.proofs.RowByRow.{pool_at}

pub pools_say : (desk : Desk) (depth : Option ℕ) (topic doc : ℕ) (book : Book) → slice_get desk.topics topic ≡ Some book → doc < length book.docs → is_in_pools (pools_of desk depth) topic doc ≡ is_within desk depth topic doc
pools_say desk None topic doc book e lt = refl
pools_say desk (Some depth) topic doc book e lt =
    let row = λ (t : ℕ). map (is_pooled desk t depth) (docs_of desk t) in
    let known : topic < length desk.topics = slice_get_within desk.topics topic book e in
    let within : topic < length (range_with_len 0 (length desk.topics)) = omega (arith, known, length-range_with_len 0 (length desk.topics)) in
    let is : 0 + topic ≡ topic = omega arith in
    let at : get_or (pool_rows desk depth) topic [] ≡ row topic =
    get_or-map row (range_with_len 0 (length desk.topics)) topic 0 [] within ∙ ap row (get_or-range_with_len 0 (length desk.topics) topic 0 known ∙ is) in
    ap (λ bs. get_or bs doc true) at ∙ pool_at desk topic depth book doc e lt

pub judged_by_pools : (desk : Desk) (depth : Option ℕ) (marks : List (List Mark)) (topic doc : ℕ) (book : Book) (grade : Option ℤ) (level : ℕ) → slice_get desk.topics topic ≡ Some book → doc < length book.docs →
    set (closed_under desk depth marks) topic (set (get_or (closed_under desk depth marks) topic []) doc (mark_within grade level (is_in_pools (pools_of desk depth) topic doc)))
    ≡ closed_under desk depth (set marks topic (set (get_or marks topic []) doc (mark_of grade level)))
judged_by_pools desk depth marks topic doc book grade level e lt =
    ap (λ b. set (closed_under desk depth marks) topic (set (get_or (closed_under desk depth marks) topic []) doc (closed b (mark_of grade level)))) (pools_say desk depth topic doc book e lt)
    ∙ sym (set-closed desk depth marks topic doc (mark_of grade level))
