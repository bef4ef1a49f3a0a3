-- Names that differ and are sorted ascend.
use Rattle.std.proofs.Common.{◌≡◌, ℕ, ◌+◌, false, true≢false, List, [], get_or, refl, ap, sym, ◌∙◌, arith}
use Rattle.std.specs.List.{IsDistinct}
use Rattle.std.specs.List.Sorted.{IsSortedBy}
use Rattle.std.specs.Ordering.{is_lt, is_eq, ordering_reverse}
use Rattle.std.specs.Str.{bytes_eq}
use Rattle.std.specs.declared.cmp.Ordering.{Ordering}
use Rattle.std.specs.declared.cmp.Ordering.TheVariants.{Less, Equal, Greater}
use Rattle.std.proofs.lemmas.Cmp.{nat_list_cmp_total}
use Rattle.std.proofs.lemmas.Map.Keys.{apart_from_distinct, sorted_from_all_adjacent}
use Rattle.std.proofs.lemmas.Map.Text.{is_eq-slice_cmp}
use Rattle.desk_model.specs.Name.{name_cmp, AreAscending}

-- of two different names in order the first is the smaller
smaller : (x y : List ℕ) → is_lt (name_cmp y x) ≡ false → bytes_eq x y ≡ false → name_cmp x y ≡ Less
smaller x y order apart = go (name_cmp x y) refl
  where
    go : (o : Ordering) → name_cmp x y ≡ o → name_cmp x y ≡ Less
    go Less e = e
    go Equal e = absurd (true≢false (sym (ap is_eq e) ∙ is_eq-slice_cmp x y ∙ apart))
    go Greater e = absurd (true≢false (sym (ap is_lt (nat_list_cmp_total.antisymm y x ∙ ap ordering_reverse e)) ∙ order))

pub ascends : (names : List (List ℕ)) → IsDistinct bytes_eq names → IsSortedBy (λ x y. is_lt (name_cmp x y)) names → AreAscending names
ascends names distinct up = sorted_from_all_adjacent nat_list_cmp_total names [] (λ k lt.
    smaller (get_or names k []) (get_or names (k + 1) []) (up k [] (omega arith) lt) (apart_from_distinct bytes_eq names k (k + 1) [] distinct (omega arith) lt))
