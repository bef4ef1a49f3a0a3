-- By how much the worths of two ranks differ.
use Rattle.std.proofs.Common.{◌≡◌, ◌⊎◌, inl, inr, ℕ, ◌+◌, ◌≤◌, List, drop, length, Option, None, ap, ◌∙◌, arith}
use Rattle.std.specs.Int.{abs_diff}
use Rattle.std.proofs.lemmas.List.{drop_all}
use Rattle.desk_model.specs.Placed.{lookup}
use Rattle.desk_model.specs.declared.placed.Placed.{Placed}

abbrev pub apart : (Option ℕ → ℕ) → Option ℕ → Option ℕ → ℕ
apart worth x y = abs_diff (worth x) (worth y)

none_between : (n : ℕ) → abs_diff n n ≡ 0
none_between n = omega arith

pub none_apart : (worth : Option ℕ → ℕ) → apart worth None None ≡ 0
none_apart worth = none_between (worth None)

-- where one of two is nothing
from_nothing : (m n : ℕ) → m ≡ 0 → abs_diff m n ≡ m + n
from_nothing m n h = omega arith

to_nothing : (m n : ℕ) → n ≡ 0 → abs_diff m n ≡ m + n
to_nothing m n h = omega arith

-- where one of two lists is at its end
pub one_ended : (worth : Option ℕ → ℕ) → worth None ≡ 0 → (es fs : List Placed) (i j : ℕ) → (length es ≤ i) ⊎ (length fs ≤ j) → (doc : ℕ) →
    apart worth (lookup (drop i es) doc) (lookup (drop j fs) doc) ≡ worth (lookup (drop i es) doc) + worth (lookup (drop j fs) doc)
one_ended worth none es fs i j (inl end) doc =
    from_nothing (worth (lookup (drop i es) doc)) (worth (lookup (drop j fs) doc)) (ap (λ (zs : List Placed). worth (lookup zs doc)) (drop_all i es end) ∙ none)
one_ended worth none es fs i j (inr end) doc =
    to_nothing (worth (lookup (drop i es) doc)) (worth (lookup (drop j fs) doc)) (ap (λ (zs : List Placed). worth (lookup zs doc)) (drop_all j fs end) ∙ none)
