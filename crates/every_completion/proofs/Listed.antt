-- A list of documents is a ranking where each is in the universe and not among those that follow.
use Rattle.std.proofs.Common.{◌≡◌, ℕ, ◌<◌, ◌≤◌, false, nat_eq, List, [], ◌∷◌, length, get_or, take, drop, ◌-◌, arith, ◌∙◌, subst}
use Rattle.std.specs.List.{IsDistinct, AllByRecursion}
use Rattle.std.proofs.lemmas.List.Elements.{recursion_from_All, All-from_recursion}
use Rattle.std.proofs.lemmas.List.{take_all}
use Rattle.small_lemmas.proofs.Tests.{neither}
use Rattle.desk_model.specs.Ranking.{IsRanking, is_in}
use Rattle.desk_model.proofs.Counts.{nat_eq-sym}

absent : (x : ℕ) (ys : List ℕ) → is_in ys x ≡ false → AllByRecursion (λ y. nat_eq x y ≡ false) ys
absent x [] h = tt
absent x (y ∷ ys) h = let parts = neither (nat_eq y x) (is_in ys x) h in (nat_eq-sym x y ∙ parts.0, absent x ys parts.1)

none_ranked : (n : ℕ) → IsRanking n []
unfolding IsDistinct
none_ranked n = record { distinct = tt; within = All-from_recursion (λ doc. doc < n) [] tt; short = omega arith }

more_ranked : (n x : ℕ) (xs : List ℕ) → length (x ∷ xs) ≤ 10000 → x < n → is_in xs x ≡ false → IsRanking n xs → IsRanking n (x ∷ xs)
unfolding IsDistinct
more_ranked n x xs short within other h = record {
  distinct = (absent x xs other, h.distinct);
  within = All-from_recursion (λ doc. doc < n) (x ∷ xs) (within, recursion_from_All (λ doc. doc < n) xs h.within);
  short = short;
}

rest_is : (x : ℕ) (xs : List ℕ) → take (length (x ∷ xs) - 1) xs ≡ xs
rest_is x xs = take_all (length (x ∷ xs) - 1) xs (omega arith)

-- the first document, and those that follow
pub ranked_from : (n : ℕ) (docs : List ℕ) → 1 ≤ length docs → length docs ≤ 10000 → get_or docs 0 0 < n → is_in (take (length docs - 1) (drop 1 docs)) (get_or docs 0 0) ≡ false →
    IsRanking n (take (length docs - 1) (drop 1 docs)) → IsRanking n docs
ranked_from n [] some short within other h = absurd (omega arith)
ranked_from n (x ∷ xs) some short within other h =
    more_ranked n x xs short within (subst (λ (ys : List ℕ). is_in ys x ≡ false) (rest_is x xs) other) (subst (IsRanking n) (rest_is x xs) h)

pub none_from : (n : ℕ) (docs : List ℕ) → length docs < 1 → IsRanking n docs
none_from n [] h = none_ranked n
none_from n (x ∷ xs) h = absurd (omega arith)
