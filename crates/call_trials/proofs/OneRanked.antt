-- One document is a ranking.
use Rattle.std.proofs.Common.{◌≡◌, ℕ, ◌<◌, List, [], ◌∷◌, arith, sym, subst}
use Rattle.std.specs.List.{IsDistinct}
use Rattle.std.proofs.lemmas.List.Elements.{All-from_recursion}
use Rattle.desk_model.specs.Ranking.{IsRanking}

one_document : (n x : ℕ) → x < n → IsRanking n (x ∷ [])
unfolding IsDistinct
one_document n x h = record { distinct = (tt, tt); within = All-from_recursion (λ doc. doc < n) (x ∷ []) (h, tt); short = omega arith }

pub one_ranked : (n x : ℕ) (docs : List ℕ) → docs ≡ x ∷ [] → x < n → IsRanking n docs
one_ranked n x docs e h = subst (IsRanking n) (sym e) (one_document n x h)
