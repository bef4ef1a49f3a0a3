-- The precisions at the ranks of true documents.
use Rattle.std.specs.Prelude.{ℕ, ◌+◌, ◌*◌, Bool, true, false, List, [], ◌∷◌}
use Rattle.desk_model.specs.Fraction.{Fraction, over, total}

-- the ranks of the true places, where the list begins at a rank
abbrev pub true_ranks : ℕ → List Bool → List ℕ
true_ranks rank [] = []
true_ranks rank (true ∷ gains) = rank ∷ true_ranks (rank + 1) gains
true_ranks rank (false ∷ gains) = true_ranks (rank + 1) gains

-- the precision at each of some ranks: the first of them has so many true places up to it, and each later one has one more
abbrev pub precisions : ℕ → List ℕ → List Fraction
precisions j [] = []
precisions j (rank ∷ ranks) = over j rank ∷ precisions (j + 1) ranks

-- the sum of the precisions at some ranks, out of a number
abbrev pub mean_precision : List ℕ → ℕ → Fraction
mean_precision ranks relevant = let sum = total (precisions 1 ranks) in over sum.num (sum.den * relevant)
