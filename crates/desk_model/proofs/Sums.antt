-- Sums of whole numbers that grow at their end.
use Rattle.std.proofs.Common.{◌≡◌, List, [], ◌∷◌, ◌++◌, ℤ, ◌+ℤ◌, arith}
use Rattle.std.proofs.lemmas.Int.{ints}
use Rattle.desk_model.specs.Verdict.{whole_sum}

pub whole_sum-push : (zs : List ℤ) (z : ℤ) → whole_sum (zs ++ z ∷ []) ≡ whole_sum zs +ℤ z
whole_sum-push [] z = omega (arith, ints)
whole_sum-push (y ∷ zs) z = let rest = whole_sum-push zs z in omega (arith, ints, rest)
