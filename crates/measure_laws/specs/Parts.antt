-- Average precision in whole parts of S = 10^18, rounded down and up: each precision, and their sum out of all true documents.
use Rattle.std.specs.Prelude.{ℕ, zero, suc, ◌+◌, ◌*◌, ◌/◌, Bool, List, [], ◌∷◌, map}
use Rattle.desk_model.specs.Limits.{PARTS_OF_ONE}
use Rattle.desk_model.specs.Score.{true_count}
use Rattle.desk_model.specs.Fraction.{Fraction}
use Rattle.measure_laws.specs.Powers.{ceil_div}
use Rattle.desk_model.specs.Precisions.{true_ranks, mean_precision}

-- the sum over some ranks of what each is worth as the first of them, the second, and so on, counted from a number
abbrev pub ranked_sum : (ℕ → ℕ → ℕ) → ℕ → List ℕ → ℕ
ranked_sum worth j [] = 0
ranked_sum worth j (rank ∷ ranks) = worth j rank + ranked_sum worth (j + 1) ranks

-- S times j over a rank, rounded down and up
abbrev pub low_part : ℕ → ℕ → ℕ
low_part j rank = PARTS_OF_ONE * j / rank

abbrev pub high_part : ℕ → ℕ → ℕ
high_part j rank = ceil_div (PARTS_OF_ONE * j) rank

-- a number out of another, rounded down and up, and 0 out of 0
abbrev pub low_out_of : ℕ → ℕ → ℕ
low_out_of n zero = 0
low_out_of n (suc r) = n / suc r

abbrev pub high_out_of : ℕ → ℕ → ℕ
high_out_of n zero = 0
high_out_of n (suc r) = ceil_div n (suc r)

-- average precision in parts, rounded down and up
abbrev pub low_average : ℕ → (ℕ → Bool) → List ℕ → ℕ
low_average universe truth docs = low_out_of (ranked_sum low_part 1 (true_ranks 1 (map truth docs))) (true_count truth universe)

abbrev pub high_average : ℕ → (ℕ → Bool) → List ℕ → ℕ
high_average universe truth docs = high_out_of (ranked_sum high_part 1 (true_ranks 1 (map truth docs))) (true_count truth universe)

-- average precision itself
abbrev pub average_precision : ℕ → (ℕ → Bool) → List ℕ → Fraction
average_precision universe truth docs = mean_precision (true_ranks 1 (map truth docs)) (true_count truth universe)
