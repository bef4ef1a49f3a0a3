-- Counting the marks of a topic, one by one.
use Rattle.std.proofs.Common.{◌≡◌, ℕ, zero, suc, ◌+◌, ◌≤◌, min, Bool, List, ◌++◌, take, length, count_by, w32, Fits, arith, refl, ap, ◌∙◌, sym}
use Rattle.std.specs.List.{range_with_len}
use Rattle.std.proofs.lemmas.List.{nil_from_length, take_all}
use Rattle.std.proofs.lemmas.List.Sums.{sum_by_more, sum_by-append, count_by-le-length}
use Rattle.desk_model.specs.Completion.{picked_value, with_picked}
use Rattle.desk_model.specs.Score.{true_count}
use Rattle.desk_model.specs.declared.types.Mark.{Mark}
use Rattle.desk_model.specs.declared.types.Mark.TheVariants.{Unjudged}
use Rattle.desk_model.proofs.Counts.{one_if}
use Rattle.measure_laws.proofs.RprecEnds.{count_more}

counted_to : (taken : Bool) (marks : List Mark) (n : ℕ) → n ≤ length marks → count_by (with_picked marks (λ _. taken)) (range_with_len 0 n) ≡ count_by (picked_value taken) (take n marks)
counted_to taken marks zero h = refl
counted_to taken marks (suc n) h =
    let next : n + 1 ≡ suc n = omega arith in
    count_more (with_picked marks (λ _. taken)) n ∙ ap (λ m. m + one_if (with_picked marks (λ _. taken) n)) (counted_to taken marks n (omega arith))
    ∙ sym (sum_by_more (λ m. one_if (picked_value taken m)) marks n Unjudged h) ∙ ap (λ m. count_by (picked_value taken) (take m marks)) next

pub true_count_marks : (taken : Bool) (marks : List Mark) → true_count (with_picked marks (λ _. taken)) (length marks) ≡ count_by (picked_value taken) marks
true_count_marks taken marks = counted_to taken marks (length marks) (omega arith) ∙ ap (count_by (picked_value taken)) (take_all (length marks) marks (omega arith))

-- where no mark is left
pub all_counted : (taken : Bool) (marks rest : List Mark) (count : ℕ) → count + count_by (picked_value taken) rest ≡ count_by (picked_value taken) marks → length rest ≡ 0 →
    count ≡ true_count (with_picked marks (λ _. taken)) (length marks)
all_counted taken marks rest count e none =
    omega (arith, e, ap (count_by (picked_value taken)) (nil_from_length rest none), true_count_marks taken marks)

-- ---- a block of marks more
pub block_short : (n size rest : ℕ) → n ≡ min size rest → size ≡ 224 → n ≤ 255
block_short n size rest e f = omega arith

pub block_counted : (taken : Bool) (marks rest block left : List Mark) (count more : ℕ) → rest ≡ block ++ left → more ≡ count_by (picked_value taken) block → count + count_by (picked_value taken) rest ≡ count_by (picked_value taken) marks →
    count + more + count_by (picked_value taken) left ≡ count_by (picked_value taken) marks
block_counted taken marks rest block left count more e f h =
    let split : count_by (picked_value taken) rest ≡ count_by (picked_value taken) block + count_by (picked_value taken) left = ap (count_by (picked_value taken)) e ∙ sum_by-append (λ m. one_if (picked_value taken m)) block left in
    omega (arith, split, f, h)

pub all_few : (taken : Bool) (marks rest : List Mark) (count : ℕ) → count + count_by (picked_value taken) rest ≡ count_by (picked_value taken) marks → count ≤ length marks
all_few taken marks rest count h = omega (arith, h, count_by-le-length (picked_value taken) marks)

pub few_fit : (n count all : ℕ) → n ≤ count → count ≤ all → all ≤ 25000000 → Fits w32 n
few_fit n count all h k l = record { fits = omega arith }

pub part_few : (a b c d : ℕ) → b + d ≤ a + b + (c + d)
part_few a b c d = omega arith

pub most_regrouped : (a b c d n m : ℕ) → a + b + (c + d) + n ≡ m → (a + c) + (b + d) + n ≡ m
most_regrouped a b c d n m h = omega arith
