-- One candidate more, and the best number of all candidates, which is the bound of the run.
use denote.Enum.Bare.{sameb}
use Rattle.std.proofs.Common.{◌≡◌, ℕ, zero, suc, ◌+◌, ◌-◌, ◌*◌, ◌^◌, ◌<◌, ◌≤◌, nat_lt, min, max, Bool, true, false, List, length, refl, sym, subst, inl, inr, arith}
use Rattle.std.specs.Prelude.{if◌then◌else◌}
use Rattle.std.specs.List.{range_with_len}
use Rattle.std.proofs.lemmas.Bool.{cases_lt}
use Rattle.std.proofs.lemmas.List.Sums.{length-filter, count_by-le-length}
use Rattle.desk_model.specs.Limits.{DOCUMENT_LIMIT}
use Rattle.desk_model.specs.Mark.{is_unjudged, mark_at}
use Rattle.desk_model.specs.Ranking.{IsRanking}
use Rattle.desk_model.specs.contracts.types.Mark.{the_type}
use Rattle.desk_model.specs.declared.types.Mark.{Mark}
use Rattle.desk_model.specs.declared.types.Mark.TheVariants.{Unjudged, Relevant, Other}
use Rattle.desk_model.proofs.Completions.{with_picked-Completes}
use Rattle.measure_laws.specs.Candidates.{open_docs, high_truth, low_truth, first_smallest, first_greatest, low_choice, high_choice, average_bound_lo, average_bound_hi}
use Rattle.measure_laws.specs.Parts.{low_average, high_average}
use Rattle.measure_laws.proofs.AverageBounds.{bound_hi-most, bound_hi_greatest, bound_hi_is, bound_lo-most, bound_lo_least}
use Rattle.topic_ends.specs.Candidates.{along, bound_of, candidate_sum, documents_of, number_of, out_of}
use Rattle.topic_ends.specs.Counted.{AreAllCounts}
use Rattle.topic_ends.specs.Estimates.{IsAsGood, IsBestSoFar}
use Rattle.topic_ends.specs.declared.counts.RelevantCounts.{RelevantCounts}
use Rattle.topic_ends.proofs.CandidateCounts.{count_few, high_counted, high_number, low_counted, low_number}
use Rattle.topic_ends.proofs.Passes.{one_open}

-- ---- how many documents are relevant in a candidate
pub relevant_fits : (marks : List Mark) (docs : List ℕ) (all : RelevantCounts) (count : ℕ) → IsRanking (length marks) docs → length marks ≤ DOCUMENT_LIMIT → AreAllCounts marks all → count ≤ length (open_docs marks docs) → all.relevant + count ≤ DOCUMENT_LIMIT
relevant_fits marks docs all count r few a h = omega (arith, high_counted marks docs count r h, count_few (length marks) (high_truth marks docs count), a.relevant, few)

pub possible_fits : (marks : List Mark) (docs : List ℕ) (all : RelevantCounts) (count : ℕ) → IsRanking (length marks) docs → AreAllCounts marks all → count ≤ length (open_docs marks docs) → count ≤ all.possible
possible_fits marks docs all count r a h = omega (arith, low_counted marks docs count r h, a.possible)

pub documents_fit : (high : Bool) (marks : List Mark) (docs : List ℕ) (all : RelevantCounts) (count : ℕ) → IsRanking (length marks) docs → length marks ≤ DOCUMENT_LIMIT → AreAllCounts marks all → count ≤ length (open_docs marks docs) → documents_of high all count ≤ DOCUMENT_LIMIT
documents_fit true marks docs all count r few a h = relevant_fits marks docs all count r few a h
documents_fit false marks docs all count r few a h = omega (arith, a.few)

pub number_is : (high : Bool) (marks : List Mark) (docs : List ℕ) (all : RelevantCounts) (count : ℕ) → IsRanking (length marks) docs → AreAllCounts marks all → count ≤ length (open_docs marks docs) →
    out_of high (candidate_sum high (along marks docs) count) (documents_of high all count) ≡ number_of high marks docs count
number_is true marks docs all count r a h =
    subst (λ (n : ℕ). out_of true (candidate_sum true (along marks docs) count) (n + count) ≡ number_of true marks docs count) (sym a.relevant) (sym (high_number marks docs count r h))
number_is false marks docs all count r a h =
    subst (λ (n : ℕ). out_of false (candidate_sum false (along marks docs) count) (n - count) ≡ number_of false marks docs count) (sym a.possible) (sym (low_number marks docs count r h))

open_filter : (marks : List Mark) (docs : List ℕ) → length (open_docs marks docs) ≤ length docs
open_filter marks docs =
    let opens : ℕ → Bool = λ doc. is_unjudged (mark_at marks doc) in
    omega (arith, length-filter opens docs, count_by-le-length opens docs)

pub few_open : (marks : List Mark) (docs : List ℕ) (count : ℕ) → IsRanking (length marks) docs → count ≤ length (open_docs marks docs) → count ≤ 10000
few_open marks docs count r h = let short = r.short in omega (arith, h, short, open_filter marks docs)

-- ---- whether a document is one more
pub open_one : (m : Mark) → sameb the_type m Unjudged ≡ true → one_open m ≡ 1
open_one Unjudged e = refl
open_one Relevant e = absurd (cc)
open_one Other e = absurd (cc)

pub open_none : (m : Mark) → sameb the_type m Unjudged ≡ false → one_open m ≡ 0
open_none Unjudged e = absurd (cc)
open_none Relevant e = refl
open_none Other e = refl

pub none_more : (n : ℕ) → n + 0 ≡ n
none_more n = omega arith

-- ---- the best number with one candidate more
below_more : (P : ℕ → Type 0) (n : ℕ) → ((k : ℕ) → k < n → P k) → P n → (k : ℕ) → k < n + 1 → P k
below_more P n h last k lt = elim (cases_lt k n) [
  | inl less ↦ h k less
  | inr more ↦ let same : n ≡ k = omega (arith, lt, more) in subst P same last
]

good_refl : (high : Bool) (x : ℕ) → IsAsGood high x x
good_refl true x = omega arith
good_refl false x = omega arith

good_trans : (high : Bool) (x y z : ℕ) → IsAsGood high x y → IsAsGood high y z → IsAsGood high x z
good_trans true x y z h k = omega (arith, h, k)
good_trans false x y z h k = omega (arith, h, k)

pub passed_over : (high : Bool) (marks : List Mark) (docs : List ℕ) (n best : ℕ) → IsAsGood high best (number_of high marks docs n) → IsBestSoFar high marks docs n best → IsBestSoFar high marks docs (n + 1) best
passed_over high marks docs n best l h = record {
  reached = h.reached;
  good = below_more (λ k. IsAsGood high best (number_of high marks docs k)) n h.good l;
  small = h.small;
}

taken : (high : Bool) (marks : List Mark) (docs : List ℕ) (n best next : ℕ) → n ≤ length (open_docs marks docs) → next ≡ number_of high marks docs n → next ≤ 10000 * 10 ^ 18 → IsAsGood high next best → IsBestSoFar high marks docs n best →
    IsBestSoFar high marks docs (n + 1) next
taken high marks docs n best next within e small l h = record {
  reached = record { count = n; within = within; value_is = e };
  good = below_more (λ k. IsAsGood high next (number_of high marks docs k)) n (λ k lt. good_trans high next best (number_of high marks docs k) l (h.good k lt)) (subst (λ (v : ℕ). IsAsGood high next v) e (good_refl high next));
  small = small;
}

-- whichever of the two is better
pub greater_kept : (high : Bool) (marks : List Mark) (docs : List ℕ) (n best next kept : ℕ) → high ≡ true → n ≤ length (open_docs marks docs) → next ≡ number_of high marks docs n → next ≤ 10000 * 10 ^ 18 → kept ≡ max best next → IsBestSoFar high marks docs n best →
    IsBestSoFar high marks docs (n + 1) kept
greater_kept false marks docs n best next kept e within is small k h = absurd (cc)
greater_kept true marks docs n best next kept e within is small k h = elim (cases_lt best next) [
  | inl less ↦ let same : next ≡ kept = omega (arith, k, less) in subst (IsBestSoFar true marks docs (n + 1)) same (taken true marks docs n best next within is small (omega (arith, less)) h)
  | inr more ↦ let same : best ≡ kept = omega (arith, k, more) in subst (IsBestSoFar true marks docs (n + 1)) same (passed_over true marks docs n best (omega (arith, is, more)) h)
]

pub smaller_kept : (high : Bool) (marks : List Mark) (docs : List ℕ) (n best next kept : ℕ) → high ≡ false → n ≤ length (open_docs marks docs) → next ≡ number_of high marks docs n → next ≤ 10000 * 10 ^ 18 → kept ≡ min best next → IsBestSoFar high marks docs n best →
    IsBestSoFar high marks docs (n + 1) kept
smaller_kept true marks docs n best next kept e within is small k h = absurd (cc)
smaller_kept false marks docs n best next kept e within is small k h = elim (cases_lt next best) [
  | inl less ↦ let same : next ≡ kept = omega (arith, k, less) in subst (IsBestSoFar false marks docs (n + 1)) same (taken false marks docs n best next within is small (omega (arith, less)) h)
  | inr more ↦ let same : best ≡ kept = omega (arith, k, more) in subst (IsBestSoFar false marks docs (n + 1)) same (passed_over false marks docs n best (omega (arith, is, more)) h)
]

-- ---- the choices of the bounds are candidates
within_next : (b : Bool) (best last : ℕ) → best ≤ last → (if b then last + 1 else best) ≤ last + 1
within_next true best last h = omega arith
within_next false best last h = omega (arith, h)

smallest_within : (number : ℕ → ℕ) (n last best : ℕ) → best ≤ last → first_smallest number best (range_with_len (last + 1) n) ≤ last + n
smallest_within number zero last best h = omega (arith, h)
smallest_within number (suc n) last best h =
    let b = nat_lt (number (last + 1)) (number best) in
    omega (arith, smallest_within number n (last + 1) (if b then last + 1 else best) (within_next b best last h))

greatest_within : (number : ℕ → ℕ) (n last best : ℕ) → best ≤ last → first_greatest number best (range_with_len (last + 1) n) ≤ last + n
greatest_within number zero last best h = omega (arith, h)
greatest_within number (suc n) last best h =
    let b = nat_lt (number best) (number (last + 1)) in
    omega (arith, greatest_within number n (last + 1) (if b then last + 1 else best) (within_next b best last h))

-- ---- the best number of all
best_high : (marks : List Mark) (docs : List ℕ) (value : ℕ) → IsRanking (length marks) docs → IsBestSoFar true marks docs (length (open_docs marks docs) + 1) value → value ≡ average_bound_hi marks docs
best_high marks docs value r h =
    let u = length (open_docs marks docs) in
    let count = h.reached.count in
    let most : high_average (length marks) (high_truth marks docs count) docs ≤ average_bound_hi marks docs = bound_hi_greatest marks docs (high_truth marks docs count) r (with_picked-Completes marks _) in
    let within : high_choice marks docs ≤ 0 + u = greatest_within (λ t. high_average (length marks) (high_truth marks docs t) docs) u 0 0 (omega arith) in
    let least : number_of true marks docs (high_choice marks docs) ≤ value = h.good (high_choice marks docs) (omega (arith, within)) in
    omega (arith, h.reached.value_is, most, least, bound_hi_is marks docs r)

best_low : (marks : List Mark) (docs : List ℕ) (value : ℕ) → IsRanking (length marks) docs → IsBestSoFar false marks docs (length (open_docs marks docs) + 1) value → value ≡ average_bound_lo marks docs
unfolding average_bound_lo
best_low marks docs value r h =
    let u = length (open_docs marks docs) in
    let count = h.reached.count in
    let choice = low_choice marks docs in
    let least : average_bound_lo marks docs ≤ low_average (length marks) (low_truth marks docs (u - count)) docs = bound_lo_least marks docs (low_truth marks docs (u - count)) r (with_picked-Completes marks _) in
    let within : choice ≤ 0 + u = smallest_within (λ t. low_average (length marks) (low_truth marks docs t) docs) u 0 0 (omega arith) in
    let back : u - (u - choice) ≡ choice = omega (arith, within) in
    let most : value ≤ low_average (length marks) (low_truth marks docs choice) docs = subst (λ (t : ℕ). value ≤ low_average (length marks) (low_truth marks docs t) docs) back (h.good (u - choice) (omega arith)) in
    omega (arith, h.reached.value_is, most, least)

pub best_is : (high : Bool) (marks : List Mark) (docs : List ℕ) (value : ℕ) → IsRanking (length marks) docs → IsBestSoFar high marks docs (length (open_docs marks docs) + 1) value → value ≡ bound_of high marks docs
best_is true marks docs value r h = best_high marks docs value r h
best_is false marks docs value r h = best_low marks docs value r h

pub bound-most : (high : Bool) (marks : List Mark) (docs : List ℕ) → IsRanking (length marks) docs → bound_of high marks docs ≤ 10 ^ 18
bound-most true marks docs r = bound_hi-most marks docs r
bound-most false marks docs r = bound_lo-most marks docs r
