-- One candidate more: it is kept as the best, or passed over.
use denote.Enum.Bare.{sameb}
use Rattle.std.proofs.Common.{◌≡◌, ℕ, ◌+◌, ◌-◌, ◌<◌, ◌≤◌, Bool, true, false, List, length, refl, sym, subst, inl, inr, arith}
use Rattle.std.proofs.lemmas.Bool.{cases_lt}
use Rattle.std.proofs.lemmas.List.Sums.{length-filter, count_by-le-length}
use Rattle.desk_model.specs.Completion.{with_picked}
use Rattle.desk_model.specs.Mark.{is_unjudged, mark_at}
use Rattle.desk_model.specs.Limits.{DOCUMENT_LIMIT}
use Rattle.desk_model.specs.Ranking.{IsRanking}
use Rattle.desk_model.specs.contracts.types.Mark.{the_type}
use Rattle.desk_model.specs.declared.types.Mark.{Mark}
use Rattle.desk_model.specs.declared.types.Mark.TheVariants.{Unjudged, Relevant, Other}
use Rattle.measure_laws.specs.Candidates.{open_docs, high_truth}
use Rattle.precision_candidates.specs.declared.candidate.Counts.{Counts}
use Rattle.precision_candidates.specs.declared.choice.Choice.{Choice}
use Rattle.precision_candidates.specs.Firsts.{IsAsGood, IsBetter, IsEarlier}
use Rattle.precision_candidates.specs.Side.{AreCounts, along, candidate_sum, documents_of, number_of, out_of}
use Rattle.precision_candidates.specs.Walk.{IsBestSoFar, Loses}
use Rattle.precision_candidates.proofs.Pass.{one_open}
use Rattle.precision_candidates.proofs.Counting.{count_few, high_counted, low_counted, high_number, low_number}

below_more : (P : ℕ → Type 0) (n : ℕ) → ((k : ℕ) → k < n → P k) → P n → (k : ℕ) → k < n + 1 → P k
below_more P n h last k lt = elim (cases_lt k n) [
  | inl less ↦ h k less
  | inr more ↦ let same : n ≡ k = omega (arith, lt, more) in subst P same last
]

pub passed_over : (high : Bool) (marks : List Mark) (docs : List ℕ) (n : ℕ) (best : Choice) → Loses high (number_of high marks docs n) n best → IsBestSoFar high marks docs n best → IsBestSoFar high marks docs (n + 1) best
passed_over high marks docs n best l h =
    let number = number_of high marks docs in
    record {
      best = record {
        within = h.best.within;
        good = below_more (λ k. IsAsGood high (number best.count) (number k)) n h.best.good (subst (λ (v : ℕ). IsAsGood high v (number n)) h.value l.0);
        first = below_more (λ k. IsEarlier high k best.count → IsBetter high (number best.count) (number k)) n h.best.first (λ e. subst (λ (v : ℕ). IsBetter high v (number n)) h.value (l.1 e));
      };
      value = h.value;
    }

-- ---- how many documents are true in a candidate
pub relevant_fits : (marks : List Mark) (docs : List ℕ) (all : Counts) (count : ℕ) → IsRanking (length marks) docs → AreCounts marks all → count ≤ length (open_docs marks docs) → all.relevant + count ≤ DOCUMENT_LIMIT
relevant_fits marks docs all count r a h = omega (arith, high_counted marks docs count r h, count_few (length marks) (high_truth marks docs count), a.relevant, a.few)

pub possible_fits : (marks : List Mark) (docs : List ℕ) (all : Counts) (count : ℕ) → IsRanking (length marks) docs → AreCounts marks all → count ≤ length (open_docs marks docs) → count ≤ all.possible
possible_fits marks docs all count r a h = omega (arith, low_counted marks docs count r h, a.possible)

pub documents_fit : (high : Bool) (marks : List Mark) (docs : List ℕ) (all : Counts) (count : ℕ) → IsRanking (length marks) docs → AreCounts marks all → count ≤ length (open_docs marks docs) → documents_of high all count ≤ DOCUMENT_LIMIT
documents_fit true marks docs all count r a h = relevant_fits marks docs all count r a h
documents_fit false marks docs all count r a h = omega (arith, count_few (length marks) (with_picked marks (λ _. true)), a.possible, a.few)

pub number_is : (high : Bool) (marks : List Mark) (docs : List ℕ) (all : Counts) (count : ℕ) → IsRanking (length marks) docs → AreCounts marks all → count ≤ length (open_docs marks docs) →
    out_of high (candidate_sum high (along marks docs) count) (documents_of high all count) ≡ number_of high marks docs count
number_is true marks docs all count r a h =
    subst (λ (n : ℕ). out_of true (candidate_sum true (along marks docs) count) (n + count) ≡ number_of true marks docs count) (sym a.relevant) (sym (high_number marks docs count r h))
number_is false marks docs all count r a h =
    subst (λ (n : ℕ). out_of false (candidate_sum false (along marks docs) count) (n - count) ≡ number_of false marks docs count) (sym a.possible) (sym (low_number marks docs count r h))

open_filter : (marks : List Mark) (docs : List ℕ) → length (open_docs marks docs) ≤ length docs
open_filter marks docs =
    let opens : ℕ → Bool = λ doc. is_unjudged (mark_at marks doc) in
    omega (arith, length-filter opens docs, count_by-le-length opens docs)

pub few_open : (marks : List Mark) (docs : List ℕ) (count : ℕ) → IsRanking (length marks) docs → count ≤ length (open_docs marks docs) → count ≤ 10000
few_open marks docs count r h = let short = r.short in omega (arith, h, short, open_filter marks docs)

-- ---- whether a document is one more
pub open_one : (m : Mark) → sameb the_type m Unjudged ≡ true → one_open m ≡ 1
open_one Unjudged e = refl
open_one Relevant e = absurd (cc)
open_one Other e = absurd (cc)

pub open_none : (m : Mark) → sameb the_type m Unjudged ≡ false → one_open m ≡ 0
open_none Unjudged e = absurd (cc)
open_none Relevant e = refl
open_none Other e = refl

pub none_more : (n : ℕ) → n + 0 ≡ n
none_more n = omega arith
