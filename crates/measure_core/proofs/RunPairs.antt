-- The numbers of runs, and going over their pairs.
use Rattle.std.proofs.Common.{◌≡◌, ℕ, zero, suc, ◌+◌, ◌<◌, Bool, true, false, List, [], ◌∷◌, length, drop, Some, refl, ap, sym, ◌∙◌, length-drop, arith}
use Rattle.std.specs.Prelude.{slice_get, nat_lt}
use Rattle.std.specs.List.{range_with_len}
use Rattle.std.proofs.lemmas.Bool.Decides.{nat_tests}
use Rattle.std.proofs.lemmas.List.FromFn.{length-range_with_len}
use Rattle.desk_model.specs.Pairs.{pairs_of, pairs_from, places_after}
use Rattle.desk_model.specs.declared.pairs.PairPlaces.{PairPlaces}
use Rattle.desk_model.proofs.PairPlace.{ArePlaces, there_from, pairs_from-start, pairs_from-next, pairs_from-end, places_after-placed}
use Rattle.desk_model.specs.declared.types.Mark.{Mark}
use Rattle.measure_core.specs.Laws.{AreMet}
use Rattle.measure_core.specs.Pairs.{DeskTopic, AreAllMet, ranking_on, run_numbers, runs_on}

-- the number at a place of a range
pub numbered : (start n i : ℕ) → i < n → slice_get (range_with_len start n) i ≡ Some (start + i)
numbered start zero i h = absurd (omega arith)
numbered start (suc n) zero h = let e : start ≡ start + zero = omega arith in ap (λ (m : ℕ). Some m) e
numbered start (suc n) (suc i) h = let e : start + 1 + i ≡ start + suc i = omega arith in numbered (start + 1) n i (omega arith) ∙ ap (λ (m : ℕ). Some m) e

pub number_at : (n i : ℕ) → i < n → slice_get (run_numbers n) i ≡ Some i
number_at n i h = let e : 0 + i ≡ i = omega arith in numbered 0 n i h ∙ ap (λ (m : ℕ). Some m) e

pub length-run_numbers : (n : ℕ) → length (run_numbers n) ≡ n
length-run_numbers n = length-range_with_len 0 n

-- ---- going over the pairs
-- the pair with a number stands at the places, and so do those after it
pub record IsAt (n i : ℕ) (at : PairPlaces) : Type 0 where
  pub left : drop i (pairs_of (run_numbers n)) ≡ pairs_from at (run_numbers n)
  pub placed : ArePlaces n at

pub at_start : (n : ℕ) (at : PairPlaces) → 0 < n → at.first ≡ 0 → at.second ≡ 1 → IsAt n 0 at
at_start n at some f s = record {
  left = sym (pairs_from-start (run_numbers n) at f s);
  placed = record { order = omega (arith, f, s); within = omega (arith, s, some); last = λ e. omega (arith, e, f, s) };
}

pub at_within : (n i : ℕ) (at : PairPlaces) → IsAt n i at → i < length (pairs_of (run_numbers n)) → at.second < n
at_within n i at h lt = go (nat_lt at.second n) refl
  where
    long : length (run_numbers n) ≡ n
    long = length-run_numbers n

    go : (b : Bool) → nat_lt at.second n ≡ b → at.second < n
    go true t = grind (arith, nat_tests)
    go false t =
        let end : at.second ≡ length (run_numbers n) = grind (arith, nat_tests, h.placed.within, long) in
        let none : drop i (pairs_of (run_numbers n)) ≡ [] = h.left ∙ pairs_from-end (run_numbers n) at (rw long h.placed) end in
        absurd (omega (arith, length-drop i (pairs_of (run_numbers n)), ap length none))

pub at_next : (n i : ℕ) (at : PairPlaces) → IsAt n i at → i < length (pairs_of (run_numbers n)) → (slice_get (pairs_of (run_numbers n)) i ≡ Some (at.first, at.second)) × IsAt n (i + 1) (places_after n at)
at_next n i at h lt =
    let long : length (run_numbers n) ≡ n = length-run_numbers n in
    let within : at.second < n = at_within n i at h lt in
    let next : pairs_from at (run_numbers n) ≡ (at.first, at.second) ∷ pairs_from (places_after (length (run_numbers n)) at) (run_numbers n) =
    pairs_from-next (run_numbers n) at at.first at.second (rw long h.placed) (number_at n at.first (omega (arith, within, h.placed.order))) (number_at n at.second within) in
    let split = there_from (pairs_of (run_numbers n)) i (at.first, at.second) _ (h.left ∙ next) in
    (split.0, record { left = split.1 ∙ ap (λ (m : ℕ). pairs_from (places_after m at) (run_numbers n)) long; placed = places_after-placed n at h.placed within })

-- two runs of a topic are ones that a measure may be asked of
pub met_pair : (marks : List Mark) (t : DeskTopic) (i j : ℕ) → AreAllMet marks t → i < runs_on t → j < runs_on t → AreMet marks (ranking_on t i) (ranking_on t j)
met_pair marks t i j h p q = record { first = h.each i p; second = h.each j q; small = h.small }
