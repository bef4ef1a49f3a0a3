-- Going over the pairs run by run.
use Rattle.std.proofs.Common.{◌≡◌, ◌≢◌, ℕ, ◌+◌, Bool, true, false, arith}
use Rattle.std.specs.Prelude.{nat_eq, nat_lt, if◌then◌else◌}
use Rattle.std.proofs.lemmas.Bool.Decides.{nat_tests}
use Rattle.desk_model.specs.Pairs.{places_after}
use Rattle.desk_model.specs.declared.pairs.PairPlaces.{PairPlaces}

-- the next pair is of the same first run, or the first of the next run
next_first : (at : PairPlaces) (b : Bool) (P : ℕ → Type 0) → P at.first →
    (let next : PairPlaces = (if b then record { first = at.first; second = at.second + 1 } else record { first = at.first + 1; second = at.first + 2 }) in next.first + 1 ≢ next.second → P next.first)
next_first at true P h = λ _. h
next_first at false P h = λ apart. absurd (apart (omega arith))

pub next_seen : (n : ℕ) (at : PairPlaces) (P : ℕ → Type 0) → P at.first → (places_after n at).first + 1 ≢ (places_after n at).second → P (places_after n at).first
next_seen n at P h = next_first at (nat_lt (at.second + 1) n) P h

-- where the pair is not the first of its first run
pub not_new : (at : PairPlaces) → nat_eq (at.first + 1) at.second ≡ false → at.first + 1 ≢ at.second
not_new at e = λ same. absurd (grind (arith, nat_tests, e, same))
