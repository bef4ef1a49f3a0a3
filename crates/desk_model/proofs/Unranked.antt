-- A document without a rank is not in the list.
use Rattle.std.proofs.Common.{◌≡◌, ℕ, zero, suc, ◌+◌, Bool, true, false, nat_eq, List, [], ◌∷◌, take, Some, None, refl}
use Rattle.std.specs.Prelude.{◌||◌}
use Rattle.std.specs.List.{position_from}
use Rattle.desk_model.specs.Ranking.{is_in, rank}

unranked-from : (docs : List ℕ) (doc n depth : ℕ) → position_from (λ each. nat_eq each doc) n docs ≡ None → is_in (take depth docs) doc ≡ false
unranked-from [] doc n zero h = refl
unranked-from [] doc n (suc depth) h = refl
unranked-from (d ∷ docs) doc n zero h = refl
unranked-from (d ∷ docs) doc n (suc depth) h = go (nat_eq d doc) refl (unranked-from docs doc (n + 1) depth)
  where
    go : (b : Bool) → nat_eq d doc ≡ b → (position_from (λ each. nat_eq each doc) (n + 1) docs ≡ None → is_in (take depth docs) doc ≡ false) → (nat_eq d doc || is_in (take depth docs) doc) ≡ false
    go true e later = let bad : Some n ≡ None = rw e at h in absurd (cc)
    go false e later = rw e (later (rw e at h))

pub unranked_in : (docs : List ℕ) (doc depth : ℕ) → rank docs doc ≡ None → is_in (take depth docs) doc ≡ false
unranked_in docs doc depth h = unranked-from docs doc 1 depth h
