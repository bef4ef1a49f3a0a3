-- The first documents of a ranking, as the code takes them from its documents.
use Rattle.std.proofs.Common.{◌≡◌, ℕ, ◌<◌, ◌≤◌, List, All, take, length, get_or, ap, arith}
use Rattle.std.proofs.lemmas.List.{length-take}
use Rattle.std.proofs.lemmas.List.Elements.{All-take}

-- they are in the universe
pub prefix_known : (n k i : ℕ) (items docs ranking : List ℕ) → items ≡ take k docs → docs ≡ ranking → All (λ (doc : ℕ). doc < n) ranking → i < length items → get_or items i 0 < n
prefix_known n k i items docs ranking e f known within =
    let listed : items ≡ take k ranking = rw (e, f) in
    rw listed (All-take (λ (doc : ℕ). doc < n) k ranking known i 0 (rw (← listed) within))

-- and no more than the ranking has
pub prefix_short : (n k : ℕ) (items docs ranking : List ℕ) → items ≡ take k docs → docs ≡ ranking → length ranking ≤ n → length items ≤ n
prefix_short n k items docs ranking e f short = omega (arith, ap length e, ap length f, length-take k docs)
