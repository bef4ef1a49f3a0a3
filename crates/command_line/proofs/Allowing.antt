-- Whether each name has what it must.
use Rattle.std.proofs.Common.{◌≡◌, ℕ, ◌+◌, ◌<◌, ◌≤◌, Bool, true, false, true≢false, List, length, get_or, map, refl, subst, sym, take, arith}
use Rattle.std.specs.Prelude.{IsTrue, ◌↔◌}
use Rattle.std.specs.Borrow.{Bor}
use Rattle.std.specs.List.{All}
use Rattle.std.proofs.lemmas.List.{get_or-map, length-map, map_more, take_all}
use Rattle.std.proofs.lemmas.List.Elements.{All-same, All-push}
use Rattle.clap.specs.Words.{Text}

-- one name fails
pub fails_at : (P : Text → Type 0) (names : List (Bor Text)) (i : ℕ) (d : Bor Text) (passes : Bool) → i < length names → (P (get_or names i d).now → IsTrue passes) → passes ≡ false → IsTrue false ↔ All P (map (λ n. n.now) names)
fails_at P names i d passes lt is fails = (
  λ never. absurd (true≢false (sym never)),
  λ all. let here : P (get_or names i d).now = subst P (get_or-map (λ (n : Bor Text). n.now) names i d d.now lt) (all i d.now (let l = length-map names (λ (n : Bor Text). n.now) in omega (arith, l, lt))) in subst IsTrue fails (is here),
)

-- one name more
pub one_more : (P : Text → Type 0) (names : List (Bor Text)) (i : ℕ) (d : Bor Text) → i < length names → All P (map (λ n. n.now) (take i names)) → P (get_or names i d).now → All P (map (λ n. n.now) (take (i + 1) names))
one_more P names i d lt before here = All-same P _ _ (map_more (λ (n : Bor Text). n.now) names i d lt) (All-push P _ _ before here)

-- all of them
pub all_pass : (P : Text → Type 0) (names : List (Bor Text)) (i : ℕ) → length names ≤ i → All P (map (λ n. n.now) (take i names)) → IsTrue true ↔ All P (map (λ n. n.now) names)
all_pass P names i past all = (λ _. subst (λ ns. All P (map (λ n. n.now) ns)) (take_all i names past) all, λ _. refl)
