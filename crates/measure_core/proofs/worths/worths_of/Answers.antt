use Rattle.std.proofs.Common.{◌≡◌, ℕ, ◌+◌, ◌<◌, inl, inr, List, [], ◌∷◌, ◌++◌, length, get_or, arith, ap, sym, subst, ◌∙◌}
use Rattle.std.proofs.lemmas.Grind.{common_steps}
use Rattle.std.proofs.lemmas.List.{get_or_append_left, get_or_push}
use Rattle.small_lemmas.proofs.Numbers.{less_or_last}
use Rattle.measure_core.specs.Worths.{rank_or_none}
use Rattle.measure_core.proofs.worths.worths_of.Goals as goal

-- one worth more
one_more : (worth : ℕ → ℕ) (xs : List ℕ) (y n : ℕ) → length xs ≡ n → y ≡ worth n → ((i : ℕ) → i < n → get_or xs i 0 ≡ worth i) → (i : ℕ) → i < n + 1 → get_or (xs ++ y ∷ []) i 0 ≡ worth i
one_more worth xs y n count e h i lt = elim (less_or_last i n lt) [
  | inl less ↦ get_or_append_left xs (y ∷ []) 0 i (omega (arith, count, less)) ∙ h i less
  | inr last ↦ subst (λ (m : ℕ). get_or (xs ++ y ∷ []) m 0 ≡ worth m) (sym last) (get_or_push xs y 0 n count ∙ e)
]

pub loop-rank-preserved : goal.loop-rank-preserved
loop-rank-preserved g c =
    let xs = c.loop-rank.worths.items in
    let y = c.worth_at.result in
    let pushed : c.push.new.self.items ≡ xs ++ y ∷ [] = grind (arith, common_steps) in
    record {
      count = grind (arith, common_steps);
      each = λ i lt. ap (λ (zs : List ℕ). get_or zs i 0) pushed ∙ one_more (λ (r : ℕ). g.W.RankWorth.worth c.args.ranks.now (rank_or_none r)) xs y c.loop-rank.rank c.loop-rank.invariant.count c.worth_at.ensures c.loop-rank.invariant.each i lt;
    }
