-- Chains.
use Rattle.std.proofs.Common.{ℕ, ◌<◌, ◌++◌, List, [], ◌∷◌}
use Rattle.order_tiers.specs.Chains.{IsChain, IsCertifiedAbove, IsAmongRuns, IsTransitive}
use Rattle.order_tiers.specs.Tiers.{IsCovering}

pub direct : (Above : ℕ → ℕ → Type 0) (a b : ℕ) → Above a b → IsCertifiedAbove Above a b
direct Above a b h = record { between = []; chain = h }

chained : (Above : ℕ → ℕ → Type 0) (a b c : ℕ) (xs ys : List ℕ) → IsChain Above a xs b → IsChain Above b ys c → IsChain Above a (xs ++ b ∷ ys) c
chained Above a b c [] ys h k = (h, k)
chained Above a b c (x ∷ xs) ys h k = (h.0, chained Above x b c xs ys h.1 k)

pub leads_on : (Above : ℕ → ℕ → Type 0) → IsTransitive (IsCertifiedAbove Above)
leads_on Above a b c h k = record { between = h.between ++ b ∷ k.between; chain = chained Above a b c h.between k.between h.chain k.chain }

chain_least : (Above R : ℕ → ℕ → Type 0) → IsTransitive R → ((a b : ℕ) → Above a b → R a b) → (a b : ℕ) (xs : List ℕ) → IsChain Above a xs b → R a b
chain_least Above R trans holds a b [] h = holds a b h
chain_least Above R trans holds a b (x ∷ xs) h = trans a x b (holds a x h.0) (chain_least Above R trans holds x b xs h.1)

pub least : (Above R : ℕ → ℕ → Type 0) → IsTransitive R → ((a b : ℕ) → Above a b → R a b) → (a b : ℕ) → IsCertifiedAbove Above a b → R a b
least Above R trans holds a b h = chain_least Above R trans holds a b h.between h.chain

-- pairs of which each is a pair of another relation lead where that one does
pub wider : (Above R : ℕ → ℕ → Type 0) → ((a b : ℕ) → Above a b → R a b) → (a b : ℕ) → IsCertifiedAbove Above a b → IsCertifiedAbove R a b
wider Above R holds = least Above (IsCertifiedAbove R) (leads_on R) (λ a b h. direct R a b (holds a b h))

-- certified above is of the runs of the pairs
pub certified_within : (Above : ℕ → ℕ → Type 0) (runs : ℕ) → IsAmongRuns Above runs → IsAmongRuns (IsCertifiedAbove Above) runs
certified_within Above runs within = least Above (λ a b. (a < runs) × (b < runs)) (λ a b c h k. (h.0, k.1)) within

-- the last pair of a chain
pub record LastPair (Above : ℕ → ℕ → Type 0) (b : ℕ) : Type 0 where
  pub above : ℕ
  pub pair : Above above b

last_of : (Above : ℕ → ℕ → Type 0) (a b : ℕ) (xs : List ℕ) → IsChain Above a xs b → LastPair Above b
last_of Above a b [] h = record { above = a; pair = h }
last_of Above a b (x ∷ xs) h = last_of Above x b xs h.1

pub last_pair : (Above : ℕ → ℕ → Type 0) (a b : ℕ) → IsCertifiedAbove Above a b → LastPair Above b
last_pair Above a b h = last_of Above a b h.between h.chain

-- a chain with a run between has that run between
covering_chain : (Above : ℕ → ℕ → Type 0) (runs a b : ℕ) → IsAmongRuns Above runs → ((c : ℕ) → c < runs → IsCertifiedAbove Above a c → IsCertifiedAbove Above c b → ⊥) → (xs : List ℕ) → IsChain Above a xs b → Above a b
covering_chain Above runs a b within none [] h = h
covering_chain Above runs a b within none (x ∷ xs) h =
    absurd (none x (within a x h.0).1 (direct Above a x h.0) (record { between = xs; chain = h.1 }))

-- a covering pair is a pair itself
pub covering : (Above : ℕ → ℕ → Type 0) (runs a b : ℕ) → IsAmongRuns Above runs → IsCovering (IsCertifiedAbove Above) runs a b → Above a b
covering Above runs a b within h = covering_chain Above runs a b within h.none_between h.above.between h.above.chain
