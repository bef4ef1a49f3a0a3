-- Chains of pairs of runs, each run above the next.
use Rattle.std.specs.Prelude.{◌≡◌, ℕ, ◌<◌, Bool, true, List, [], ◌∷◌}

-- each run of a chain is above the next: the first, those between, and the last
abbrev pub IsChain : (ℕ → ℕ → Type 0) → ℕ → List ℕ → ℕ → Type 0
IsChain Above a [] b = Above a b
IsChain Above a (c ∷ between) b = Above a c × IsChain Above c between b

-- a run is certified above another: a chain of one or more pairs leads from it to the other
pub record IsCertifiedAbove (Above : ℕ → ℕ → Type 0) (a b : ℕ) : Type 0 where
  pub between : List ℕ
  pub chain : IsChain Above a between b

-- a relation leads on: from the first to the third by way of a second
abbrev pub IsTransitive : (ℕ → ℕ → Type 0) → Type 0
IsTransitive R = (a b c : ℕ) → R a b → R b c → R a c

-- nothing is related to itself
abbrev pub IsIrreflexive : (ℕ → ℕ → Type 0) → Type 0
IsIrreflexive R = (a : ℕ) → R a a → ⊥

-- a relation is of so many runs alone
abbrev pub IsAmongRuns : (ℕ → ℕ → Type 0) → ℕ → Type 0
IsAmongRuns R runs = (a b : ℕ) → R a b → (a < runs) × (b < runs)

-- the relation of a test
abbrev pub ByTest : (ℕ → ℕ → Bool) → ℕ → ℕ → Type 0
ByTest test a b = test a b ≡ true
