-- Names in blocks.
use Rattle.std.specs.Prelude.{◌≡◌, ◌<◌, ◌+◌, ◌*◌, ◌^◌, ℕ, List, ◌++◌, All, length, flat_map}
use Rattle.name_table.specs.declared.blocked_names.TheConstants.{BLOCK_NAMES}

-- the names of whole blocks, and behind them those of the last
abbrev pub all_names : List (List (List ℕ)) → List (List ℕ) → List (List ℕ)
all_names whole last = flat_map (λ block. block) whole ++ last

-- whole blocks have so many names each, and there are no more names than can be counted
pub record AreBlocks (blocks : List (List (List ℕ))) (last : List (List ℕ)) : Type 0 where
  pub whole : All (λ block. length block ≡ BLOCK_NAMES) blocks
  pub counted : BLOCK_NAMES * length blocks + length last < 2 ^ 64
