-- How a topic keeps the grades of the judgements file.
use Rattle.std.specs.Prelude.{◌≡◌, List, ◌++◌, All, length, flat_map, Option, ℤ, Vec}
use Rattle.std.specs.declared.alloc.Global.{Global}
use Rattle.name_table.specs.declared.blocked_names.TheConstants.{BLOCK_NAMES}

-- the grades of blocks one behind the other
abbrev pub grades_of : List (Vec (Option ℤ) Global) → List (Option ℤ)
grades_of blocks = flat_map (λ (block : Vec (Option ℤ) Global). block.items) blocks

-- the grades of whole blocks, and behind them those of the last
abbrev pub all_grades : List (Vec (Option ℤ) Global) → List (Option ℤ) → List (Option ℤ)
all_grades whole last = grades_of whole ++ last

-- whole blocks have so many grades each
abbrev pub AreWhole : List (Vec (Option ℤ) Global) → Type 0
AreWhole whole = All (λ (block : Vec (Option ℤ) Global). length block.items ≡ BLOCK_NAMES) whole
