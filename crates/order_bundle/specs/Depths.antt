-- The depth of the pool under which a certificate was made, and its line.
use Rattle.std.specs.Prelude.{◌≡◌, ℕ, ◌≤◌, Bool, true, false, List, [], ◌∷◌, ◌++◌, Option, Some, None, codes, decimal}
use Rattle.line_forms.specs.Reading.{IsTakenIfNext, Left}

-- a depth is from 1 to 10,000
abbrev pub IsDepth : ℕ → Type 0
IsDepth d = (1 ≤ d) × (d ≤ 10000)

-- a depth, or none
abbrev pub IsScope : Option ℕ → Type 0
IsScope None = Unit {0}
IsScope (Some d) = IsDepth d

-- the line of a depth
abbrev pub depth_line : ℕ → List ℕ
depth_line d = codes "depth " ++ decimal d

-- that line exactly where there is a depth
abbrev pub depth_lines : Option ℕ → List (List ℕ)
depth_lines None = []
depth_lines (Some d) = depth_line d ∷ []

-- the depth of the next line, which was taken; or that line is of none, or depths are not allowed, and nothing was taken
abbrev pub IsDepthTaken : Bool → Left → Option ℕ → Left → Type 0
IsDepthTaken false old None new = new ≡ old
IsDepthTaken false old (Some d) new = ⊥
IsDepthTaken true old depth new = IsTakenIfNext depth_line IsDepth old depth new
