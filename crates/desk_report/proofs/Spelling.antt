-- Lines of words, and the whole lines of a text.
use Rattle.std.proofs.Common.{◌≡◌, ℕ, zero, suc, ◌≤◌, List, [], ◌∷◌, ◌++◌, take, cond, true, false, refl, ap, arith}
use Rattle.std.specs.Prelude.{Bool, ◌==◌, flat_map}
use Rattle.std.specs.List.{AllByRecursion}
use Rattle.desk_text.specs.Lines.{onto_whole, whole_lines, HasNoLineFeed}
use Rattle.desk_text.proofs.WholeLines.{whole_lines-ended as whole_line, whole_lines-of_lines}
use Rattle.desk_model.proofs.Words.{AreInk}
use Rattle.desk_report.specs.Table.{ended}

-- bytes that end no line
abbrev pub AreInLine : List ℕ → Type 0
AreInLine [] = Unit {0}
AreInLine (b ∷ bs) = (32 ≤ b) × AreInLine bs

pub ink_in_line : (w : List ℕ) → AreInk w → AreInLine w
ink_in_line [] h = tt
ink_in_line (b ∷ bs) h = (omega (arith, h.0), ink_in_line bs h.1)

pub ink-append : (v w : List ℕ) → AreInk v → AreInk w → AreInk (v ++ w)
ink-append [] w h k = k
ink-append (b ∷ bs) w h k = (h.0, ink-append bs w h.1 k)

pub in_line-append : (v w : List ℕ) → AreInLine v → AreInLine w → AreInLine (v ++ w)
in_line-append [] w h k = k
in_line-append (b ∷ bs) w h k = (h.0, in_line-append bs w h.1 k)

-- a space between two parts of a line
pub in_line-spaced : (v w : List ℕ) → AreInLine v → AreInLine w → AreInLine (v ++ 32 ∷ w)
in_line-spaced v w h k = in_line-append v (32 ∷ w) h (omega arith, k)

-- the whole lines of a prefix of a text are the first of its whole lines
pub whole_lines-take : (t : List ℕ) (n : ℕ) → (more : List (List ℕ)) × (whole_lines t ≡ whole_lines (take n t) ++ more)
whole_lines-take [] zero = ([], refl)
whole_lines-take [] (suc n) = ([], refl)
whole_lines-take (b ∷ bs) zero = (whole_lines (b ∷ bs), refl)
whole_lines-take (b ∷ bs) (suc n) = by_test (b == 10) (whole_lines (take n bs)) (whole_lines-take bs n)
  where
    by_test : (t : Bool) (ls : List (List ℕ)) → (more : List (List ℕ)) × (whole_lines bs ≡ ls ++ more) →
        (more : List (List ℕ)) × (cond t ([] ∷ whole_lines bs) (onto_whole b (whole_lines bs)) ≡ cond t ([] ∷ ls) (onto_whole b ls) ++ more)
    by_test true ls h = (h.0, ap (λ ms. [] ∷ ms) h.1)
    by_test false [] h = (onto_whole b (whole_lines bs), refl)
    by_test false (l ∷ ls) h = (h.0, ap (onto_whole b) h.1)

no_feed_in_line : (line : List ℕ) → AreInLine line → HasNoLineFeed line
no_feed_in_line [] h = tt
no_feed_in_line (b ∷ bs) h = ((λ e. omega (arith, h.0)), no_feed_in_line bs h.1)

pub whole_lines-ended : (l rest : List ℕ) → AreInLine l → whole_lines (ended l ++ rest) ≡ l ∷ whole_lines rest
whole_lines-ended l rest h = whole_line l rest (no_feed_in_line l h)

-- the whole lines of ended lines are the lines
pub whole_lines-of_ended : (lines : List (List ℕ)) → AllByRecursion AreInLine lines → whole_lines (flat_map ended lines) ≡ lines
whole_lines-of_ended lines h = whole_lines-of_lines lines (no_feeds lines h)
  where
    no_feeds : (ls : List (List ℕ)) → AllByRecursion AreInLine ls → AllByRecursion HasNoLineFeed ls
    no_feeds [] h = tt
    no_feeds (l ∷ ls) h = (no_feed_in_line l h.0, no_feeds ls h.1)
