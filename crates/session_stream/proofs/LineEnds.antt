-- How lines grow by what a push takes.
use Rattle.std.proofs.Common.{◌≡◌, ℕ, List, [], ◌∷◌, ◌++◌, ap, sym, ◌∙◌, append_assoc, cond, length, arith}
use Rattle.std.proofs.lemmas.Bool.{lt-ltb}
use Rattle.std.specs.Prelude.{filter}
use Rattle.desk_text.specs.Lines.{lines, whole_lines, unended, is_filled, HasNoLineFeed}
use Rattle.desk_text.proofs.WholeLines.{whole_lines-append_ended, unended-append_ended, lines-whole_lines}

pub whole_lines-ended : (text line : List ℕ) → HasNoLineFeed line → whole_lines (text ++ (line ++ 10 ∷ [])) ≡ whole_lines text ++ (unended text ++ line) ∷ []
whole_lines-ended text line h = ap whole_lines (sym (append_assoc text line (10 ∷ []))) ∙ whole_lines-append_ended text line h

pub unended-ended : (text line : List ℕ) → unended (text ++ (line ++ 10 ∷ [])) ≡ []
unended-ended text line = ap unended (sym (append_assoc text line (10 ∷ []))) ∙ unended-append_ended text line

-- a text with more after its last line feed
pub lines-some : (text : List ℕ) (b : ℕ) (bs : List ℕ) → unended text ≡ b ∷ bs → lines text ≡ whole_lines text ++ (b ∷ bs) ∷ []
lines-some text b bs h = lines-whole_lines text ∙ ap (λ u. whole_lines text ++ filter is_filled (u ∷ [])) h ∙ ap (λ c. whole_lines text ++ cond c ((b ∷ bs) ∷ []) []) (lt-ltb 0 (length (b ∷ bs)) (omega arith))
