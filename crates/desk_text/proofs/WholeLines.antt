-- Lines that a line feed ended, and what follows the last of them.
use Rattle.std.proofs.Common.{◌≡◌, ℕ, ◌<◌, List, [], ◌∷◌, ◌++◌, take, length, true, false, Some, None, cond, refl, sym, ap, ◌∙◌, arith, append_assoc, append-nil, length-append}
use Rattle.std.specs.Prelude.{Bool, Option, ◌==◌, ◌||◌, nat_le, filter, flat_map}
use Rattle.std.specs.List.{AllByRecursion}
use Rattle.std.proofs.lemmas.Bool.{ne_eqb, lt-ltb, leb-false, lt-leb}
use Rattle.desk_text.specs.Lines.{is_filled, onto_first, lines, onto_whole, whole_lines, has_line_feed, HasNoLineFeed, unended, last_line, kept_line, longer, IsPushed, KeepsOn}
use Rattle.desk_text.specs.declared.arriving.Pushed.{Pushed}
use Rattle.desk_text.specs.declared.line.TheConstants.{LONGEST_LINE}

filled : (x : ℕ) (xs : List ℕ) → is_filled (x ∷ xs) ≡ true
filled x xs = lt-ltb 0 (length (x ∷ xs)) (omega arith)

no_feed : (xs : List ℕ) → HasNoLineFeed xs → has_line_feed xs ≡ false
no_feed [] h = refl
no_feed (x ∷ xs) h = ap (λ b. b || has_line_feed xs) (ne_eqb x 10 h.0) ∙ no_feed xs h.1

feed-append : (xs ys : List ℕ) → has_line_feed (xs ++ ys) ≡ (has_line_feed xs || has_line_feed ys)
feed-append [] ys = refl
feed-append (x ∷ xs) ys = by (x == 10) (feed-append xs ys)
  where
    by : (b : Bool) → has_line_feed (xs ++ ys) ≡ (has_line_feed xs || has_line_feed ys) → (b || has_line_feed (xs ++ ys)) ≡ ((b || has_line_feed xs) || has_line_feed ys)
    by true e = refl
    by false e = e

feed-append_none : (xs ys : List ℕ) → HasNoLineFeed ys → has_line_feed (xs ++ ys) ≡ has_line_feed xs
feed-append_none xs ys h = feed-append xs ys ∙ ap (λ b. has_line_feed xs || b) (no_feed ys h) ∙ or_false (has_line_feed xs)
  where
    or_false : (b : Bool) → (b || false) ≡ b
    or_false true = refl
    or_false false = refl

feed-append_feed : (xs : List ℕ) → has_line_feed (xs ++ 10 ∷ []) ≡ true
feed-append_feed xs = feed-append xs (10 ∷ []) ∙ or_true (has_line_feed xs)
  where
    or_true : (b : Bool) → (b || true) ≡ true
    or_true true = refl
    or_true false = refl

-- bytes without a line feed are no whole line, and all of them are left
none_whole : (xs : List ℕ) → has_line_feed xs ≡ false → (whole_lines xs ≡ []) × (unended xs ≡ xs)
none_whole [] h = (refl, refl)
none_whole (x ∷ xs) h = by (x == 10) refl (none_whole xs) h
  where
    by : (b : Bool) → (x == 10) ≡ b → (has_line_feed xs ≡ false → (whole_lines xs ≡ []) × (unended xs ≡ xs)) → (b || has_line_feed xs) ≡ false
        → (cond b ([] ∷ whole_lines xs) (onto_whole x (whole_lines xs)) ≡ []) × (cond (b || has_line_feed xs) (unended xs) (x ∷ xs) ≡ x ∷ xs)
    by true p rest h = absurd (cc)
    by false p rest h = (ap (onto_whole x) (rest h).0, ap (λ b. cond b (unended xs) (x ∷ xs)) h)

-- and where one stands there is a first whole line
pub record IsBegun (xs : List ℕ) : Type 0 where
  pub first : List ℕ
  pub others : List (List ℕ)
  pub are : whole_lines xs ≡ first ∷ others

begun : (xs : List ℕ) → has_line_feed xs ≡ true → IsBegun xs
begun [] h = absurd (cc)
begun (x ∷ xs) h = by (x == 10) refl (begun xs) h
  where
    by : (b : Bool) → (x == 10) ≡ b → (has_line_feed xs ≡ true → IsBegun xs) → (b || has_line_feed xs) ≡ true → IsBegun (x ∷ xs)
    by true p rest h = record { first = []; others = whole_lines xs; are = ap (λ b. cond b ([] ∷ whole_lines xs) (onto_whole x (whole_lines xs))) p }
    by false p rest h =
        let up = rest h in
        record { first = x ∷ up.first; others = up.others; are = ap (λ b. cond b ([] ∷ whole_lines xs) (onto_whole x (whole_lines xs))) p ∙ ap (onto_whole x) up.are }

pub whole_lines-append_more : (text more : List ℕ) → HasNoLineFeed more → whole_lines (text ++ more) ≡ whole_lines text
whole_lines-append_more [] more h = (none_whole more (no_feed more h)).0
whole_lines-append_more (x ∷ xs) more h = ap (λ ls. cond (x == 10) ([] ∷ ls) (onto_whole x ls)) (whole_lines-append_more xs more h)

pub unended-append_more : (text more : List ℕ) → HasNoLineFeed more → unended (text ++ more) ≡ unended text ++ more
unended-append_more [] more h = (none_whole more (no_feed more h)).1
unended-append_more (x ∷ xs) more h =
    (λ i. cond ((x == 10) || feed-append_none xs more h i) (unended-append_more xs more h i) (x ∷ xs ++ more)) ∙ by ((x == 10) || has_line_feed xs)
  where
    by : (b : Bool) → cond b (unended xs ++ more) (x ∷ xs ++ more) ≡ cond b (unended xs) (x ∷ xs) ++ more
    by true = refl
    by false = refl

pub unended-append_feed : (text : List ℕ) → unended (text ++ 10 ∷ []) ≡ []
unended-append_feed [] = refl
unended-append_feed (x ∷ xs) = ap (λ b. cond b (unended (xs ++ 10 ∷ [])) (x ∷ xs ++ 10 ∷ [])) (feed-append_feed (x ∷ xs)) ∙ unended-append_feed xs

pub whole_lines-append_feed : (text : List ℕ) → whole_lines (text ++ 10 ∷ []) ≡ whole_lines text ++ unended text ∷ []
whole_lines-append_feed [] = refl
whole_lines-append_feed (x ∷ xs) = ap (λ ls. cond (x == 10) ([] ∷ ls) (onto_whole x ls)) (whole_lines-append_feed xs) ∙ by (x == 10) (has_line_feed xs) refl
  where
    by : (b feed : Bool) → has_line_feed xs ≡ feed
        → cond b ([] ∷ (whole_lines xs ++ unended xs ∷ [])) (onto_whole x (whole_lines xs ++ unended xs ∷ [])) ≡ cond b ([] ∷ whole_lines xs) (onto_whole x (whole_lines xs)) ++ cond (b || has_line_feed xs) (unended xs) (x ∷ xs) ∷ []
    by true feed f = refl
    by false true f =
        let is = begun xs f in
        ap (λ ls. onto_whole x (ls ++ unended xs ∷ [])) is.are ∙ (λ i. onto_whole x (sym is.are i) ++ cond (sym f i) (unended xs) (x ∷ xs) ∷ [])
    by false false f =
        let none = none_whole xs f in
        (λ i. onto_whole x (none.0 i ++ none.1 i ∷ [])) ∙ (λ i. onto_whole x (sym none.0 i) ++ cond (sym f i) (unended xs) (x ∷ xs) ∷ [])

pub whole_lines-append_ended : (text more : List ℕ) → HasNoLineFeed more → whole_lines (text ++ more ++ 10 ∷ []) ≡ whole_lines text ++ (unended text ++ more) ∷ []
whole_lines-append_ended text more h =
    whole_lines-append_feed (text ++ more) ∙ (λ i. whole_lines-append_more text more h i ++ unended-append_more text more h i ∷ [])

pub unended-append_ended : (text more : List ℕ) → unended (text ++ more ++ 10 ∷ []) ≡ []
unended-append_ended text more = unended-append_feed (text ++ more)

pub lines-whole_lines : (text : List ℕ) → lines text ≡ whole_lines text ++ last_line text
lines-whole_lines [] = refl
lines-whole_lines (x ∷ xs) = ap (λ ls. cond (x == 10) ([] ∷ ls) (onto_first x ls)) (lines-whole_lines xs) ∙ by (x == 10) (has_line_feed xs) refl
  where
    by : (b feed : Bool) → has_line_feed xs ≡ feed
        → cond b ([] ∷ (whole_lines xs ++ last_line xs)) (onto_first x (whole_lines xs ++ last_line xs))
        ≡ cond b ([] ∷ whole_lines xs) (onto_whole x (whole_lines xs)) ++ filter is_filled (cond (b || has_line_feed xs) (unended xs) (x ∷ xs) ∷ [])
    by true feed f = refl
    by false true f =
        let is = begun xs f in
        ap (λ ls. onto_first x (ls ++ last_line xs)) is.are ∙ (λ i. onto_whole x (sym is.are i) ++ filter is_filled (cond (sym f i) (unended xs) (x ∷ xs) ∷ []))
    by false false f =
        let none = none_whole xs f in
        (λ i. onto_first x (none.0 i ++ filter is_filled (none.1 i ∷ []))) ∙ onto_last xs
        ∙ (λ i. onto_whole x (sym none.0 i) ++ filter is_filled (cond (sym f i) (unended xs) (x ∷ xs) ∷ []))
      where
        onto_last : (ys : List ℕ) → onto_first x (filter is_filled (ys ∷ [])) ≡ filter is_filled ((x ∷ ys) ∷ [])
        onto_last [] = sym (ap (λ b. cond b ((x ∷ []) ∷ []) []) (filled x []))
        onto_last (y ∷ ys) = ap (λ b. onto_first x (cond b ((y ∷ ys) ∷ []) [])) (filled y ys) ∙ sym (ap (λ b. cond b ((x ∷ y ∷ ys) ∷ []) []) (filled x (y ∷ ys)))

-- of a long line nothing is kept
kept_line-long : (line : List ℕ) → LONGEST_LINE < length line → kept_line line ≡ None
kept_line-long line h = ap (λ b. cond b (Some line) None) (lt-leb (length line) LONGEST_LINE h)

-- what is kept does not depend on the pieces
pub longer-kept_line : (a b : List ℕ) → longer (kept_line a) b ≡ kept_line (a ++ b)
longer-kept_line a b = by (nat_le (length a) LONGEST_LINE) refl
  where
    by : (short : Bool) → nat_le (length a) LONGEST_LINE ≡ short → longer (cond short (Some a) None) b ≡ kept_line (a ++ b)
    by true e = refl
    by false e = let long : LONGEST_LINE < length (a ++ b) = omega (arith, leb-false (length a) LONGEST_LINE e, length-append a b) in sym (kept_line-long (a ++ b) long)

pub keeps_on : (text piece : List ℕ) (new : Option (List ℕ)) (pushed : Pushed) → IsPushed (kept_line (unended text)) piece new pushed → KeepsOn pushed.ended text (take pushed.used piece) new
keeps_on text piece new pushed is = by pushed.ended is.taken
  where
    kept : new ≡ kept_line (unended text ++ is.line)
    kept = is.new_is ∙ longer-kept_line (unended text) is.line

    by : (ended : Bool) → take pushed.used piece ≡ cond ended (is.line ++ 10 ∷ []) is.line → KeepsOn ended text (take pushed.used piece) new
    by true e =
        let all : text ++ take pushed.used piece ≡ text ++ is.line ++ 10 ∷ [] = ap (λ bs. text ++ bs) e ∙ sym (append_assoc text is.line (10 ∷ [])) in
        (unended text ++ is.line, ap whole_lines all ∙ whole_lines-append_ended text is.line is.in_line, ap unended all ∙ unended-append_ended text is.line, kept)
    by false e =
        let all = ap (λ bs. text ++ bs) e in
        (ap whole_lines all ∙ whole_lines-append_more text is.line is.in_line, kept ∙ ap kept_line (sym (ap unended all ∙ unended-append_more text is.line is.in_line)))

-- a line and its line feed are the first whole line
pub whole_lines-ended : (line rest : List ℕ) → HasNoLineFeed line → whole_lines ((line ++ 10 ∷ []) ++ rest) ≡ line ∷ whole_lines rest
whole_lines-ended [] rest h = refl
whole_lines-ended (b ∷ bs) rest h =
    ap (λ t. cond t ([] ∷ whole_lines ((bs ++ 10 ∷ []) ++ rest)) (onto_whole b (whole_lines ((bs ++ 10 ∷ []) ++ rest)))) (ne_eqb b 10 h.0)
    ∙ ap (onto_whole b) (whole_lines-ended bs rest h.1)

-- the whole lines of lines with their line feeds are the lines
pub whole_lines-of_lines : (lines : List (List ℕ)) → AllByRecursion HasNoLineFeed lines → whole_lines (flat_map (λ line. line ++ 10 ∷ []) lines) ≡ lines
whole_lines-of_lines [] h = refl
whole_lines-of_lines (l ∷ ls) h = whole_lines-ended l (flat_map (λ line. line ++ 10 ∷ []) ls) h.0 ∙ ap (λ ms. l ∷ ms) (whole_lines-of_lines ls h.1)

-- a text whose last line feed ends it
pub lines-none : (text : List ℕ) → unended text ≡ [] → lines text ≡ whole_lines text
lines-none text h = lines-whole_lines text ∙ ap (λ u. whole_lines text ++ filter is_filled (u ∷ [])) h ∙ append-nil (whole_lines text)
