-- The lines of bytes that arrive in pieces.
use Rattle.std.proofs.Common.{◌≡◌, ℕ, ◌+◌, ◌-◌, Bool, true, false, cond, List, [], ◌∷◌, ◌++◌, take, drop, length, refl, ap, sym, subst, ◌∙◌, arith, append_assoc}
use Rattle.std.specs.Prelude.{Option, Some, None, ◌==◌, nat_le, filter}
use Rattle.std.proofs.lemmas.Bool.{lt-ltb, leb-false}
use Rattle.std.proofs.lemmas.List.{take_all, length-drop}
use Rattle.std.proofs.Math.Seq.{take-add}
use Rattle.desk_text.specs.Lines.{lines, whole_lines, onto_whole, unended, kept_line, longer, is_filled, IsPushed}
use Rattle.desk_text.specs.declared.arriving.Pushed.{Pushed}
use Rattle.desk_text.specs.declared.line.TheConstants.{LONGEST_LINE}
use Rattle.desk_text.proofs.WholeLines.{whole_lines-append_ended, unended-append_ended, whole_lines-append_more, unended-append_more, lines-whole_lines, lines-none, longer-kept_line}
use Rattle.file_rows.specs.Reading.{IsTooLong}
use Rattle.file_rows.specs.Pieces.{HasFed, EndsLine}

-- more bytes leave the whole lines, and may end more
pub record Grows (text more : List ℕ) : Type 0 where
  pub others : List (List ℕ)
  pub are : whole_lines (text ++ more) ≡ whole_lines text ++ others

pub grown : (text more : List ℕ) → Grows text more
grown [] more = record { others = whole_lines more; are = refl }
grown (x ∷ xs) more = by (x == 10) refl (grown xs more) (whole_lines xs) refl
  where
    by : (b : Bool) → (x == 10) ≡ b → Grows xs more → (ls : List (List ℕ)) → whole_lines xs ≡ ls → Grows (x ∷ xs) more
    by true p g ls e = record {
      others = g.others;
      are = ap (λ b. cond b ([] ∷ whole_lines (xs ++ more)) (onto_whole x (whole_lines (xs ++ more)))) p ∙ ap (λ ls. [] ∷ ls) g.are
          ∙ sym (ap (λ b. cond b ([] ∷ whole_lines xs) (onto_whole x (whole_lines xs)) ++ g.others) p);
    }
    by false p g [] e = record {
      others = onto_whole x g.others;
      are = ap (λ b. cond b ([] ∷ whole_lines (xs ++ more)) (onto_whole x (whole_lines (xs ++ more)))) p ∙ ap (onto_whole x) (g.are ∙ ap (λ ls. ls ++ g.others) e)
          ∙ sym (ap (λ b. cond b ([] ∷ whole_lines xs) (onto_whole x (whole_lines xs)) ++ onto_whole x g.others) p ∙ ap (λ ls. onto_whole x ls ++ onto_whole x g.others) e);
    }
    by false p g (l ∷ ls) e = record {
      others = g.others;
      are = ap (λ b. cond b ([] ∷ whole_lines (xs ++ more)) (onto_whole x (whole_lines (xs ++ more)))) p ∙ ap (onto_whole x) (g.are ∙ ap (λ ls. ls ++ g.others) e)
          ∙ sym (ap (λ b. cond b ([] ∷ whole_lines xs) (onto_whole x (whole_lines xs)) ++ g.others) p ∙ ap (λ ls. onto_whole x ls ++ g.others) e);
    }

-- a text with more after its last line feed
lines-some : (text : List ℕ) → (unended text ≡ [] → ⊥) → lines text ≡ whole_lines text ++ unended text ∷ []
lines-some text h = lines-whole_lines text ∙ by (unended text) h
  where
    by : (u : List ℕ) → (u ≡ [] → ⊥) → whole_lines text ++ filter is_filled (u ∷ []) ≡ whole_lines text ++ u ∷ []
    by [] h = absurd (h refl)
    by (b ∷ bs) h = ap (λ c. whole_lines text ++ cond c ((b ∷ bs) ∷ []) []) (lt-ltb 0 (length (b ∷ bs)) (omega arith))

-- what is kept is the line
pub kept_is : (line kept : List ℕ) → kept_line line ≡ Some kept → line ≡ kept
kept_is line kept e = by (nat_le (length line) LONGEST_LINE) e
  where
    by : (b : Bool) → cond b (Some line) None ≡ Some kept → line ≡ kept
    by true e = cc
    by false e = absurd (cc)

-- of a line that is too long nothing is kept
pub long_line : (line : List ℕ) → None ≡ kept_line line → IsTooLong line
long_line line e = by (nat_le (length line) LONGEST_LINE) refl e
  where
    by : (b : Bool) → nat_le (length line) LONGEST_LINE ≡ b → None ≡ cond b (Some line) None → IsTooLong line
    by true f e = absurd (cc)
    by false f e = leb-false (length line) LONGEST_LINE f

module _ {R : Type 0} {has_read : R → List (List ℕ) → Type 0} {stopped : R → Bool} where
  -- a reader that stopped stays so
  pub fed_on : (reader : R) (line : Option (List ℕ)) (fed more : List ℕ) → ((before more : List (List ℕ)) → has_read reader before → has_read reader (before ++ more)) → stopped reader ≡ true
      → HasFed has_read stopped reader line fed → HasFed has_read stopped reader line (fed ++ more)
  fed_on reader line fed more stays e h =
      let g = grown fed more in
      record { read = subst (has_read reader) (sym g.are) (stays (whole_lines fed) g.others h.read); kept = λ f. absurd (let k : true ≡ false = sym e ∙ f in cc) }

  -- a line of which nothing stood before ends
  pub fed_line : (old new : R) (line : Option (List ℕ)) (fed piece : List ℕ) (end : ℕ) → stopped old ≡ false → line ≡ Some [] → EndsLine piece end
      → ((before : List (List ℕ)) → has_read old before → has_read new (before ++ take end piece ∷ [])) → HasFed has_read stopped old line fed → HasFed has_read stopped new line (fed ++ take (end + 1) piece)
  fed_line old new line fed piece end s e is reads h =
      let none : unended fed ≡ [] = kept_is (unended fed) [] (sym (h.kept s) ∙ e) in
      let all : fed ++ take (end + 1) piece ≡ fed ++ take end piece ++ 10 ∷ [] = ap (λ bs. fed ++ bs) is.taken ∙ sym (append_assoc fed (take end piece) (10 ∷ [])) in
      let whole : whole_lines (fed ++ take (end + 1) piece) ≡ whole_lines fed ++ take end piece ∷ [] =
      ap whole_lines all ∙ whole_lines-append_ended fed (take end piece) is.in_line ∙ ap (λ u. whole_lines fed ++ (u ++ take end piece) ∷ []) none in
      record {
        read = subst (has_read new) (sym whole) (reads (whole_lines fed) h.read);
        kept = λ f. e ∙ sym (ap kept_line (ap unended all ∙ unended-append_ended fed (take end piece)));
      }

  -- bytes that end no line
  pub fed_more : (reader : R) (old new : Option (List ℕ)) (fed piece : List ℕ) (pushed : Pushed) → stopped reader ≡ false → IsPushed old piece new pushed → pushed.ended ≡ false
      → HasFed has_read stopped reader old fed → HasFed has_read stopped reader new (fed ++ take pushed.used piece)
  fed_more reader old new fed piece pushed s is e h =
      let taken : take pushed.used piece ≡ is.line = is.taken ∙ ap (λ b. cond b (is.line ++ 10 ∷ []) is.line) e in
      let all : fed ++ take pushed.used piece ≡ fed ++ is.line = ap (λ bs. fed ++ bs) taken in
      record {
        read = subst (has_read reader) (sym (ap whole_lines all ∙ whole_lines-append_more fed is.line is.in_line)) h.read;
        kept = λ f. is.new_is ∙ ap (λ o. longer o is.line) (h.kept s) ∙ longer-kept_line (unended fed) is.line ∙ sym (ap kept_line (ap unended all ∙ unended-append_more fed is.line is.in_line));
      }

  -- bytes that end a line
  pub fed_end : (old_reader new_reader : R) (old pushed_line new : Option (List ℕ)) (fed piece : List ℕ) (pushed : Pushed) → stopped old_reader ≡ false → IsPushed old piece pushed_line pushed → pushed.ended ≡ true → new ≡ Some []
      → ((before : List (List ℕ)) (line : List ℕ) → pushed_line ≡ kept_line line → has_read old_reader before → has_read new_reader (before ++ line ∷ []))
      → HasFed has_read stopped old_reader old fed → HasFed has_read stopped new_reader new (fed ++ take pushed.used piece)
  fed_end old_reader new_reader old pushed_line new fed piece pushed s is e cleared reads h =
      let taken : take pushed.used piece ≡ is.line ++ 10 ∷ [] = is.taken ∙ ap (λ b. cond b (is.line ++ 10 ∷ []) is.line) e in
      let all : fed ++ take pushed.used piece ≡ fed ++ is.line ++ 10 ∷ [] = ap (λ bs. fed ++ bs) taken ∙ sym (append_assoc fed is.line (10 ∷ [])) in
      let kept : pushed_line ≡ kept_line (unended fed ++ is.line) = is.new_is ∙ ap (λ o. longer o is.line) (h.kept s) ∙ longer-kept_line (unended fed) is.line in
      record {
        read = subst (has_read new_reader) (sym (ap whole_lines all ∙ whole_lines-append_ended fed is.line is.in_line)) (reads (whole_lines fed) (unended fed ++ is.line) kept h.read);
        kept = λ f. cleared ∙ sym (ap kept_line (ap unended all ∙ unended-append_ended fed is.line));
      }

  -- at the end: a line that has not ended is read
  pub fed_last : (old new : R) (line : Option (List ℕ)) (fed : List ℕ) → stopped old ≡ false → (line ≡ Some [] → ⊥)
      → ((before : List (List ℕ)) (text : List ℕ) → line ≡ kept_line text → has_read old before → has_read new (before ++ text ∷ [])) → HasFed has_read stopped old line fed → has_read new (lines fed)
  fed_last old new line fed s some reads h =
      subst (has_read new) (sym (lines-some fed (λ e. some (h.kept s ∙ ap kept_line e)))) (reads (whole_lines fed) (unended fed) (h.kept s) h.read)

  -- and none is read where there is none
  pub fed_none : (reader : R) (line : Option (List ℕ)) (fed : List ℕ) → stopped reader ≡ false → line ≡ Some [] → HasFed has_read stopped reader line fed → has_read reader (lines fed)
  fed_none reader line fed s e h = subst (has_read reader) (sym (lines-none fed (kept_is (unended fed) [] (sym (h.kept s) ∙ e)))) h.read

  -- a reader that stopped has read all lines
  pub fed_stopped : (reader : R) (line : Option (List ℕ)) (fed : List ℕ) → ((before more : List (List ℕ)) → has_read reader before → has_read reader (before ++ more)) → HasFed has_read stopped reader line fed → has_read reader (lines fed)
  fed_stopped reader line fed stays h = subst (has_read reader) (sym (lines-whole_lines fed)) (stays (whole_lines fed) (filter is_filled (unended fed ∷ [])) h.read)

-- the bytes of a piece that were taken, and some more
pub taken_more : (piece fed : List ℕ) (at used : ℕ) → (fed ++ take at piece) ++ take used (take (length piece - at) (drop at piece)) ≡ fed ++ take (at + used) piece
taken_more piece fed at used =
    append_assoc fed (take at piece) (take used (take (length piece - at) (drop at piece)))
    ∙ ap (λ xs. fed ++ xs) (ap (λ xs. take at piece ++ take used xs) (let size = length-drop at piece in take_all (length piece - at) (drop at piece) (omega arith)) ∙ sym (take-add at used piece))
