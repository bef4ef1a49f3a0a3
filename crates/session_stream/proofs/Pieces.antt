-- What the lines of a piece come to.
use Rattle.std.proofs.Common.{◌≡◌, ℕ, ◌+◌, ◌-◌, ◌≤◌, ◌<◌, Bool, true, false, cond, List, [], ◌∷◌, ◌++◌, take, drop, length, refl, ap, sym, subst, ◌∙◌, arith, append_assoc, length-append, length-drop}
use Rattle.std.specs.Prelude.{Option, Ok, Err, Result}
use Rattle.std.proofs.Math.Seq.{take-add}
use Rattle.std.proofs.lemmas.List.{take-append-drop, length-take}
use Rattle.desk_outside.specs.Outside.{Rose, AppendsPrefix}
use Rattle.pair_table.specs.Kept.{Kept}
use Rattle.session_replies.specs.State.{owed}
use Rattle.desk_outside.specs.Seen.{Sink}
use Rattle.desk_outside.proofs.Told.{slice_from}
use Rattle.judge_session.specs.declared.change.Change.{Change}
use Rattle.session_replies.specs.Replies.{Setting}
use Rattle.desk_text.specs.Lines.{unended, kept_line, longer, IsPushed}
use Rattle.session_stream.specs.Held.{Talks, TakesSteps, AnswersLine, AnswersPiece}
use Rattle.desk_text.specs.declared.arriving.Pushed.{Pushed}
use Rattle.session_stream.specs.declared.stream.Fault.{Fault}
use Rattle.session_stream.specs.declared.stream.Next.{Next}
use Rattle.session_stream.specs.declared.stream.Next.TheVariants as next
use Rattle.session_stream.specs.declared.stream.Fault.TheVariants as faults
use Rattle.desk_text.proofs.WholeLines.{longer-kept_line, unended-append_more}
use Rattle.session_stream.proofs.LineEnds.{unended-ended}
use Rattle.session_stream.proofs.Ending.{rose_earlier}
use Rattle.session_stream.proofs.Going.{talks_after, quits_at, breaks_at, stops_at}

-- the rest of a piece, as its slice is
abbrev pub rest_of : ℕ → List ℕ → List ℕ
rest_of at piece = take (length piece - at) (drop at piece)

module _ (piece : List ℕ) (at : ℕ) (old new : Option (List ℕ)) (pushed : Pushed) (is : IsPushed old (rest_of at piece) new pushed) where
  pub used_within : at ≤ length piece → at + pushed.used ≤ length piece
  used_within h = omega (arith, h, is.bound, length-take (length piece - at) (drop at piece), length-drop at piece)

  -- a push takes something
  pub used_some : 0 < length (rest_of at piece) → 0 < pushed.used
  used_some some = by_end pushed.ended refl
    where
      by_end : (e : Bool) → pushed.ended ≡ e → 0 < pushed.used
      by_end true e =
          let taken_is = ap length (is.taken ∙ ap (λ c. cond c (is.line ++ 10 ∷ []) is.line) e) in
          omega (arith, taken_is, length-append is.line (10 ∷ []), length-take pushed.used (rest_of at piece))
      by_end false e = omega (arith, is.whole e, some)

module _ (piece taken : List ℕ) (at : ℕ) (old new : Option (List ℕ)) (pushed : Pushed) (is : IsPushed old (rest_of at piece) new pushed) where
  abbrev pub before : List ℕ
  before = taken ++ take at piece

  -- bytes that were taken by one more push
  more : (part : List ℕ) → take pushed.used (rest_of at piece) ≡ part → taken ++ take (at + pushed.used) piece ≡ before ++ part
  more part e =
      ap (λ xs. taken ++ xs) (take-add at pushed.used piece ∙ ap (λ xs. take at piece ++ take pushed.used xs) (sym (slice_from at piece)) ∙ ap (λ xs. take at piece ++ xs) e)
      ∙ sym (append_assoc taken (take at piece) part)

  pub taken_ended : pushed.ended ≡ true → taken ++ take (at + pushed.used) piece ≡ before ++ (is.line ++ 10 ∷ [])
  taken_ended e = more (is.line ++ 10 ∷ []) (is.taken ∙ ap (λ c. cond c (is.line ++ 10 ∷ []) is.line) e)

  pub taken_on : pushed.ended ≡ false → taken ++ take (at + pushed.used) piece ≡ before ++ is.line
  taken_on e = more is.line (is.taken ∙ ap (λ c. cond c (is.line ++ 10 ∷ []) is.line) e)

  -- the line so far
  pub line_so_far : old ≡ kept_line (unended before) → new ≡ kept_line (unended before ++ is.line)
  line_so_far e = is.new_is ∙ ap (λ l. longer l is.line) e ∙ longer-kept_line (unended before) is.line

  pub line_on : pushed.ended ≡ false → old ≡ kept_line (unended before) → new ≡ kept_line (unended (taken ++ take (at + pushed.used) piece))
  line_on goes e = line_so_far e ∙ ap kept_line (sym (unended-append_more before is.line is.in_line)) ∙ ap (λ xs. kept_line (unended xs)) (sym (taken_on goes))

  pub line_cleared : (cleared : Option (List ℕ)) → pushed.ended ≡ true → cleared ≡ kept_line [] → cleared ≡ kept_line (unended (taken ++ take (at + pushed.used) piece))
  line_cleared cleared ended e = e ∙ ap kept_line (sym (unended-ended before is.line)) ∙ ap (λ xs. kept_line (unended xs)) (sym (taken_ended ended))

  pub whole_piece : taken ++ piece ≡ (taken ++ take (at + pushed.used) piece) ++ drop (at + pushed.used) piece
  whole_piece = ap (λ xs. taken ++ xs) (sym (take-append-drop (at + pushed.used) piece)) ∙ sym (append_assoc taken (take (at + pushed.used) piece) (drop (at + pushed.used) piece))

-- a line after which the session goes on
pub line_goes : {M : Type 0} (s : Setting) (had : Option (List ℕ)) (out : Sink) (first steps steps' : ℕ) (piece taken : List ℕ) (at : ℕ) (held held' : Option (List ℕ)) (pushed : Pushed) (c c' : List Change) (table now : Option (Kept M)) →
    (is : IsPushed held (rest_of at piece) held' pushed) → pushed.ended ≡ true → Talks s had out.had first (steps + owed s.desk table) (taken ++ take at piece) c →
    AnswersLine s (unended (taken ++ take at piece) ++ is.line) c c' out (Ok next.More) → TakesSteps s.desk (unended (taken ++ take at piece) ++ is.line) c table now steps steps' (Ok next.More) →
    Talks s had out.has first (steps' + owed s.desk now) (taken ++ take (at + pushed.used) piece) c'
line_goes s had out first steps steps' piece taken at held held' pushed c c' table now is ended t answered cells =
    subst (Talks s had out.has first (steps' + owed s.desk now) (taken ++ take (at + pushed.used) piece)) (sym answered.4)
    (talks_after s had out.had first (steps + owed s.desk table) (taken ++ take at piece) is.line c is.in_line t out.has (steps' + owed s.desk now) answered.1 (taken ++ take (at + pushed.used) piece)
    (taken_ended piece taken at held held' pushed is ended) answered.0 answered.2 answered.3 cells)

-- a line after which the session does not go on
pub line_stops : {M : Type 0} (s : Setting) (had : Option (List ℕ)) (out whole : Sink) (first steps steps' : ℕ) (piece taken : List ℕ) (at : ℕ) (held held' : Option (List ℕ)) (pushed : Pushed) (c c' : List Change) (table now : Option (Kept M)) (total : ℕ) →
    (is : IsPushed held (rest_of at piece) held' pushed) → pushed.ended ≡ true → Talks s had out.had first (steps + owed s.desk table) (taken ++ take at piece) c →
    whole.has ≡ out.has → whole.after ≡ out.after → whole.before ≤ out.before → (result : Result Next Fault) → (result ≡ Ok next.More → ⊥) → AnswersLine s (unended (taken ++ take at piece) ++ is.line) c c' out result →
    TakesSteps s.desk (unended (taken ++ take at piece) ++ is.line) c table now steps steps' result → AnswersPiece s had whole first steps' total (taken ++ piece) c' result
line_stops s had out whole first steps steps' piece taken at held held' pushed c c' table now total is ended t has after earlier result stopped answered cells = by_result result stopped answered cells
  where
    all_is : taken ++ piece ≡ (taken ++ take at piece ++ (is.line ++ 10 ∷ [])) ++ drop (at + pushed.used) piece
    all_is = whole_piece piece taken at held held' pushed is ∙ ap (λ xs. xs ++ drop (at + pushed.used) piece) (taken_ended piece taken at held held' pushed is ended)

    by_result : (result : Result Next Fault) → (result ≡ Ok next.More → ⊥) → AnswersLine s (unended (taken ++ take at piece) ++ is.line) c c' out result → TakesSteps s.desk (unended (taken ++ take at piece) ++ is.line) c table now steps steps' result → AnswersPiece s had whole first steps' total (taken ++ piece) c' result
    by_result (Ok next.More) stopped answered cells = absurd (stopped refl)
    by_result (Ok next.Quit) stopped answered cells =
        quits_at s had out.had first (steps + owed s.desk table) (taken ++ take at piece) is.line c is.in_line t whole.has steps' (drop (at + pushed.used) piece) (taken ++ piece) all_is answered.0 (has ∙ answered.1) (omega (arith, cells))
    by_result (Err faults.Input) stopped answered cells = absurd answered
    by_result (Err faults.Memory) stopped answered cells =
        stops_at s had out.had first (steps + owed s.desk table) (taken ++ take at piece) is.line c is.in_line t whole.has steps' (drop at piece) (taken ++ piece)
        (ap (λ xs. taken ++ xs) (sym (take-append-drop at piece)) ∙ sym (append_assoc taken (take at piece) (drop at piece))) (has ∙ answered) cells
    by_result (Err faults.Output) stopped answered cells = (
      subst (λ n. Rose whole.before n) (sym after) (rose_earlier whole.before out.before out.after earlier answered.0),
      breaks_at s had out.had first (steps + owed s.desk table) (taken ++ take at piece) is.line c is.in_line t whole.has steps' (drop (at + pushed.used) piece) (taken ++ piece) answered.2 all_is
          answered.1 answered.3 answered.4 (subst (λ o. AppendsPrefix out.had o answered.2) (sym has) answered.5) (omega (arith, cells)),
    )

abbrev IsMore : Result Next Fault → Type 0
IsMore result = result ≡ Ok next.More

pub quit_not_more : IsMore (Ok next.Quit) → ⊥
quit_not_more e = absurd (cc)

pub err_not_more : {f : Fault} → IsMore (Err f) → ⊥
err_not_more e = absurd (cc)
