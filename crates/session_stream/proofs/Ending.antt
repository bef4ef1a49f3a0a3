-- How a session ends.
use Rattle.std.proofs.Common.{◌≡◌, ℕ, ◌+◌, ◌*◌, ◌≤◌, ◌<◌, true, false, List, [], ◌∷◌, ◌++◌, take, drop, length, refl, ap, sym, subst, ◌∙◌, arith, append_assoc, append-nil, length-append, length-drop}
use Rattle.std.specs.Prelude.{Option, Some, None, IfSome, Ok, Err}
use Rattle.std.specs.Io.KnownBytes.{append_known, prepend_known, IsAtEnd}
use Rattle.std.proofs.lemmas.List.{take-append-drop, length-take}
use Rattle.std.proofs.Math.Nat.{mul-le-mul_left}
use Rattle.desk_outside.specs.Outside.{Rose}
use Rattle.desk_outside.specs.Inputs.{Input, Whole, Cut, IsPart, IsTaken}
use Rattle.desk_outside.specs.Seen.{Source, Sink, ReceivedAll}
use Rattle.desk_outside.specs.declared.log.ReadCall.{ReadCall}
use Rattle.desk_outside.proofs.Told.{append_known-nil, prepend_known-nil, prepend_known-prepend}
use Rattle.judge_session.specs.declared.change.Change.{Change}
use Rattle.session_replies.specs.Replies.{Setting}
use Rattle.session_replies.specs.State.{cells_of, pairs_in}
use Rattle.desk_text.specs.Lines.{whole_lines}
use Rattle.session_stream.specs.Hearing.{End, Done, InputTooLong, Failed, has_quit, before_quit, hearing_of}
use Rattle.session_stream.specs.Text.{AreReplies, accepted_in, joined, HasReplies, EndsSession, EvaluatesWithin}
use Rattle.session_stream.specs.Held.{Talks, Quits, StopsIn, IsBroken, IsHeld, AnswersPiece}
use Rattle.session_stream.specs.declared.stream.Fault.{Fault}
use Rattle.session_stream.specs.declared.stream.TheConstants.{LONGEST_INPUT}
use Rattle.session_stream.specs.declared.stream.Ended.TheVariants as ended
use Rattle.session_stream.specs.declared.stream.Fault.TheVariants as faults
use Rattle.session_stream.proofs.Hearing.{Begins, heard_whole, heard_to_quit, heard_too_long, heard_first, within_limit}
use Rattle.session_stream.proofs.Replies.{accepted-append}

-- all bytes of an input of which some were taken
whole_input : (old now : Option (List ℕ)) (bytes : List ℕ) → old ≡ prepend_known bytes now → (rest : List ℕ) × IfSome old (λ all. all ≡ bytes ++ rest)
whole_input old None bytes e = ([], subst (λ o. IfSome o (λ all. all ≡ bytes ++ [])) (sym e) tt)
whole_input old (Some left) bytes e = (left, subst (λ o. IfSome o (λ all. all ≡ bytes ++ left)) (sym e) refl)

pub whole_at_end : (old now : Option (List ℕ)) (bytes : List ℕ) → old ≡ prepend_known bytes now → IsAtEnd now → IfSome old (λ all. all ≡ bytes)
whole_at_end old None bytes e end = subst (λ o. IfSome o (λ all. all ≡ bytes)) (sym e) tt
whole_at_end old (Some left) bytes e end = subst (λ o. IfSome o (λ all. all ≡ bytes)) (sym e) (ap (λ l. bytes ++ l) end ∙ append-nil bytes)

pub rose_earlier : (first before now : ℕ) → first ≤ before → Rose before now → Rose first now
rose_earlier first before now h r = omega (arith, h, r)

-- replies to the lines that are heard, where these are known
heard_replies : (s : Setting) (input : Input) (ls texts : List (List ℕ)) (end : End) → hearing_of input ≡ record { lines = ls; end = end } → AreReplies s [] ls texts → AreReplies s [] (hearing_of input).lines texts
heard_replies s input ls texts end e are = subst (λ h. AreReplies s [] h.lines texts) (sym e) are

module _ (s : Setting) where
  -- replies to the lines of bytes that were taken, and no more
  pub part_replies : (input : Source) (fact : List ℕ → Type 0) (begun more : List ℕ) (texts : List (List ℕ)) → input.rest ≡ prepend_known (begun ++ more) input.left → length begun ≤ LONGEST_INPUT → has_quit (whole_lines begun) ≡ false →
      AreReplies s [] (whole_lines begun) texts → fact (joined texts) → HasReplies s (IsPart input) (λ end text. fact text)
  part_replies input fact begun more texts rest within none are holds = record {
    input = Cut begun;
    met = (prepend_known more input.left, rest ∙ sym (prepend_known-prepend begun more input.left));
    texts = texts;
    replies = heard_replies s (Cut begun) (whole_lines begun) texts Failed (heard_whole (Cut begun) within none) are;
    holds = holds;
  }

  -- the input failed
  pub failed_input : (input : Source) (out : Sink) (bytes : List ℕ) (texts : List (List ℕ)) → input.rest ≡ prepend_known bytes input.left → Rose input.before input.after → length bytes ≤ LONGEST_INPUT → has_quit (whole_lines bytes) ≡ false →
      AreReplies s [] (whole_lines bytes) texts → ReceivedAll out (joined texts) → EndsSession s input out (Err faults.Input)
  failed_input input out bytes texts rest rose within none are holds =
      let heard = heard_whole (Cut bytes) within none in record {
        input = Cut bytes;
        met = (rest, rose);
        texts = texts;
        replies = heard_replies s (Cut bytes) (whole_lines bytes) texts Failed heard are;
        holds = (ap (λ h. h.end) heard, holds);
      }

  -- `quit` came
  pub quit_input : (input : Source) (out : Sink) (bytes begun more : List ℕ) (ls texts : List (List ℕ)) (q : List ℕ) → input.rest ≡ prepend_known bytes input.left → bytes ≡ begun ++ more → length begun ≤ LONGEST_INPUT → whole_lines begun ≡ ls ++ q ∷ [] → has_quit ls ≡ false →
      Rattle.session_stream.specs.Hearing.ends q ≡ true → AreReplies s [] ls texts → ReceivedAll out (joined texts) → EndsSession s input out (Ok ended.Done)
  quit_input input out bytes begun more ls texts q rest is within own none quit are holds =
      let all = whole_input input.rest input.left bytes rest in
      let heard = heard_to_quit (Whole (bytes ++ all.0)) begun (more ++ all.0) ls q (ap (λ b. b ++ all.0) is ∙ append_assoc begun more all.0) within own none quit in record {
        input = Whole (bytes ++ all.0);
        met = all.1;
        texts = texts;
        replies = heard_replies s (Whole (bytes ++ all.0)) ls texts Done heard are;
        holds = (ap (λ h. h.end) heard, holds);
      }

  -- more bytes came than the limit
  pub long_input : (input : Source) (out : Sink) (bytes begun more : List ℕ) (texts : List (List ℕ)) → input.rest ≡ prepend_known bytes input.left → bytes ≡ begun ++ more → length begun ≡ LONGEST_INPUT → 0 < length more → has_quit (whole_lines begun) ≡ false →
      AreReplies s [] (whole_lines begun) texts → ReceivedAll out (joined texts) → EndsSession s input out (Ok ended.InputTooLong)
  long_input input out bytes begun more texts rest is full some none are holds =
      let all = whole_input input.rest input.left bytes rest in
      let heard = heard_too_long (Whole (bytes ++ all.0)) begun (more ++ all.0) (ap (λ b. b ++ all.0) is ∙ append_assoc begun more all.0) full (omega (arith, length-append more all.0, some)) none in record {
        input = Whole (bytes ++ all.0);
        met = all.1;
        texts = texts;
        replies = heard_replies s (Whole (bytes ++ all.0)) (whole_lines begun) texts InputTooLong heard are;
        holds = (ap (λ h. h.end) heard, holds);
      }

  -- the end of the input came, and these lines were answered
  pub whole_replies : (input : Source) (fact : End → List ℕ → Type 0) (is_input : Input → Type 0) (bytes : List ℕ) (ls texts : List (List ℕ)) → is_input (Whole bytes) → length bytes ≤ LONGEST_INPUT → has_quit (whole_lines bytes) ≡ false → before_quit (Rattle.desk_text.specs.Lines.lines bytes) ≡ ls →
      AreReplies s [] ls texts → fact Done (joined texts) → HasReplies s is_input fact
  whole_replies input fact is_input bytes ls texts met within none own are holds =
      let heard = heard_whole (Whole bytes) within none ∙ ap (λ l. record { lines = l; end = Done }) own in record {
        input = Whole bytes;
        met = met;
        texts = texts;
        replies = heard_replies s (Whole bytes) ls texts Done heard are;
        holds = subst (λ e. fact e (joined texts)) (sym (ap (λ h. h.end) heard)) holds;
      }

  -- ---- steps
  few_more : (all some : List (List ℕ)) → Begins some all → accepted_in s.desk some [] ≤ accepted_in s.desk all []
  few_more all some begins = let e = ap (λ ls. accepted_in s.desk ls []) begins.1 ∙ accepted-append s.desk some begins.0 [] in omega (arith, e)

  pub within_cells : (input : Source) (taken : Input) (before after : ℕ) (ls : List (List ℕ)) → IsTaken input taken → Begins ls (hearing_of taken).lines → after ≤ (before + cells_of s.desk) + pairs_in s.desk * accepted_in s.desk ls [] → EvaluatesWithin s input before after
  within_cells input taken before after ls is begins le =
      let few = mul-le-mul_left (pairs_in s.desk) (few_more (hearing_of taken).lines ls begins) in
      (taken, is, omega (arith, few, le))

  -- nothing was taken
  pub no_memory_yet : (reads : List ReadCall) (rest had : Option (List ℕ)) (a b d e : ℕ) → EndsSession s (record { rest = rest; left = rest; had = reads; has = reads; before = a; after = b }) (record { had = had; has = had; before = d; after = e }) (Err faults.Memory)
  no_memory_yet reads rest had a b d e = part_replies (record { rest = rest; left = rest; had = reads; has = reads; before = a; after = b }) (λ text. had ≡ append_known had text) [] [] [] (prepend_known-nil rest) (omega arith) refl tt (sym (append_known-nil had))

  pub no_cells_yet : (reads : List ReadCall) (rest : Option (List ℕ)) (a b steps : ℕ) → EvaluatesWithin s (record { rest = rest; left = rest; had = reads; has = reads; before = a; after = b }) steps steps
  no_cells_yet reads rest a b steps = within_cells (record { rest = rest; left = rest; had = reads; has = reads; before = a; after = b }) (Cut []) steps steps [] (prepend_known-nil rest) ((hearing_of (Cut [])).lines, refl) (omega arith)

  -- ---- what a piece came to, where it was the whole of what was taken within the limit
  module _ (input : Source) (out : Sink) (before steps : ℕ) (all answered : List ℕ) (rest : input.rest ≡ prepend_known all input.left) (cut : take LONGEST_INPUT all ≡ answered) where
    abbrev first : ℕ
    first = before + cells_of s.desk

    over : (begun more : List ℕ) → answered ≡ begun ++ more → all ≡ begun ++ (more ++ drop LONGEST_INPUT all)
    over begun more is = sym (take-append-drop LONGEST_INPUT all) ∙ ap (λ b. b ++ drop LONGEST_INPUT all) (cut ∙ is) ∙ append_assoc begun more (drop LONGEST_INPUT all)

    short : (begun more : List ℕ) → answered ≡ begun ++ more → length begun ≤ LONGEST_INPUT
    short begun more is = let e = ap length (cut ∙ is) in omega (arith, e, length-append begun more, length-take LONGEST_INPUT all)

    pub quits_end : Quits s out.had out.has first steps answered → EndsSession s input out (Ok ended.Done)
    quits_end q = quit_input input out all q.begun (q.rest ++ drop LONGEST_INPUT all) q.lines q.texts q.quit rest (over q.begun q.rest q.is) (short q.begun q.rest q.is) q.own q.no_quit q.ended q.replies q.received

    pub quits_cells : Quits s out.had out.has first steps answered → EvaluatesWithin s input before steps
    quits_cells q =
        within_cells input (Cut all) before steps q.lines rest
        ([], ap (λ h. h.lines) (heard_to_quit (Cut all) q.begun (q.rest ++ drop LONGEST_INPUT all) q.lines q.quit (over q.begun q.rest q.is) (short q.begun q.rest q.is) q.own q.no_quit q.ended) ∙ sym (append-nil q.lines)) q.cells

    stops_end : (fact : List ℕ → Type 0) → StopsIn s fact first steps answered → HasReplies s (IsPart input) (λ end text. fact text)
    stops_end fact t = part_replies input fact t.begun (t.rest ++ drop LONGEST_INPUT all) t.texts (rest ∙ ap (λ b. prepend_known b input.left) (over t.begun t.rest t.is)) (short t.begun t.rest t.is) t.no_quit t.replies t.holds

    stops_cells : (fact : List ℕ → Type 0) → StopsIn s fact first steps answered → EvaluatesWithin s input before steps
    stops_cells fact t =
        within_cells input (Cut all) before steps (whole_lines t.begun) rest
        (subst (λ b. Begins (whole_lines t.begun) (hearing_of (Cut b)).lines) (sym (over t.begun t.rest t.is)) (heard_first t.begun (t.rest ++ drop LONGEST_INPUT all) (short t.begun t.rest t.is) t.no_quit)) t.cells

    pub piece_fails : (inner : Sink) (f : Fault) (total : ℕ) (c : List Change) → out.has ≡ inner.has → out.after ≡ inner.after → out.before ≤ inner.before → AnswersPiece s out.had inner first steps total answered c (Err f) →
        EndsSession s input out (Err f) × EvaluatesWithin s input before steps
    piece_fails inner faults.Input total c has after earlier a = absurd a
    piece_fails inner faults.Output total c has after earlier a =
        let t : StopsIn s (IsBroken out.had out.has) first steps answered = subst (λ o. StopsIn s (IsBroken out.had o) first steps answered) (sym has) a.1 in
        ((subst (λ n. Rose out.before n) (sym after) (rose_earlier out.before inner.before inner.after earlier a.0), stops_end (IsBroken out.had out.has) t), stops_cells (IsBroken out.had out.has) t)
    piece_fails inner faults.Memory total c has after earlier a =
        let t : StopsIn s (λ text. out.has ≡ append_known out.had text) first steps answered = subst (λ o. StopsIn s (λ text. o ≡ append_known out.had text) first steps answered) (sym has) a in
        (stops_end (λ text. out.has ≡ append_known out.had text) t, stops_cells (λ text. out.has ≡ append_known out.had text) t)

  -- ---- the input failed, or was too long
  module _ (input : Source) (out : Sink) (before steps owes : ℕ) (now : Option (List ℕ)) (line : Option (List ℕ)) (c : List Change) (taken : ℕ) (h : IsHeld s input.rest now out.had out.has (before + cells_of s.desk) (steps + owes) line c taken) (same : input.left ≡ now) where
    rest_is : input.rest ≡ prepend_known h.bytes input.left
    rest_is = h.rest ∙ ap (prepend_known h.bytes) (sym same)

    pub fails_end : taken ≤ LONGEST_INPUT → Rose input.before input.after → EndsSession s input out (Err faults.Input)
    fails_end le rose =
        let all = within_limit h.bytes (omega (arith, h.count, le)) in
        let t : Talks s out.had out.has (before + cells_of s.desk) (steps + owes) h.bytes c = subst (λ b. Talks s out.had out.has (before + cells_of s.desk) (steps + owes) b c) all h.talks in
        failed_input input out h.bytes t.texts rest_is rose (omega (arith, h.count, le)) t.no_quit t.replies t.received

    pub talks_cells : EvaluatesWithin s input before steps
    talks_cells =
        let begun = take LONGEST_INPUT h.bytes in
        let both : begun ++ drop LONGEST_INPUT h.bytes ≡ h.bytes = take-append-drop LONGEST_INPUT h.bytes in
        let few = heard_first begun (drop LONGEST_INPUT h.bytes) (omega (arith, length-take LONGEST_INPUT h.bytes)) h.talks.no_quit in
        within_cells input (Cut h.bytes) before steps (whole_lines begun) rest_is (subst (λ b. Begins (whole_lines begun) (hearing_of (Cut b)).lines) both few) (omega (arith, h.talks.cells))

    pub too_long_end : LONGEST_INPUT < taken → EndsSession s input out (Ok ended.InputTooLong)
    too_long_end lt =
        let begun = take LONGEST_INPUT h.bytes in
        long_input input out h.bytes begun (drop LONGEST_INPUT h.bytes) h.talks.texts rest_is (sym (take-append-drop LONGEST_INPUT h.bytes)) (omega (arith, length-take LONGEST_INPUT h.bytes, h.count, lt))
        (omega (arith, length-drop LONGEST_INPUT h.bytes, h.count, lt)) h.talks.no_quit h.talks.replies h.talks.received
