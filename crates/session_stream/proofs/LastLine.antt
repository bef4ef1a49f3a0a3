-- The last line of an input, which needs no line feed.
use Rattle.std.proofs.Common.{◌≡◌, ℕ, ◌+◌, ◌*◌, ◌≤◌, ◌<◌, true, false, cond, List, [], ◌∷◌, ◌++◌, length, refl, ap, sym, subst, ◌∙◌, arith, append-nil, length-append}
use Rattle.std.specs.Prelude.{Option, IfSome, Ok, Err, Result}
use Rattle.std.specs.Io.KnownBytes.{append_known, prepend_known, IsAtEnd}
use Rattle.desk_outside.specs.Outside.{Rose, AppendsPrefix}
use Rattle.desk_outside.specs.Inputs.{Whole, Cut, IsInput, IsPart}
use Rattle.desk_outside.specs.Seen.{Source, Sink, ReceivedAll, ReceivedPrefix}
use Rattle.desk_outside.proofs.Told.{whole_after, prefix_after}
use Rattle.desk_text.specs.Lines.{lines}
use Rattle.judge_session.specs.declared.change.Change.{Change}
use Rattle.pair_table.specs.Kept.{Kept}
use Rattle.judge_session.specs.Request.{heard_of}
use Rattle.session_replies.specs.State.{owed, cells_of, pairs_in}
use Rattle.session_replies.specs.Replies.{Setting, IsReply, accepted}
use Rattle.desk_text.specs.Lines.{whole_lines, unended}
use Rattle.session_stream.specs.Hearing.{Done, ends, before_quit, hearing_of}
use Rattle.session_stream.specs.Text.{AreReplies, accepted_in, joined, EndsSession, EvaluatesWithin}
use Rattle.session_stream.specs.Held.{Talks, TakesSteps, AnswersLine}
use Rattle.session_stream.specs.declared.stream.TheConstants.{LONGEST_INPUT}
use Rattle.session_stream.specs.declared.stream.Ended.{Ended}
use Rattle.session_stream.specs.declared.stream.Ended.TheVariants as ended
use Rattle.session_stream.specs.declared.stream.Next.{Next}
use Rattle.session_stream.specs.declared.stream.Next.TheVariants as next
use Rattle.session_stream.specs.declared.stream.Fault.{Fault}
use Rattle.session_stream.specs.declared.stream.Fault.TheVariants as faults
use Rattle.desk_text.proofs.WholeLines.{lines-none}
use Rattle.session_stream.proofs.LineEnds.{lines-some}
use Rattle.session_stream.proofs.Hearing.{Begins, none_before, no_quit_before, quit_after, heard_whole}
use Rattle.session_stream.proofs.Replies.{replies-append, joined-append}
use Rattle.session_stream.proofs.Going.{accepted_more, quit_accepts}
use Rattle.session_stream.proofs.Ending.{whole_replies, part_replies, within_cells, whole_at_end, rose_earlier}

-- the lines that are heard of all bytes of an input, and replies to them
record Last (s : Setting) (bytes : List ℕ) (c : List Change) (before : List (List ℕ)) (text : List ℕ) : Type 0 where
  ls : List (List ℕ)
  texts : List (List ℕ)
  own : before_quit (lines bytes) ≡ ls
  replies : AreReplies s [] ls texts
  joined_is : joined texts ≡ joined before ++ text
  accepted_is : accepted_in s.desk ls [] ≡ accepted_in s.desk (whole_lines bytes) [] + accepted s.desk (heard_of (unended bytes)) c

module _ (s : Setting) (had has : Option (List ℕ)) (first total : ℕ) (bytes : List ℕ) (c : List Change) (t : Talks s had has first total bytes c) where
  -- a last line that is not `quit`, with its reply
  last_of : (u text : List ℕ) → unended bytes ≡ u → ends u ≡ false → IsReply s c (heard_of u) text → Last s bytes c t.texts text
  last_of [] text is goes reply = record {
    ls = whole_lines bytes;
    texts = t.texts;
    own = ap before_quit (lines-none bytes is) ∙ no_quit_before (whole_lines bytes) t.no_quit;
    replies = t.replies;
    joined_is = sym (append-nil (joined t.texts)) ∙ ap (λ x. joined t.texts ++ x) (sym reply);
    accepted_is = let none : accepted s.desk (heard_of (unended bytes)) c ≡ 0 = ap (λ u. accepted s.desk (heard_of u) c) is in omega (arith, none);
  }
  last_of (b ∷ bs) text is goes reply = record {
    ls = whole_lines bytes ++ (b ∷ bs) ∷ [];
    texts = t.texts ++ text ∷ [];
    own =
        ap before_quit (lines-some bytes b bs is) ∙ none_before (whole_lines bytes) ((b ∷ bs) ∷ []) t.no_quit
        ∙ ap (λ q. whole_lines bytes ++ cond q [] ((b ∷ bs) ∷ [])) goes;
    replies = replies-append s [] (whole_lines bytes) t.texts (b ∷ bs) text t.replies (subst (λ k. IsReply s k (heard_of (b ∷ bs)) text) t.changes_are reply);
    joined_is = joined-append t.texts text;
    accepted_is = accepted_more s.desk (whole_lines bytes) (b ∷ bs) c t.changes_are ∙ ap (λ u. accepted_in s.desk (whole_lines bytes) [] + accepted s.desk (heard_of u) c) (sym is);
  }

  -- a last line that is `quit`
  last_quit : (u : List ℕ) → unended bytes ≡ u → ends u ≡ true → before_quit (lines bytes) ≡ whole_lines bytes
  last_quit [] is quit = absurd (none quit)
    where
      none : false ≡ true → ⊥
      none e = absurd (cc)
  last_quit (b ∷ bs) is quit = ap before_quit (lines-some bytes b bs is) ∙ (quit_after (whole_lines bytes) (b ∷ bs) [] t.no_quit quit).1

-- how the session ended, by what the last line came to
abbrev pub ended_by : Result Next Fault → Result Ended Fault
ended_by (Ok step) = Ok ended.Done
ended_by (Err fault) = Err fault

module _ {M : Type 0} (s : Setting) (input : Source) (whole out : Sink) (before steps steps' : ℕ) (table now : Option (Kept M)) (c c' : List Change) (bytes : List ℕ) (rest : input.rest ≡ prepend_known bytes input.left) (end : IsAtEnd input.left) (le : length bytes ≤ LONGEST_INPUT)
    (t : Talks s whole.had out.had (before + cells_of s.desk) (steps + owed s.desk table) bytes c) (has : whole.has ≡ out.has) (after : whole.after ≡ out.after) (earlier : whole.before ≤ out.before) where
  all_is : IfSome input.rest (λ all. all ≡ bytes)
  all_is = whole_at_end input.rest input.left bytes rest end

  heard_is : (ls : List (List ℕ)) → before_quit (lines bytes) ≡ ls → Begins ls (hearing_of (Whole bytes)).lines
  heard_is ls own = ([], ap (λ h. h.lines) (heard_whole (Whole bytes) le t.no_quit) ∙ own ∙ sym (append-nil ls))

  pub last_end : (result : Result Next Fault) → AnswersLine s (unended bytes) c c' out result → EndsSession s input whole (ended_by result)
  last_end (Ok next.More) a =
      let l = last_of s whole.had out.had (before + cells_of s.desk) (steps + owed s.desk table) bytes c t (unended bytes) a.1 refl a.0 a.2 in
      whole_replies s input (λ end text. (end ≡ Done) × ReceivedAll whole text) (IsInput input) bytes l.ls l.texts all_is le t.no_quit l.own l.replies
      (refl, has ∙ whole_after whole.had out.had out.has (joined t.texts) a.1 t.received a.3 ∙ ap (append_known whole.had) (sym l.joined_is))
  last_end (Ok next.Quit) a =
      whole_replies s input (λ end text. (end ≡ Done) × ReceivedAll whole text) (IsInput input) bytes (whole_lines bytes) t.texts all_is le t.no_quit
      (last_quit s whole.had out.had (before + cells_of s.desk) (steps + owed s.desk table) bytes c t (unended bytes) refl a.0) t.replies (refl, has ∙ a.1 ∙ t.received)
  last_end (Err faults.Input) a = absurd a
  last_end (Err faults.Output) a =
      let l = last_of s whole.had out.had (before + cells_of s.desk) (steps + owed s.desk table) bytes c t (unended bytes) a.2 refl a.1 a.3 in (
        subst (λ n. Rose whole.before n) (sym after) (rose_earlier whole.before out.before out.after earlier a.0),
        whole_replies s input (λ end text. (0 < length text) × ReceivedPrefix whole text) (IsPart input) bytes l.ls l.texts all_is le t.no_quit l.own l.replies (
          subst (λ b. 0 < length b) (sym l.joined_is) (omega (arith, a.4, length-append (joined t.texts) a.2)),
          subst (λ b. AppendsPrefix whole.had whole.has b) (sym l.joined_is) (prefix_after whole.had out.had whole.has (joined t.texts) a.2 t.received (subst (λ o. AppendsPrefix out.had o a.2) (sym has) a.5)),
        ),
      )
  last_end (Err faults.Memory) a = part_replies s input (λ text. ReceivedAll whole text) bytes [] t.texts (rest ∙ ap (λ b. prepend_known b input.left) (sym (append-nil bytes))) le t.no_quit t.replies (has ∙ a ∙ t.received)

  pub last_cells : (result : Result Next Fault) → AnswersLine s (unended bytes) c c' out result → TakesSteps s.desk (unended bytes) c table now steps steps' result → EvaluatesWithin s input before steps'
  last_cells (Ok next.More) a k =
      let l = last_of s whole.had out.had (before + cells_of s.desk) (steps + owed s.desk table) bytes c t (unended bytes) a.1 refl a.0 a.2 in
      within_cells s input (Whole bytes) before steps' l.ls (rest, end) (heard_is l.ls l.own) (let e = ap (λ n. pairs_in s.desk * n) l.accepted_is in omega (arith, e, k, t.cells))
  last_cells (Ok next.Quit) a k =
      within_cells s input (Whole bytes) before steps' (whole_lines bytes) (rest, end) (heard_is (whole_lines bytes) (last_quit s whole.had out.had (before + cells_of s.desk) (steps + owed s.desk table) bytes c t (unended bytes) refl a.0))
      (let none = ap (λ n. pairs_in s.desk * n) (quit_accepts s.desk (heard_of (unended bytes)) c a.0) in omega (arith, none, k, t.cells))
  last_cells (Err faults.Input) a k = absurd a
  last_cells (Err faults.Output) a k =
      let l = last_of s whole.had out.had (before + cells_of s.desk) (steps + owed s.desk table) bytes c t (unended bytes) a.2 refl a.1 a.3 in
      within_cells s input (Whole bytes) before steps' l.ls (rest, end) (heard_is l.ls l.own) (let e = ap (λ n. pairs_in s.desk * n) l.accepted_is in omega (arith, e, k, t.cells))
  last_cells (Err faults.Memory) a k =
      within_cells s input (Cut bytes) before steps' (whole_lines bytes) rest ([], ap (λ h. h.lines) (heard_whole (Cut bytes) le t.no_quit) ∙ sym (append-nil (whole_lines bytes))) (omega (arith, k, t.cells))
