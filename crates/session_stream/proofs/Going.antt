-- A session that goes on, line by line.
use Rattle.std.proofs.Common.{◌≡◌, ℕ, ◌+◌, ◌*◌, ◌≤◌, ◌<◌, true, false, List, [], ◌∷◌, ◌++◌, length, refl, ap, sym, subst, ◌∙◌, arith, length-append}
use Rattle.std.specs.Prelude.{Option}
use Rattle.std.specs.Io.KnownBytes.{append_known}
use Rattle.desk_outside.specs.Outside.{AppendsPrefix}
use Rattle.desk_outside.proofs.Told.{whole_after, prefix_after}
use Rattle.desk_model.specs.Desk.{Desk}
use Rattle.judge_session.specs.declared.change.Change.{Change}
use Rattle.judge_session.specs.Request.{Heard, Blank, TooLong, Bad, Asked, Request, Judge, Undo, Redo, Table, Pair, Certify, Pool, Qrels, Quit, heard_of}
use Rattle.session_replies.specs.Replies.{Setting, IsReply, changes_after, accepted}
use Rattle.session_replies.specs.State.{pairs_in}
use Rattle.desk_text.specs.Lines.{whole_lines, unended, HasNoLineFeed}
use Rattle.session_stream.specs.Hearing.{ends, is_quit, has_quit}
use Rattle.session_stream.specs.Text.{AreReplies, changes_over, accepted_in, joined}
use Rattle.session_stream.specs.Held.{Talks, Quits, StopsIn, IsBroken}
use Rattle.desk_text.proofs.WholeLines.{whole_lines-append_more}
use Rattle.session_stream.proofs.LineEnds.{whole_lines-ended}
use Rattle.session_stream.proofs.Hearing.{still_none}
use Rattle.session_stream.proofs.Replies.{changes-append, accepted-append, replies-append, joined-append}

-- bytes of a line that does not end
pub talks_on : (s : Setting) (had has : Option (List ℕ)) (first total : ℕ) (taken line all : List ℕ) (c : List Change) → all ≡ taken ++ line → HasNoLineFeed line → Talks s had has first total taken c → Talks s had has first total all c
talks_on s had has first total taken line all c is in_line t =
    let same : whole_lines taken ≡ whole_lines all = sym (ap whole_lines is ∙ whole_lines-append_more taken line in_line) in
    record {
      no_quit = subst (λ ls. has_quit ls ≡ false) same t.no_quit;
      texts = t.texts;
      replies = subst (λ ls. AreReplies s [] ls t.texts) same t.replies;
      received = t.received;
      changes_are = subst (λ ls. c ≡ changes_over s.desk ls []) same t.changes_are;
      cells = subst (λ ls. total ≤ first + pairs_in s.desk * accepted_in s.desk ls []) same t.cells;
    }

-- what one more line adds to the changes that are accepted
pub accepted_more : (desk : Desk) (ls : List (List ℕ)) (l : List ℕ) (c : List Change) → c ≡ changes_over desk ls [] → accepted_in desk (ls ++ l ∷ []) [] ≡ accepted_in desk ls [] + accepted desk (heard_of l) c
accepted_more desk ls l c e =
    accepted-append desk ls (l ∷ []) [] ∙ ap (λ k. accepted_in desk ls [] + (accepted desk (heard_of l) k + 0)) (sym e) ∙ omega arith

more_cells : (m n total total' first cells a b : ℕ) → m ≡ a + b → total ≤ first + cells * a → total' ≤ total + cells * b → total' ≤ first + cells * m
more_cells m n total total' first cells a b e h k = let e2 = ap (λ x. cells * x) e in omega (arith, e2, h, k)

-- `quit` is no change
pub quit_accepts : (desk : Desk) (heard : Heard) (c : List Change) → is_quit heard ≡ true → accepted desk heard c ≡ 0
quit_accepts desk (Asked Quit) c quit = refl
quit_accepts desk Blank c quit = refl
quit_accepts desk TooLong c quit = refl
quit_accepts desk Bad c quit = refl
quit_accepts desk (Asked (Judge who topic doc grade)) c quit = absurd (cc)
quit_accepts desk (Asked (Undo who)) c quit = absurd (cc)
quit_accepts desk (Asked (Redo who)) c quit = absurd (cc)
quit_accepts desk (Asked Table) c quit = refl
quit_accepts desk (Asked (Pair first second)) c quit = refl
quit_accepts desk (Asked (Certify first second)) c quit = refl
quit_accepts desk (Asked (Pool topic depth)) c quit = refl
quit_accepts desk (Asked Rattle.judge_session.specs.Request.Next) c quit = refl
quit_accepts desk (Asked Qrels) c quit = refl

module _ (s : Setting) (had has : Option (List ℕ)) (first total : ℕ) (taken line : List ℕ) (c : List Change) (in_line : HasNoLineFeed line) (t : Talks s had has first total taken c) where
  -- the line that ends
  abbrev pub the_line : List ℕ
  the_line = unended taken ++ line

  own : whole_lines (taken ++ (line ++ 10 ∷ [])) ≡ whole_lines taken ++ the_line ∷ []
  own = whole_lines-ended taken line in_line

  -- a line that ends, and its reply
  pub talks_after : (has' : Option (List ℕ)) (total' : ℕ) (text all : List ℕ) → all ≡ taken ++ (line ++ 10 ∷ []) → ends the_line ≡ false → IsReply s c (heard_of the_line) text → has' ≡ append_known has text → total' ≤ total + pairs_in s.desk * accepted s.desk (heard_of the_line) c →
      Talks s had has' first total' all (changes_after s.desk (heard_of the_line) c)
  talks_after has' total' text all at goes is put cells = record {
    no_quit = ap has_quit (ap whole_lines at ∙ own) ∙ still_none (whole_lines taken) the_line t.no_quit goes;
    texts = t.texts ++ text ∷ [];
    replies = subst (λ ls. AreReplies s [] ls (t.texts ++ text ∷ [])) (sym (ap whole_lines at ∙ own))
        (replies-append s [] (whole_lines taken) t.texts the_line text t.replies (subst (λ k. IsReply s k (heard_of the_line) text) t.changes_are is));
    received = whole_after had has has' (joined t.texts) text t.received put ∙ ap (append_known had) (sym (joined-append t.texts text));
    changes_are = ap (changes_after s.desk (heard_of the_line)) t.changes_are ∙ sym (changes-append s.desk (whole_lines taken) (the_line ∷ []) []) ∙ ap (λ ls. changes_over s.desk ls []) (sym (ap whole_lines at ∙ own));
    cells = more_cells (accepted_in s.desk (whole_lines all) []) 0 total total' first (pairs_in s.desk) (accepted_in s.desk (whole_lines taken) []) (accepted s.desk (heard_of the_line) c)
        (ap (λ ls. accepted_in s.desk ls []) (ap whole_lines at ∙ own) ∙ accepted_more s.desk (whole_lines taken) the_line c t.changes_are) t.cells cells;
  }

  abbrev ended_piece : List ℕ
  ended_piece = taken ++ (line ++ 10 ∷ [])

  -- a line that is `quit`
  pub quits_at : (has' : Option (List ℕ)) (steps : ℕ) (rest all : List ℕ) → all ≡ ended_piece ++ rest → ends the_line ≡ true → has' ≡ has → steps ≤ total + pairs_in s.desk * accepted s.desk (heard_of the_line) c → Quits s had has' first steps all
  quits_at has' steps rest all is quit same cells = record {
    begun = ended_piece;
    rest = rest;
    is = is;
    lines = whole_lines taken;
    quit = the_line;
    own = own;
    no_quit = t.no_quit;
    ended = quit;
    texts = t.texts;
    replies = t.replies;
    received = same ∙ t.received;
    cells = let none = ap (λ n. pairs_in s.desk * n) (quit_accepts s.desk (heard_of the_line) c quit) in omega (arith, cells, none, t.cells);
  }

  -- a line whose reply could not be put
  pub breaks_at : (has' : Option (List ℕ)) (steps : ℕ) (rest all text : List ℕ) → all ≡ ended_piece ++ rest → ends the_line ≡ false → IsReply s c (heard_of the_line) text → 0 < length text → AppendsPrefix has has' text → steps ≤ total + pairs_in s.desk * accepted s.desk (heard_of the_line) c →
      StopsIn s (IsBroken had has') first steps all
  unfolding talks_after
  breaks_at has' steps rest all text is goes reply some prefix cells =
      let next : Talks s had (append_known has text) first steps ended_piece (changes_after s.desk (heard_of the_line) c) = talks_after (append_known has text) steps text ended_piece refl goes reply refl cells in record {
        begun = ended_piece;
        rest = rest;
        is = is;
        no_quit = next.no_quit;
        texts = t.texts ++ text ∷ [];
        replies = next.replies;
        holds = (
          subst (λ b. 0 < length b) (sym (joined-append t.texts text)) (omega (arith, some, length-append (joined t.texts) text)),
          subst (AppendsPrefix had has') (sym (joined-append t.texts text)) (prefix_after had has has' (joined t.texts) text t.received prefix),
        );
        cells = next.cells;
      }

  -- a line to which no reply could be made
  pub stops_at : (has' : Option (List ℕ)) (steps : ℕ) (rest all : List ℕ) → all ≡ taken ++ rest → has' ≡ has → steps ≤ total → StopsIn s (λ text. has' ≡ append_known had text) first steps all
  stops_at has' steps rest all is same cells = record {
    begun = taken;
    rest = rest;
    is = is;
    no_quit = t.no_quit;
    texts = t.texts;
    replies = t.replies;
    holds = same ∙ t.received;
    cells = omega (arith, cells, t.cells);
  }
