-- What one line comes to: its reply is put, or it is `quit`.
use Rattle.std.proofs.Common.{◌≡◌, ℕ, ◌+◌, ◌*◌, ◌≤◌, Bool, true, false, cond, List, length, Option, Some, None, Result, Ok, Err, refl, ap, sym, ◌∙◌, subst, arith}
use Rattle.std.specs.Prelude.{nat_le, Vec, OnOk, codes}
use Rattle.std.specs.declared.alloc.Global.{Global}
use Rattle.std.proofs.Math.Nat.{mul_comm}
use Rattle.std.proofs.lemmas.Bool.{leb-false, lt-ltb}
use Rattle.desk_model.specs.Desk.{Desk}
use Rattle.desk_outside.specs.Seen.{Sink}
use Rattle.desk_text.specs.Lines.{kept_line}
use Rattle.desk_text.specs.declared.line.TheConstants.{LONGEST_LINE}
use Rattle.judge_session.specs.declared.change.Change.{Change}
use Rattle.judge_session.specs.Request.{Heard, Blank, TooLong, Bad, Asked, Judge, Undo, Redo, Table, Pair, Certify, Pool, Next as NextLine, Qrels, Quit, heard_of}
use Rattle.pair_table.specs.Kept.{Kept}
use Rattle.session_replies.specs.Replies.{Setting, IsReply, changes_after, accepted, refusal}
use Rattle.session_replies.specs.State.{Numbers, IsReadyForLine, IsReplied, CountsLine, owed, pairs_in}
use Rattle.session_replies.specs.declared.replies.Reply.{Reply}
use Rattle.session_replies.specs.declared.replies.Reply.TheVariants as replies
use Rattle.session_replies.specs.declared.state.Judging.{Judging}
use Rattle.session_stream.specs.Hearing.{is_quit, ends}
use Rattle.session_stream.specs.Held.{IsPut, TakesSteps, AnswersLine}
use Rattle.session_stream.specs.declared.stream.Fault.{Fault}
use Rattle.session_stream.specs.declared.stream.Fault.TheVariants as faults
use Rattle.session_stream.specs.declared.stream.Next.{Next}
use Rattle.session_stream.specs.declared.stream.Next.TheVariants as next

-- a line that is kept is the line
pub kept_some : (line kept : List ℕ) → Some kept ≡ kept_line line → kept ≡ line
kept_some line kept e = by_test (nat_le (length line) LONGEST_LINE) e
  where
    by_test : (b : Bool) → Some kept ≡ cond b (Some line) None → kept ≡ line
    by_test true e = cc
    by_test false e = cc

-- one that is not kept is too long
pub too_long : (line : List ℕ) → None ≡ kept_line line → heard_of line ≡ TooLong
too_long line e = by_test (nat_le (length line) LONGEST_LINE) refl e
  where
    by_test : (b : Bool) → nat_le (length line) LONGEST_LINE ≡ b → ◌≡◌ {A = Option (List ℕ)} None (cond b (Some line) None) → heard_of line ≡ TooLong
    by_test true is e = absurd (cc)
    by_test false is e = rw (lt-ltb LONGEST_LINE (length line) (leb-false (length line) LONGEST_LINE is)) refl

not_quit : (heard : Heard) → (heard ≡ Asked Quit → ⊥) → is_quit heard ≡ false
not_quit Blank goes = refl
not_quit TooLong goes = refl
not_quit Bad goes = refl
not_quit (Asked (Judge who topic doc grade)) goes = refl
not_quit (Asked (Undo who)) goes = refl
not_quit (Asked (Redo who)) goes = refl
not_quit (Asked Table) goes = refl
not_quit (Asked (Pair first second)) goes = refl
not_quit (Asked (Certify first second)) goes = refl
not_quit (Asked (Pool topic depth)) goes = refl
not_quit (Asked NextLine) goes = refl
not_quit (Asked Qrels) goes = refl
not_quit (Asked Quit) goes = absurd (goes refl)

-- a reply that was put, or at which the output failed
answers_put : (s : Setting) (line : List ℕ) (old new : List Change) (out : Sink) (text : List ℕ) (result : Result Next Fault) → ends line ≡ false → IsReply s old (heard_of line) text → new ≡ changes_after s.desk (heard_of line) old → IsPut out text result → AnswersLine s line old new out result
answers_put s line old new out text (Ok next.More) goes is changes put = (goes, text, is, put, changes)
answers_put s line old new out text (Ok next.Quit) goes is changes put = absurd put
answers_put s line old new out text (Err faults.Output) goes is changes put = (put.0, goes, text, is, put.1, put.2)
answers_put s line old new out text (Err faults.Memory) goes is changes put = absurd put
answers_put s line old new out text (Err faults.Input) goes is changes put = absurd put

-- the steps at a line whose reply was put
pub steps_put : {M : Type 0} (desk : Desk) (line : List ℕ) (changes : List Change) (table now : Option (Kept M)) (before after : ℕ) (out : Sink) (text : List ℕ) (result : Result Next Fault) → IsPut out text result →
    after + owed desk now ≤ (before + owed desk table) + pairs_in desk * accepted desk (heard_of line) changes → TakesSteps desk line changes table now before after result
steps_put desk line changes table now before after out text (Ok next.More) put h = h
steps_put desk line changes table now before after out text (Ok next.Quit) put h = absurd put
steps_put desk line changes table now before after out text (Err faults.Output) put h = h
steps_put desk line changes table now before after out text (Err faults.Memory) put h = absurd put
steps_put desk line changes table now before after out text (Err faults.Input) put h = absurd put

pub steps_still : (steps more : ℕ) → steps ≤ steps + more
steps_still steps more = omega arith

pub ok_there : {A E : Type 0} (r : Result A E) (P : Type 0) → P → OnOk r P
ok_there (Ok x) P h = h
ok_there (Err e) P h = tt

-- a line that is too long
pub answers_too_long : (s : Setting) (line : List ℕ) (changes : List Change) (out : Sink) (result : Result Next Fault) → None ≡ kept_line line → IsPut out (refusal (codes "LineTooLong")) result → AnswersLine s line changes changes out result
answers_too_long s line changes out result long put =
    let heard = too_long line long in
    answers_put s line changes changes out (refusal (codes "LineTooLong")) result (ap is_quit heard) (subst (λ (h : Heard). IsReply s changes h (refusal (codes "LineTooLong"))) (sym heard) refl) (subst (λ (h : Heard). changes ≡ changes_after s.desk h changes) (sym heard) refl) put

module _ {M : Type 0} (n : Numbers M) (s : Setting) (kept : List ℕ) (old new : Judging M) (reply : Reply) (answered : IsReplied n s (heard_of kept) old new reply) where
  -- what the text of a reply comes to
  pub answers_text : (line shown : List ℕ) (out : Sink) (result : Result Next Fault) (text : Vec ℕ Global) → reply ≡ replies.Text text → kept ≡ line → shown ≡ text.items → IsPut out shown result → AnswersLine s line old.session new.session out result
  answers_text line shown out result text is same shows put =
      let told = subst (IsReplied n s (heard_of kept) old new) is answered in
      subst (λ (l : List ℕ). AnswersLine s l old.session new.session out result) same
      (answers_put s kept old.session new.session out text.items result (not_quit (heard_of kept) told.1) told.0.is told.0.changes (subst (λ (t : List ℕ). IsPut out t result) shows put))

  pub text_ready : (text : Vec ℕ Global) → reply ≡ replies.Text text → IsReadyForLine n s new
  text_ready text is = (subst (IsReplied n s (heard_of kept) old new) is answered).0.ready

  -- `quit`
  pub quit_ends : (line : List ℕ) → reply ≡ replies.Quit → kept ≡ line → ends line ≡ true
  quit_ends line is same = ap ends (sym same) ∙ ap is_quit (subst (IsReplied n s (heard_of kept) old new) is answered).0

  pub quit_ready : reply ≡ replies.Quit → IsReadyForLine n s new
  quit_ready is = (subst (IsReplied n s (heard_of kept) old new) is answered).1

-- the steps at a line
pub steps_counted : {M : Type 0} (s : Setting) (kept line : List ℕ) (old new : Judging M) (before after : ℕ) → kept ≡ line → CountsLine s (heard_of kept) old new before after →
    after + owed s.desk new.table ≤ (before + owed s.desk old.table) + pairs_in s.desk * accepted s.desk (heard_of line) old.session
steps_counted s kept line old new before after same h =
    subst (λ (l : List ℕ). after + owed s.desk new.table ≤ (before + owed s.desk old.table) + pairs_in s.desk * accepted s.desk (heard_of l) old.session) same
    (subst (λ (m : ℕ). after + owed s.desk new.table ≤ (before + owed s.desk old.table) + m) (mul_comm (accepted s.desk (heard_of kept) old.session) (pairs_in s.desk)) h)
