-- Replies to one more line.
use Rattle.std.proofs.Common.{◌≡◌, ℕ, ◌+◌, List, [], ◌∷◌, ◌++◌, refl, ap, sym, ◌∙◌, arith, append_assoc, append-nil}
use Rattle.desk_model.specs.Desk.{Desk}
use Rattle.judge_session.specs.declared.change.Change.{Change}
use Rattle.judge_session.specs.Request.{heard_of}
use Rattle.session_replies.specs.Replies.{Setting, IsReply, changes_after}
use Rattle.session_stream.specs.Text.{changes_over, accepted_in, AreReplies, joined}

pub changes-append : (desk : Desk) (ls ms : List (List ℕ)) (c : List Change) → changes_over desk (ls ++ ms) c ≡ changes_over desk ms (changes_over desk ls c)
changes-append desk [] ms c = refl
changes-append desk (l ∷ ls) ms c = changes-append desk ls ms (changes_after desk (heard_of l) c)

pub accepted-append : (desk : Desk) (ls ms : List (List ℕ)) (c : List Change) → accepted_in desk (ls ++ ms) c ≡ accepted_in desk ls c + accepted_in desk ms (changes_over desk ls c)
accepted-append desk [] ms c = omega arith
accepted-append desk (l ∷ ls) ms c = let more = accepted-append desk ls ms (changes_after desk (heard_of l) c) in omega (arith, more)

pub replies-append : (s : Setting) (c : List Change) (ls : List (List ℕ)) (ts : List (List ℕ)) (l t : List ℕ) → AreReplies s c ls ts → IsReply s (changes_over s.desk ls c) (heard_of l) t → AreReplies s c (ls ++ l ∷ []) (ts ++ t ∷ [])
replies-append s c [] [] l t are is = (is, tt)
replies-append s c [] (u ∷ us) l t are is = absurd are
replies-append s c (k ∷ ks) [] l t are is = absurd are
replies-append s c (k ∷ ks) (u ∷ us) l t are is = (are.0, replies-append s (changes_after s.desk (heard_of k) c) ks us l t are.1 is)

pub joined-append : (ts : List (List ℕ)) (t : List ℕ) → joined (ts ++ t ∷ []) ≡ joined ts ++ t
joined-append [] t = append-nil t
joined-append (u ∷ us) t = ap (λ r. u ++ r) (joined-append us t) ∙ sym (append_assoc u (joined us) t)
