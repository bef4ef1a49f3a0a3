-- The answer to a line, by what the call for its request ensures.
use Rattle.std.proofs.Common.{◌≡◌, ℕ, ◌+◌, ◌≤◌, Bool, true, false, List, Option, Some, None, Result, Ok, Err, ℤ, to_z, of_z, w32, sym, ◌∙◌, subst, arith}
use Rattle.std.specs.Prelude.{Vec, nat_eq, codes, MatchBool, IfOk, OnErr}
use Rattle.std.specs.declared.alloc.Global.{Global}
use Rattle.std.proofs.lemmas.Bool.{ne_eqb}
use Rattle.std.proofs.lemmas.Int.{ints, to_z-of_z}
use Rattle.std.proofs.lemmas.Result.{IfOk-weaker}
use Rattle.desk_model.specs.declared.Memory.{Memory}
use Rattle.judge_session.specs.Forms.{IsGrade}
use Rattle.judge_session.specs.Request.{Heard, Asked}
use Rattle.judge_session.specs.Said.{request_said}
use Rattle.judge_session.specs.declared.types.Request.{Request}
use Rattle.session_replies.specs.Replies.{Setting, OnNumbers, IsReply, changes_after, refusal}
use Rattle.session_replies.specs.State.{Numbers, IsReadyForLine, Answers, CountsLine, owed}
use Rattle.session_replies.specs.declared.state.Judging.{Judging}

-- a grade as the code has it
pub grade_kept : (z : ℤ) → IsGrade z → to_z w32 (of_z w32 z) ≡ z
grade_kept z h = to_z-of_z w32 z (omega (arith, ints, h.0, h.1))

-- names that are no two different runs
refused_where : (b : Bool) (P Q : Type 0) (R : Type 0) → (P → Q) → MatchBool b P ⊥ → MatchBool b Q R
refused_where true P Q R step h = step h
refused_where false P Q R step h = absurd h

pub on_refusal : (o p : Option ℕ) (Fact : ℕ → ℕ → List ℕ → Type 0) (text word : List ℕ) → text ≡ word → OnNumbers o p (λ a b t. ⊥) word → OnNumbers o p Fact text
on_refusal None p Fact text word e h = e ∙ h
on_refusal (Some a) None Fact text word e h = e ∙ h
on_refusal (Some a) (Some b) Fact text word e h = refused_where (nat_eq a b) (word ≡ refusal (codes "SameRun")) (text ≡ refusal (codes "SameRun")) (Fact a b text) (λ is. e ∙ is) h

-- names of two different runs
pub on_runs : (o p : Option ℕ) (a b : ℕ) (Fact : ℕ → ℕ → List ℕ → Type 0) (text : List ℕ) → o ≡ Some a → p ≡ Some b → (a ≡ b → ⊥) → Fact a b text → OnNumbers o p Fact text
on_runs o p a b Fact text first second apart fact =
    subst (λ (o' : Option ℕ). OnNumbers o' p Fact text) (sym first)
    (subst (λ (p' : Option ℕ). OnNumbers (Some a) p' Fact text) (sym second) (subst (λ (t : Bool). MatchBool t (text ≡ refusal (codes "SameRun")) (Fact a b text)) (sym (ne_eqb a b apart)) fact))

-- steps where there is an error
pub stopped_still : {A E : Type 0} (r : Result A E) (steps most : ℕ) → OnErr r (steps ≤ steps + most)
stopped_still (Ok x) steps most = tt
stopped_still (Err e) steps most = omega arith

pub stopped_at : {A E : Type 0} (r : Result A E) (before after most : ℕ) → OnErr r (after ≡ before) → OnErr r (after ≤ before + most)
stopped_at (Ok x) before after most h = tt
stopped_at (Err e) before after most h = omega (arith, h)

pub stopped_more : {A E : Type 0} (r : Result A E) (before after left most : ℕ) → after + left ≤ before + most → OnErr r (after ≤ before + most)
stopped_more (Ok x) before after left most h = tt
stopped_more (Err e) before after left most h = omega (arith, h)

module _ {M : Type 0} where
  -- no step is taken
  pub counts_still : (s : Setting) (heard : Heard) (kept : Judging M) (steps : ℕ) → CountsLine s heard kept kept steps steps
  counts_still s heard kept steps = omega arith

  -- no more steps than were owed
  pub counts_owed : (s : Setting) (heard : Heard) (old new : Judging M) (before after : ℕ) → after + owed s.desk new.table ≤ before + owed s.desk old.table → CountsLine s heard old new before after
  counts_owed s heard old new before after h = omega (arith, h)

  pub counts_said : (s : Setting) (request said : Request) (old new : Judging M) (before after : ℕ) → request ≡ said → CountsLine s (Asked (request_said said)) old new before after → CountsLine s (Asked (request_said request)) old new before after
  counts_said s request said old new before after is h = subst (λ (r : Request). CountsLine s (Asked (request_said r)) old new before after) (sym is) h

  module _ (n : Numbers M) (s : Setting) (request said : Request) (old new : Judging M) (r : Result (Vec ℕ Global) Memory) (is : request ≡ said) where
    pub answers_said : IfOk r (λ text. Answers n s (Asked (request_said said)) old new text.items) → IfOk r (λ text. Answers n s (Asked (request_said request)) old new text.items)
    answers_said h = subst (λ (q : Request). IfOk r (λ text. Answers n s (Asked (request_said q)) old new text.items)) (sym is) h

    -- a line that leaves the judgements
    pub answers_told : (Fact : List ℕ → Type 0) → IsReadyForLine n s new → new.session ≡ changes_after s.desk (Asked (request_said said)) old.session → ((text : List ℕ) → Fact text → IsReply s old.session (Asked (request_said said)) text) → IfOk r (λ text. Fact text.items) →
        IfOk r (λ text. Answers n s (Asked (request_said request)) old new text.items)
    answers_told Fact ready changes step told =
        answers_said (IfOk-weaker r (λ (text : Vec ℕ Global). Fact text.items) (λ (text : Vec ℕ Global). Answers n s (Asked (request_said said)) old new text.items) (λ text fact. record { ready = ready; changes = changes; is = step text.items fact }) told)
