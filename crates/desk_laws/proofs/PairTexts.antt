-- The word of a pair line, read from its text.
use Rattle.std.proofs.Common.{◌≡◌, ℕ, List, [], ◌∷◌, ◌++◌, Bool, true, false, get_or, Option, Some, None, refl, ap, sym, subst, ◌∙◌, append_assoc, arith}
use Rattle.std.specs.Prelude.{if◌then◌else◌, nat_eq, MatchBool, codes, drop}
use Rattle.std.proofs.lemmas.Bool.{eqb-true}
use Rattle.std.proofs.lemmas.List.{append_cancel_left}
use Rattle.desk_model.specs.declared.types.Verdict.{Verdict}
use Rattle.desk_model.specs.declared.types.Verdict.TheVariants.{Above, Below, Equal, Open, Close}
use Rattle.desk_report.specs.Table.{word_of, ended}
use Rattle.session_replies.specs.Replies.{OnNumbers, refusal}

-- the verdict whose word begins so
abbrev verdict_from : ℕ → Verdict
verdict_from n = if nat_eq n 97 then Above else if nat_eq n 98 then Below else if nat_eq n 101 then Equal else if nat_eq n 111 then Open else Close

read_word : (v : Verdict) (rest : List ℕ) → verdict_from (get_or (word_of v ++ rest) 0 0) ≡ v
read_word Above rest = refl
read_word Below rest = refl
read_word Equal rest = refl
read_word Open rest = refl
read_word Close rest = refl

one_word : (v w : Verdict) (xs ys : List ℕ) → word_of v ++ xs ≡ word_of w ++ ys → v ≡ w
one_word v w xs ys e = sym (read_word v xs) ∙ ap (λ t. verdict_from (get_or t 0 0)) e ∙ read_word w ys

-- a line and its line feed, after its first name
abbrev after_name : Verdict → List ℕ → List ℕ → List ℕ
after_name v second ends = 32 ∷ (word_of v ++ (second ++ (ends ++ 10 ∷ [])))

opened : (first : List ℕ) (v : Verdict) (second ends : List ℕ) → ended (codes "pair " ++ first ++ 32 ∷ word_of v ++ second ++ ends) ≡ (codes "pair " ++ first) ++ after_name v second ends
opened first v second ends =
    let begun = codes "pair " ++ first in
    let word = 32 ∷ word_of v in
    append_assoc ((begun ++ word) ++ second) ends (10 ∷ []) ∙ append_assoc (begun ++ word) second (ends ++ 10 ∷ []) ∙ append_assoc begun word (second ++ (ends ++ 10 ∷ []))

pub one_verdict : (first : List ℕ) (v w : Verdict) (second other xs ys : List ℕ) → ended (codes "pair " ++ first ++ 32 ∷ word_of v ++ second ++ xs) ≡ ended (codes "pair " ++ first ++ 32 ∷ word_of w ++ other ++ ys) → v ≡ w
one_verdict first v w second other xs ys e =
    let whole = sym (opened first v second xs) ∙ e ∙ opened first w other ys in
    let rest = append_cancel_left (codes "pair " ++ first) (after_name v second xs) (after_name w other ys) whole in
    one_word v w (second ++ (xs ++ 10 ∷ [])) (other ++ (ys ++ 10 ∷ [])) (ap (drop 1) rest)

pub no_refusal : (first : List ℕ) (v : Verdict) (second ends reason : List ℕ) → ended (codes "pair " ++ first ++ 32 ∷ word_of v ++ second ++ ends) ≡ refusal reason → ⊥
no_refusal first v second ends reason e = let head : 112 ≡ 110 = ap (λ t. get_or t 0 0) e in absurd (omega (arith, head))

-- ---- replies on two runs
pub record AreNumbered (o p : Option ℕ) (Fact : ℕ → ℕ → List ℕ → Type 0) (text : List ℕ) : Type 0 where
  pub a : ℕ
  pub b : ℕ
  pub first : o ≡ Some a
  pub second : p ≡ Some b
  pub holds : Fact a b text

pub numbered : (o p : Option ℕ) (Fact : ℕ → ℕ → List ℕ → Type 0) (text : List ℕ) → ((reason : List ℕ) → text ≡ refusal reason → ⊥) → OnNumbers o p Fact text → AreNumbered o p Fact text
numbered (Some a) (Some b) Fact text not_refused h = by (nat_eq a b) h
  where
    by : (same : Bool) → MatchBool same (text ≡ refusal (codes "SameRun")) (Fact a b text) → AreNumbered (Some a) (Some b) Fact text
    by true h = absurd (not_refused (codes "SameRun") h)
    by false h = record { a = a; b = b; first = refl; second = refl; holds = h }
numbered (Some a) None Fact text not_refused h = absurd (not_refused (codes "UnknownRun") h)
numbered None p Fact text not_refused h = absurd (not_refused (codes "UnknownRun") h)

pub of_numbers : (o p : Option ℕ) (a b : ℕ) (Fact : ℕ → ℕ → List ℕ → Type 0) (text : List ℕ) → o ≡ Some a → p ≡ Some b → (a ≡ b → ⊥) → OnNumbers o p Fact text → Fact a b text
of_numbers o p a b Fact text e f apart h =
    by (nat_eq a b) refl (subst (λ q. OnNumbers (Some a) q Fact text) f (subst (λ q. OnNumbers q p Fact text) e h))
  where
    by : (same : Bool) → nat_eq a b ≡ same → MatchBool same (text ≡ refusal (codes "SameRun")) (Fact a b text) → Fact a b text
    by true is h = absurd (apart (eqb-true a b is))
    by false is h = h
