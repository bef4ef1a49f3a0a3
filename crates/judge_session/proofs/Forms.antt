-- The fields of a request are those of its form.
use Rattle.std.proofs.Common.{◌≡◌, ℕ, List, [], ◌∷◌, true, false, Some, None, cond, refl, ap, subst, ◌∙◌, ℤ, pos, negsuc, decimal}
use Rattle.std.specs.Prelude.{Bool, Option, ◌&&◌, codes, option_map}
use Rattle.std.specs.Str.{bytes_eq}
use Rattle.std.proofs.lemmas.Bool.{and_parts}
use Rattle.desk_text.specs.Numbers.{whole_of}
use Rattle.desk_model.specs.Name.{is_name}
use Rattle.desk_model.proofs.Names.{same_name as is_word}
use Rattle.judge_session.specs.Request.{Request, Judge, Undo, Redo, Table, Pair, Certify, Pool, Next, Qrels, Quit, named, alone, with_caller, depth_of, with_two, judging, request_of}
use Rattle.judge_session.specs.Forms.{AreFieldsOf, IsWithin}
use Rattle.judge_session.proofs.LineNumbers.{grade_from, grade_to, depth_from, depth_to}

-- fields of the form of a request
abbrev pub Formed : Request → List (List ℕ) → Type 0
Formed request fields = AreFieldsOf request fields × IsWithin request

-- a request that is the one asked
same : (fields : List (List ℕ)) (asked request : Request) → Some asked ≡ Some request → Formed asked fields → Formed request fields
same fields asked request e formed = let is : asked ≡ request = cc in subst (λ r. Formed r fields) is formed

named_from : (fields : List (List ℕ)) (names : Bool) (asked request : Request) → named names asked ≡ Some request → (names ≡ true → Formed asked fields) → Formed request fields
named_from fields true asked request e formed = same fields asked request e (formed refl)
named_from fields false asked request e formed = absurd (cc)

alone_from : (word : List ℕ) (request : Request) → alone word ≡ Some request → Formed request (word ∷ [])
alone_from word request e = by (bytes_eq word (codes "table")) (bytes_eq word (codes "next")) (bytes_eq word (codes "qrels")) (bytes_eq word (codes "quit")) refl refl refl refl e
  where
    by : (a b c d : Bool) → bytes_eq word (codes "table") ≡ a → bytes_eq word (codes "next") ≡ b → bytes_eq word (codes "qrels") ≡ c → bytes_eq word (codes "quit") ≡ d
        → cond a (Some Table) (cond b (Some Next) (cond c (Some Qrels) (cond d (Some Quit) None))) ≡ Some request → Formed request (word ∷ [])
    by true b c d p q r s e = same (word ∷ []) Table request e (ap (λ w. w ∷ []) (is_word word (codes "table") p), tt)
    by false true c d p q r s e = same (word ∷ []) Next request e (ap (λ w. w ∷ []) (is_word word (codes "next") q), tt)
    by false false true d p q r s e = same (word ∷ []) Qrels request e (ap (λ w. w ∷ []) (is_word word (codes "qrels") r), tt)
    by false false false true p q r s e = same (word ∷ []) Quit request e (ap (λ w. w ∷ []) (is_word word (codes "quit") s), tt)
    by false false false false p q r s e = absurd (cc)

with_caller_from : (word who : List ℕ) (request : Request) → with_caller word who ≡ Some request → Formed request (word ∷ who ∷ [])
with_caller_from word who request e = by (bytes_eq word (codes "undo")) (bytes_eq word (codes "redo")) refl refl e
  where
    by : (a b : Bool) → bytes_eq word (codes "undo") ≡ a → bytes_eq word (codes "redo") ≡ b
        → cond a (named (is_name who) (Undo who)) (cond b (named (is_name who) (Redo who)) None) ≡ Some request → Formed request (word ∷ who ∷ [])
    by true b p q e = named_from (word ∷ who ∷ []) (is_name who) (Undo who) request e (λ name. (ap (λ w. w ∷ who ∷ []) (is_word word (codes "undo") p), name))
    by false true p q e = named_from (word ∷ who ∷ []) (is_name who) (Redo who) request e (λ name. (ap (λ w. w ∷ who ∷ []) (is_word word (codes "redo") q), name))
    by false false p q e = absurd (cc)

pool_from : (word first second : List ℕ) (request : Request) → bytes_eq word (codes "pool") ≡ true
    → cond (is_name first) (option_map (λ depth. Pool first depth) (depth_of second)) None ≡ Some request → Formed request (word ∷ first ∷ second ∷ [])
pool_from word first second request p e = by (is_name first) (depth_of second) refl refl e
  where
    by : (a : Bool) (o : Option ℕ) → is_name first ≡ a → depth_of second ≡ o
        → cond a (option_map (λ depth. Pool first depth) o) None ≡ Some request → Formed request (word ∷ first ∷ second ∷ [])
    by true (Some depth) n d e =
        let is = depth_from second depth d in
        same (word ∷ first ∷ second ∷ []) (Pool first depth) request e ((λ i. is_word word (codes "pool") p i ∷ first ∷ is.0 i ∷ []), (n, is.1))
    by true None n d e = absurd (cc)
    by false o n d e = absurd (cc)

with_two_from : (word first second : List ℕ) (request : Request) → with_two word first second ≡ Some request → Formed request (word ∷ first ∷ second ∷ [])
with_two_from word first second request e = by (bytes_eq word (codes "pair")) (bytes_eq word (codes "certify")) (bytes_eq word (codes "pool")) refl refl refl e
  where
    by : (a b c : Bool) → bytes_eq word (codes "pair") ≡ a → bytes_eq word (codes "certify") ≡ b → bytes_eq word (codes "pool") ≡ c
        → cond a (named (is_name first && is_name second) (Pair first second)) (cond b (named (is_name first && is_name second) (Certify first second))
        (cond c (cond (is_name first) (option_map (λ depth. Pool first depth) (depth_of second)) None) None)) ≡ Some request
        → Formed request (word ∷ first ∷ second ∷ [])
    by true b c p q r e =
        named_from (word ∷ first ∷ second ∷ []) (is_name first && is_name second) (Pair first second) request e (λ names. (ap (λ w. w ∷ first ∷ second ∷ []) (is_word word (codes "pair") p), and_parts (is_name first) (is_name second) names))
    by false true c p q r e =
        named_from (word ∷ first ∷ second ∷ []) (is_name first && is_name second) (Certify first second) request e (λ names. (ap (λ w. w ∷ first ∷ second ∷ []) (is_word word (codes "certify") q), and_parts (is_name first) (is_name second) names))
    by false false true p q r e = pool_from word first second request r e
    by false false false p q r e = absurd (cc)

judging_from : (word who topic doc grade : List ℕ) (request : Request) → judging word who topic doc grade ≡ Some request → Formed request (word ∷ who ∷ topic ∷ doc ∷ grade ∷ [])
judging_from word who topic doc grade request e = by (bytes_eq word (codes "judge")) (is_name who) (is_name topic) (is_name doc) (whole_of (negsuc 999) (pos 1000) grade) refl refl refl refl refl e
  where
    by : (a b c d : Bool) (o : Option ℤ) → bytes_eq word (codes "judge") ≡ a → is_name who ≡ b → is_name topic ≡ c → is_name doc ≡ d → whole_of (negsuc 999) (pos 1000) grade ≡ o
        → cond (a && (b && (c && d))) (option_map (λ value. Judge who topic doc value) o) None ≡ Some request → Formed request (word ∷ who ∷ topic ∷ doc ∷ grade ∷ [])
    by true true true true (Some value) p q r s w e =
        let is = grade_from grade value w in
        same (word ∷ who ∷ topic ∷ doc ∷ grade ∷ []) (Judge who topic doc value) request e ((grade, ap (λ w. w ∷ who ∷ topic ∷ doc ∷ grade ∷ []) (is_word word (codes "judge") p), is.0), (q, r, s, is.1))
    by true true true true None p q r s w e = absurd (cc)
    by true true true false o p q r s w e = absurd (cc)
    by true true false d o p q r s w e = absurd (cc)
    by true false c d o p q r s w e = absurd (cc)
    by false b c d o p q r s w e = absurd (cc)

-- what fields ask is of their form
pub asked_is_formed : (fields : List (List ℕ)) (request : Request) → request_of fields ≡ Some request → Formed request fields
asked_is_formed [] request e = absurd (cc)
asked_is_formed (a ∷ []) request e = alone_from a request e
asked_is_formed (a ∷ b ∷ []) request e = with_caller_from a b request e
asked_is_formed (a ∷ b ∷ c ∷ []) request e = with_two_from a b c request e
asked_is_formed (a ∷ b ∷ c ∷ d ∷ []) request e = absurd (cc)
asked_is_formed (a ∷ b ∷ c ∷ d ∷ f ∷ []) request e = judging_from a b c d f request e
asked_is_formed (a ∷ b ∷ c ∷ d ∷ f ∷ g ∷ fields) request e = absurd (cc)

-- fields of a form ask its request
pub formed_is_asked : (fields : List (List ℕ)) (request : Request) → Formed request fields → request_of fields ≡ Some request
formed_is_asked fields (Judge who topic doc grade) ((text, e, t), (w, o, d, g)) =
    ap request_of e ∙ (λ i. cond (w i && (o i && d i)) (option_map (λ value. Judge who topic doc value) (grade_to text grade t g i)) None)
formed_is_asked fields (Undo who) (e, w) = ap request_of e ∙ ap (λ b. named b (Undo who)) w
formed_is_asked fields (Redo who) (e, w) = ap request_of e ∙ ap (λ b. named b (Redo who)) w
formed_is_asked fields Table (e, w) = ap request_of e
formed_is_asked fields (Pair first second) (e, w) = ap request_of e ∙ (λ i. named (w.0 i && w.1 i) (Pair first second))
formed_is_asked fields (Certify first second) (e, w) = ap request_of e ∙ (λ i. named (w.0 i && w.1 i) (Certify first second))
formed_is_asked fields (Pool topic depth) (e, w) =
    ap request_of e ∙ (λ i. cond (w.0 i) (option_map (λ depth. Pool topic depth) (depth_to (decimal depth) depth refl w.1 i)) None)
formed_is_asked fields Next (e, w) = ap request_of e
formed_is_asked fields Qrels (e, w) = ap request_of e
formed_is_asked fields Quit (e, w) = ap request_of e

-- a form has some field
pub form_has_a_field : (request : Request) → AreFieldsOf request [] → ⊥
form_has_a_field (Judge who topic doc grade) (text, e, t) = cc
form_has_a_field (Undo who) e = cc
form_has_a_field (Redo who) e = cc
form_has_a_field Table e = cc
form_has_a_field (Pair first second) e = cc
form_has_a_field (Certify first second) e = cc
form_has_a_field (Pool topic depth) e = cc
form_has_a_field Next e = cc
form_has_a_field Qrels e = cc
form_has_a_field Quit e = cc
