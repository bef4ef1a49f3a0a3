-- Lists of documents that grow one by one, and the part that is left of what they are to be.
use Rattle.std.proofs.Common.{◌≡◌, ℕ, zero, suc, ◌+◌, ◌-◌, ◌<◌, ◌≤◌, Bool, true, false, cond, nat_lt, ◌&&◌, List, [], ◌∷◌, ◌++◌, length, append_assoc, refl, ap, sym, ◌∙◌, arith}
use Rattle.std.specs.Prelude.{filter}
use Rattle.std.specs.List.{range_with_len}
use Rattle.std.proofs.Math.Bool.{and-false, and-true}
use Rattle.std.proofs.lemmas.Bool.Decides.{nat_tests}
use Rattle.std.proofs.lemmas.List.{append-nil}
use Rattle.std.proofs.lemmas.List.FromFn.{length-range_with_len}
use Rattle.std.proofs.lemmas.List.Sums.{count_by-le-length}
use Rattle.desk_model.specs.Completion.{picked_value, with_picked}
use Rattle.desk_model.specs.Mark.{is_unjudged, mark_at}
use Rattle.desk_model.specs.declared.types.Mark.{Mark}
use Rattle.desk_model.specs.declared.types.Mark.TheVariants.{Unjudged, Relevant, Other}
use Rattle.measure_laws.specs.Classes.{is_among_first, size_of}
use Rattle.measure_core.specs.Lists.{added_documents}

-- one more is pushed
pub one_pushed : (now left next whole : List ℕ) (x : ℕ) → left ≡ x ∷ next → now ++ left ≡ whole → (now ++ x ∷ []) ++ next ≡ whole
one_pushed now left next whole x e h = append_assoc now (x ∷ []) next ∙ ap (λ l. now ++ l) (sym e) ∙ h

-- none is
pub none_pushed : (now left next whole : List ℕ) → left ≡ next → now ++ left ≡ whole → now ++ next ≡ whole
none_pushed now left next whole e h = ap (λ l. now ++ l) (sym e) ∙ h

-- one is or none
pub cond_pushed : (now left rest whole next : List ℕ) (x : ℕ) (b : Bool) → left ≡ cond b (x ∷ rest) rest → next ≡ cond b (now ++ x ∷ []) now → now ++ left ≡ whole → next ++ rest ≡ whole
cond_pushed now left rest whole next x true e f h = ap (λ l. l ++ rest) f ∙ one_pushed now left rest whole x e h
cond_pushed now left rest whole next x false e f h = ap (λ l. l ++ rest) f ∙ none_pushed now left rest whole e h

-- none is left
pub all_pushed : (now left whole : List ℕ) → left ≡ [] → now ++ left ≡ whole → now ≡ whole
all_pushed now left whole e h = sym (append-nil now) ∙ ap (λ l. now ++ l) (sym e) ∙ h

-- ---- the documents of a universe from one on that pass a test
abbrev pub left_from : (ℕ → Bool) → ℕ → ℕ → List ℕ
left_from test n doc = filter test (range_with_len doc (n - doc))

pub left_whole : (test : ℕ → Bool) (n : ℕ) → left_from test n 0 ≡ filter test (range_with_len 0 n)
left_whole test n = let whole : n - 0 ≡ n = omega arith in ap (λ m. filter test (range_with_len 0 m)) whole

pub left_step : (test : ℕ → Bool) (n doc : ℕ) (b : Bool) → doc < n → test doc ≡ b → left_from test n doc ≡ cond b (doc ∷ left_from test n (doc + 1)) (left_from test n (doc + 1))
left_step test n doc b lt e =
    let more : n - doc ≡ suc (n - (doc + 1)) = omega arith in
    ap (λ m. filter test (range_with_len doc m)) more ∙ ap (λ t. cond t (doc ∷ left_from test n (doc + 1)) (left_from test n (doc + 1))) e

pub left_none : (test : ℕ → Bool) (n doc : ℕ) → n ≤ doc → left_from test n doc ≡ []
left_none test n doc end = let none : n - doc ≡ 0 = omega arith in ap (λ m. filter test (range_with_len doc m)) none

pub filter_same : (p q : ℕ → Bool) (low n : ℕ) → ((x : ℕ) → low ≤ x → x < low + n → p x ≡ q x) → filter p (range_with_len low n) ≡ filter q (range_with_len low n)
filter_same p q low zero h = refl
filter_same p q low (suc n) h =
    ap (λ b. cond b (low ∷ filter p (range_with_len (low + 1) n)) (filter p (range_with_len (low + 1) n))) (h low (omega arith) (omega arith))
    ∙ ap (λ l. cond (q low) (low ∷ l) l) (filter_same p q (low + 1) n (λ x from to. h x (omega (arith, from)) (omega (arith, to))))

-- ---- lists of documents that completions add
pub added_same : (marks : List Mark) (s t : ℕ → Bool) → ((doc : ℕ) → doc < length marks → s doc ≡ t doc) → added_documents marks s ≡ added_documents marks t
added_same marks s t h =
    filter_same (λ doc. is_unjudged (mark_at marks doc) && s doc) (λ doc. is_unjudged (mark_at marks doc) && t doc) 0 (length marks) (λ doc from to. ap (λ b. is_unjudged (mark_at marks doc) && b) (h doc (omega (arith, to))))

-- an unjudged document is true in a completion exactly where it is picked
pub open_picked : (pick : Bool) (m : Mark) → (is_unjudged m && picked_value pick m) ≡ (is_unjudged m && pick)
open_picked pick Unjudged = refl
open_picked pick Relevant = refl
open_picked pick Other = refl

picks_agree : (pick other : Bool) (m : Mark) → (is_unjudged m ≡ true → pick ≡ other) → picked_value pick m ≡ picked_value other m
picks_agree pick other Unjudged h = h refl
picks_agree pick other Relevant h = refl
picks_agree pick other Other h = refl

-- completions that pick the same unjudged documents
pub picked_same : (marks : List Mark) (p q : ℕ → Bool) → ((doc : ℕ) → doc < length marks → is_unjudged (mark_at marks doc) ≡ true → p doc ≡ q doc) → added_documents marks (with_picked marks p) ≡ added_documents marks (with_picked marks q)
picked_same marks p q h = added_same marks (with_picked marks p) (with_picked marks q) (λ doc lt. picks_agree (p doc) (q doc) (mark_at marks doc) (h doc lt))

-- ---- the first documents of a class
size_few : (class : ℕ → Bool) (doc : ℕ) → size_of doc class ≤ doc
size_few class doc = omega (arith, count_by-le-length class (range_with_len 0 doc), length-range_with_len 0 doc)

below : (m n : ℕ) → m < n → nat_lt m n ≡ true
below m n h = grind (arith, nat_tests)

not_under : (m : ℕ) → nat_lt m 0 ≡ false
not_under m = grind (arith, nat_tests)

pub among_many : (class : ℕ → Bool) (j doc : ℕ) → size_of doc class < j → is_among_first j class doc ≡ class doc
among_many class j doc h = ap (λ b. class doc && b) (below (size_of doc class) j h) ∙ and-true (class doc)

pub among_all : (class : ℕ → Bool) (n doc : ℕ) → doc < n → is_among_first n class doc ≡ class doc
among_all class n doc lt = among_many class n doc (omega (arith, lt, size_few class doc))

pub among_none : (class : ℕ → Bool) (doc : ℕ) → is_among_first 0 class doc ≡ false
among_none class doc = ap (λ b. class doc && b) (not_under (size_of doc class)) ∙ and-false (class doc)
