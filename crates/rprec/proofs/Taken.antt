-- The first documents of a class, as many as are wanted.
use Rattle.std.proofs.Common.{◌≡◌, ℕ, zero, suc, ◌+◌, ◌-◌, ◌<◌, ◌≤◌, Bool, true, false, cond, nat_lt, ◌&&◌, ◌||◌, List, [], ◌∷◌, take, length, refl, ap, sym, ◌∙◌, arith}
use Rattle.std.specs.Prelude.{filter}
use Rattle.std.specs.List.{range_with_len}
use Rattle.std.proofs.lemmas.Bool.Decides.{nat_tests}
use Rattle.std.proofs.lemmas.List.Sums.{length-filter}
use Rattle.desk_model.specs.Completion.{picked_value, with_picked}
use Rattle.desk_model.specs.Mark.{is_unjudged, mark_at}
use Rattle.desk_model.specs.declared.types.Mark.{Mark}
use Rattle.desk_model.specs.declared.types.Mark.TheVariants.{Unjudged, Relevant, Other}
use Rattle.desk_model.proofs.Counts.{one_if}
use Rattle.measure_laws.specs.Classes.{is_among_first, open_in, size_of}
use Rattle.measure_laws.specs.Prefixes.{only_second, neutral}
use Rattle.measure_laws.proofs.RprecEnds.{count_more}
use Rattle.measure_core.specs.Lists.{added_documents}
use Rattle.marked_lists.specs.More.{own_and_more}
use Rattle.marked_lists.specs.declared.more_lists.More.{More}
use Rattle.marked_lists.proofs.InStep.{size_more}
use Rattle.measure_core.proofs.Pushing.{among_many, among_none, filter_same, open_picked}
use Rattle.rprec.specs.Picks.{picks}
use Rattle.rprec.specs.declared.values.Wanted.{Wanted}

size_next : (class : ℕ → Bool) (low : ℕ) → size_of (low + 1) class ≡ size_of low class + one_if (class low)
size_next class low = let next : low + 1 ≡ suc low = omega arith in ap (λ n. size_of n class) next ∙ count_more class low

taken_none : (xs : List ℕ) (m : ℕ) → m ≡ 0 → take m xs ≡ []
taken_none xs m e = ap (λ n. take n xs) e

of_none : (m : ℕ) (xs : List ℕ) → xs ≡ [] → take m xs ≡ []
of_none zero xs e = refl
of_none (suc m) xs e = ap (take (suc m)) e

module _ (class : ℕ → Bool) (j : ℕ) where
  abbrev among : ℕ → Bool
  among = is_among_first j class

  some : (m n : ℕ) → m < n → nat_lt m n ≡ true
  some m n h = grind (arith, nat_tests)

  fewer : (m n : ℕ) → n ≤ m → nat_lt m n ≡ false
  fewer m n h = grind (arith, nat_tests)

  first_taken_from : (n low : ℕ) → filter among (range_with_len low n) ≡ take (j - size_of low class) (filter class (range_with_len low n))
  first_taken_from zero low = sym (of_none (j - size_of low class) [] refl)
  first_taken_from (suc n) low = at (class low) (nat_lt (size_of low class) j) refl refl (first_taken_from n (low + 1))
    where
      rest : List ℕ
      rest = filter class (range_with_len (low + 1) n)

      among_rest : List ℕ
      among_rest = filter among (range_with_len (low + 1) n)

      at : (b t : Bool) → class low ≡ b → nat_lt (size_of low class) j ≡ t → among_rest ≡ take (j - size_of (low + 1) class) rest → cond (among low) (low ∷ among_rest) among_rest ≡ take (j - size_of low class) (cond (class low) (low ∷ rest) rest)
      at true true e f later =
          let size : size_of (low + 1) class ≡ size_of low class + 1 = size_next class low ∙ ap (λ b. size_of low class + one_if b) e in
          let under : size_of low class < j = grind (arith, nat_tests) in
          let more : suc (j - size_of (low + 1) class) ≡ j - size_of low class = omega (arith, size, under) in
          ap (λ b. cond (b && nat_lt (size_of low class) j) (low ∷ among_rest) among_rest) e ∙ ap (λ b. cond b (low ∷ among_rest) among_rest) f ∙ ap (λ l. low ∷ l) later ∙ ap (λ m. take m (low ∷ rest)) more
          ∙ sym (ap (λ b. take (j - size_of low class) (cond b (low ∷ rest) rest)) e)
      at true false e f later =
          let over : j ≤ size_of low class = grind (arith, nat_tests) in
          let size : size_of (low + 1) class ≡ size_of low class + 1 = size_next class low ∙ ap (λ b. size_of low class + one_if b) e in
          let here : j - size_of low class ≡ 0 = omega (arith, over) in
          let there : j - size_of (low + 1) class ≡ 0 = omega (arith, over, size) in
          ap (λ b. cond (b && nat_lt (size_of low class) j) (low ∷ among_rest) among_rest) e ∙ ap (λ b. cond b (low ∷ among_rest) among_rest) f ∙ later ∙ taken_none rest _ there ∙ sym (taken_none (cond (class low) (low ∷ rest) rest) _ here)
      at false t e f later =
          let size : size_of (low + 1) class ≡ size_of low class = let plain : size_of low class + 0 ≡ size_of low class = omega arith in size_next class low ∙ ap (λ b. size_of low class + one_if b) e ∙ plain in
          ap (λ b. cond (b && nat_lt (size_of low class) j) (low ∷ among_rest) among_rest) e ∙ later ∙ ap (λ s. take (j - s) rest) size ∙ sym (ap (λ b. take (j - size_of low class) (cond b (low ∷ rest) rest)) e)

  pub first_taken : (n : ℕ) → filter among (range_with_len 0 n) ≡ take j (filter class (range_with_len 0 n))
  first_taken n = let all : j - 0 ≡ j = omega arith in first_taken_from n 0 ∙ ap (λ m. take m (filter class (range_with_len 0 n))) all

-- ---- the documents that are wanted
-- where more are wanted than the second run has of its own, all of those are
pub all_own : (marks : List Mark) (a b : List ℕ) (r doc : ℕ) (w : Wanted) → doc < length marks → size_of (length marks) (open_in marks (only_second r a b)) < w.second → is_unjudged (mark_at marks doc) ≡ true →
    let more : More = record { both = w.both; first = w.first } in own_and_more r more marks a b doc ≡ picks w marks a b r doc
all_own marks a b r doc w lt many unjudged =
    let own = open_in marks (only_second r a b) in
    let others = is_among_first w.both (open_in marks (neutral r a b)) doc || is_among_first w.first (open_in marks (only_second r b a)) doc in
    sym (ap (λ t. t || others) (among_many own w.second doc (omega (arith, many, size_more own doc (length marks) (omega (arith, lt))))) ∙ ap (λ u. (u && only_second r a b doc) || others) unjudged)

open_own : (s t : Bool) (m : Mark) → (is_unjudged m && picked_value ((is_unjudged m && s) && t) m) ≡ ((is_unjudged m && s) && t)
open_own s t Unjudged = refl
open_own s t Relevant = refl
open_own s t Other = refl

no_others : (t : Bool) → (t || (false || false)) ≡ t
no_others true = refl
no_others false = refl

-- as many of the second run's own are listed as it has
pub own_listed : (marks : List Mark) (a b : List ℕ) (r : ℕ) → length (added_documents marks (with_picked marks (only_second r a b))) ≡ size_of (length marks) (open_in marks (only_second r a b))
own_listed marks a b r =
    let own = only_second r a b in
    ap (λ (l : List ℕ). length l) (filter_same (λ doc. is_unjudged (mark_at marks doc) && with_picked marks own doc) (open_in marks own) 0 (length marks) (λ doc from to. open_picked (own doc) (mark_at marks doc)))
    ∙ length-filter (open_in marks own) (range_with_len 0 (length marks))

-- where no others are wanted, those that are wanted are the first ones of its own
pub own_alone : (marks : List Mark) (a b : List ℕ) (r : ℕ) (w : Wanted) → w.both ≡ 0 → w.first ≡ 0 → added_documents marks (with_picked marks (picks w marks a b r)) ≡ take w.second (added_documents marks (with_picked marks (only_second r a b)))
own_alone marks a b r w none none_first =
    let n = length marks in
    let own = open_in marks (only_second r a b) in
    let both = open_in marks (neutral r a b) in
    let first = open_in marks (only_second r b a) in
    let alone : (doc : ℕ) → picks w marks a b r doc ≡ is_among_first w.second own doc = λ doc.
    ap (λ j. is_among_first w.second own doc || (is_among_first j both doc || is_among_first w.first first doc)) none ∙ ap (λ j. is_among_first w.second own doc || (is_among_first 0 both doc || is_among_first j first doc)) none_first
    ∙ ap (λ t. is_among_first w.second own doc || (t || is_among_first 0 first doc)) (among_none both doc) ∙ ap (λ t. is_among_first w.second own doc || (false || t)) (among_none first doc) ∙ no_others (is_among_first w.second own doc) in
    let tested : (doc : ℕ) → (is_unjudged (mark_at marks doc) && with_picked marks (picks w marks a b r) doc) ≡ is_among_first w.second own doc = λ doc.
    ap (λ t. is_unjudged (mark_at marks doc) && picked_value t (mark_at marks doc)) (alone doc) ∙ open_own (only_second r a b doc) (nat_lt (size_of doc own) w.second) (mark_at marks doc) in
    filter_same (λ doc. is_unjudged (mark_at marks doc) && with_picked marks (picks w marks a b r) doc) (is_among_first w.second own) 0 n (λ doc from to. tested doc)
    ∙ first_taken own w.second n ∙ sym (ap (take w.second) (filter_same (λ doc. is_unjudged (mark_at marks doc) && with_picked marks (only_second r a b) doc) own 0 n (λ doc from to. open_picked (only_second r a b doc) (mark_at marks doc))))
