-- A walk over two lists of documents that ascend, document by document.
use Rattle.std.proofs.Common.{◌≡◌, ◌≢◌, ◌⊎◌, inl, inr, ℕ, zero, suc, ◌+◌, ◌<◌, ◌≤◌, Bool, true, false, min, nat_eq, nat_le, List, [], ◌∷◌, drop, length, get_or, slice_index_or, Option, Some, None, refl, ap, sym, ◌∙◌, subst, arith}
use Rattle.std.specs.Prelude.{if◌then◌else◌}
use Rattle.std.proofs.Math.ListN.{set}
use Rattle.std.proofs.Math.Seq.{drop-cons}
use Rattle.std.proofs.lemmas.Bool.{eq-eqb}
use Rattle.std.proofs.lemmas.Bool.Decides.{nat_tests}
use Rattle.std.proofs.lemmas.List.{length-set, get_or-set_same, get_or-set_other}
use Rattle.desk_model.specs.Limits.{RANK_LIMIT}
use Rattle.desk_model.specs.Placed.{lookup, IsAscending}
use Rattle.desk_model.specs.Ranking.{IsRanking, rank}
use Rattle.desk_model.specs.declared.placed.Placed.{Placed}
use Rattle.desk_model.proofs.Counts.{nat_eq-true}
use Rattle.measure_laws.specs.Ranks.{IsRankWithin}
use Rattle.measure_core.specs.Shifts.{HasRoom, IsShifted, HaveRoom, AreShifted}
use Rattle.measure_core.specs.declared.shift.Shift.{Shift}
use Rattle.measure_core.specs.declared.shift.Shift.TheVariants.{Add, TakeBack}
use Rattle.topic_counts.specs.Pairs.{after}
use Rattle.topic_counts.proofs.Merge.{absent_below, further}
use Rattle.topic_counts.proofs.Places.{list_within, list_ranks, at_place, stepped}
use Rattle.measure_core.specs.Places.{IsLeft, rank_unless_after}
use Rattle.measure_core.specs.Worths.{rank_or_none}

pub left_whole : (n : ℕ) (docs : List ℕ) (es : List Placed) → IsRanking n docs → IsAscending es → ((d : ℕ) → lookup es d ≡ rank docs d) → IsLeft n es
left_whole n docs es ranking up same = record { ascending = up; within = list_within n docs es ranking same; ranks = list_ranks docs es ranking.short up same }

pub IsLeft-drop : (n i : ℕ) (es : List Placed) → IsLeft n es → IsLeft n (drop i es)
IsLeft-drop n zero es h = h
IsLeft-drop n (suc i) [] h = h
IsLeft-drop n (suc i) (e ∷ es) h = IsLeft-drop n i es (record { ascending = h.ascending.1; within = h.within.1; ranks = h.ranks.1 })

-- no document of a list comes before this one
abbrev pub IsFrom : ℕ → List Placed → Type 0
IsFrom doc [] = Unit {0}
IsFrom doc (x ∷ xs) = doc ≤ x.doc

-- the rank that a list has for a document, where that is its first
abbrev pub head_rank : List Placed → ℕ → Option ℕ
head_rank [] doc = None
head_rank (x ∷ xs) doc = if nat_eq x.doc doc then Some x.rank else None

-- ---- the first document of a list from a place on
first_test : (m n : ℕ) → nat_eq m (min m n) ≡ nat_le m n
first_test m n = grind (arith, nat_tests)

second_test : (m n : ℕ) → nat_eq n (min m n) ≡ nat_le n m
second_test m n = grind (arith, nat_tests)

-- a document that no other of a list from a place on comes before; the test says whether it is the first there
pub record IsHead (doc i : ℕ) (es : List Placed) (rank : Option ℕ) (p : ℕ) : Type 0 where
  pub from : IsFrom doc (drop i es)
  pub ranked : rank ≡ head_rank (drop i es) doc
  pub next : after (drop i es) doc ≡ drop p es

pub head_at : (doc i p : ℕ) (es : List Placed) (o : Placed) (b : Bool) → i < length es → doc ≤ (slice_index_or es i o).doc → nat_eq (slice_index_or es i o).doc doc ≡ b → p ≡ i + (if b then 1 else 0) →
    IsHead doc i es (if b then Some (slice_index_or es i o).rank else None) p
head_at doc i p es o b lt from is e =
    let x = slice_index_or es i o in
    let xs = drop (suc i) es in
    let here : drop i es ≡ x ∷ xs = drop-cons es i o lt in
    record {
      from = subst (IsFrom doc) (sym here) from;
      ranked = sym (ap (λ (zs : List Placed). head_rank zs doc) here ∙ ap (λ (t : Bool). if t then Some x.rank else None) is);
      next = ap (λ (zs : List Placed). after zs doc) here ∙ ap (λ (t : Bool). if t then xs else x ∷ xs) is ∙ ap (λ (zs : List Placed). if b then xs else zs) (sym here) ∙ stepped i es b ∙ ap (λ (m : ℕ). drop m es) (sym e);
    }

-- the first of two
pub first_head : (i p : ℕ) (es : List Placed) (o y : Placed) → i < length es → p ≡ i + (if nat_le (slice_index_or es i o).doc y.doc then 1 else 0) → IsHead (min (slice_index_or es i o).doc y.doc) i es (rank_unless_after (slice_index_or es i o) y) p
first_head i p es o y lt e =
    let x = slice_index_or es i o in
    head_at (min x.doc y.doc) i p es o (nat_le x.doc y.doc) lt (omega arith) (first_test x.doc y.doc) e

pub second_head : (j q : ℕ) (fs : List Placed) (o x : Placed) → j < length fs → q ≡ j + (if nat_le (slice_index_or fs j o).doc x.doc then 1 else 0) → IsHead (min x.doc (slice_index_or fs j o).doc) j fs (rank_unless_after (slice_index_or fs j o) x) q
second_head j q fs o x lt e =
    let y = slice_index_or fs j o in
    head_at (min x.doc y.doc) j q fs o (nat_le y.doc x.doc) lt (omega arith) (second_test x.doc y.doc) e

-- the first of one alone
pub only_head : (i : ℕ) (es : List Placed) (o : Placed) → i < length es → IsHead (slice_index_or es i o).doc i es (Some (slice_index_or es i o).rank) (i + 1)
only_head i es o lt = let x = slice_index_or es i o in head_at x.doc i (i + 1) es o true lt (omega arith) (eq-eqb x.doc x.doc refl) refl

pub IsLeft-none : (n : ℕ) → IsLeft n []
IsLeft-none n = record { ascending = tt; within = tt; ranks = tt }

pub no_head : (doc : ℕ) → IsHead doc 0 [] None 0
no_head doc = record { from = tt; ranked = refl; next = refl }

-- a rank from 1 is one
pub rank_some : (worth : Option ℕ → ℕ) (rank : ℕ) → IsRankWithin RANK_LIMIT (Some rank) → worth (rank_or_none rank) ≡ worth (Some rank)
rank_some worth zero h = absurd (omega (arith, h.0))
rank_some worth (suc n) h = refl

-- its document is one of the totals
pub doc_within : (n i : ℕ) (es : List Placed) (o : Placed) → IsLeft n es → i < length es → (slice_index_or es i o).doc < n
doc_within n i es o h lt = at_place (λ (e : Placed). e.doc < n) i es o lt h.within

pub rank_is_within : (n i : ℕ) (es : List Placed) (o : Placed) → IsLeft n es → i < length es → IsRankWithin RANK_LIMIT (Some (slice_index_or es i o).rank)
rank_is_within n i es o h lt = at_place (λ (e : Placed). IsRankWithin RANK_LIMIT (Some e.rank)) i es o lt h.ranks

-- ---- what a step does to what is looked up
apart : (x doc d : ℕ) → nat_eq x doc ≡ true → d ≢ doc → nat_eq x d ≡ false
apart x doc d h ne = grind (arith, nat_tests)

elsewhere_step : (x : Placed) (xs : List Placed) (doc d : ℕ) (b : Bool) → nat_eq x.doc doc ≡ b → d ≢ doc → lookup (if b then xs else x ∷ xs) d ≡ lookup (x ∷ xs) d
elsewhere_step x xs doc d true e ne = sym (ap (λ (b : Bool). if b then Some x.rank else lookup xs d) (apart x.doc doc d e ne))
elsewhere_step x xs doc d false e ne = refl

pub elsewhere : (es : List Placed) (doc d : ℕ) → d ≢ doc → lookup (after es doc) d ≡ lookup es d
elsewhere [] doc d ne = refl
elsewhere (x ∷ xs) doc d ne = elsewhere_step x xs doc d (nat_eq x.doc doc) refl ne

later : (x doc : ℕ) → doc ≤ x → nat_eq x doc ≡ false → doc < x
later x doc h e = grind (arith, nat_tests)

gone_step : (n : ℕ) (x : Placed) (xs : List Placed) (doc : ℕ) (b : Bool) → nat_eq x.doc doc ≡ b → IsLeft n (x ∷ xs) → doc ≤ x.doc → lookup (if b then xs else x ∷ xs) doc ≡ None
gone_step n x xs doc true e h from = subst (λ (z : ℕ). lookup xs z ≡ None) (nat_eq-true x.doc doc e) (absent_below x.doc xs h.ascending.0)
gone_step n x xs doc false e h from = let lt = later x.doc doc from e in absent_below doc (x ∷ xs) (lt, further doc x.doc xs (omega (arith, lt)) h.ascending.0)

pub gone : (n : ℕ) (es : List Placed) (doc : ℕ) → IsLeft n es → IsFrom doc es → lookup (after es doc) doc ≡ None
gone n [] doc h from = refl
gone n (x ∷ xs) doc h from = gone_step n x xs doc (nat_eq x.doc doc) refl h from

here_step : (n : ℕ) (x : Placed) (xs : List Placed) (doc : ℕ) (b : Bool) → nat_eq x.doc doc ≡ b → IsLeft n (x ∷ xs) → doc ≤ x.doc → (if b then Some x.rank else None) ≡ lookup (x ∷ xs) doc
here_step n x xs doc true e h from = sym (ap (λ (b : Bool). if b then Some x.rank else lookup xs doc) e)
here_step n x xs doc false e h from = sym (gone_step n x xs doc false e h from)

pub found : (n : ℕ) (es : List Placed) (doc : ℕ) → IsLeft n es → IsFrom doc es → head_rank es doc ≡ lookup es doc
found n [] doc h from = refl
found n (x ∷ xs) doc h from = here_step n x xs doc (nat_eq x.doc doc) refl h from

-- ---- totals
-- what was done to a total so far and what is left come to the whole weight
abbrev pub IsBalanced : Shift → ℕ → ℕ → ℕ → ℕ → Type 0
IsBalanced Add left whole before now = now + left ≡ before + whole
IsBalanced TakeBack left whole before now = now + whole ≡ before + left

pub whole_left : (shift : Shift) (weight total : ℕ) → IsBalanced shift weight weight total total
whole_left Add weight total = refl
whole_left TakeBack weight total = refl

pub room_left : (shift : Shift) (left whole before now : ℕ) → IsBalanced shift left whole before now → HasRoom shift whole before → HasRoom shift left now
room_left Add left whole before now h room = omega (arith, h, room)
room_left TakeBack left whole before now h room = omega (arith, h, room)

pub step_balanced : (shift : Shift) (left whole before now after : ℕ) → IsBalanced shift left whole before now → IsShifted shift left now after → IsBalanced shift 0 whole before after
step_balanced Add left whole before now after h is = omega (arith, h, is)
step_balanced TakeBack left whole before now after h is = omega (arith, h, is)

pub balanced_end : (shift : Shift) (left whole before now : ℕ) → left ≡ 0 → IsBalanced shift left whole before now → IsShifted shift whole before now
balanced_end Add left whole before now none h = omega (arith, none, h)
balanced_end TakeBack left whole before now none h = omega (arith, none, h)

module _ (weigh : Option ℕ → Option ℕ → ℕ) (none : weigh None None ≡ 0) (shift : Shift) (whole : ℕ → ℕ) (before : List ℕ) where
  -- the same of all totals, where these lists are left
  pub record AreBalanced (es fs : List Placed) (now : List ℕ) : Type 0 where
    pub count : length now ≡ length before
    pub each : (doc : ℕ) → doc < length before → IsBalanced shift (weigh (lookup es doc) (lookup fs doc)) (whole doc) (get_or before doc 0) (get_or now doc 0)

  pub balanced_start : (es fs : List Placed) → ((doc : ℕ) → whole doc ≡ weigh (lookup es doc) (lookup fs doc)) → AreBalanced es fs before
  balanced_start es fs same = record {
    count = refl;
    each = λ doc lt. subst (λ (w : ℕ). IsBalanced shift w (whole doc) (get_or before doc 0) (get_or before doc 0)) (same doc) (whole_left shift (whole doc) (get_or before doc 0));
  }

  -- there is room for the weight of the first document
  pub room_here : (es fs : List Placed) (now : List ℕ) (n doc weight : ℕ) → AreBalanced es fs now → HaveRoom shift whole before → IsLeft n es → IsLeft n fs → IsFrom doc es → IsFrom doc fs → doc < length before →
      weight ≡ weigh (head_rank es doc) (head_rank fs doc) → HasRoom shift weight (get_or now doc 0)
  room_here es fs now n doc weight h room left right here there lt e =
      let same : weight ≡ weigh (lookup es doc) (lookup fs doc) = e ∙ ap (λ (x : Option ℕ). weigh x (head_rank fs doc)) (found n es doc left here) ∙ ap (weigh (lookup es doc)) (found n fs doc right there) in
      subst (λ (w : ℕ). HasRoom shift w (get_or now doc 0)) (sym same) (room_left shift (weigh (lookup es doc) (lookup fs doc)) (whole doc) (get_or before doc 0) (get_or now doc 0) (h.each doc lt) (room doc lt))

  same_or_not : (m n : ℕ) → (m ≡ n) ⊎ (m ≢ n)
  same_or_not m n = grind arith

  pub balanced_step : (es fs : List Placed) (now : List ℕ) (n doc weight total : ℕ) → AreBalanced es fs now → IsLeft n es → IsLeft n fs → IsFrom doc es → IsFrom doc fs → doc < length before → weight ≡ weigh (head_rank es doc) (head_rank fs doc) →
      IsShifted shift weight (get_or now doc 0) total → AreBalanced (after es doc) (after fs doc) (set now doc total)
  balanced_step es fs now n doc weight total h left right from also_from lt e shifted =
      let same : weight ≡ weigh (lookup es doc) (lookup fs doc) = e ∙ ap (λ (x : Option ℕ). weigh x (head_rank fs doc)) (found n es doc left from) ∙ ap (weigh (lookup es doc)) (found n fs doc right also_from) in
      let within : doc < length now = omega (arith, lt, h.count) in
      let nothing : 0 ≡ weigh (lookup (after es doc) doc) (lookup (after fs doc) doc) =
      sym (ap (λ (x : Option ℕ). weigh x (lookup (after fs doc) doc)) (gone n es doc left from) ∙ ap (weigh None) (gone n fs doc right also_from) ∙ none) in
      let done : IsBalanced shift 0 (whole doc) (get_or before doc 0) total =
      step_balanced shift (weigh (lookup es doc) (lookup fs doc)) (whole doc) (get_or before doc 0) (get_or now doc 0) total (h.each doc lt) (subst (λ (w : ℕ). IsShifted shift w (get_or now doc 0) total) same shifted) in
      let here : IsBalanced shift (weigh (lookup (after es doc) doc) (lookup (after fs doc) doc)) (whole doc) (get_or before doc 0) (get_or (set now doc total) doc 0) =
      subst (λ (t : ℕ). IsBalanced shift (weigh (lookup (after es doc) doc) (lookup (after fs doc) doc)) (whole doc) (get_or before doc 0) t) (sym (get_or-set_same now doc total 0 within))
      (subst (λ (w : ℕ). IsBalanced shift w (whole doc) (get_or before doc 0) total) nothing done) in
      record {
        count = length-set now doc total ∙ h.count;
        each = λ d below. elim (same_or_not d doc) [
          | inl is_doc ↦ subst (λ (z : ℕ). IsBalanced shift (weigh (lookup (after es doc) z) (lookup (after fs doc) z)) (whole z) (get_or before z 0) (get_or (set now doc total) z 0)) (sym is_doc) here
          | inr ne ↦
              let kept : weigh (lookup es d) (lookup fs d) ≡ weigh (lookup (after es doc) d) (lookup (after fs doc) d) =
              sym (ap (λ (x : Option ℕ). weigh x (lookup (after fs doc) d)) (elsewhere es doc d ne) ∙ ap (weigh (lookup es d)) (elsewhere fs doc d ne)) in
              subst (λ (t : ℕ). IsBalanced shift (weigh (lookup (after es doc) d) (lookup (after fs doc) d)) (whole d) (get_or before d 0) t) (sym (get_or-set_other now doc d total 0 ne))
              (subst (λ (w : ℕ). IsBalanced shift w (whole d) (get_or before d 0) (get_or now d 0)) kept (h.each d below))
        ];
      }

  -- a step by places
  pub placed_step : (es fs : List Placed) (now : List ℕ) (n doc i j p q weight total : ℕ) (r s : Option ℕ) → AreBalanced (drop i es) (drop j fs) now → IsLeft n es → IsLeft n fs → IsHead doc i es r p → IsHead doc j fs s q → doc < length before → weight ≡ weigh r s →
      IsShifted shift weight (get_or now doc 0) total → AreBalanced (drop p es) (drop q fs) (set now doc total)
  placed_step es fs now n doc i j p q weight total r s h left right one other lt e shifted =
      subst (λ (zs : List Placed). AreBalanced (drop p es) zs (set now doc total)) other.next
      (subst (λ (zs : List Placed). AreBalanced zs (after (drop j fs) doc) (set now doc total)) one.next
      (balanced_step (drop i es) (drop j fs) now n doc weight total h (IsLeft-drop n i es left) (IsLeft-drop n j fs right) one.from other.from lt
      (e ∙ ap (λ (x : Option ℕ). weigh x s) one.ranked ∙ ap (weigh (head_rank (drop i es) doc)) other.ranked) shifted))

  pub placed_room : (es fs : List Placed) (now : List ℕ) (n doc i j p q weight : ℕ) (r s : Option ℕ) → AreBalanced (drop i es) (drop j fs) now → HaveRoom shift whole before → IsLeft n es → IsLeft n fs → IsHead doc i es r p → IsHead doc j fs s q → doc < length before → weight ≡ weigh r s →
      HasRoom shift weight (get_or now doc 0)
  placed_room es fs now n doc i j p q weight r s h room left right one other lt e =
      room_here (drop i es) (drop j fs) now n doc weight h room (IsLeft-drop n i es left) (IsLeft-drop n j fs right) one.from other.from lt
      (e ∙ ap (λ (x : Option ℕ). weigh x s) one.ranked ∙ ap (weigh (head_rank (drop i es) doc)) other.ranked)

  -- where what is left is shifted as well
  pub balanced_done : (es fs : List Placed) (between now : List ℕ) → AreBalanced es fs between → AreShifted shift (λ doc. weigh (lookup es doc) (lookup fs doc)) between now → AreShifted shift whole before now
  balanced_done es fs between now h g = record {
    count = g.count ∙ h.count;
    each = λ doc lt.
        balanced_end shift 0 (whole doc) (get_or before doc 0) (get_or now doc 0) refl
        (step_balanced shift (weigh (lookup es doc) (lookup fs doc)) (whole doc) (get_or before doc 0) (get_or between doc 0) (get_or now doc 0) (h.each doc lt) (g.each doc (omega (arith, lt, h.count))));
  }

  -- where nothing is left
  pub balanced_last : (now : List ℕ) → AreBalanced [] [] now → AreShifted shift whole before now
  balanced_last now h = record { count = h.count; each = λ doc lt. balanced_end shift (weigh None None) (whole doc) (get_or before doc 0) (get_or now doc 0) none (h.each doc lt) }

  -- there is room for what is left
  pub room_for_rest : (es fs : List Placed) (between : List ℕ) → AreBalanced es fs between → HaveRoom shift whole before → HaveRoom shift (λ doc. weigh (lookup es doc) (lookup fs doc)) between
  room_for_rest es fs between h room doc lt =
      let within : doc < length before = omega (arith, lt, h.count) in
      room_left shift (weigh (lookup es doc) (lookup fs doc)) (whole doc) (get_or before doc 0) (get_or between doc 0) (h.each doc within) (room doc within)
