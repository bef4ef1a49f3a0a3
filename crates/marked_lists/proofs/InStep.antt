-- A walk over all documents of a topic, in step with the places of two rankings, that lists some more than the own documents of one.
use Rattle.std.proofs.Common.{◌≡◌, ◌⊎◌, inl, inr, ℕ, zero, suc, ◌+◌, ◌-◌, ◌<◌, ◌≤◌, Bool, true, false, not, nat_eq, nat_lt, ◌&&◌, ◌||◌, List, [], ◌∷◌, drop, length, take, count_by, slice_index_or, Option, Some, None, refl, ap, sym, subst, ◌∙◌, arith}
use Rattle.std.specs.Prelude.{if◌then◌else◌}
use Rattle.std.specs.List.{range_with_len}
use Rattle.std.proofs.Math.Bool.{and-false}
use Rattle.std.proofs.Math.Seq.{drop-cons, drop-nil}
use Rattle.std.proofs.lemmas.Bool.Decides.{nat_tests}
use Rattle.std.proofs.lemmas.List.{drop_all}
use Rattle.small_lemmas.proofs.Tests.{apart_below, neither}
use Rattle.desk_model.specs.Completion.{with_picked}
use Rattle.desk_model.specs.Mark.{is_unjudged, mark_at}
use Rattle.desk_model.specs.Placed.{lookup, IsAscending}
use Rattle.desk_model.specs.Ranking.{is_in, rank}
use Rattle.desk_model.specs.declared.placed.Placed.{Placed}
use Rattle.desk_model.specs.declared.types.Mark.{Mark}
use Rattle.desk_model.specs.declared.types.Mark.TheVariants.{Unjudged, Relevant, Other}
use Rattle.desk_model.proofs.Counts.{one_if, nat_eq-true}
use Rattle.measure_laws.specs.Classes.{is_among_first, open_in, size_of}
use Rattle.measure_laws.specs.Prefixes.{only_second, neutral}
use Rattle.measure_laws.proofs.RprecEnds.{count_more}
use Rattle.topic_counts.proofs.Merge.{absent_below, further}
use Rattle.topic_counts.proofs.Places.{IsAscending-drop, one_at_most}
use Rattle.topic_counts.proofs.Prefixes.{rank_by}
use Rattle.marked_lists.specs.More.{own_and_more}
use Rattle.measure_core.specs.OneSide.{is_by}
use Rattle.measure_core.specs.Places.{BeginsAt}
use Rattle.measure_core.specs.Worths.{rank_or_none}
use Rattle.marked_lists.specs.declared.more_lists.More.{More}
use Rattle.measure_core.proofs.Placed.{weaker_places}
use Rattle.measure_core.proofs.Pushing.{open_picked}

-- ---- the places of one ranking
-- what is left of a list from a document on
pub record AreFrom (whole : List Placed) (doc i : ℕ) : Type 0 where
  pub begins : BeginsAt doc (drop i whole)
  pub same : (d : ℕ) → doc ≤ d → lookup (drop i whole) d ≡ lookup whole d

pub from_start : (whole : List Placed) → AreFrom whole 0 0
from_start whole = record { begins = every whole; same = λ d h. refl }
  where
    every : (ps : List Placed) → BeginsAt 0 ps
    every [] = tt
    every (p ∷ ps) = (omega arith, every ps)

later : (m n : ℕ) → m ≤ n → nat_eq n m ≡ false → m < n
later m n h e = grind (arith, nat_tests)

none_rank : (r : ℕ) → rank_or_none r ≡ None → nat_lt 0 r ≡ false
none_rank zero e = grind (arith, nat_tests)
none_rank (suc r) e = absurd (cc)

some_rank : (r x : ℕ) → rank_or_none r ≡ Some x → nat_lt 0 r ≡ true
some_rank zero x e = absurd (cc)
some_rank (suc r) x e = grind (arith, nat_tests)

-- the list that is left after a document
pub record IsNext (doc n : ℕ) (ps : List Placed) : Type 0 where
  pub begins : BeginsAt (doc + 1) (drop n ps)
  pub same : (d : ℕ) → doc + 1 ≤ d → lookup (drop n ps) d ≡ lookup ps d

next_left : (doc r : ℕ) (ps : List Placed) → IsAscending ps → BeginsAt doc ps → rank_or_none r ≡ lookup ps doc → IsNext doc (one_if (nat_lt 0 r)) ps
next_left doc r [] up from e = let none = none_rank r e in subst (λ b. IsNext doc (one_if b) []) (sym none) (record { begins = tt; same = λ d h. refl })
next_left doc r (p ∷ ps) up from e = at (nat_eq p.doc doc) refl
  where
    at : (b : Bool) → nat_eq p.doc doc ≡ b → IsNext doc (one_if (nat_lt 0 r)) (p ∷ ps)
    at true t =
        let is : p.doc ≡ doc = nat_eq-true p.doc doc t in
        let some : nat_lt 0 r ≡ true = some_rank r p.rank (e ∙ ap (λ (b : Bool). if b then Some p.rank else lookup ps doc) t) in
        subst (λ b. IsNext doc (one_if b) (p ∷ ps)) (sym some) (record {
          begins = weaker_places (λ q. p.doc < q.doc) (λ q. doc + 1 ≤ q.doc) (λ q lt. omega (arith, lt, is)) ps up.0;
          same = λ d h. sym (ap (λ (b : Bool). if b then Some p.rank else lookup ps d) (apart_below p.doc d (omega (arith, h, is))));
        })
    at false t =
        let lt : doc < p.doc = later doc p.doc from.0 t in
        let none : nat_lt 0 r ≡ false = none_rank r (e ∙ absent_below doc (p ∷ ps) (lt, further doc p.doc ps (omega (arith, lt)) up.0)) in
        subst (λ b. IsNext doc (one_if b) (p ∷ ps)) (sym none) (record {
          begins = (omega (arith, lt), weaker_places (λ q. p.doc < q.doc) (λ q. doc + 1 ≤ q.doc) (λ q h. omega (arith, lt, h)) ps up.0);
          same = λ d h. refl;
        })

dropped_twice : (i n : ℕ) (ps : List Placed) → drop n (drop i ps) ≡ drop (i + n) ps
dropped_twice zero n ps = let same : n ≡ 0 + n = omega arith in ap (λ m. drop m ps) same
dropped_twice (suc i) n [] = drop-nil n ∙ sym (drop-nil (suc i + n))
dropped_twice (suc i) n (p ∷ ps) = let same : suc (i + n) ≡ suc i + n = omega arith in dropped_twice i n ps ∙ ap (λ m. drop m (p ∷ ps)) same

pub from_next : (whole : List Placed) (doc i p r : ℕ) → IsAscending whole → AreFrom whole doc i → rank_or_none r ≡ lookup (drop i whole) doc → p ≡ i + one_if (nat_lt 0 r) → AreFrom whole (doc + 1) p
from_next whole doc i p r up h e f =
    let next = next_left doc r (drop i whole) (IsAscending-drop i whole up) h.begins e in
    let place : drop (one_if (nat_lt 0 r)) (drop i whole) ≡ drop p whole = dropped_twice i (one_if (nat_lt 0 r)) whole ∙ ap (λ m. drop m whole) (sym f) in
    record {
      begins = subst (BeginsAt (doc + 1)) place next.begins;
      same = λ d lt. sym (ap (λ ps. lookup ps d) place) ∙ next.same d lt ∙ h.same d (omega (arith, lt));
    }

-- the rank that is found there
pub found_by : (k r doc i : ℕ) (docs : List ℕ) (whole : List Placed) → AreFrom whole doc i → rank_or_none r ≡ lookup (drop i whole) doc → ((d : ℕ) → lookup whole d ≡ rank docs d) → is_by k (rank_or_none r) ≡ is_in (take k docs) doc
found_by k r doc i docs whole h e same = let here : doc ≤ doc = omega arith in ap (is_by k) (e ∙ h.same doc here ∙ same doc) ∙ sym (rank_by k doc docs)

-- ---- what is left of each class
pub some_left : (j n left : ℕ) → left ≡ j - n → nat_lt 0 left ≡ nat_lt n j
some_left j n left e = rw e (tested j n)
  where
    tested : (j n : ℕ) → nat_lt 0 (j - n) ≡ nat_lt n j
    tested j n = grind (arith, nat_tests)

-- after one more document
pub left_more : (class : ℕ → Bool) (place wanted left after : ℕ) (b : Bool) → left ≡ wanted - count_by class (range_with_len 0 place) → after ≡ left - (if b then 1 else 0) → b ≡ class place →
    after ≡ wanted - count_by class (range_with_len 0 (place + 1))
left_more class place wanted left after b e f g =
    let next : suc place ≡ place + 1 = omega arith in
    let counted : count_by class (range_with_len 0 (place + 1)) ≡ count_by class (range_with_len 0 place) + one_if (class place) = ap (λ n. count_by class (range_with_len 0 n)) (sym next) ∙ count_more class place in
    let here : one_if b ≡ one_if (class place) = ap one_if g in
    omega (arith, e, f, counted, here)

-- whether a document is listed by what is left of each class
abbrev pub listed_by : Bool → Bool → Bool → Bool → Bool → Bool
listed_by both first i j u = u && ((j && not i) || (((not (j && not i) && not (i && not j)) && both) || ((i && not j) && first)))

listed_open : (both first i j : Bool) (m : Mark) → listed_by both first i j (is_unjudged m) ≡
    (is_unjudged m && ((j && not i) || (((is_unjudged m && (not (j && not i) && not (i && not j))) && both) || ((is_unjudged m && (i && not j)) && first))))
listed_open both first i j Unjudged = refl
listed_open both first i j Relevant = refl
listed_open both first i j Other = refl

pub listed_is : (marks : List Mark) (a b : List ℕ) (k place : ℕ) (more left : More) (i j : Bool) → i ≡ is_in (take k a) place → j ≡ is_in (take k b) place →
    left.both ≡ more.both - count_by (open_in marks (neutral k a b)) (range_with_len 0 place) → left.first ≡ more.first - count_by (open_in marks (only_second k b a)) (range_with_len 0 place) →
    listed_by (nat_lt 0 left.both) (nat_lt 0 left.first) i j (is_unjudged (mark_at marks place)) ≡ (is_unjudged (mark_at marks place) && with_picked marks (own_and_more k more marks a b) place)
listed_is marks a b k place more left i j ei ej eb ef =
    let m = mark_at marks place in
    let n = nat_lt (count_by (open_in marks (neutral k a b)) (range_with_len 0 place)) more.both in
    let f = nat_lt (count_by (open_in marks (only_second k b a)) (range_with_len 0 place)) more.first in
    ap (λ x. listed_by x (nat_lt 0 left.first) i j (is_unjudged m)) (some_left more.both _ left.both eb) ∙ ap (λ x. listed_by n x i j (is_unjudged m)) (some_left more.first _ left.first ef)
    ∙ ap (λ x. listed_by n f x j (is_unjudged m)) ei ∙ ap (λ x. listed_by n f (is_in (take k a) place) x (is_unjudged m)) ej ∙ listed_open n f (is_in (take k a) place) (is_in (take k b) place) m ∙ sym (open_picked (own_and_more k more marks a b place) m)

pub class_both : (i j p q u : Bool) → i ≡ p → j ≡ q → (u && (not (j && not i) && not (i && not j))) ≡ (u && (not (q && not p) && not (p && not q)))
class_both i j p q u e f = rw (e, f) refl

pub class_first : (i j p q u : Bool) → i ≡ p → j ≡ q → (u && (i && not j)) ≡ (u && (p && not q))
class_first i j p q u e f = rw (e, f) refl

-- ---- what the walk asks of a place
pub absent_at : (doc i : ℕ) (whole : List Placed) (o : Placed) → IsAscending whole → BeginsAt doc (drop i whole) → i < length whole → ((slice_index_or whole i o).doc ≡ doc → ⊥) → lookup (drop i whole) doc ≡ None
absent_at doc i whole o up from lt ne =
    let p = slice_index_or whole i o in
    let ps = drop (suc i) whole in
    let here = drop-cons whole i o lt in
    let rises : IsAscending (p ∷ ps) = subst IsAscending here (IsAscending-drop i whole up) in
    let begins : BeginsAt doc (p ∷ ps) = subst (BeginsAt doc) here from in
    let first : doc < p.doc = grind (arith, begins.0, ne) in
    ap (λ qs. lookup qs doc) here ∙ absent_below doc (p ∷ ps) (first, further doc p.doc ps (omega (arith, first)) rises.0)

pub next_within : (doc i r : ℕ) (whole : List Placed) → i ≤ length whole → rank_or_none r ≡ lookup (drop i whole) doc → i + one_if (nat_lt 0 r) ≤ length whole
next_within doc i r whole in_range e = at (before_end i (length whole) in_range)
  where
    before_end : (m n : ℕ) → m ≤ n → (m < n) ⊎ (n ≤ m)
    before_end m n h = grind arith

    at : (i < length whole) ⊎ (length whole ≤ i) → i + one_if (nat_lt 0 r) ≤ length whole
    at (inl lt) = omega (arith, lt, one_at_most (nat_lt 0 r))
    at (inr end) =
        let none : nat_lt 0 r ≡ false = none_rank r (e ∙ ap (λ qs. lookup qs doc) (drop_all i whole end)) in
        let here : one_if (nat_lt 0 r) ≡ 0 = ap one_if none in
        omega (arith, in_range, here)

-- ---- where none of the others is left to be listed
pub size_more : (class : ℕ → Bool) (doc n : ℕ) → doc ≤ n → size_of doc class ≤ size_of n class
size_more class doc zero h = let same : doc ≡ 0 = omega arith in subst (λ m. size_of m class ≤ size_of 0 class) (sym same) (omega arith)
size_more class doc (suc n) h = at (last doc n h) (λ le. size_more class doc n le)
  where
    last : (m n : ℕ) → m ≤ suc n → (m ≤ n) ⊎ (m ≡ suc n)
    last m n h = grind arith

    at : (doc ≤ n) ⊎ (doc ≡ suc n) → (doc ≤ n → size_of doc class ≤ size_of n class) → size_of doc class ≤ size_of (suc n) class
    at (inl le) shorter = omega (arith, shorter le, count_more class n)
    at (inr same) shorter = subst (λ m. size_of m class ≤ size_of (suc n) class) (sym same) (omega arith)

none_past : (class : ℕ → Bool) (wanted left doc d : ℕ) → nat_lt 0 left ≡ false → left ≡ wanted - size_of doc class → doc ≤ d → is_among_first wanted class d ≡ false
none_past class wanted left doc d none e lt = ap (λ b. class d && b) (over (size_of d class) (omega (arith, zero_left left none, e, size_more class doc d lt))) ∙ and-false (class d)
  where
    zero_left : (m : ℕ) → nat_lt 0 m ≡ false → m ≡ 0
    zero_left m h = grind (arith, nat_tests)

    over : (m : ℕ) → wanted ≤ m → nat_lt m wanted ≡ false
    over m h = grind (arith, nat_tests)

none_more : (t : Bool) → (t || (false || false)) ≡ t
none_more true = refl
none_more false = refl

pub left_own : (marks : List Mark) (a b : List ℕ) (k doc n d : ℕ) (more left : More) (x y : Option ℕ) → (n ≤ doc) ⊎ ((nat_lt 0 left.both || nat_lt 0 left.first) ≡ false) →
    left.both ≡ more.both - count_by (open_in marks (neutral k a b)) (range_with_len 0 doc) → left.first ≡ more.first - count_by (open_in marks (only_second k b a)) (range_with_len 0 doc) → doc ≤ d → d < doc + (n - doc) → x ≡ rank a d → y ≡ rank b d →
    (is_unjudged (mark_at marks d) && with_picked marks (own_and_more k more marks a b) d) ≡ (is_unjudged (mark_at marks d) && (is_by k y && not (is_by k x)))
left_own marks a b k doc n d more left x y (inl end) eb ef lo hi ex ey = absurd (omega (arith, end, lo, hi))
left_own marks a b k doc n d more left x y (inr none) eb ef lo hi ex ey =
    let both = neither (nat_lt 0 left.both) (nat_lt 0 left.first) none in
    let s = only_second k a b d in
    let own : own_and_more k more marks a b d ≡ s =
    ap (λ t. s || (t || is_among_first more.first (open_in marks (only_second k b a)) d)) (none_past (open_in marks (neutral k a b)) more.both left.both doc d both.0 eb lo)
    ∙ ap (λ t. s || (false || t)) (none_past (open_in marks (only_second k b a)) more.first left.first doc d both.1 ef lo) ∙ none_more s in
    open_picked (own_and_more k more marks a b d) (mark_at marks d) ∙ ap (λ t. is_unjudged (mark_at marks d) && t)
    (own ∙ ap (λ t. t && not (is_in (take k a) d)) (rank_by k d b ∙ ap (is_by k) (sym ey)) ∙ ap (λ t. is_by k y && not t) (rank_by k d a ∙ ap (is_by k) (sym ex)))
