-- Counts of documents that grow by those of lists.
use Rattle.std.proofs.Common.{◌≡◌, ◌≢◌, ℕ, zero, suc, ◌+◌, ◌-◌, ◌*◌, ◌<◌, ◌≤◌, nat_eq, nat_lt, ◌&&◌, Bool, true, false, cond, List, [], ◌∷◌, ◌++◌, length, get_or, set, slice_index_or, take, drop, Some, refl, not, ap, ap₂, sym, ◌∙◌, arith}
use Rattle.std.specs.Prelude.{filter}
use Rattle.std.specs.List.{AllByRecursion, range_with_len}
use Rattle.std.proofs.Math.Seq.{drop-cons}
use Rattle.std.proofs.lemmas.Bool.Decides.{nat_tests}
use Rattle.std.proofs.lemmas.Grind.{get_or-set_at}
use Rattle.std.proofs.lemmas.List.{get_or-set_other}
use Rattle.std.proofs.lemmas.List.FromFn.{length-range_with_len}
use Rattle.std.proofs.lemmas.List.Sums.{count_by-le-length, length-filter, sum_by-append, sum_by-cons}
use Rattle.desk_model.specs.Completion.{with_picked}
use Rattle.desk_model.specs.Limits.{RANK_LIMIT}
use Rattle.desk_model.specs.Mark.{is_unjudged, mark_at}
use Rattle.desk_model.specs.declared.placed.Placed.{Placed}
use Rattle.desk_model.specs.declared.types.Mark.{Mark}
use Rattle.measure_laws.specs.Ranks.{IsRankWithin}
use Rattle.measure_laws.specs.Prefixes.{only_second}
use Rattle.topic_counts.proofs.Prefixes.{rank_by}
use Rattle.measure_core.specs.Lists.{added_documents, own_documents, passes_by_ranks, placed_documents, times, AreCounted, HaveRoomFor}
use Rattle.measure_core.specs.OneSide.{is_by}
use Rattle.measure_core.specs.Worths.{rank_or_none}
use Rattle.measure_core.proofs.Pushing.{picked_same}
use Rattle.measure_core.proofs.Placed.{placed_step}

-- ---- how often a document stands in lists
pub times-cons : (x : ℕ) (docs : List ℕ) (d : ℕ) → times (x ∷ docs) d ≡ cond (nat_eq x d) 1 0 + times docs d
times-cons x docs d = sum_by-cons (λ each. cond (nat_eq each d) 1 0) x docs

pub times-append : (xs ys : List ℕ) (d : ℕ) → times (xs ++ ys) d ≡ times xs d + times ys d
times-append xs ys d = sum_by-append (λ each. cond (nat_eq each d) 1 0) xs ys

-- ---- one document more
-- a count that is raised
pub raised : (counts : List ℕ) (x more d : ℕ) → x < length counts → get_or (set counts x (get_or counts x 0 + more)) d 0 ≡ get_or counts d 0 + more * cond (nat_eq x d) 1 0
raised counts x more d within = go (nat_eq x d) refl
  where
    go : (b : Bool) → nat_eq x d ≡ b → get_or (set counts x (get_or counts x 0 + more)) d 0 ≡ get_or counts d 0 + more * cond (nat_eq x d) 1 0
    go true is =
        let same : d ≡ x = grind (arith, nat_tests) in
        let one : cond (nat_eq x d) 1 0 ≡ 1 = ap (λ (b : Bool). cond b 1 0) is in
        let whole : more * cond (nat_eq x d) 1 0 ≡ more = ap (λ n. more * n) one ∙ omega arith in
        omega (arith, whole, get_or-set_at counts x d (get_or counts x 0 + more) 0 same within, ap (λ k. get_or counts k 0) same)
    go false is =
        let apart : d ≢ x = grind (arith, nat_tests) in
        let none : more * cond (nat_eq x d) 1 0 ≡ 0 = ap (λ (b : Bool). more * cond b 1 0) is ∙ omega arith in
        omega (arith, none, get_or-set_other counts x d (get_or counts x 0 + more) 0 apart)

-- a list that one document more begins, or none
pub times_step : (rest next : List ℕ) (x d : ℕ) (b : Bool) → rest ≡ cond b (x ∷ next) next → times rest d ≡ cond b 1 0 * cond (nat_eq x d) 1 0 + times next d
times_step rest next x d true e = ap (λ l. times l d) e ∙ times-cons x next d ∙ omega arith
times_step rest next x d false e = ap (λ l. times l d) e ∙ omega arith

pub length_step : (rest next : List ℕ) (x : ℕ) (b : Bool) → rest ≡ cond b (x ∷ next) next → length rest ≡ cond b 1 0 + length next
length_step rest next x true e = ap length e ∙ omega arith
length_step rest next x false e = ap length e ∙ omega arith

-- what is counted and what is left of two lists stay the same
pub both_counted : (counts low low_next high high_next : List ℕ) (x more d : ℕ) (b c : Bool) → x < length counts → low ≡ cond b (x ∷ low_next) low_next → high ≡ cond c (x ∷ high_next) high_next → more ≡ cond b 1 0 + cond c 1 0 →
    get_or (set counts x (get_or counts x 0 + more)) d 0 + (times low_next d + times high_next d) ≡ get_or counts d 0 + (times low d + times high d)
both_counted counts low low_next high high_next x more d b c within e f is =
    let split : more * cond (nat_eq x d) 1 0 ≡ cond b 1 0 * cond (nat_eq x d) 1 0 + cond c 1 0 * cond (nat_eq x d) 1 0 = ap (λ n. n * cond (nat_eq x d) 1 0) is ∙ parts (cond b 1 0) (cond c 1 0) (cond (nat_eq x d) 1 0) in
    omega (arith, split, raised counts x more d within, times_step low low_next x d b e, times_step high high_next x d c f)
  where
    parts : (m n k : ℕ) → (m + n) * k ≡ m * k + n * k
    parts m n k = omega arith

pub one_counted : (counts rest next : List ℕ) (x more d : ℕ) (b : Bool) → x < length counts → rest ≡ cond b (x ∷ next) next → more ≡ cond b 1 0 →
    get_or (set counts x (get_or counts x 0 + more)) d 0 + times next d ≡ get_or counts d 0 + times rest d
one_counted counts rest next x more d b within e is = omega (arith, both_counted counts rest next [] [] x more d b false within e refl (is ∙ omega arith))

-- a document that is to be counted is left
pub left_one : (rest next : List ℕ) (x : ℕ) (b : Bool) → rest ≡ cond b (x ∷ next) next → cond b 1 0 ≤ times rest x
left_one rest next x b e =
    let itself : nat_eq x x ≡ true = grind (arith, nat_tests) in
    let one : cond b 1 0 * cond (nat_eq x x) 1 0 ≡ cond b 1 0 = ap (λ (c : Bool). cond b 1 0 * cond c 1 0) itself ∙ omega arith in
    omega (arith, one, times_step rest next x x b e)

-- the places of a list of documents
pub list_step : (list : List ℕ) (i : ℕ) → i < length list → drop i list ≡ get_or list i 0 ∷ drop (i + 1) list
list_step list i lt = let next : suc i ≡ i + 1 = omega arith in drop-cons list i 0 lt ∙ ap (λ n. get_or list i 0 ∷ drop n list) next

-- ---- what lists have
chosen_below : (p : ℕ → Bool) (m a n : ℕ) → a + n ≤ m → AllByRecursion (λ d. d < m) (filter p (range_with_len a n))
chosen_below p m a zero le = tt
chosen_below p m a (suc n) le = go (p a) (chosen_below p m (a + 1) n (omega (arith, le)))
  where
    go : (b : Bool) → AllByRecursion (λ d. d < m) (filter p (range_with_len (a + 1) n)) → AllByRecursion (λ d. d < m) (cond b (a ∷ filter p (range_with_len (a + 1) n)) (filter p (range_with_len (a + 1) n)))
    go true rest = (omega (arith, le), rest)
    go false rest = rest

pub added_below : (marks : List Mark) (truth : ℕ → Bool) → AllByRecursion (λ d. d < length marks) (added_documents marks truth)
added_below marks truth = chosen_below (λ doc. is_unjudged (mark_at marks doc) && truth doc) (length marks) 0 (length marks) (omega arith)

pub added_few : (marks : List Mark) (truth : ℕ → Bool) → length (added_documents marks truth) ≤ length marks
added_few marks truth =
    let test : ℕ → Bool = λ doc. is_unjudged (mark_at marks doc) && truth doc in
    let all = range_with_len 0 (length marks) in
    omega (arith, length-filter test all, count_by-le-length test all, length-range_with_len 0 (length marks))

-- the documents that the second run alone has among its first k, by their ranks
pub own_by_ranks : (k : ℕ) (marks : List Mark) (a b : List ℕ) → added_documents marks (with_picked marks (passes_by_ranks (λ x y. is_by k y && not (is_by k x)) a b)) ≡ own_documents k marks a b
own_by_ranks k marks a b = picked_same marks (passes_by_ranks (λ x y. is_by k y && not (is_by k x)) a b) (only_second k a b) (λ doc lt unjudged. sym (ap₂ (λ p q. q && not p) (rank_by k doc a) (rank_by k doc b)))

-- ---- at most so many
pub take_step : (rest next : List ℕ) (x left fewer : ℕ) (t : Bool) → rest ≡ cond t (x ∷ next) next → fewer + cond (t && nat_lt 0 left) 1 0 ≡ left → take left rest ≡ cond (t && nat_lt 0 left) (x ∷ take fewer next) (take fewer next)
take_step rest next x left fewer false e f = ap (take left) e ∙ ap (λ n. take n next) (sym f ∙ omega arith)
take_step rest next x left fewer true e f = ap (take left) e ∙ at left (nat_lt 0 left) refl f
  where
    at : (m : ℕ) (b : Bool) → nat_lt 0 m ≡ b → fewer + cond b 1 0 ≡ m → take m (x ∷ next) ≡ cond b (x ∷ take fewer next) (take fewer next)
    at zero true is g =
        let under : 0 < 0 = grind (arith, nat_tests) in
        absurd (omega (arith, under))
    at zero false is g = let none : fewer ≡ 0 = omega (arith, g) in sym (ap (λ n. take n next) none)
    at (suc m) true is g = let same : fewer ≡ m = omega (arith, g) in sym (ap (λ n. x ∷ take n next) same)
    at (suc m) false is g =
        let over : suc m ≤ 0 = grind (arith, nat_tests) in
        absurd (omega (arith, over))

unit : (b : Bool) → b ≡ true → cond {A = ℕ} b 1 0 ≡ 1
unit b e = ap (λ (c : Bool). cond {A = ℕ} c 1 0) e

nothing : (b : Bool) → b ≡ false → cond {A = ℕ} b 1 0 ≡ 0
nothing b e = ap (λ (c : Bool). cond {A = ℕ} c 1 0) e

pub none_taken : (m : ℕ) → take {A = ℕ} m [] ≡ []
none_taken zero = refl
none_taken (suc m) = refl

pub few_left : (t b : Bool) (left more : ℕ) → b ≡ (t && nat_lt 0 left) → more ≡ cond b 1 0 → (left - more) + cond b 1 0 ≡ left
few_left t b left more e f = at t (nat_lt 0 left) refl e
  where
    at : (t u : Bool) → nat_lt 0 left ≡ u → b ≡ (t && u) → (left - more) + cond b 1 0 ≡ left
    at true true is g =
        let over : 0 < left = grind (arith, nat_tests) in
        let one : b ≡ true = g in
        omega (arith, f, unit b one, over)
    at true false is g = omega (arith, f, nothing b g)
    at false u is g = omega (arith, f, nothing b g)

-- the documents of places from one on, so many at most
pub placed_taken : (marks : List Mark) (test : Placed → Bool) (ps : List Placed) (i left fewer : ℕ) (o : Placed) (b : Bool) → i < length ps → let p = slice_index_or ps i o in b ≡ ((is_unjudged (mark_at marks p.doc) && test p) && nat_lt 0 left) → fewer + cond b 1 0 ≡ left →
    take left (placed_documents marks test (drop i ps)) ≡ cond b (p.doc ∷ take fewer (placed_documents marks test (drop (i + 1) ps))) (take fewer (placed_documents marks test (drop (i + 1) ps)))
placed_taken marks test ps i left fewer o b lt is few =
    let p = slice_index_or ps i o in
    let t = is_unjudged (mark_at marks p.doc) && test p in
    let next = placed_documents marks test (drop (i + 1) ps) in
    take_step (placed_documents marks test (drop i ps)) next p.doc left fewer t (placed_step marks test ps i o t lt refl) (ap (λ (c : Bool). fewer + cond c 1 0) (sym is) ∙ few)
    ∙ ap (λ (c : Bool). cond c (p.doc ∷ take fewer next) (take fewer next)) (sym is)

pub known_rank : (r : ℕ) → IsRankWithin RANK_LIMIT (Some r) → rank_or_none r ≡ Some r
known_rank zero h = absurd (omega (arith, h.0))
known_rank (suc r) h = refl

-- ---- one list counted after another
pub room_of_first : (counts xs ys : List ℕ) → HaveRoomFor counts (xs ++ ys) → HaveRoomFor counts xs
room_of_first counts xs ys room = λ doc lt. omega (arith, room doc lt, times-append xs ys doc)

pub room_of_second : (before after xs ys : List ℕ) → length after ≡ length before → HaveRoomFor before (xs ++ ys) → AreCounted before xs after → HaveRoomFor after ys
room_of_second before after xs ys size room counted = λ doc lt. let within : doc < length before = omega (arith, lt, size) in omega (arith, room doc within, counted doc within, times-append xs ys doc)

pub counted_after : (before between after xs ys : List ℕ) → length between ≡ length before → AreCounted before xs between → AreCounted between ys after → AreCounted before (xs ++ ys) after
counted_after before between after xs ys size first second = λ doc lt. omega (arith, first doc lt, second doc (omega (arith, lt, size)), times-append xs ys doc)
