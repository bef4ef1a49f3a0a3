-- Which places of a ranking are true, and how their ranks compare: of all choices of as many unjudged documents the first ones stand earliest, and
-- the last ones latest.
use Rattle.std.proofs.Common.{◌≡◌, ℕ, zero, suc, ◌+◌, ◌<◌, ◌≤◌, Bool, true, false, List, [], ◌∷◌, length, ap, refl, arith}
use Rattle.std.specs.List.{AllZip}
use Rattle.desk_model.specs.Completion.{Allows}
use Rattle.desk_model.specs.declared.types.Mark.{Mark}
use Rattle.desk_model.specs.declared.types.Mark.TheVariants.{Unjudged, Relevant, Other}
use Rattle.desk_model.specs.Precisions.{true_ranks}

-- ranks, from 1, that are no later than others, one by one
abbrev pub NoLater : List ℕ → List ℕ → Type 0
NoLater rs ss = AllZip (λ r s. (0 < r) × (r ≤ s)) rs ss

pub NoLater-refl : (n : ℕ) (gs : List Bool) → 0 < n → NoLater (true_ranks n gs) (true_ranks n gs)
NoLater-refl n [] p = tt
NoLater-refl n (true ∷ gs) p = ((p, omega arith), NoLater-refl (n + 1) gs (omega arith))
NoLater-refl n (false ∷ gs) p = NoLater-refl (n + 1) gs (omega arith)

pub NoLater-trans : (rs ss ts : List ℕ) → NoLater rs ss → NoLater ss ts → NoLater rs ts
NoLater-trans [] [] [] h k = tt
NoLater-trans [] [] (t ∷ ts) h k = absurd k
NoLater-trans [] (s ∷ ss) ts h k = absurd h
NoLater-trans (r ∷ rs) [] ts h k = absurd h
NoLater-trans (r ∷ rs) (s ∷ ss) [] h k = absurd k
NoLater-trans (r ∷ rs) (s ∷ ss) (t ∷ ts) h k = ((h.0.0, omega (arith, h.0.1, k.0.1)), NoLater-trans rs ss ts h.1 k.1)

pub NoLater-length : (rs ss : List ℕ) → NoLater rs ss → length rs ≡ length ss
NoLater-length [] [] h = refl
NoLater-length [] (s ∷ ss) h = absurd h
NoLater-length (r ∷ rs) [] h = absurd h
NoLater-length (r ∷ rs) (s ∷ ss) h = ap suc (NoLater-length rs ss h.1)

-- ---- truth values along a ranking, by the marks of its documents
-- how many of the documents are unjudged
abbrev pub opens : List Mark → ℕ
opens [] = 0
opens (Unjudged ∷ ms) = suc (opens ms)
opens (Relevant ∷ ms) = opens ms
opens (Other ∷ ms) = opens ms

-- how many unjudged ones are true, and how many false
abbrev pub taken : List Mark → List Bool → ℕ
taken [] gs = 0
taken (m ∷ ms) [] = 0
taken (Unjudged ∷ ms) (true ∷ gs) = suc (taken ms gs)
taken (Unjudged ∷ ms) (false ∷ gs) = taken ms gs
taken (Relevant ∷ ms) (g ∷ gs) = taken ms gs
taken (Other ∷ ms) (g ∷ gs) = taken ms gs

abbrev pub left : List Mark → List Bool → ℕ
left [] gs = 0
left (m ∷ ms) [] = 0
left (Unjudged ∷ ms) (true ∷ gs) = left ms gs
left (Unjudged ∷ ms) (false ∷ gs) = suc (left ms gs)
left (Relevant ∷ ms) (g ∷ gs) = left ms gs
left (Other ∷ ms) (g ∷ gs) = left ms gs

-- the first t unjudged ones are true
abbrev pub first_gains : List Mark → ℕ → List Bool
first_gains [] t = []
first_gains (Relevant ∷ ms) t = true ∷ first_gains ms t
first_gains (Other ∷ ms) t = false ∷ first_gains ms t
first_gains (Unjudged ∷ ms) zero = false ∷ first_gains ms zero
first_gains (Unjudged ∷ ms) (suc t) = true ∷ first_gains ms t

-- all unjudged ones but the first s are true
abbrev pub last_gains : List Mark → ℕ → List Bool
last_gains [] s = []
last_gains (Relevant ∷ ms) s = true ∷ last_gains ms s
last_gains (Other ∷ ms) s = false ∷ last_gains ms s
last_gains (Unjudged ∷ ms) zero = true ∷ last_gains ms zero
last_gains (Unjudged ∷ ms) (suc s) = false ∷ last_gains ms s

pub taken_few : (ms : List Mark) (gs : List Bool) → taken ms gs ≤ opens ms
taken_few [] gs = omega arith
taken_few (Unjudged ∷ ms) [] = omega arith
taken_few (Relevant ∷ ms) [] = omega arith
taken_few (Other ∷ ms) [] = omega arith
taken_few (Unjudged ∷ ms) (true ∷ gs) = omega (arith, taken_few ms gs)
taken_few (Unjudged ∷ ms) (false ∷ gs) = omega (arith, taken_few ms gs)
taken_few (Relevant ∷ ms) (g ∷ gs) = taken_few ms gs
taken_few (Other ∷ ms) (g ∷ gs) = taken_few ms gs

pub left_few : (ms : List Mark) (gs : List Bool) → left ms gs ≤ opens ms
left_few [] gs = omega arith
left_few (Unjudged ∷ ms) [] = omega arith
left_few (Relevant ∷ ms) [] = omega arith
left_few (Other ∷ ms) [] = omega arith
left_few (Unjudged ∷ ms) (true ∷ gs) = omega (arith, left_few ms gs)
left_few (Unjudged ∷ ms) (false ∷ gs) = omega (arith, left_few ms gs)
left_few (Relevant ∷ ms) (g ∷ gs) = left_few ms gs
left_few (Other ∷ ms) (g ∷ gs) = left_few ms gs

-- ---- the first ones stand earliest
-- one more document before those of the first t is no later than the first t + 1
one_before_first : (h n t : ℕ) (ms : List Mark) → 0 < h → h ≤ n → t < opens ms → NoLater (h ∷ true_ranks n (first_gains ms t)) (true_ranks n (first_gains ms (suc t)))
one_before_first h n t [] p le some = absurd (omega arith)
one_before_first h n t (Relevant ∷ ms) p le some = ((p, le), one_before_first n (n + 1) t ms (omega arith) (omega arith) some)
one_before_first h n t (Other ∷ ms) p le some = one_before_first h (n + 1) t ms p (omega arith) some
one_before_first h n zero (Unjudged ∷ ms) p le some = ((p, le), NoLater-refl (n + 1) (first_gains ms zero) (omega arith))
one_before_first h n (suc t) (Unjudged ∷ ms) p le some = ((p, le), one_before_first n (n + 1) t ms (omega arith) (omega arith) (omega (arith, some)))

first_before_skipped : (n t : ℕ) (ms : List Mark) → 0 < n → t ≤ opens ms → NoLater (true_ranks n (first_gains (Unjudged ∷ ms) t)) (true_ranks (n + 1) (first_gains ms t))
first_before_skipped n zero ms p few = NoLater-refl (n + 1) (first_gains ms zero) (omega arith)
first_before_skipped n (suc t) ms p few = one_before_first n (n + 1) t ms p (omega arith) (omega (arith, few))

pub first_is_earliest : (n : ℕ) (ms : List Mark) (gs : List Bool) → 0 < n → AllZip Allows ms gs → NoLater (true_ranks n (first_gains ms (taken ms gs))) (true_ranks n gs)
first_is_earliest n [] [] p h = tt
first_is_earliest n [] (g ∷ gs) p h = absurd h
first_is_earliest n (m ∷ ms) [] p h = absurd h
first_is_earliest n (Relevant ∷ ms) (true ∷ gs) p h = ((p, omega arith), first_is_earliest (n + 1) ms gs (omega arith) h.1)
first_is_earliest n (Relevant ∷ ms) (false ∷ gs) p h = let no : false ≡ true = h.0 in absurd (cc)
first_is_earliest n (Other ∷ ms) (true ∷ gs) p h = let no : true ≡ false = h.0 in absurd (cc)
first_is_earliest n (Other ∷ ms) (false ∷ gs) p h = first_is_earliest (n + 1) ms gs (omega arith) h.1
first_is_earliest n (Unjudged ∷ ms) (true ∷ gs) p h = ((p, omega arith), first_is_earliest (n + 1) ms gs (omega arith) h.1)
first_is_earliest n (Unjudged ∷ ms) (false ∷ gs) p h =
    NoLater-trans (true_ranks n (first_gains (Unjudged ∷ ms) (taken ms gs))) (true_ranks (n + 1) (first_gains ms (taken ms gs))) (true_ranks (n + 1) gs)
    (first_before_skipped n (taken ms gs) ms p (taken_few ms gs)) (first_is_earliest (n + 1) ms gs (omega arith) h.1)

-- ---- and the last ones latest
one_before_last : (h n s : ℕ) (ms : List Mark) → 0 < h → h ≤ n → s < opens ms → NoLater (h ∷ true_ranks n (last_gains ms (suc s))) (true_ranks n (last_gains ms s))
one_before_last h n s [] p le some = absurd (omega arith)
one_before_last h n s (Relevant ∷ ms) p le some = ((p, le), one_before_last n (n + 1) s ms (omega arith) (omega arith) some)
one_before_last h n s (Other ∷ ms) p le some = one_before_last h (n + 1) s ms p (omega arith) some
one_before_last h n zero (Unjudged ∷ ms) p le some = ((p, le), NoLater-refl (n + 1) (last_gains ms zero) (omega arith))
one_before_last h n (suc s) (Unjudged ∷ ms) p le some = one_before_last h (n + 1) s ms p (omega arith) (omega (arith, some))

taken_before_last : (n s : ℕ) (ms : List Mark) → 0 < n → s ≤ opens ms → NoLater (n ∷ true_ranks (n + 1) (last_gains ms s)) (true_ranks n (last_gains (Unjudged ∷ ms) s))
taken_before_last n zero ms p few = ((p, omega arith), NoLater-refl (n + 1) (last_gains ms zero) (omega arith))
taken_before_last n (suc s) ms p few = one_before_last n (n + 1) s ms p (omega arith) (omega (arith, few))

pub last_is_latest : (n : ℕ) (ms : List Mark) (gs : List Bool) → 0 < n → AllZip Allows ms gs → NoLater (true_ranks n gs) (true_ranks n (last_gains ms (left ms gs)))
last_is_latest n [] [] p h = tt
last_is_latest n [] (g ∷ gs) p h = absurd h
last_is_latest n (m ∷ ms) [] p h = absurd h
last_is_latest n (Relevant ∷ ms) (true ∷ gs) p h = ((p, omega arith), last_is_latest (n + 1) ms gs (omega arith) h.1)
last_is_latest n (Relevant ∷ ms) (false ∷ gs) p h = let no : false ≡ true = h.0 in absurd (cc)
last_is_latest n (Other ∷ ms) (true ∷ gs) p h = let no : true ≡ false = h.0 in absurd (cc)
last_is_latest n (Other ∷ ms) (false ∷ gs) p h = last_is_latest (n + 1) ms gs (omega arith) h.1
last_is_latest n (Unjudged ∷ ms) (false ∷ gs) p h = last_is_latest (n + 1) ms gs (omega arith) h.1
last_is_latest n (Unjudged ∷ ms) (true ∷ gs) p h =
    let rest : NoLater (true_ranks (n + 1) gs) (true_ranks (n + 1) (last_gains ms (left ms gs))) = last_is_latest (n + 1) ms gs (omega arith) h.1 in
    NoLater-trans (n ∷ true_ranks (n + 1) gs) (n ∷ true_ranks (n + 1) (last_gains ms (left ms gs))) (true_ranks n (last_gains (Unjudged ∷ ms) (left ms gs)))
    ((p, omega arith), rest) (taken_before_last n (left ms gs) ms p (left_few ms gs))
