-- Marks under two depths, and judgements under one.
use Rattle.std.proofs.Common.{◌≡◌, ℕ, zero, suc, ◌≤◌, Bool, true, false, ◌||◌, nat_eq, List, [], ◌∷◌, get_or, set, take, slice_get, Option, Some, None, refl, ap, sym, subst, ◌∙◌, arith}
use Rattle.std.specs.List.{list_any}
use Rattle.desk_model.specs.Desk.{Desk, is_pooled}
use Rattle.desk_model.specs.Ranking.{is_in}
use Rattle.desk_model.specs.declared.types.Mark.{Mark}
use Rattle.desk_model.specs.declared.types.Mark.TheVariants.{Unjudged, Relevant, Other}
use Rattle.desk_model.specs.Closing.{closed, closed_topic, closed_under, is_within, IsNoDeeper}
use Rattle.desk_model.proofs.Closing.{set-closed}
use Rattle.desk_model.proofs.Numbered.{numbered-zipped, zipped-numbered}
use Rattle.measure_laws.specs.Refinement.{MayBecome, AreRefinedBy}
use Rattle.pair_table.specs.Refined.{AreAllRefinedBy}

-- ---- a smaller depth closes more
becomes_itself : (m : Mark) → MayBecome m m
becomes_itself Unjudged = tt
becomes_itself Relevant = refl
becomes_itself Other = refl

row_stays : (ms : List Mark) → AreRefinedBy ms ms
row_stays [] = tt
row_stays (m ∷ ms) = (becomes_itself m, row_stays ms)

rows_stay : (all : List (List Mark)) → AreAllRefinedBy all all
rows_stay [] = tt
rows_stay (ms ∷ all) = (row_stays ms, rows_stay all)

becomes_closed : (m : Mark) → MayBecome m (closed false m)
becomes_closed Unjudged = tt
becomes_closed Relevant = refl
becomes_closed Other = refl

closes_more : (p q : Bool) (m : Mark) → (q ≡ true → p ≡ true) → MayBecome (closed p m) (closed q m)
closes_more true true m h = becomes_itself m
closes_more true false m h = becomes_closed m
closes_more false false m h = becomes_itself (closed false m)
closes_more false true m h = let no = h refl in absurd (cc)

in_more : (docs : List ℕ) (d e doc : ℕ) → d ≤ e → is_in (take d docs) doc ≡ true → is_in (take e docs) doc ≡ true
in_more docs zero e doc le h = absurd (cc)
in_more [] (suc d) e doc le h = absurd (cc)
in_more (x ∷ docs) (suc d) zero doc le h = absurd (omega (arith, le))
in_more (x ∷ docs) (suc d) (suc e) doc le h = go (nat_eq x doc) refl (in_more docs d e doc (omega (arith, le)))
  where
    go : (b : Bool) → nat_eq x doc ≡ b → (is_in (take d docs) doc ≡ true → is_in (take e docs) doc ≡ true) → (nat_eq x doc || is_in (take e docs) doc) ≡ true
    go true is later = ap (λ b. b || is_in (take e docs) doc) is
    go false is later = ap (λ b. b || is_in (take e docs) doc) is ∙ later (rw is at h)

pooled_more : (rankings : List (List (List ℕ))) (topic d e doc : ℕ) → d ≤ e → list_any (λ rs. is_in (take d (get_or rs topic [])) doc) rankings ≡ true → list_any (λ rs. is_in (take e (get_or rs topic [])) doc) rankings ≡ true
pooled_more [] topic d e doc le h = absurd (cc)
pooled_more (r ∷ rs) topic d e doc le h = go (is_in (take d (get_or r topic [])) doc) refl (in_more (get_or r topic []) d e doc le) (pooled_more rs topic d e doc le)
  where
    rest : Bool
    rest = list_any (λ each. is_in (take e (get_or each topic [])) doc) rs

    go : (b : Bool) → is_in (take d (get_or r topic [])) doc ≡ b → (is_in (take d (get_or r topic [])) doc ≡ true → is_in (take e (get_or r topic [])) doc ≡ true) →
        (list_any (λ each. is_in (take d (get_or each topic [])) doc) rs ≡ true → rest ≡ true) → (is_in (take e (get_or r topic [])) doc || rest) ≡ true
    go true is here later = ap (λ b. b || rest) (here is)
    go false is here later = or_true (is_in (take e (get_or r topic [])) doc) rest (later (rw is at h))
      where
        or_true : (a b : Bool) → b ≡ true → (a || b) ≡ true
        or_true true b k = refl
        or_true false b k = k

pub refines : (desk : Desk) (marks : List (List Mark)) (deep depth : Option ℕ) → IsNoDeeper depth deep → AreAllRefinedBy (closed_under desk deep marks) (closed_under desk depth marks)
refines desk marks None None h = rows_stay marks
refines desk marks None (Some depth) h =
    zipped-numbered AreRefinedBy (λ t ms. closed_topic (is_pooled desk t depth) ms) 0 marks (λ t ms.
    zipped-numbered MayBecome (λ d m. closed (is_pooled desk t depth d) m) 0 ms (λ d m. closes_more true (is_pooled desk t depth d) m (λ k. refl)))
refines desk marks (Some deep) None h = absurd h
refines desk marks (Some deep) (Some depth) h =
    numbered-zipped AreRefinedBy (λ t ms. closed_topic (is_pooled desk t deep) ms) (λ t ms. closed_topic (is_pooled desk t depth) ms) 0 marks (λ t ms.
    numbered-zipped MayBecome (λ d m. closed (is_pooled desk t deep d) m) (λ d m. closed (is_pooled desk t depth d) m) 0 ms (λ d m.
    closes_more (is_pooled desk t deep d) (is_pooled desk t depth d) m (pooled_more desk.rankings t depth deep d h)))

-- ---- one unjudged mark becomes any
one_becomes : (ms : List Mark) (doc : ℕ) (mark : Mark) → slice_get ms doc ≡ Some Unjudged → AreRefinedBy ms (set ms doc mark)
one_becomes [] doc mark e = tt
one_becomes (m ∷ ms) zero mark e = let was : Unjudged ≡ m = cc in (subst (λ x. MayBecome x mark) was tt, row_stays ms)
one_becomes (m ∷ ms) (suc doc) mark e = (becomes_itself m, one_becomes ms doc mark e)

one_row_becomes : (all : List (List Mark)) (topic doc : ℕ) (mark : Mark) → slice_get (get_or all topic []) doc ≡ Some Unjudged → AreAllRefinedBy all (set all topic (set (get_or all topic []) doc mark))
one_row_becomes [] topic doc mark e = tt
one_row_becomes (ms ∷ all) zero doc mark e = (one_becomes ms doc mark e, rows_stay all)
one_row_becomes (ms ∷ all) (suc topic) doc mark e = (row_stays ms, one_row_becomes all topic doc mark e)

pub open_refines : (desk : Desk) (depth : Option ℕ) (marks : List (List Mark)) (topic doc : ℕ) (mark : Mark) → slice_get (get_or (closed_under desk depth marks) topic []) doc ≡ Some Unjudged →
    AreAllRefinedBy (closed_under desk depth marks) (closed_under desk depth (set marks topic (set (get_or marks topic []) doc mark)))
open_refines desk depth marks topic doc mark e =
    subst (AreAllRefinedBy (closed_under desk depth marks)) (sym (set-closed desk depth marks topic doc mark)) (one_row_becomes (closed_under desk depth marks) topic doc (closed (is_within desk depth topic doc) mark) e)
