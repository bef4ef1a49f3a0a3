-- One pass over the documents of a run, by their places.
use Rattle.std.proofs.Common.{◌≡◌, ◌≢◌, ℕ, zero, suc, ◌+◌, ◌<◌, ◌≤◌, Bool, true, false, cond, nat_eq, List, [], ◌∷◌, map, drop, length, get_or, Option, Some, None, ℤ, pos, ◌+ℤ◌, arith, refl, ap, ◌∙◌, sym, subst}
use Rattle.std.specs.Prelude.{◌&&◌, ◌||◌}
use Rattle.std.specs.List.{IsDistinct, position_from, range_with_len}
use Rattle.std.proofs.Math.Seq.{drop-cons}
use Rattle.std.proofs.lemmas.Bool.{eq-eqb}
use Rattle.std.proofs.lemmas.Int.{ints}
use Rattle.std.proofs.lemmas.List.{drop_all}
use Rattle.std.proofs.lemmas.Map.Keys.{IsDistinct-head, IsDistinct-tail}
use Rattle.desk_model.specs.Mark.{mark_at}
use Rattle.desk_model.specs.Ranking.{IsRanking, is_in, rank}
use Rattle.desk_model.specs.Verdict.{whole_sum}
use Rattle.desk_model.specs.declared.types.Mark.{Mark}
use Rattle.desk_model.specs.declared.types.Mark.TheVariants.{Unjudged, Relevant, Other}
use Rattle.desk_model.proofs.Counts.{nat_eq-true, not_in}
use Rattle.measure_laws.specs.Ranks.{IsRankWithin}
use Rattle.measure_laws.proofs.Ranks.{rank_within}
use Rattle.measure_core.specs.Bits.{may_be_relevant}
use Rattle.rbp.specs.Walk.{correction}
use Rattle.rbp.proofs.Walk.{IsCommon, apart_once, nothing_from}
use Rattle.measure_core.specs.Worths.{rank_or_none}

-- a document that a list lacks has no place in it
unplaced : (docs : List ℕ) (doc s : ℕ) → is_in docs doc ≡ false → position_from (λ each. nat_eq each doc) s docs ≡ None
unplaced [] doc s h = refl
unplaced (d ∷ docs) doc s h = at (nat_eq d doc) refl (unplaced docs doc (s + 1))
  where
    at : (b : Bool) → nat_eq d doc ≡ b → (is_in docs doc ≡ false → position_from (λ each. nat_eq each doc) (s + 1) docs ≡ None) → cond (nat_eq d doc) (Some s) (position_from (λ each. nat_eq each doc) (s + 1) docs) ≡ None
    at true e later = let bad : (true || is_in docs doc) ≡ false = rw e at h in absurd (cc)
    at false e later = rw e (later (rw e at h))

-- what the documents of a list add, the first of them at a rank
abbrev pub from_rank : (Mark → Option ℕ → Option ℕ → ℤ) → List Mark → List ℕ → ℕ → List ℕ → ℤ
from_rank f marks a s docs = whole_sum (map (λ d. f (mark_at marks d) (rank a d) (position_from (λ each. nat_eq each d) s docs)) (range_with_len 0 (length marks)))

first_step : (f : Mark → Option ℕ → Option ℕ → ℤ) (marks : List Mark) (a : List ℕ) (s d : ℕ) (docs : List ℕ) → IsCommon f → d < length marks → is_in docs d ≡ false →
    from_rank f marks a s (d ∷ docs) ≡ f (mark_at marks d) (rank a d) (Some s) +ℤ from_rank f marks a (s + 1) docs
first_step f marks a s d docs h within absent =
    let gone : f (mark_at marks d) (rank a d) (position_from (λ each. nat_eq each d) (s + 1) docs) ≡ pos 0 = ap (f (mark_at marks d) (rank a d)) (unplaced docs d (s + 1) absent) ∙ h.second (mark_at marks d) (rank a d) in
    let here : f (mark_at marks d) (rank a d) (position_from (λ each. nat_eq each d) s (d ∷ docs)) ≡ f (mark_at marks d) (rank a d) (Some s) =
    ap (λ (b : Bool). f (mark_at marks d) (rank a d) (cond b (Some s) (position_from (λ each. nat_eq each d) (s + 1) docs))) (eq-eqb d d refl) in
    apart_once (λ e. f (mark_at marks e) (rank a e) (position_from (λ each. nat_eq each e) s (d ∷ docs))) (λ e. f (mark_at marks e) (rank a e) (position_from (λ each. nat_eq each e) (s + 1) docs)) d 0 (length marks) (omega arith) (omega (arith, within))
    (λ e ne. at e ne (nat_eq d e) refl) gone
    ∙ ap (λ z. z +ℤ from_rank f marks a (s + 1) docs) here
  where
    at : (e : ℕ) → e ≢ d → (b : Bool) → nat_eq d e ≡ b → f (mark_at marks e) (rank a e) (position_from (λ each. nat_eq each e) s (d ∷ docs)) ≡ f (mark_at marks e) (rank a e) (position_from (λ each. nat_eq each e) (s + 1) docs)
    at e ne true t = absurd (ne (sym (nat_eq-true d e t)))
    at e ne false t = ap (λ (b : Bool). f (mark_at marks e) (rank a e) (cond b (Some s) (position_from (λ each. nat_eq each e) (s + 1) docs))) t

not_again : (docs : List ℕ) (i : ℕ) → IsDistinct nat_eq docs → i < length docs → is_in (drop (suc i) docs) (get_or docs i 0) ≡ false
not_again [] i h lt = absurd (omega arith)
not_again (d ∷ docs) zero h lt = not_in d docs (IsDistinct-head nat_eq d docs h)
not_again (d ∷ docs) (suc i) h lt = not_again docs i (IsDistinct-tail nat_eq d docs h) (omega arith)

-- one document more, at its place
pub place_step : (f : Mark → Option ℕ → Option ℕ → ℤ) (marks : List Mark) (a b : List ℕ) (i d : ℕ) (more total new whole : ℤ) → IsCommon f → IsRanking (length marks) b → i < length b → d ≡ get_or b i 0 →
    more ≡ f (mark_at marks d) (rank a d) (Some (i + 1)) → new ≡ total +ℤ more → total +ℤ from_rank f marks a (i + 1) (drop i b) ≡ whole → new +ℤ from_rank f marks a (i + 1 + 1) (drop (i + 1) b) ≡ whole
place_step f marks a b i d more total new whole h ranking lt is em en e =
    let here = get_or b i 0 in
    let next : suc i ≡ i + 1 = omega arith in
    let step : from_rank f marks a (i + 1) (drop i b) ≡ f (mark_at marks here) (rank a here) (Some (i + 1)) +ℤ from_rank f marks a (i + 1 + 1) (drop (i + 1) b) =
    ap (from_rank f marks a (i + 1)) (drop-cons b i 0 lt) ∙ first_step f marks a (i + 1) here (drop (suc i) b) h (ranking.within i 0 lt) (not_again b i ranking.distinct lt)
    ∙ ap (λ n. f (mark_at marks here) (rank a here) (Some (i + 1)) +ℤ from_rank f marks a (i + 1 + 1) (drop n b)) next in
    let same : more ≡ f (mark_at marks here) (rank a here) (Some (i + 1)) = em ∙ ap (λ n. f (mark_at marks n) (rank a n) (Some (i + 1))) is in
    omega (arith, ints, step, same, en, e)

-- and at the end none is left
pub places_end : (f : Mark → Option ℕ → Option ℕ → ℤ) (marks : List Mark) (a b : List ℕ) (i : ℕ) (total whole : ℤ) → IsCommon f → length b ≤ i → total +ℤ from_rank f marks a (i + 1) (drop i b) ≡ whole → total ≡ whole
places_end f marks a b i total whole h le e =
    let none : from_rank f marks a (i + 1) (drop i b) ≡ pos 0 = ap (from_rank f marks a (i + 1)) (drop_all i b le) ∙ nothing_from _ 0 (length marks) (λ d. h.second (mark_at marks d) (rank a d)) in
    omega (arith, ints, none, e)

rank_small : (x n : ℕ) → IsRankWithin n (rank_or_none x) → x ≤ n
rank_small zero n h = omega arith
rank_small (suc x) n h = omega (arith, h.1)

pub kept_rank_small : (a : List ℕ) (d x : ℕ) → length a ≤ 10000 → rank_or_none x ≡ rank a d → x ≤ 10000
kept_rank_small a d x short e = rank_small x 10000 (subst (IsRankWithin 10000) (sym e) (rank_within a 10000 d short))

-- ---- the bits of the first run's documents
is_other : (mark : Mark) → may_be_relevant mark ≡ false → mark ≡ Other
is_other Unjudged h = absurd (cc)
is_other Relevant h = absurd (cc)
is_other Other h = refl

-- a document without a bit adds nothing
pub uncounted_adds : (share : Option ℕ → Option ℕ → ℤ) (picked : Option ℕ → Option ℕ → Bool) (marks : List Mark) (a : List ℕ) (d y : ℕ) → IsCommon (correction share picked) → (is_in a d && may_be_relevant (mark_at marks d)) ≡ false →
    pos 0 ≡ correction share picked (mark_at marks d) (rank a d) (Some y)
uncounted_adds share picked marks a d y h unset = at (is_in a d) refl
  where
    adds : Mark → Option ℕ → ℤ
    adds m o = correction share picked m o (Some y)

    by_rank : (o : Option ℕ) → pos 0 ≡ adds Other o
    by_rank None = sym (h.first Other (Some y))
    by_rank (Some x) = refl

    at : (b : Bool) → is_in a d ≡ b → pos 0 ≡ adds (mark_at marks d) (rank a d)
    at true f =
        let mark : mark_at marks d ≡ Other = is_other (mark_at marks d) (ap (λ (c : Bool). c && may_be_relevant (mark_at marks d)) (sym f) ∙ unset) in
        by_rank (rank a d) ∙ ap (λ m. adds m (rank a d)) (sym mark)
    at false f = sym (h.first (mark_at marks d) (Some y)) ∙ ap (adds (mark_at marks d)) (sym (unplaced a d 1 f))
