-- A pass over a ranking's first documents: each is of the universe, and they are few.
use denote.Enum.Bare.{sameb}
use Rattle.std.proofs.Common.{◌≡◌, ℕ, ◌+◌, ◌<◌, ◌≤◌, Bool, true, false, List, [], take, length, get_or, set, replicate, count_by, arith, ap, refl, sym, subst, ◌∙◌, add-zero}
use Rattle.std.specs.Prelude.{◌&&◌, not}
use Rattle.std.proofs.lemmas.List.{length-take, take_all, get_or_default, get_or-replicate}
use Rattle.std.proofs.lemmas.List.Elements.{All-take}
use Rattle.std.proofs.lemmas.List.Sums.{sum_by_more}
use Rattle.desk_model.specs.Completion.{picked_value, with_picked}
use Rattle.desk_model.specs.Classes.{only_count}
use Rattle.desk_model.specs.Ranking.{IsRanking, is_in}
use Rattle.desk_model.specs.contracts.types.Mark.{the_type}
use Rattle.desk_model.proofs.Counts.{one_if}
use Rattle.desk_model.specs.declared.types.Mark.{Mark}
use Rattle.desk_model.specs.declared.types.Mark.TheVariants.{Unjudged, Relevant, Other}
use Rattle.topic_counts.specs.Seen.{AreMarksIn}
use Rattle.topic_counts.specs.declared.counts.Counts.{Counts}
use Rattle.topic_counts.proofs.Seen.{marks_more}

scanned : (k : ℕ) (items docs ranking : List ℕ) → items ≡ take k docs → docs ≡ ranking → items ≡ take k ranking
scanned k items docs ranking e f = e ∙ ap (take k) f

pub scan_known : (n k i : ℕ) (items docs ranking : List ℕ) → items ≡ take k docs → docs ≡ ranking → IsRanking n ranking → i < length items → get_or items i 0 < n
scan_known n k i items docs ranking e f h lt =
    let same : items ≡ take k ranking = scanned k items docs ranking e f in
    subst (λ (xs : List ℕ). get_or xs i 0 < n) (sym same) (All-take (λ (doc : ℕ). doc < n) k ranking h.within i 0 (subst (λ (xs : List ℕ). i < length xs) same lt))

pub scan_short : (n k : ℕ) (items docs ranking : List ℕ) → items ≡ take k docs → docs ≡ ranking → IsRanking n ranking → length items ≤ 10000
scan_short n k items docs ranking e f h = let short = h.short in omega (arith, short, ap length (scanned k items docs ranking e f), length-take k ranking)

-- the whole list, once no document is left
pub scan_done : (k i : ℕ) (items docs ranking : List ℕ) → items ≡ take k docs → docs ≡ ranking → length items ≤ i → take i items ≡ take k ranking
scan_done k i items docs ranking e f h = take_all i items h ∙ scanned k items docs ranking e f

-- ---- the marks of those documents alone
pub none_marked : (marks before seen : List Mark) → length marks ≤ length before → seen ≡ replicate (length before) Other → length seen ≡ length before → AreMarksIn [] marks seen
none_marked marks before seen room e long = record {
  long = subst (λ n. length marks ≤ n) (sym long) room;
  each = λ doc lt. ap (λ (ms : List Mark). get_or ms doc Unjudged) e ∙ get_or-replicate (length before) doc Other Unjudged (omega (arith, lt, room));
}

pub one_marked : (i : ℕ) (docs : List ℕ) (marks seen : List Mark) → i < length docs → get_or docs i 0 < length marks → AreMarksIn (take i docs) marks seen →
    AreMarksIn (take (i + 1) docs) marks (set seen (get_or docs i 0) (get_or marks (get_or docs i 0) Unjudged))
one_marked i docs marks seen lt known h =
    marks_more docs i (get_or docs i 0) (get_or marks (get_or docs i 0) Unjudged) marks seen lt (get_or_default docs i (get_or docs i 0) 0 lt) known refl h

-- ---- one document more among those that are counted
pub few_counted : (count i n : ℕ) → count ≤ i → i < n → n ≤ 10000 → count < 10000
few_counted count i n h lt short = omega arith

pub few_in_all : (count i n : ℕ) → count ≤ i → i ≤ n → n ≤ 10000 → count ≤ 10000
few_in_all count i n h le short = omega arith

pub one_counted : (taken : Bool) (marks : List Mark) (docs : List ℕ) (i count next : ℕ) → i < length docs → count ≡ count_by (with_picked marks (λ _. taken)) (take i docs) →
    next ≡ count + one_if (picked_value taken (get_or marks (get_or docs i 0) Unjudged)) → next ≡ count_by (with_picked marks (λ _. taken)) (take (i + 1) docs)
one_counted taken marks docs i count next lt h e =
    e ∙ ap (λ n. n + one_if (with_picked marks (λ _. taken) (get_or docs i 0))) h ∙ sym (sum_by_more (λ doc. one_if (with_picked marks (λ _. taken) doc)) docs i 0 lt)

one_if_few : (b : Bool) → one_if b ≤ 1
one_if_few true = omega arith
one_if_few false = omega arith

pub few_more : (taken : Bool) (marks : List Mark) (docs : List ℕ) (i count next : ℕ) → count ≤ i → next ≡ count + one_if (picked_value taken (get_or marks (get_or docs i 0) Unjudged)) → next ≤ i + 1
few_more taken marks docs i count next h e = omega (arith, one_if_few (picked_value taken (get_or marks (get_or docs i 0) Unjudged)))

-- ---- those that another's first documents do not have
pub record OwnUpTo (marks : List Mark) (docs others : List ℕ) (i : ℕ) (counts : Counts) : Type 0 where
  pub least : counts.relevant ≡ only_count false marks (take i docs) others
  pub most : counts.relevant + counts.unjudged ≡ only_count true marks (take i docs) others
  pub few : counts.relevant + counts.unjudged ≤ i

own_counted : (taken : Bool) (marks : List Mark) (docs others : List ℕ) (i count next more : ℕ) → i < length docs → count ≡ only_count taken marks (take i docs) others → next ≡ count + more →
    more ≡ one_if (picked_value taken (get_or marks (get_or docs i 0) Unjudged) && not (is_in others (get_or docs i 0))) → next ≡ only_count taken marks (take (i + 1) docs) others
own_counted taken marks docs others i count next more lt h e is =
    e ∙ ap (λ n. n + more) h ∙ ap (λ n. only_count taken marks (take i docs) others + n) is
    ∙ sym (sum_by_more (λ doc. one_if (with_picked marks (λ _. taken) doc && not (is_in others doc))) docs i 0 lt)

not_in_others : (p b : Bool) → b ≡ false → one_if p ≡ one_if (p && not b)
not_in_others true true e = absurd (cc)
not_in_others true false e = refl
not_in_others false b e = refl

in_others : (p b : Bool) → b ≡ true → 0 ≡ one_if (p && not b)
in_others true true e = refl
in_others true false e = absurd (cc)
in_others false b e = refl

never_counted : (taken b : Bool) (mark : Mark) → not (sameb the_type mark Other) ≡ false → 0 ≡ one_if (picked_value taken mark && not b)
never_counted taken b Unjudged e = absurd (cc)
never_counted taken b Relevant e = absurd (cc)
never_counted taken b Other e = refl

pub own_with : (marks : List Mark) (docs others : List ℕ) (i : ℕ) (before after : Counts) → i < length docs → OwnUpTo marks docs others i before → is_in others (get_or docs i 0) ≡ false →
    after.relevant ≡ before.relevant + one_if (picked_value false (get_or marks (get_or docs i 0) Unjudged)) →
    after.relevant + after.unjudged ≡ before.relevant + before.unjudged + one_if (picked_value true (get_or marks (get_or docs i 0) Unjudged)) → OwnUpTo marks docs others (i + 1) after
own_with marks docs others i before after lt h alone e f = record {
  least = own_counted false marks docs others i before.relevant after.relevant _ lt h.least e (not_in_others (picked_value false (get_or marks (get_or docs i 0) Unjudged)) (is_in others (get_or docs i 0)) alone);
  most = own_counted true marks docs others i (before.relevant + before.unjudged) (after.relevant + after.unjudged) _ lt h.most f (not_in_others (picked_value true (get_or marks (get_or docs i 0) Unjudged)) (is_in others (get_or docs i 0)) alone);
  few = few_more true marks docs i (before.relevant + before.unjudged) (after.relevant + after.unjudged) h.few f;
}

own_kept : (marks : List Mark) (docs others : List ℕ) (i : ℕ) (counts : Counts) → i < length docs → OwnUpTo marks docs others i counts →
    ((taken : Bool) → 0 ≡ one_if (picked_value taken (get_or marks (get_or docs i 0) Unjudged) && not (is_in others (get_or docs i 0)))) → OwnUpTo marks docs others (i + 1) counts
own_kept marks docs others i counts lt h none = record {
  least = own_counted false marks docs others i counts.relevant counts.relevant 0 lt h.least (sym (add-zero counts.relevant)) (none false);
  most = own_counted true marks docs others i (counts.relevant + counts.unjudged) (counts.relevant + counts.unjudged) 0 lt h.most (sym (add-zero (counts.relevant + counts.unjudged))) (none true);
  few = let few = h.few in omega arith;
}

pub own_shared : (marks : List Mark) (docs others : List ℕ) (i : ℕ) (counts : Counts) → i < length docs → OwnUpTo marks docs others i counts → is_in others (get_or docs i 0) ≡ true → OwnUpTo marks docs others (i + 1) counts
own_shared marks docs others i counts lt h shared = own_kept marks docs others i counts lt h (λ taken. in_others (picked_value taken (get_or marks (get_or docs i 0) Unjudged)) (is_in others (get_or docs i 0)) shared)

pub own_other : (marks : List Mark) (docs others : List ℕ) (i : ℕ) (counts : Counts) → i < length docs → OwnUpTo marks docs others i counts → not (sameb the_type (get_or marks (get_or docs i 0) Unjudged) Other) ≡ false → OwnUpTo marks docs others (i + 1) counts
own_other marks docs others i counts lt h other = own_kept marks docs others i counts lt h (λ taken. never_counted taken (is_in others (get_or docs i 0)) (get_or marks (get_or docs i 0) Unjudged) other)
