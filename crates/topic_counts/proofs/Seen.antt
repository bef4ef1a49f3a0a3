-- Marks of a ranking's first k documents alone, and what is counted by them.
use Rattle.std.proofs.Common.{◌≡◌, ◌≢◌, ℕ, ◌+◌, ◌<◌, ◌≤◌, Bool, true, false, nat_eq, ◌||◌, List, [], ◌∷◌, ◌++◌, take, length, get_or, set, arith, refl, ap, ◌∙◌, sym}
use Rattle.std.specs.Prelude.{◌&&◌, if◌then◌else◌}
use Rattle.std.specs.List.{AllByRecursion}
use Rattle.std.proofs.Math.Bool.{and-true}
use Rattle.std.proofs.lemmas.Bool.Decides.{nat_tests}
use Rattle.std.proofs.lemmas.List.{take_more, length-set, get_or-set_other}
use Rattle.std.proofs.lemmas.Grind.{get_or-set_at}
use Rattle.std.proofs.lemmas.List.Folds.{list_any-append}
use Rattle.desk_model.specs.Classes.{prefix_count}
use Rattle.desk_model.specs.Completion.{picked_value, with_picked}
use Rattle.desk_model.specs.Mark.{mark_at}
use Rattle.desk_model.specs.Ranking.{IsRanking, is_in}
use Rattle.desk_model.specs.declared.types.Mark.{Mark}
use Rattle.desk_model.specs.declared.types.Mark.TheVariants.{Unjudged, Other}
use Rattle.desk_model.proofs.Counts.{count_by-agree, nat_eq-true}
use Rattle.desk_model.proofs.PrecisionEnds.{prefix_within}
use Rattle.topic_counts.specs.Seen.{AreMarksIn}
use Rattle.topic_counts.specs.Own.{shared_count}
use Rattle.topic_counts.proofs.Own.{AreShared}
use Rattle.topic_counts.specs.declared.counts.Counts.{Counts}

-- ---- marking one document more
in_last : (x b : Bool) → b ≡ true → (x || (b || false)) ≡ true
in_last true b e = refl
in_last false true e = refl
in_last false false e = absurd (cc)

not_in_last : (x b : Bool) → b ≡ false → (x || (b || false)) ≡ x
not_in_last true b e = refl
not_in_last false true e = absurd (cc)
not_in_last false false e = refl

apart : (d doc : ℕ) → nat_eq d doc ≡ false → doc ≢ d
apart d doc e = grind (arith, nat_tests)

abbrev marked : Bool → List Mark → ℕ → Mark
marked b marks doc = if b then mark_at marks doc else Other

one_more : (docs : List ℕ) (i d : ℕ) → i < length docs → get_or docs i d ≡ d → (doc : ℕ) → is_in (take (i + 1) docs) doc ≡ (is_in (take i docs) doc || (nat_eq d doc || false))
one_more docs i d lt here doc =
    ap (λ (l : List ℕ). is_in l doc) (take_more docs i d lt ∙ ap (λ (x : ℕ). take i docs ++ x ∷ []) here) ∙ list_any-append (λ each. nat_eq each doc) (take i docs) (d ∷ [])

pub marks_more : (docs : List ℕ) (i d : ℕ) (mark : Mark) (marks seen : List Mark) → i < length docs → get_or docs i d ≡ d → d < length marks → mark ≡ mark_at marks d →
    AreMarksIn (take i docs) marks seen → AreMarksIn (take (i + 1) docs) marks (set seen d mark)
marks_more docs i d mark marks seen lt here known is h = record {
  long = omega (arith, h.long, length-set seen d mark);
  each = λ doc in_marks. at doc in_marks (nat_eq d doc) refl;
}
  where
    at : (doc : ℕ) → doc < length marks → (b : Bool) → nat_eq d doc ≡ b → mark_at (set seen d mark) doc ≡ marked (is_in (take (i + 1) docs) doc) marks doc
    at doc in_marks true e =
        let same : doc ≡ d = sym (nat_eq-true d doc e) in
        get_or-set_at seen d doc mark Unjudged same (omega (arith, h.long, known)) ∙ is ∙ ap (mark_at marks) (sym same)
        ∙ sym (ap (λ (x : Bool). marked x marks doc) (one_more docs i d lt here doc ∙ in_last (is_in (take i docs) doc) (nat_eq d doc) e))
    at doc in_marks false e =
        get_or-set_other seen d doc mark Unjudged (apart d doc e) ∙ h.each doc in_marks
        ∙ sym (ap (λ (x : Bool). marked x marks doc) (one_more docs i d lt here doc ∙ not_in_last (is_in (take i docs) doc) (nat_eq d doc) e))

-- ---- what is counted by them
picked_in : (taken b : Bool) (mark : Mark) → picked_value taken (if b then mark else Other) ≡ (picked_value taken mark && b)
picked_in taken true mark = sym (and-true (picked_value taken mark))
picked_in taken false mark = sym (and-false (picked_value taken mark))
  where
    and-false : (x : Bool) → (x && false) ≡ false
    and-false true = refl
    and-false false = refl

counted : (taken : Bool) (docs : List ℕ) (marks seen : List Mark) → AreMarksIn docs marks seen → (xs : List ℕ) → AllByRecursion (λ d. d < length marks) xs →
    AllByRecursion (λ d. with_picked seen (λ _. taken) d ≡ (with_picked marks (λ _. taken) d && is_in docs d)) xs
counted taken docs marks seen h [] within = tt
counted taken docs marks seen h (x ∷ xs) within =
    (ap (picked_value taken) (h.each x within.0) ∙ picked_in taken (is_in docs x) (mark_at marks x), counted taken docs marks seen h xs within.1)

pub counted_shared : (taken : Bool) (k : ℕ) (marks seen : List Mark) (a b : List ℕ) → IsRanking (length marks) b → AreMarksIn (take k a) marks seen →
    prefix_count taken k seen b ≡ shared_count taken marks (take k b) (take k a)
counted_shared taken k marks seen a b rb h = count_by-agree _ _ (take k b) (counted taken (take k a) marks seen h (take k b) (prefix_within k (length marks) b rb))

pub shared_by_marks : (k : ℕ) (marks seen : List Mark) (a b : List ℕ) (counts : Counts) → IsRanking (length marks) b → AreMarksIn (take k a) marks seen →
    counts.relevant ≡ prefix_count false k seen b → counts.relevant + counts.unjudged ≡ prefix_count true k seen b → AreShared k marks b a counts
shared_by_marks k marks seen a b counts rb h least most = record { least = least ∙ counted_shared false k marks seen a b rb h; most = most ∙ counted_shared true k marks seen a b rb h }

-- a ranking over a universe is one over a greater
pub IsRanking-wider : (n m : ℕ) (a : List ℕ) → n ≤ m → IsRanking n a → IsRanking m a
IsRanking-wider n m a le h = record { distinct = h.distinct; within = λ i d lt. omega (arith, h.within i d lt); short = h.short }
