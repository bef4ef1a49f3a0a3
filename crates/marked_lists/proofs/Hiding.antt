-- Hiding documents one by one, and what is listed then.
use Rattle.std.proofs.Common.{◌≡◌, ◌≢◌, ℕ, zero, suc, ◌+◌, ◌<◌, Bool, true, false, nat_eq, not, ◌&&◌, ◌||◌, List, [], ◌∷◌, ◌++◌, take, length, get_or, set, arith, refl, ap, sym, ◌∙◌}
use Rattle.std.specs.Prelude.{if◌then◌else◌, filter}
use Rattle.std.specs.List.{range_with_len}
use Rattle.std.proofs.Math.Bool.{and-false}
use Rattle.std.proofs.lemmas.Bool.Decides.{nat_tests}
use Rattle.std.proofs.lemmas.Grind.{get_or-set_at}
use Rattle.std.proofs.lemmas.List.{get_or-set_other, length-set, take_more}
use Rattle.std.proofs.lemmas.List.Folds.{list_any-append}
use Rattle.desk_model.specs.Completion.{with_picked}
use Rattle.desk_model.specs.Mark.{is_unjudged, mark_at}
use Rattle.desk_model.specs.Ranking.{is_in}
use Rattle.desk_model.specs.declared.types.Mark.{Mark}
use Rattle.desk_model.specs.declared.types.Mark.TheVariants.{Unjudged, Other}
use Rattle.desk_model.proofs.Counts.{nat_eq-true}
use Rattle.measure_laws.specs.Prefixes.{only_second}
use Rattle.measure_core.specs.Lists.{added_documents}
use Rattle.measure_core.proofs.Pushing.{filter_same, open_picked}
use Rattle.marked_lists.specs.Hidden.{AreHidden}

-- ---- one document more
in_last : (x b : Bool) → b ≡ true → (x || (b || false)) ≡ true
in_last true b e = refl
in_last false true e = refl
in_last false false e = absurd (cc)

not_in_last : (x b : Bool) → b ≡ false → (x || (b || false)) ≡ x
not_in_last true b e = refl
not_in_last false true e = absurd (cc)
not_in_last false false e = refl

apart : (d doc : ℕ) → nat_eq d doc ≡ false → doc ≢ d
apart d doc e = grind (arith, nat_tests)

abbrev hidden : Bool → List Mark → ℕ → Mark
hidden b marks doc = if b then Other else mark_at marks doc

one_more : (docs : List ℕ) (i d : ℕ) → i < length docs → get_or docs i d ≡ d → (doc : ℕ) → is_in (take (i + 1) docs) doc ≡ (is_in (take i docs) doc || (nat_eq d doc || false))
one_more docs i d lt here doc =
    ap (λ (l : List ℕ). is_in l doc) (take_more docs i d lt ∙ ap (λ (x : ℕ). take i docs ++ x ∷ []) here) ∙ list_any-append (λ each. nat_eq each doc) (take i docs) (d ∷ [])

pub none_hidden : (marks : List Mark) → AreHidden [] marks marks
none_hidden marks = record { count = refl; each = λ doc lt. refl }

pub hidden_more : (docs : List ℕ) (i d : ℕ) (marks left : List Mark) → i < length docs → get_or docs i d ≡ d → d < length marks → AreHidden (take i docs) marks left → AreHidden (take (i + 1) docs) marks (set left d Other)
hidden_more docs i d marks left lt here known h = record {
  count = length-set left d Other ∙ h.count;
  each = λ doc in_marks. at doc in_marks (nat_eq d doc) refl;
}
  where
    at : (doc : ℕ) → doc < length marks → (b : Bool) → nat_eq d doc ≡ b → mark_at (set left d Other) doc ≡ hidden (is_in (take (i + 1) docs) doc) marks doc
    at doc in_marks true e =
        let same : doc ≡ d = sym (nat_eq-true d doc e) in
        get_or-set_at left d doc Other Unjudged same (omega (arith, h.count, known))
        ∙ sym (ap (λ (x : Bool). hidden x marks doc) (one_more docs i d lt here doc ∙ in_last (is_in (take i docs) doc) (nat_eq d doc) e))
    at doc in_marks false e =
        get_or-set_other left d doc Other Unjudged (apart d doc e) ∙ h.each doc in_marks
        ∙ sym (ap (λ (x : Bool). hidden x marks doc) (one_more docs i d lt here doc ∙ not_in_last (is_in (take i docs) doc) (nat_eq d doc) e))

-- ---- what the second run alone has, beside a run with no documents
take_none : (k : ℕ) → take {A = ℕ} k [] ≡ []
take_none zero = refl
take_none (suc k) = refl

own_hidden : (i j : Bool) (m : Mark) → (is_unjudged (if i then Other else m) && (j && true)) ≡ (is_unjudged m && (j && not i))
own_hidden false j m = refl
own_hidden true true m = sym (and-false (is_unjudged m))
own_hidden true false m = sym (and-false (is_unjudged m))

pub unhidden_are : (k : ℕ) (marks left : List Mark) (a b none : List ℕ) → none ≡ [] → AreHidden (take k a) marks left →
    added_documents left (with_picked left (only_second k none b)) ≡ added_documents marks (with_picked marks (only_second k a b))
unhidden_are k marks left a b none nothing h =
    let others = only_second k none b in
    let own = only_second k a b in
    let test : ℕ → Bool = λ doc. is_unjudged (mark_at left doc) && with_picked left others doc in
    let same : (doc : ℕ) → doc < length marks → test doc ≡ (is_unjudged (mark_at marks doc) && with_picked marks own doc) = λ doc lt.
    open_picked (others doc) (mark_at left doc) ∙ ap (λ (l : List ℕ). is_unjudged (mark_at left doc) && (is_in (take k b) doc && not (is_in (take k l) doc))) nothing
    ∙ ap (λ (l : List ℕ). is_unjudged (mark_at left doc) && (is_in (take k b) doc && not (is_in l doc))) (take_none k) ∙ ap (λ m. is_unjudged m && (is_in (take k b) doc && true)) (h.each doc lt)
    ∙ own_hidden (is_in (take k a) doc) (is_in (take k b) doc) (mark_at marks doc) ∙ sym (open_picked (own doc) (mark_at marks doc)) in
    ap (λ n. filter test (range_with_len 0 n)) h.count ∙ filter_same test (λ doc. is_unjudged (mark_at marks doc) && with_picked marks own doc) 0 (length marks) (λ doc from to. same doc (omega (arith, to)))
