-- An unjudged document is among the first so many of a ranking where its rank is no later than the last rank of these.
use Rattle.std.proofs.Common.{◌≡◌, ℕ, zero, suc, ◌+◌, ◌-◌, ◌<◌, ◌≤◌, Bool, true, false, cond, not, ◌&&◌, ◌||◌, nat_eq, nat_lt, List, [], ◌∷◌, length, take, drop, get_or, Option, Some, ap, refl, sym, subst, ◌∙◌, arith}
use Rattle.std.specs.Prelude.{if◌then◌else◌, nat_le}
use Rattle.std.specs.List.{IsDistinct, position_from}
use Rattle.std.proofs.Math.Seq.{take-nil}
use Rattle.std.proofs.lemmas.Bool.Decides.{nat_tests}
use Rattle.std.proofs.lemmas.List.{at_drop_more}
use Rattle.desk_model.specs.Completion.{picked_value}
use Rattle.desk_model.specs.Mark.{is_unjudged, mark_at}
use Rattle.desk_model.specs.Ranking.{is_in, rank}
use Rattle.desk_model.specs.declared.types.Mark.{Mark}
use Rattle.desk_model.specs.declared.types.Mark.TheVariants.{Unjudged, Relevant, Other}
use Rattle.desk_model.proofs.Counts.{nat_eq-true}
use Rattle.measure_core.specs.OneSide.{is_by}
use Rattle.measure_laws.specs.AverageEnds.{high_case, low_case}
use Rattle.measure_laws.specs.Candidates.{high_choice, low_choice, open_docs}
use Rattle.measure_laws.proofs.AlongRanking.{open_is}
use Rattle.precision_candidates.specs.Cuts.{AreCuts, last_rank}
use Rattle.precision_candidates.specs.Classes.{IsClassOf, has}
use Rattle.precision_candidates.specs.declared.by_rank.Cuts.{Cuts}
use Rattle.measure_core.specs.declared.room.Class.{Class}
use Rattle.precision_candidates.proofs.Marking.{low_left}

last_none : (marks : List Mark) (last rank : ℕ) (docs : List ℕ) → last_rank marks last rank docs 0 ≡ last
last_none marks last rank [] = refl
last_none marks last rank (d ∷ ds) = by (is_unjudged (mark_at marks d)) (last_none marks last (rank + 1) ds)
  where
    by : (j : Bool) → last_rank marks last (rank + 1) ds 0 ≡ last → (if j && nat_lt 0 0 then last_rank marks rank (rank + 1) ds (0 - 1) else last_rank marks last (rank + 1) ds 0) ≡ last
    by true h = h
    by false h = h

last_most : (marks : List Mark) (docs : List ℕ) (last rank left : ℕ) → last < rank → last ≤ last_rank marks last rank docs left
last_most marks [] last rank left h = omega arith
last_most marks (d ∷ ds) last rank left h =
    by (is_unjudged (mark_at marks d) && nat_lt 0 left) (last_most marks ds rank (rank + 1) (left - 1) (omega arith)) (last_most marks ds last (rank + 1) left (omega (arith, h)))
  where
    by : (b : Bool) → rank ≤ last_rank marks rank (rank + 1) ds (left - 1) → last ≤ last_rank marks last (rank + 1) ds left →
        last ≤ (if b then last_rank marks rank (rank + 1) ds (left - 1) else last_rank marks last (rank + 1) ds left)
    by true p q = omega (arith, h, p)
    by false p q = q

no_later : (a b : ℕ) → a ≤ b → nat_le a b ≡ true
no_later a b h = grind (arith, nat_tests)

is_later : (a b : ℕ) → b < a → nat_le a b ≡ false
is_later a b h = grind (arith, nat_tests)

some_left : (k : ℕ) → nat_lt 0 (suc k) ≡ true
some_left k = grind (arith, nat_tests)

among_first : (marks : List Mark) (docs : List ℕ) (doc last rank left : ℕ) → is_unjudged (mark_at marks doc) ≡ true → last < rank →
    is_by (last_rank marks last rank docs left) (position_from (λ each. nat_eq each doc) rank docs) ≡ is_in (take left (open_docs marks docs)) doc
among_first marks [] doc last rank left u h = ap (λ (xs : List ℕ). is_in xs doc) (sym (take-nil left))
among_first marks (d ∷ ds) doc last rank left u h =
    here left (nat_eq d doc) refl (is_unjudged (mark_at marks d)) refl (λ k. among_first marks ds doc rank (rank + 1) k u (omega arith)) (λ k. among_first marks ds doc last (rank + 1) k u (omega (arith, h)))
    ∙ ap (λ (xs : List ℕ). is_in (take left xs) doc) (sym (open_is marks d ds (mark_at marks d) refl))
  where
    later : Option ℕ
    later = position_from (λ each. nat_eq each doc) (rank + 1) ds

    none : (b : Bool) → nat_eq d doc ≡ b → ((k : ℕ) → is_by (last_rank marks last (rank + 1) ds k) later ≡ is_in (take k (open_docs marks ds)) doc) →
        is_by (last_rank marks last (rank + 1) ds 0) (cond b (Some rank) later) ≡ false
    none true e q = ap (λ (v : ℕ). nat_le rank v) (last_none marks last (rank + 1) ds) ∙ is_later rank last h
    none false e q = q 0

    some : (k : ℕ) (b : Bool) → nat_eq d doc ≡ b → (j : Bool) → is_unjudged (mark_at marks d) ≡ j →
        ((k : ℕ) → is_by (last_rank marks rank (rank + 1) ds k) later ≡ is_in (take k (open_docs marks ds)) doc) →
        ((k : ℕ) → is_by (last_rank marks last (rank + 1) ds k) later ≡ is_in (take k (open_docs marks ds)) doc) →
        is_by (if j then last_rank marks rank (rank + 1) ds (suc k - 1) else last_rank marks last (rank + 1) ds (suc k)) (cond b (Some rank) later) ≡ is_in (take (suc k) (cond j (d ∷ open_docs marks ds) (open_docs marks ds))) doc
    some k true e true f p q =
        no_later rank (last_rank marks rank (rank + 1) ds (suc k - 1)) (last_most marks ds rank (rank + 1) (suc k - 1) (omega arith))
        ∙ sym (ap (λ (b : Bool). b || is_in (take k (open_docs marks ds)) doc) e)
    some k true e false f p q = let judged : is_unjudged (mark_at marks doc) ≡ false = subst (λ (n : ℕ). is_unjudged (mark_at marks n) ≡ false) (nat_eq-true d doc e) f in absurd (cc)
    some k false e true f p q =
        let same : suc k - 1 ≡ k = omega arith in
        ap (λ (n : ℕ). is_by (last_rank marks rank (rank + 1) ds n) later) same ∙ p k ∙ sym (ap (λ (b : Bool). b || is_in (take k (open_docs marks ds)) doc) e)
    some k false e false f p q = q (suc k)

    test : (k : ℕ) (j : Bool) → (j && nat_lt 0 (suc k)) ≡ j
    test k true = some_left k
    test k false = refl

    here : (n : ℕ) (b : Bool) → nat_eq d doc ≡ b → (j : Bool) → is_unjudged (mark_at marks d) ≡ j →
        ((k : ℕ) → is_by (last_rank marks rank (rank + 1) ds k) later ≡ is_in (take k (open_docs marks ds)) doc) →
        ((k : ℕ) → is_by (last_rank marks last (rank + 1) ds k) later ≡ is_in (take k (open_docs marks ds)) doc) →
        is_by (if j && nat_lt 0 n then last_rank marks rank (rank + 1) ds (n - 1) else last_rank marks last (rank + 1) ds n) (cond b (Some rank) later) ≡ is_in (take n (cond j (d ∷ open_docs marks ds) (open_docs marks ds))) doc
    here zero b e true f p q = none b e q
    here zero b e false f p q = none b e q
    here (suc k) b e j f p q =
        subst (λ (t : Bool). is_by (if t then last_rank marks rank (rank + 1) ds (suc k - 1) else last_rank marks last (rank + 1) ds (suc k)) (cond b (Some rank) later) ≡ is_in (take (suc k) (cond j (d ∷ open_docs marks ds) (open_docs marks ds))) doc)
        (sym (test k j)) (some k b e j f p q)

-- ---- the class of a document by its rank
pub high_by_rank : (marks : List Mark) (docs : List ℕ) (cuts : Cuts) (doc : ℕ) → AreCuts marks docs cuts → picked_value (is_by cuts.taken (rank docs doc)) (mark_at marks doc) ≡ high_case marks docs doc
high_by_rank marks docs cuts doc h = by (mark_at marks doc) refl
  where
    by : (m : Mark) → mark_at marks doc ≡ m → picked_value (is_by cuts.taken (rank docs doc)) m ≡ picked_value (is_in (take (high_choice marks docs) (open_docs marks docs)) doc) m
    by Unjudged e = ap (λ (n : ℕ). is_by n (rank docs doc)) h.taken ∙ among_first marks docs doc 0 1 (high_choice marks docs) (ap is_unjudged e) (omega arith)
    by Relevant e = refl
    by Other e = refl

pub low_by_rank : (marks : List Mark) (docs : List ℕ) (cuts : Cuts) (doc : ℕ) → IsDistinct nat_eq docs → AreCuts marks docs cuts → picked_value (not (is_by cuts.left_out (rank docs doc))) (mark_at marks doc) ≡ low_case marks docs doc
low_by_rank marks docs cuts doc r h = by (mark_at marks doc) refl
  where
    opens : List ℕ
    opens = open_docs marks docs

    by : (m : Mark) → mark_at marks doc ≡ m →
        picked_value (not (is_by cuts.left_out (rank docs doc))) m ≡ picked_value (is_in (drop (length opens - low_choice marks docs) opens) doc || not (is_in docs doc)) m
    by Unjudged e =
        ap (λ (n : ℕ). not (is_by n (rank docs doc))) h.left_out
        ∙ ap not (among_first marks docs doc 0 1 (length opens - low_choice marks docs) (ap is_unjudged e) (omega arith))
        ∙ low_left marks docs (length opens - low_choice marks docs) doc r (ap is_unjudged e)
    by Relevant e = refl
    by Other e = refl

pub class_by_rank : (marks : List Mark) (docs : List ℕ) (cuts : Cuts) (doc : ℕ) (class : Class) → IsDistinct nat_eq docs → AreCuts marks docs cuts →
    has true class ≡ picked_value (is_by cuts.taken (rank docs doc)) (mark_at marks doc) → has false class ≡ picked_value (not (is_by cuts.left_out (rank docs doc))) (mark_at marks doc) → IsClassOf marks docs doc class
class_by_rank marks docs cuts doc class r h high low = record { high = high ∙ high_by_rank marks docs cuts doc h; low = low ∙ low_by_rank marks docs cuts doc r h }

-- ---- the loop
pub last_next : (marks : List Mark) (docs : List ℕ) (i last rank left last_after left_after total : ℕ) → i < length docs →
    last_after ≡ (if is_unjudged (mark_at marks (get_or docs i 0)) && nat_lt 0 left then rank else last) → left_after ≡ (if is_unjudged (mark_at marks (get_or docs i 0)) && nat_lt 0 left then left - 1 else left) →
    last_rank marks last rank (drop i docs) left ≡ total → last_rank marks last_after (rank + 1) (drop (i + 1) docs) left_after ≡ total
last_next marks docs i last rank left last_after left_after total lt e f h =
    ap (λ (n : ℕ). last_rank marks n (rank + 1) (drop (i + 1) docs) left_after) e
    ∙ ap (λ (n : ℕ). last_rank marks (if is_unjudged (mark_at marks (get_or docs i 0)) && nat_lt 0 left then rank else last) (rank + 1) (drop (i + 1) docs) n) f
    ∙ either (is_unjudged (mark_at marks (get_or docs i 0)) && nat_lt 0 left)
    ∙ sym (at_drop_more (λ (ds : List ℕ). last_rank marks last rank ds left) docs i 0 lt)
    ∙ h
  where
    either : (t : Bool) → last_rank marks (if t then rank else last) (rank + 1) (drop (i + 1) docs) (if t then left - 1 else left) ≡
        (if t then last_rank marks rank (rank + 1) (drop (i + 1) docs) (left - 1) else last_rank marks last (rank + 1) (drop (i + 1) docs) left)
    either true = refl
    either false = refl
