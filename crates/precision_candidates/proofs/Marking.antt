-- The classes of a run, from its unjudged documents one by one.
use denote.Enum.Bare.{sameb}
use Rattle.std.proofs.Common.{◌≡◌, ℕ, zero, suc, ◌+◌, ◌-◌, ◌<◌, ◌≤◌, nat_eq, nat_lt, Bool, true, false, not, cond, ◌||◌, List, [], ◌∷◌, length, take, drop, set, get_or, ap, refl, sym, subst, ◌∙◌, arith}
use Rattle.std.proofs.lemmas.Bool.{lt-ltb, eqb-false}
use Rattle.std.proofs.lemmas.List.{at_drop_more, at_drop_all, get_or-set_same, get_or-set_other, length-set}
use Rattle.std.proofs.lemmas.List.Elements.{All-get_or}
use Rattle.std.specs.List.{AllByRecursion, IsDistinct}
use Rattle.desk_model.specs.Completion.{picked_value}
use Rattle.desk_model.specs.Mark.{is_unjudged, mark_at}
use Rattle.desk_model.specs.Ranking.{IsRanking, is_in}
use Rattle.desk_model.specs.contracts.types.Mark.{the_type}
use Rattle.desk_model.specs.declared.types.Mark.{Mark}
use Rattle.desk_model.specs.declared.types.Mark.TheVariants.{Unjudged, Relevant, Other}
use Rattle.desk_model.proofs.Counts.{nat_eq-true, not_in}
use Rattle.measure_laws.specs.Candidates.{open_docs, high_choice, low_choice}
use Rattle.measure_laws.proofs.AlongRanking.{open_is}
use Rattle.measure_core.specs.declared.room.Class.{Class}
use Rattle.measure_core.specs.declared.room.Class.TheVariants.{Neither}
use Rattle.precision_candidates.specs.Classes.{AreClasses, AreMarked, base_class, bit, class_at, class_truth, has}

-- ---- one bit
or_none : (b : Bool) → (b || false) ≡ b
or_none true = refl
or_none false = refl

both_or : (b x : Bool) → ((b || true) || x) ≡ (b || (true || x))
both_or true x = refl
both_or false x = refl

pub bit_step : (old new : Bool) (left d0 doc : ℕ) (rest : List ℕ) (total : Bool) → (nat_eq d0 doc ≡ true → new ≡ (old || nat_lt 0 left)) → (nat_eq d0 doc ≡ false → new ≡ old) →
    (old || is_in (take left (d0 ∷ rest)) doc) ≡ total → (new || is_in (take (left - 1) rest) doc) ≡ total
bit_step old new zero d0 doc rest total f g h = by (nat_eq d0 doc) refl
  where
    none : (n : ℕ) → 0 - 1 ≡ n → (old || false) ≡ total → new ≡ old → (new || is_in (take n rest) doc) ≡ total
    none zero e k same = ap (λ (b : Bool). b || false) same ∙ k
    none (suc n) e k same = absurd (omega (arith, e))

    by : (b : Bool) → nat_eq d0 doc ≡ b → (new || is_in (take (0 - 1) rest) doc) ≡ total
    by true e = none (0 - 1) refl h (f e ∙ or_none old)
    by false e = none (0 - 1) refl h (g e)
bit_step old new (suc k) d0 doc rest total f g h =
    let less : k ≡ suc k - 1 = omega arith in
    subst (λ (n : ℕ). (new || is_in (take n rest) doc) ≡ total) less (by (nat_eq d0 doc) refl)
  where
    by : (b : Bool) → nat_eq d0 doc ≡ b → (new || is_in (take k rest) doc) ≡ total
    by true e = ap (λ (b : Bool). b || is_in (take k rest) doc) (f e ∙ ap (λ (b : Bool). old || b) (lt-ltb 0 (suc k) (omega arith))) ∙ both_or old (is_in (take k rest) doc) ∙ sym (ap (λ (b : Bool). old || (b || is_in (take k rest) doc)) e) ∙ h
    by false e = ap (λ (b : Bool). b || is_in (take k rest) doc) (g e) ∙ sym (ap (λ (b : Bool). old || (b || is_in (take k rest) doc)) e) ∙ h

-- ---- one document
at_same : (classes : List Class) (d0 doc : ℕ) (c : Class) → d0 < length classes → nat_eq d0 doc ≡ true → class_at (set classes d0 c) doc ≡ c
at_same classes d0 doc c lt e = subst (λ (n : ℕ). class_at (set classes d0 c) n ≡ c) (nat_eq-true d0 doc e) (get_or-set_same classes d0 c Neither lt)

at_other : (classes : List Class) (d0 doc : ℕ) (c : Class) → nat_eq d0 doc ≡ false → class_at (set classes d0 c) doc ≡ class_at classes doc
at_other classes d0 doc c e = get_or-set_other classes d0 doc c Neither (λ k. eqb-false d0 doc e (sym k))

set_bit : (high : Bool) (classes : List Class) (d0 doc left : ℕ) (c : Class) (opens rest : List ℕ) (n : ℕ) → d0 < length classes → bit high c ≡ (bit high (class_at classes d0) || nat_lt 0 left) →
    (bit high (class_at classes doc) || is_in (take left (d0 ∷ rest)) doc) ≡ is_in (take n opens) doc → (bit high (class_at (set classes d0 c) doc) || is_in (take (left - 1) rest) doc) ≡ is_in (take n opens) doc
set_bit high classes d0 doc left c opens rest n lt e h =
    bit_step (bit high (class_at classes doc)) (bit high (class_at (set classes d0 c) doc)) left d0 doc rest (is_in (take n opens) doc)
    (λ same. ap (bit high) (at_same classes d0 doc c lt same) ∙ e ∙ ap (λ (k : ℕ). bit high (class_at classes k) || nat_lt 0 left) (nat_eq-true d0 doc same))
    (λ other. ap (bit high) (at_other classes d0 doc c other)) h

pub marked_next : (marks : List Mark) (opens rest : List ℕ) (taken left_out to_take to_leave d0 : ℕ) (classes : List Class) (c : Class) → d0 < length marks → is_unjudged (mark_at marks d0) ≡ true →
    AreMarked marks opens (d0 ∷ rest) taken left_out to_take to_leave classes → bit true c ≡ (bit true (class_at classes d0) || nat_lt 0 to_take) → bit false c ≡ (bit false (class_at classes d0) || nat_lt 0 to_leave) →
    AreMarked marks opens rest taken left_out (to_take - 1) (to_leave - 1) (set classes d0 c)
marked_next marks opens rest taken left_out to_take to_leave d0 classes c lt u h e f =
    let within : d0 < length classes = omega (arith, lt, h.long) in
    record {
      long = length-set classes d0 c ∙ h.long;
      judged = λ doc l j. kept doc l j (nat_eq d0 doc) refl;
      high = λ doc l j. set_bit true classes d0 doc to_take c opens rest taken within e (h.high doc l j);
      low = λ doc l j. set_bit false classes d0 doc to_leave c opens rest left_out within f (h.low doc l j);
    }
  where
    kept : (doc : ℕ) → doc < length marks → is_unjudged (mark_at marks doc) ≡ false → (b : Bool) → nat_eq d0 doc ≡ b → class_at (set classes d0 c) doc ≡ base_class (mark_at marks doc)
    kept doc l j true same = let both : is_unjudged (mark_at marks d0) ≡ false = subst (λ (k : ℕ). is_unjudged (mark_at marks k) ≡ false) (sym (nat_eq-true d0 doc same)) j in absurd (cc)
    kept doc l j false other = at_other classes d0 doc c other ∙ h.judged doc l j

-- ---- the documents left out of the low candidate, and the others
pub split_in : (s : ℕ) (xs : List ℕ) (d : ℕ) → is_in xs d ≡ (is_in (take s xs) d || is_in (drop s xs) d)
split_in zero xs d = refl
split_in (suc s) [] d = refl
split_in (suc s) (x ∷ xs) d = ap (λ (b : Bool). nat_eq x d || b) (split_in s xs d) ∙ assoc (nat_eq x d) (is_in (take s xs) d) (is_in (drop s xs) d)
  where
    assoc : (a b c : Bool) → (a || (b || c)) ≡ ((a || b) || c)
    assoc true b c = refl
    assoc false b c = refl

all_dropped : (P : ℕ → Type 0) (s : ℕ) (xs : List ℕ) → AllByRecursion P xs → AllByRecursion P (drop s xs)
all_dropped P zero xs h = h
all_dropped P (suc s) [] h = tt
all_dropped P (suc s) (x ∷ xs) h = all_dropped P s xs h.1

apart_in : (s : ℕ) (xs : List ℕ) (d : ℕ) → IsDistinct nat_eq xs → is_in (take s xs) d ≡ true → is_in (drop s xs) d ≡ false
unfolding IsDistinct
apart_in zero xs d h e = absurd (cc)
apart_in (suc s) [] d h e = absurd (cc)
apart_in (suc s) (x ∷ xs) d h e = by (nat_eq x d) refl (apart_in s xs d h.1)
  where
    by : (b : Bool) → nat_eq x d ≡ b → (is_in (take s xs) d ≡ true → is_in (drop s xs) d ≡ false) → is_in (drop s xs) d ≡ false
    by true same later = subst (λ (n : ℕ). is_in (drop s xs) n ≡ false) (nat_eq-true x d same) (not_in x (drop s xs) (all_dropped (λ y. nat_eq x y ≡ false) s xs h.0))
    by false other later = later (sym (ap (λ (b : Bool). b || is_in (take s xs) d) other) ∙ e)

all_opens : (P : ℕ → Type 0) (marks : List Mark) (docs : List ℕ) → AllByRecursion P docs → AllByRecursion P (open_docs marks docs)
all_opens P marks [] h = tt
all_opens P marks (d ∷ ds) h = by (is_unjudged (mark_at marks d)) (all_opens P marks ds h.1)
  where
    by : (b : Bool) → AllByRecursion P (open_docs marks ds) → AllByRecursion P (cond b (d ∷ open_docs marks ds) (open_docs marks ds))
    by true k = (h.0, k)
    by false k = k

opens_distinct : (marks : List Mark) (docs : List ℕ) → IsDistinct nat_eq docs → IsDistinct nat_eq (open_docs marks docs)
unfolding IsDistinct
opens_distinct marks [] h = tt
opens_distinct marks (d ∷ ds) h = by (is_unjudged (mark_at marks d)) (opens_distinct marks ds h.1)
  where
    by : (b : Bool) → IsDistinct nat_eq (open_docs marks ds) → IsDistinct nat_eq (cond b (d ∷ open_docs marks ds) (open_docs marks ds))
    by true k = (all_opens (λ y. nat_eq d y ≡ false) marks ds h.0, k)
    by false k = k

pub member_open : (marks : List Mark) (docs : List ℕ) (d : ℕ) → is_unjudged (mark_at marks d) ≡ true → is_in docs d ≡ is_in (open_docs marks docs) d
member_open marks [] d u = refl
member_open marks (x ∷ xs) d u = by (is_unjudged (mark_at marks x)) refl (nat_eq x d) refl (member_open marks xs d u)
  where
    by : (b : Bool) → is_unjudged (mark_at marks x) ≡ b → (e : Bool) → nat_eq x d ≡ e → is_in xs d ≡ is_in (open_docs marks xs) d → (nat_eq x d || is_in xs d) ≡ is_in (cond b (x ∷ open_docs marks xs) (open_docs marks xs)) d
    by true j e same h = ap (λ (b : Bool). nat_eq x d || b) h
    by false j true same h = let both : is_unjudged (mark_at marks d) ≡ false = subst (λ (n : ℕ). is_unjudged (mark_at marks n) ≡ false) (nat_eq-true x d same) j in absurd (cc)
    by false j false other h = ap (λ (b : Bool). b || is_in xs d) other ∙ h

left_is : (a b c : Bool) → c ≡ (a || b) → (a ≡ true → b ≡ false) → not a ≡ (b || not c)
left_is true b c e f = sym (ap (λ (v : Bool). b || not v) e ∙ or_none b ∙ f refl)
left_is false true c e f = refl
left_is false false c e f = sym (ap not e)

pub low_left : (marks : List Mark) (docs : List ℕ) (s d : ℕ) → IsDistinct nat_eq docs → is_unjudged (mark_at marks d) ≡ true →
    not (is_in (take s (open_docs marks docs)) d) ≡ (is_in (drop s (open_docs marks docs)) d || not (is_in docs d))
low_left marks docs s d r u =
    left_is (is_in (take s (open_docs marks docs)) d) (is_in (drop s (open_docs marks docs)) d) (is_in docs d) (member_open marks docs d u ∙ split_in s (open_docs marks docs) d)
    (apart_in s (open_docs marks docs) d (opens_distinct marks docs r))

-- ---- all documents
not_twice : (b c : Bool) → not b ≡ c → b ≡ not c
not_twice true c h = ap not h
not_twice false c h = ap not h

none_left : (b t : Bool) (n d : ℕ) → (b || is_in (take n []) d) ≡ t → b ≡ t
none_left b t zero d h = sym (or_none b) ∙ h
none_left b t (suc n) d h = sym (or_none b) ∙ h

pub marked_classes : (marks : List Mark) (docs : List ℕ) (taken left_out to_take to_leave : ℕ) (classes : List Class) → IsRanking (length marks) docs → AreMarked marks (open_docs marks docs) [] taken left_out to_take to_leave classes →
    (doc : ℕ) → doc < length marks → (class_truth true classes doc ≡ picked_value (is_in (take taken (open_docs marks docs)) doc) (mark_at marks doc))
    × (class_truth false classes doc ≡ picked_value (is_in (drop left_out (open_docs marks docs)) doc || not (is_in docs doc)) (mark_at marks doc))
marked_classes marks docs taken left_out to_take to_leave classes r h doc lt = by (mark_at marks doc) refl
  where
    by : (m : Mark) → mark_at marks doc ≡ m → (class_truth true classes doc ≡ picked_value (is_in (take taken (open_docs marks docs)) doc) m)
        × (class_truth false classes doc ≡ picked_value (is_in (drop left_out (open_docs marks docs)) doc || not (is_in docs doc)) m)
    by Unjudged e =
        let u : is_unjudged (mark_at marks doc) ≡ true = ap is_unjudged e in (
          none_left (bit true (class_at classes doc)) (is_in (take taken (open_docs marks docs)) doc) to_take doc (h.high doc lt u),
          not_twice (has false (class_at classes doc)) (is_in (take left_out (open_docs marks docs)) doc) (none_left (bit false (class_at classes doc)) (is_in (take left_out (open_docs marks docs)) doc) to_leave doc (h.low doc lt u)) ∙ low_left marks docs left_out doc r.distinct u,
        )
    by Relevant e = let is = h.judged doc lt (ap is_unjudged e) ∙ ap base_class e in (ap (has true) is, ap (has false) is)
    by Other e = let is = h.judged doc lt (ap is_unjudged e) ∙ ap base_class e in (ap (has true) is, ap (has false) is)

-- ---- one document of the loop
open_mark : (m : Mark) → sameb the_type m Unjudged ≡ true → is_unjudged m ≡ true
open_mark Unjudged e = refl
open_mark Relevant e = absurd (cc)
open_mark Other e = absurd (cc)

judged_mark : (m : Mark) → sameb the_type m Unjudged ≡ false → is_unjudged m ≡ false
judged_mark Unjudged e = absurd (cc)
judged_mark Relevant e = refl
judged_mark Other e = refl

opens_from : (marks : List Mark) (docs : List ℕ) (i : ℕ) (b : Bool) → i < length docs → is_unjudged (mark_at marks (get_or docs i 0)) ≡ b →
    open_docs marks (drop i docs) ≡ cond b (get_or docs i 0 ∷ open_docs marks (drop (i + 1) docs)) (open_docs marks (drop (i + 1) docs))
opens_from marks docs i b lt e =
    let d = get_or docs i 0 in
    let rest = open_docs marks (drop (i + 1) docs) in
    at_drop_more (λ (ds : List ℕ). open_docs marks ds) docs i 0 lt ∙ open_is marks d (drop (i + 1) docs) (mark_at marks d) refl ∙ ap (λ (v : Bool). cond v (d ∷ rest) rest) e

pub marked_open : (marks : List Mark) (docs : List ℕ) (i taken left_out to_take to_leave take_after leave_after : ℕ) (classes after : List Class) (c : Class) → i < length docs → IsRanking (length marks) docs →
    sameb the_type (mark_at marks (get_or docs i 0)) Unjudged ≡ true → AreMarked marks (open_docs marks docs) (open_docs marks (drop i docs)) taken left_out to_take to_leave classes →
    bit true c ≡ (bit true (class_at classes (get_or docs i 0)) || nat_lt 0 to_take) → bit false c ≡ (bit false (class_at classes (get_or docs i 0)) || nat_lt 0 to_leave) →
    take_after ≡ to_take - 1 → leave_after ≡ to_leave - 1 → after ≡ set classes (get_or docs i 0) c →
    AreMarked marks (open_docs marks docs) (open_docs marks (drop (i + 1) docs)) taken left_out take_after leave_after after
marked_open marks docs i taken left_out to_take to_leave take_after leave_after classes after c lt r t h e f g k l =
    let d0 = get_or docs i 0 in
    let opens = open_docs marks docs in
    let rest = open_docs marks (drop (i + 1) docs) in
    let u = open_mark (mark_at marks d0) t in
    let known : d0 < length marks = All-get_or (λ (d : ℕ). d < length marks) docs i 0 lt r.within in
    let here : AreMarked marks opens (d0 ∷ rest) taken left_out to_take to_leave classes = subst (λ (ds : List ℕ). AreMarked marks opens ds taken left_out to_take to_leave classes) (opens_from marks docs i true lt u) h in
    let next = marked_next marks opens rest taken left_out to_take to_leave d0 classes c known u here e f in
    subst (λ (cs : List Class). AreMarked marks opens rest taken left_out take_after leave_after cs) (sym l)
    (subst (λ (n : ℕ). AreMarked marks opens rest taken left_out n leave_after (set classes d0 c)) (sym g)
    (subst (λ (n : ℕ). AreMarked marks opens rest taken left_out (to_take - 1) n (set classes d0 c)) (sym k) next))

pub marked_judged : (marks : List Mark) (docs : List ℕ) (i taken left_out to_take to_leave take_after leave_after : ℕ) (classes after : List Class) → i < length docs →
    sameb the_type (mark_at marks (get_or docs i 0)) Unjudged ≡ false → AreMarked marks (open_docs marks docs) (open_docs marks (drop i docs)) taken left_out to_take to_leave classes →
    take_after ≡ to_take → leave_after ≡ to_leave → after ≡ classes →
    AreMarked marks (open_docs marks docs) (open_docs marks (drop (i + 1) docs)) taken left_out take_after leave_after after
marked_judged marks docs i taken left_out to_take to_leave take_after leave_after classes after lt t h g k l =
    let opens = open_docs marks docs in
    let rest = open_docs marks (drop (i + 1) docs) in
    subst (λ (cs : List Class). AreMarked marks opens rest taken left_out take_after leave_after cs) (sym l)
    (subst (λ (n : ℕ). AreMarked marks opens rest taken left_out n leave_after classes) (sym g)
    (subst (λ (n : ℕ). AreMarked marks opens rest taken left_out to_take n classes) (sym k)
    (subst (λ (ds : List ℕ). AreMarked marks opens ds taken left_out to_take to_leave classes) (opens_from marks docs i false lt (judged_mark (mark_at marks (get_or docs i 0)) t)) h)))

pub all_marked : (marks : List Mark) (docs : List ℕ) (i taken left_out to_take to_leave : ℕ) (classes : List Class) → length docs ≤ i → IsRanking (length marks) docs →
    taken ≡ high_choice marks docs → left_out ≡ length (open_docs marks docs) - low_choice marks docs → AreMarked marks (open_docs marks docs) (open_docs marks (drop i docs)) taken left_out to_take to_leave classes → AreClasses marks docs classes
all_marked marks docs i taken left_out to_take to_leave classes le r t l h =
    let here = subst (λ (ds : List ℕ). AreMarked marks (open_docs marks docs) ds taken left_out to_take to_leave classes) (at_drop_all (λ (ds : List ℕ). open_docs marks ds) docs i le) h in
    let all = marked_classes marks docs taken left_out to_take to_leave classes r here in
    record {
      long = h.long;
      high = λ doc lt. (all doc lt).0 ∙ ap (λ (n : ℕ). picked_value (is_in (take n (open_docs marks docs)) doc) (mark_at marks doc)) t;
      low = λ doc lt. (all doc lt).1 ∙ ap (λ (n : ℕ). picked_value (is_in (drop n (open_docs marks docs)) doc || not (is_in docs doc)) (mark_at marks doc)) l;
    }
