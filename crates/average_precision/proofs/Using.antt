-- The lists of pairs of runs, counted by how many of them are those of each run's candidates.
use Rattle.std.proofs.Common.{◌≡◌, ◌≢◌, ℕ, zero, suc, ◌+◌, ◌-◌, ◌*◌, ◌<◌, ◌≤◌, nat_eq, not, ◌&&◌, ◌||◌, Bool, true, false, cond, List, [], ◌∷◌, ◌++◌, length, drop, get_or, set, take, ap, refl, sym, ◌∙◌, arith}
use Rattle.std.specs.Prelude.{filter}
use Rattle.std.specs.List.{count_by, range_with_len, sum_by}
use Rattle.std.proofs.lemmas.Bool.Decides.{nat_tests}
use Rattle.std.proofs.lemmas.Grind.{get_or-set_at}
use Rattle.std.proofs.lemmas.List.{get_or-set_other, length-set, map-id}
use Rattle.std.proofs.lemmas.List.FromFn.{map-range_with_len_more}
use Rattle.std.proofs.lemmas.List.Sums.{count_by-le-length, sum_by-cons, sum_by_push}
use Rattle.desk_model.specs.Completion.{picked_value, with_picked}
use Rattle.desk_model.specs.Mark.{is_unjudged, mark_at}
use Rattle.desk_model.specs.Ranking.{is_in}
use Rattle.desk_model.specs.Score.{true_count}
use Rattle.desk_model.specs.declared.types.Mark.{Mark}
use Rattle.desk_model.specs.declared.types.Mark.TheVariants.{Unjudged, Relevant, Other}
use Rattle.measure_laws.specs.AverageEnds.{high_case, low_case}
use Rattle.measure_laws.specs.Candidates.{high_choice, low_choice, open_docs}
use Rattle.measure_core.specs.Lists.{added_documents, times}
use Rattle.measure_core.specs.Pairs.{DeskTopic, ranking_on}
use Rattle.measure_core.proofs.Tallying.{length_step, times_step}
use Rattle.precision_candidates.specs.Classes.{AreClasses, class_at, has}
use Rattle.average_precision.specs.Uses.{all_shares, no_uses, share, shares}
use Rattle.average_precision.specs.declared.uses.Uses.{Uses}
use Rattle.measure_core.specs.declared.room.Class.{Class}

-- ---- how often a list that a completion adds has a document
times_before : (p : ℕ → Bool) (a n d : ℕ) → d < a → times (filter p (range_with_len a n)) d ≡ 0
times_before p a zero d lt = refl
times_before p a (suc n) d lt =
    let other : nat_eq a d ≡ false = grind (arith, nat_tests) in
    let here : cond (p a) 1 0 * cond (nat_eq a d) 1 0 ≡ 0 = ap (λ (b : Bool). cond (p a) 1 0 * cond b 1 0) other ∙ omega arith in
    omega (arith, times_step (filter p (range_with_len a (suc n))) (filter p (range_with_len (a + 1) n)) a d (p a) refl, here, times_before p (a + 1) n d (omega (arith, lt)))

times_within : (p : ℕ → Bool) (a n d : ℕ) → a ≤ d → d < a + n → times (filter p (range_with_len a n)) d ≡ cond (p d) 1 0
times_within p a zero d from to = absurd (omega arith)
times_within p a (suc n) d from to = go (nat_eq a d) refl (λ apart. times_within p (a + 1) n d (omega (arith, apart)) (omega (arith, to)))
  where
    step : times (filter p (range_with_len a (suc n))) d ≡ cond (p a) 1 0 * cond (nat_eq a d) 1 0 + times (filter p (range_with_len (a + 1) n)) d
    step = times_step (filter p (range_with_len a (suc n))) (filter p (range_with_len (a + 1) n)) a d (p a) refl

    go : (b : Bool) → nat_eq a d ≡ b → (a < d → times (filter p (range_with_len (a + 1) n)) d ≡ cond (p d) 1 0) → times (filter p (range_with_len a (suc n))) d ≡ cond (p d) 1 0
    go true is rest =
        let same : a ≡ d = grind (arith, nat_tests) in
        let here : cond (p a) 1 0 * cond (nat_eq a d) 1 0 ≡ cond (p d) 1 0 = ap (λ (b : Bool). cond (p a) 1 0 * cond b 1 0) is ∙ (omega (arith, ap (λ (k : ℕ). cond {A = ℕ} (p k) 1 0) same)) in
        omega (arith, step, here, times_before p (a + 1) n d (omega (arith, same)))
    go false is rest =
        let apart : a < d = grind (arith, nat_tests) in
        let here : cond (p a) 1 0 * cond (nat_eq a d) 1 0 ≡ 0 = ap (λ (b : Bool). cond (p a) 1 0 * cond b 1 0) is ∙ omega arith in
        omega (arith, step, here, rest apart)

pub times_added : (marks : List Mark) (truth : ℕ → Bool) (doc : ℕ) → doc < length marks → times (added_documents marks truth) doc ≡ cond (is_unjudged (mark_at marks doc) && truth doc) 1 0
times_added marks truth doc lt = times_within (λ d. is_unjudged (mark_at marks d) && truth d) 0 (length marks) doc (omega arith) (omega (arith, lt))

-- ---- how many documents a completion adds
open_or_judged : (pick : Bool) (m : Mark) → cond {A = ℕ} (is_unjudged m && picked_value pick m) 1 0 + cond (picked_value false m) 1 0 ≡ cond (picked_value pick m) 1 0
open_or_judged pick Unjudged = omega arith
open_or_judged pick Relevant = refl
open_or_judged pick Other = refl

added_among : (marks : List Mark) (pick : ℕ → Bool) (docs : List ℕ) →
    length (filter (λ d. is_unjudged (mark_at marks d) && with_picked marks pick d) docs) + count_by (with_picked marks (λ _. false)) docs ≡ count_by (with_picked marks pick) docs
added_among marks pick [] = refl
added_among marks pick (d ∷ docs) =
    let test : ℕ → Bool = λ e. is_unjudged (mark_at marks e) && with_picked marks pick e in
    omega (
      arith,
      length_step (filter test (d ∷ docs)) (filter test docs) d (test d) refl,
      sum_by-cons (λ e. cond (with_picked marks (λ _. false) e) 1 0) d docs,
      sum_by-cons (λ e. cond (with_picked marks pick e) 1 0) d docs,
      open_or_judged (pick d) (mark_at marks d),
      added_among marks pick docs,
    )

pub added_size : (marks : List Mark) (pick : ℕ → Bool) → length (added_documents marks (with_picked marks pick)) + true_count (with_picked marks (λ _. false)) (length marks) ≡ true_count (with_picked marks pick) (length marks)
added_size marks pick = added_among marks pick (range_with_len 0 (length marks))

-- those of a run's candidates
pub high_size : (marks : List Mark) (run : List ℕ) → length (added_documents marks (high_case marks run)) + true_count (with_picked marks (λ _. false)) (length marks) ≡ true_count (high_case marks run) (length marks)
high_size marks run = added_size marks (is_in (take (high_choice marks run) (open_docs marks run)))

pub low_size : (marks : List Mark) (run : List ℕ) → length (added_documents marks (low_case marks run)) + true_count (with_picked marks (λ _. false)) (length marks) ≡ true_count (low_case marks run) (length marks)
low_size marks run = added_size marks (λ doc. is_in (drop (length (open_docs marks run) - low_choice marks run) (open_docs marks run)) doc || not (is_in run doc))

pub none_added : (marks : List Mark) → length (added_documents marks (with_picked marks (λ _. false))) ≡ 0
none_added marks = omega (arith, added_size marks (λ _. false))

pub no_times : (marks : List Mark) (doc : ℕ) → times (added_documents marks (with_picked marks (λ _. false))) doc ≡ 0
no_times marks doc = omega (arith, none_added marks, count_by-le-length (λ each. nat_eq each doc) (added_documents marks (with_picked marks (λ _. false))))

-- ---- one list more of one run
same_later : (f g : ℕ → ℕ) (r : ℕ) → ((k : ℕ) → k ≢ r → g k ≡ f k) → (a n : ℕ) → r < a → sum_by g (range_with_len a n) ≡ sum_by f (range_with_len a n)
same_later f g r same a zero lt = refl
same_later f g r same a (suc n) lt =
    omega (arith, sum_by-cons f a (range_with_len (a + 1) n), sum_by-cons g a (range_with_len (a + 1) n), same a (omega (arith, lt)), same_later f g r same (a + 1) n (omega (arith, lt)))

sum_raised : (f g : ℕ → ℕ) (r m : ℕ) → ((k : ℕ) → k ≢ r → g k ≡ f k) → g r ≡ f r + m → (a n : ℕ) → a ≤ r → r < a + n → sum_by g (range_with_len a n) ≡ sum_by f (range_with_len a n) + m
sum_raised f g r m same more a zero from to = absurd (omega arith)
sum_raised f g r m same more a (suc n) from to = go (nat_eq a r) refl (λ apart. sum_raised f g r m same more (a + 1) n (omega (arith, apart)) (omega (arith, to)))
  where
    go : (b : Bool) → nat_eq a r ≡ b → (a < r → sum_by g (range_with_len (a + 1) n) ≡ sum_by f (range_with_len (a + 1) n) + m) → sum_by g (range_with_len a (suc n)) ≡ sum_by f (range_with_len a (suc n)) + m
    go true is rest =
        let at : a ≡ r = grind (arith, nat_tests) in
        omega (arith, sum_by-cons f a (range_with_len (a + 1) n), sum_by-cons g a (range_with_len (a + 1) n), ap f at, ap g at, more, same_later f g r same (a + 1) n (omega (arith, at)))
    go false is rest =
        let apart : a < r = grind (arith, nat_tests) in
        omega (arith, sum_by-cons f a (range_with_len (a + 1) n), sum_by-cons g a (range_with_len (a + 1) n), same a (omega (arith, apart)), rest apart)

pub shares_set : (marks : List Mark) (t : DeskTopic) (uses : List Uses) (r : ℕ) (u : Uses) (more doc : ℕ) → r < length uses → share marks (ranking_on t r) u doc ≡ share marks (ranking_on t r) (get_or uses r no_uses) doc + more →
    all_shares marks t (set uses r u) doc ≡ all_shares marks t uses doc + more
shares_set marks t uses r u more doc within is =
    let before : ℕ → ℕ = λ run. share marks (ranking_on t run) (get_or uses run no_uses) doc in
    let after : ℕ → ℕ = λ run. share marks (ranking_on t run) (get_or (set uses r u) run no_uses) doc in
    ap (λ (n : ℕ). shares marks t (set uses r u) n doc) (length-set uses r u)
    ∙ sum_raised before after r more (λ k apart. ap (λ (x : Uses). share marks (ranking_on t k) x doc) (get_or-set_other uses r k u no_uses apart)) (ap (λ (x : Uses). share marks (ranking_on t r) x doc) (get_or-set_at uses r r u no_uses refl within) ∙ is) 0 (length uses) (omega arith) (omega (arith, within))

pub high_more : (marks : List Mark) (run : List ℕ) (uses : Uses) (doc : ℕ) → share marks run (record { high = uses.high + 1; low = uses.low }) doc ≡ share marks run uses doc + times (added_documents marks (high_case marks run)) doc
high_more marks run uses doc = one_more uses.high (times (added_documents marks (high_case marks run)) doc) (uses.low * times (added_documents marks (low_case marks run)) doc)
  where
    one_more : (n x y : ℕ) → (n + 1) * x + y ≡ n * x + y + x
    one_more n x y = omega arith

pub low_more : (marks : List Mark) (run : List ℕ) (uses : Uses) (doc : ℕ) → share marks run (record { high = uses.high; low = uses.low + 1 }) doc ≡ share marks run uses doc + times (added_documents marks (low_case marks run)) doc
low_more marks run uses doc = one_more uses.low (times (added_documents marks (low_case marks run)) doc) (uses.high * times (added_documents marks (high_case marks run)) doc)
  where
    one_more : (n x y : ℕ) → y + (n + 1) * x ≡ y + n * x + x
    one_more n x y = omega arith

-- no list is used
pub none_used : (marks : List Mark) (t : DeskTopic) (uses : List Uses) (doc n : ℕ) → ((run : ℕ) → run < n → ((get_or uses run no_uses).high ≤ 0) × ((get_or uses run no_uses).low ≤ 0)) → shares marks t uses n doc ≡ 0
none_used marks t uses doc n none = all_none 0 n (λ run from to. nothing run (none run (omega (arith, to))))
  where
    nothing : (run : ℕ) → ((get_or uses run no_uses).high ≤ 0) × ((get_or uses run no_uses).low ≤ 0) → share marks (ranking_on t run) (get_or uses run no_uses) doc ≡ 0
    nothing run few = zeros (get_or uses run no_uses).high (get_or uses run no_uses).low (times (added_documents marks (high_case marks (ranking_on t run))) doc) (times (added_documents marks (low_case marks (ranking_on t run))) doc) (omega (arith, few.0)) (omega (arith, few.1))
      where
        zeros : (h l x y : ℕ) → h ≡ 0 → l ≡ 0 → h * x + l * y ≡ 0
        zeros h l x y e f = ap (λ (k : ℕ). k * x + l * y) e ∙ ap (λ (k : ℕ). 0 * x + k * y) f ∙ omega arith

    all_none : (a m : ℕ) → ((run : ℕ) → a ≤ run → run < a + m → share marks (ranking_on t run) (get_or uses run no_uses) doc ≡ 0) → sum_by (λ run. share marks (ranking_on t run) (get_or uses run no_uses) doc) (range_with_len a m) ≡ 0
    all_none a zero h = refl
    all_none a (suc m) h =
        omega (arith, sum_by-cons (λ run. share marks (ranking_on t run) (get_or uses run no_uses) doc) a (range_with_len (a + 1) m), h a (omega arith) (omega arith), all_none (a + 1) m (λ run from to. h run (omega (arith, from)) (omega (arith, to))))

-- ---- one run more
range_more : (n : ℕ) → range_with_len 0 (n + 1) ≡ range_with_len 0 n ++ n ∷ []
range_more n = sym (map-id (range_with_len 0 (n + 1))) ∙ map-range_with_len_more (λ k. k) 0 n n (omega arith) ∙ ap (λ ks. ks ++ n ∷ []) (map-id (range_with_len 0 n))

pub shares_more : (marks : List Mark) (t : DeskTopic) (uses : List Uses) (n doc : ℕ) → shares marks t uses (n + 1) doc ≡ shares marks t uses n doc + share marks (ranking_on t n) (get_or uses n no_uses) doc
shares_more marks t uses n doc =
    let each : ℕ → ℕ = λ run. share marks (ranking_on t run) (get_or uses run no_uses) doc in
    ap (sum_by each) (range_more n) ∙ sum_by_push each (range_with_len 0 n) n

pub shares_within : (marks : List Mark) (t : DeskTopic) (uses : List Uses) (n k doc : ℕ) → shares marks t uses n doc ≤ shares marks t uses (n + k) doc
shares_within marks t uses n zero doc = omega (arith, ap (λ (m : ℕ). shares marks t uses m doc) (plus_none n))
  where
    plus_none : (m : ℕ) → m + 0 ≡ m
    plus_none m = omega arith
shares_within marks t uses n (suc k) doc =
    let next : n + suc k ≡ (n + k) + 1 = omega arith in
    omega (arith, ap (λ (m : ℕ). shares marks t uses m doc) next, shares_more marks t uses (n + k) doc, shares_within marks t uses n k doc)

-- a run before the last has room for its documents
pub share_room : (marks : List Mark) (t : DeskTopic) (uses : List Uses) (n doc before now room : ℕ) → n < length uses → now ≡ before + shares marks t uses n doc → before + all_shares marks t uses doc < room → now + share marks (ranking_on t n) (get_or uses n no_uses) doc < room
share_room marks t uses n doc before now room lt is under =
    let k = length uses - (n + 1) in
    let whole : (n + 1) + k ≡ length uses = omega (arith, lt) in
    omega (arith, is, under, shares_more marks t uses n doc, shares_within marks t uses (n + 1) k doc, ap (λ (m : ℕ). shares marks t uses m doc) whole)

-- ---- the documents of a run's lists, by their marks and classes
so_many : (b : Bool) (uses : ℕ) → cond b uses 0 ≡ uses * cond b 1 0
so_many true uses = omega arith
so_many false uses = omega arith

class_times : (marks : List Mark) (truth : ℕ → Bool) (high : Bool) (class : Class) (uses doc : ℕ) → doc < length marks → has high class ≡ truth doc → cond (is_unjudged (mark_at marks doc) && has high class) uses 0 ≡ uses * times (added_documents marks truth) doc
class_times marks truth high class uses doc lt is =
    ap (λ (b : Bool). cond (is_unjudged (mark_at marks doc) && b) uses 0) is ∙ so_many (is_unjudged (mark_at marks doc) && truth doc) uses ∙ ap (λ (n : ℕ). uses * n) (sym (times_added marks truth doc lt))

pub share_is : (marks : List Mark) (run : List ℕ) (classes : List Class) (uses : Uses) (doc high low : ℕ) → AreClasses marks run classes → doc < length marks →
    high ≡ cond (is_unjudged (mark_at marks doc) && has true (class_at classes doc)) uses.high 0 → low ≡ cond (is_unjudged (mark_at marks doc) && has false (class_at classes doc)) uses.low 0 → high + low ≡ share marks run uses doc
share_is marks run classes uses doc high low are lt e f =
    omega (arith, e ∙ class_times marks (high_case marks run) true (class_at classes doc) uses.high doc lt (are.high doc lt), f ∙ class_times marks (low_case marks run) false (class_at classes doc) uses.low doc lt (are.low doc lt))

-- ---- counts that are raised document by document
pub one_raised : (before now : List ℕ) (share : ℕ → ℕ) (i more : ℕ) → i < length now → ((d : ℕ) → d < i → get_or now d 0 ≡ get_or before d 0 + share d) → get_or now i 0 ≡ get_or before i 0 → more ≡ share i →
    (d : ℕ) → d < i + 1 → get_or (set now i (get_or now i 0 + more)) d 0 ≡ get_or before d 0 + share d
one_raised before now share i more within raised left is d lt = go (nat_eq i d) refl (λ under. raised d under)
  where
    go : (b : Bool) → nat_eq i d ≡ b → (d < i → get_or now d 0 ≡ get_or before d 0 + share d) → get_or (set now i (get_or now i 0 + more)) d 0 ≡ get_or before d 0 + share d
    go true e earlier =
        let same : d ≡ i = grind (arith, nat_tests) in
        get_or-set_at now i d (get_or now i 0 + more) 0 same within ∙ (omega (arith, left, is, ap (λ (k : ℕ). get_or before k 0) same, ap share same))
    go false e earlier =
        let apart : i ≢ d = grind (arith, nat_tests) in
        let under : d < i = grind (arith, nat_tests) in
        get_or-set_other now i d (get_or now i 0 + more) 0 (λ e. apart (sym e)) ∙ earlier under

pub one_left : (before now : List ℕ) (i value : ℕ) → ((d : ℕ) → i ≤ d → get_or now d 0 ≡ get_or before d 0) → (d : ℕ) → i + 1 ≤ d → get_or (set now i value) d 0 ≡ get_or before d 0
one_left before now i value left d over =
    let apart : d ≢ i = λ e. omega (arith, over, e) in
    get_or-set_other now i d value 0 apart ∙ left d (omega (arith, over))
