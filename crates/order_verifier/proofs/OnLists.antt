-- The documents that a list makes relevant.
use Rattle.std.proofs.Common.{◌≡◌, ◌≢◌, ℕ, suc, ◌+◌, ◌-◌, ◌<◌, ◌≤◌, Bool, true, false, ◌&&◌, ◌||◌, nat_eq, List, [], ◌∷◌, length, get_or, map, cond, count_by, Some, None, refl, ap, sym, subst, ◌∙◌, arith}
use Rattle.std.specs.List.{AllByRecursion, list_any, position_from, range_with_len}
use Rattle.std.specs.Cmp.Lexicographic.{same_text}
use Rattle.std.specs.List.Sorted.{IsStrictlySortedBy}
use Rattle.std.specs.Ordering.{is_eq}
use Rattle.std.specs.declared.cmp.Ordering.TheVariants.{Less}
use Rattle.std.proofs.Math.Bool.{and-true, and-false}
use Rattle.std.proofs.lemmas.Bool.{eqb-false}
use Rattle.std.proofs.lemmas.List.{map-id}
use Rattle.std.proofs.lemmas.List.FromFn.{length-range_with_len}
use Rattle.std.proofs.lemmas.List.Sums.{count_by-le-length}
use Rattle.std.proofs.lemmas.List.Elements.{recursion_from_All}
use Rattle.desk_model.specs.Mark.{is_unjudged, mark_at}
use Rattle.desk_model.specs.Completion.{with_picked}
use Rattle.desk_model.specs.Name.{is_same_name, name_cmp, number_of, AreAscending}
use Rattle.desk_model.specs.Score.{true_count}
use Rattle.desk_model.specs.declared.types.Mark.{Mark}
use Rattle.desk_model.specs.declared.types.Mark.TheVariants.{Unjudged}
use Rattle.desk_model.proofs.Counts.{one_if, count_by-agree, count_by-none, nat_eq-true}
use Rattle.desk_model.proofs.Names.{same_by_cmp, ascending_far}
use Rattle.desk_model.proofs.PrecisionEnds.{weaker}
use Rattle.measure_laws.specs.Classes.{judged_count, open_in}
use Rattle.measure_laws.proofs.Ranks.{one_counts, sum_by-agree, sum_by-plus}
use Rattle.measure_laws.proofs.RecallEnds.{every, range_below}
use Rattle.measure_laws.proofs.RprecEnds.{count_picked}
use Rattle.order_certificate.specs.Evidence.{listed_truth}
use Rattle.order_verifier.specs.Checks.{AreListed, NamesOnTopic, unranked}
use Rattle.order_certificate.proofs.Holds.{place_within}
use Rattle.order_verifier.proofs.Unjudged.{IsUnjudgedName}

-- whether a name has a number says whether it is on the list
pub any_none : {X : Type 0} (p : X → Bool) (n : ℕ) (xs : List X) → position_from p n xs ≡ None → list_any p xs ≡ false
any_none p n [] e = refl
any_none p n (x ∷ xs) e = by (p x) (any_none p (n + 1) xs) e
  where
    by : (b : Bool) → (position_from p (n + 1) xs ≡ None → list_any p xs ≡ false) → cond b (Some n) (position_from p (n + 1) xs) ≡ None → (b || list_any p xs) ≡ false
    by true later e = absurd (cc)
    by false later e = later e

pub any_some : {X : Type 0} (p : X → Bool) (n i : ℕ) (xs : List X) → position_from p n xs ≡ Some i → list_any p xs ≡ true
any_some p n i [] e = absurd (cc)
any_some p n i (x ∷ xs) e = by (p x) (any_some p (n + 1) i xs) e
  where
    by : (b : Bool) → (position_from p (n + 1) xs ≡ Some i → list_any p xs ≡ true) → cond b (Some n) (position_from p (n + 1) xs) ≡ Some i → (b || list_any p xs) ≡ true
    by true later e = refl
    by false later e = later e

-- the item at the place that was found passes the test
found : {X : Type 0} (p : X → Bool) (n j : ℕ) (xs : List X) (d : X) → position_from p n xs ≡ Some j → (n ≤ j) × (p (get_or xs (j - n) d) ≡ true)
found p n j [] d e = absurd (cc)
found p n j (x ∷ xs) d e = by (p x) refl (λ later. found p (n + 1) j xs d later) e
  where
    by : (b : Bool) → p x ≡ b → (position_from p (n + 1) xs ≡ Some j → (n + 1 ≤ j) × (p (get_or xs (j - (n + 1)) d) ≡ true)) → cond b (Some n) (position_from p (n + 1) xs) ≡ Some j → (n ≤ j) × (p (get_or (x ∷ xs) (j - n) d) ≡ true)
    by true is rest e =
        let at : n ≡ j = cc in
        let none : j - n ≡ 0 = omega arith in
        (omega arith, ap (λ k. p (get_or (x ∷ xs) k d)) none ∙ is)
    by false is rest e =
        let later = rest e in
        let one : j - n ≡ suc (j - (n + 1)) = omega (arith, later.0) in
        (omega (arith, later.0), ap (λ k. p (get_or (x ∷ xs) k d)) one ∙ later.1)

-- a name is not smaller than itself
pub not_below_itself : (name : List ℕ) → is_same_name name name ≡ true → name_cmp name name ≡ Less → ⊥
not_below_itself name same less =
    let apart : is_same_name name name ≡ false = same_by_cmp name name ∙ ap is_eq less in cc

-- whether a list names a document
abbrev on_list : List (List ℕ) → List (List ℕ) → ℕ → Bool
on_list docs names d = list_any (λ name. is_same_name name (get_or docs d [])) names

module _ (docs : List (List ℕ)) (up : AreAscending docs) where
  module _ (name : List ℕ) (x : ℕ) (number : number_of docs name ≡ Some x) where
    itself : is_same_name (get_or docs x []) name ≡ true
    itself =
        let at = found (λ each. is_same_name each name) 0 x docs [] number in
        let same : x - 0 ≡ x = omega arith in sym (ap (λ k. is_same_name (get_or docs k []) name) same) ∙ at.1

    pub its_name : get_or docs x [] ≡ name
    its_name = same_text (get_or docs x []) name (sym itself)

    own_name : is_same_name name name ≡ true
    own_name = subst (λ y. is_same_name y name ≡ true) its_name itself

    pub inside : x < length docs
    inside = let at = place_within (λ each. is_same_name each name) docs 0 x number in omega (arith, at)

    -- no other document has the name
    another : (d : ℕ) → d < length docs → d ≢ x → is_same_name name (get_or docs d []) ≡ true → ⊥
    another d lt apart same =
        let there : name ≡ get_or docs d [] = same_text name (get_or docs d []) (sym same) in
        let below : d < x → ⊥ = λ h. not_below_itself name own_name (subst (λ y. name_cmp y name ≡ Less) (sym there) (subst (λ y. name_cmp (get_or docs d []) y ≡ Less) its_name (ascending_far (λ (y : List ℕ). y) docs d x [] up' h inside))) in
        let above : x < d → ⊥ = λ h. not_below_itself name own_name (subst (λ y. name_cmp y name ≡ Less) its_name (subst (λ y. name_cmp (get_or docs x []) y ≡ Less) (sym there) (ascending_far (λ (y : List ℕ). y) docs x d [] up' h lt))) in
        grind (arith, below, above)
      where
        up' : AreAscending (map (λ (y : List ℕ). y) docs)
        up' = rw (map-id docs) up

    pub by_number : (d : ℕ) → d < length docs → is_same_name name (get_or docs d []) ≡ nat_eq x d
    by_number d lt = by (nat_eq x d) refl
      where
        by : (b : Bool) → nat_eq x d ≡ b → is_same_name name (get_or docs d []) ≡ b
        by true e =
            let same : x ≡ d = nat_eq-true x d e in
            let its : name ≡ get_or docs d [] = sym its_name ∙ ap (λ k. get_or docs k []) same in subst (λ y. is_same_name name y ≡ true) its own_name
        by false e = other (is_same_name name (get_or docs d [])) refl
          where
            other : (c : Bool) → is_same_name name (get_or docs d []) ≡ c → c ≡ false
            other true is = absurd (another d lt (λ same. eqb-false x d e (sym same)) is)
            other false is = refl

    -- a list on which the name does not stand does not name its document
    off_list : (rest : List (List ℕ)) → AllByRecursion (λ y. name_cmp name y ≡ Less) rest → on_list docs rest x ≡ false
    off_list [] h = refl
    off_list (y ∷ rest) h = join (is_same_name y (get_or docs x [])) refl (off_list rest h.1)
      where
        join : (c : Bool) → is_same_name y (get_or docs x []) ≡ c → on_list docs rest x ≡ false → (c || on_list docs rest x) ≡ false
        join true is later =
            let same : y ≡ name = same_text y (get_or docs x []) (sym is) ∙ its_name in
            absurd (not_below_itself name own_name (subst (λ z. name_cmp name z ≡ Less) same h.0))
        join false is later = later

one_more : (o s r e : Bool) → s ≡ e → (e ≡ true → (o ≡ true) × (r ≡ false)) → one_if (o && (s || r)) ≡ one_if e + one_if (o && r)
one_more o s r true is h =
    let k = h refl in rw (is, k.0, k.1) refl
one_more o s r false is h = rw is (omega arith)

module _ (marks : List Mark) (docs : List (List ℕ)) (sized : length marks ≡ length docs) (up : AreAscending docs) where
  -- as many unjudged documents are on a list as it has names
  on_list_count : (names : List (List ℕ)) → AreAscending names → AllByRecursion (λ name. (doc : ℕ) × (number_of docs name ≡ Some doc) × (mark_at marks doc ≡ Unjudged)) names →
      count_by (λ d. open_in marks (λ _. true) d && on_list docs names d) (range_with_len 0 (length marks)) ≡ length names
  unfolding IsStrictlySortedBy
  on_list_count [] sorted h = count_by-none (λ d. open_in marks (λ _. true) d && false) (range_with_len 0 (length marks)) (every (λ d. (open_in marks (λ _. true) d && false) ≡ false) (λ d. and-false (open_in marks (λ _. true) d)) (range_with_len 0 (length marks)))
  on_list_count (name ∷ rest) sorted (here, later) =
      let x = here.0 in
      let range = range_with_len 0 (length marks) in
      let old = λ (d : ℕ). one_if (open_in marks (λ _. true) d && on_list docs rest d) in
      let at_x : open_in marks (λ _. true) x ≡ true = ap (λ m. is_unjudged m && true) here.2 in
      let off = off_list docs up name x here.1 rest sorted.0 in
      let step : AllByRecursion (λ d. one_if (open_in marks (λ _. true) d && (is_same_name name (get_or docs d []) || on_list docs rest d)) ≡ one_if (nat_eq x d) + old d) range =
      weaker (λ d. d < length marks) (λ d. one_if (open_in marks (λ _. true) d && (is_same_name name (get_or docs d []) || on_list docs rest d)) ≡ one_if (nat_eq x d) + old d)
      (λ d lt. one_more (open_in marks (λ _. true) d) (is_same_name name (get_or docs d [])) (on_list docs rest d) (nat_eq x d) (by_number docs up name x here.1 d (omega (arith, lt, sized)))
      (λ e. let same : x ≡ d = nat_eq-true x d e in (subst (λ k. open_in marks (λ _. true) k ≡ true) same at_x, subst (λ k. on_list docs rest k ≡ false) same off))) range (range_below (length marks)) in
      let one = one_counts (λ _. 1) x 0 (length marks) (omega arith) (omega (arith, inside docs up name x here.1, sized)) in
      let before = on_list_count rest sorted.1 later in
      omega (arith, sum_by-agree _ _ range step, sum_by-plus (λ d. one_if (nat_eq x d)) old range, one, before)

-- the relevant documents of the completion that a list stands for
pub relevant_listed : (l : NamesOnTopic) → AreListed l → true_count (listed_truth (unranked l) l.names) (length l.marks) ≡ judged_count l.marks + length l.names
relevant_listed l h =
    let range = range_with_len 0 (length l.marks) in
    let pick = λ (d : ℕ). list_any (λ name. is_same_name name (get_or l.docs d [])) l.names in
    let whole = λ (p : ℕ → Bool). count_by-agree (λ d. p d && true) p range (every (λ d. (p d && true) ≡ p d) (λ d. and-true (p d)) range) in
    let split = count_picked l.marks pick (λ _. true) range in
    let listed = on_list_count l.marks l.docs h.sized h.docs l.names h.names (recursion_from_All (IsUnjudgedName (unranked l)) l.names h.unjudged) in
    omega (arith, whole (with_picked l.marks pick), whole (with_picked l.marks (λ _. false)), split, listed)

-- they are some of the topic's documents
pub relevant_within : (l : NamesOnTopic) → AreListed l → judged_count l.marks + length l.names ≤ 25000000
relevant_within l h =
    omega (
      arith,
      relevant_listed l h,
      count_by-le-length (listed_truth (unranked l) l.names) (range_with_len 0 (length l.marks)),
      length-range_with_len 0 (length l.marks),
      h.sized,
      h.small,
    )
