-- The unjudged documents of places that pass a test of their ranks, and the walk that lists them.
use Rattle.std.proofs.Common.{◌≡◌, ◌⊎◌, inl, inr, ℕ, zero, suc, ◌+◌, ◌<◌, ◌≤◌, Bool, true, false, cond, nat_eq, nat_le, ◌&&◌, List, [], ◌∷◌, ◌++◌, drop, length, map, slice_index_or, Option, Some, None, refl, ap, sym, subst, ◌∙◌, arith}
use Rattle.std.specs.Prelude.{filter, if◌then◌else◌}
use Rattle.std.specs.List.{AllByRecursion, range_with_len}
use Rattle.std.proofs.Math.Bool.{and-false}
use Rattle.std.proofs.Math.Seq.{drop-cons}
use Rattle.std.proofs.lemmas.Bool.Decides.{nat_tests}
use Rattle.std.proofs.lemmas.List.{drop_all}
use Rattle.small_lemmas.proofs.Tests.{apart_below}
use Rattle.desk_model.specs.Completion.{with_picked}
use Rattle.desk_model.specs.Mark.{is_unjudged, mark_at}
use Rattle.desk_model.specs.Placed.{lookup, IsAscending}
use Rattle.desk_model.specs.Ranking.{rank}
use Rattle.desk_model.specs.declared.placed.Placed.{Placed}
use Rattle.desk_model.specs.declared.types.Mark.{Mark}
use Rattle.desk_model.proofs.Counts.{one_if, nat_eq-true}
use Rattle.topic_counts.proofs.Merge.{absent_below, further}
use Rattle.topic_counts.proofs.Places.{IsAscending-drop, stepped}
use Rattle.measure_core.specs.Lists.{added_documents, passes_by_ranks, placed_documents}
use Rattle.measure_core.specs.Places.{rank_unless_after, IsLeft}
use Rattle.measure_core.proofs.Pushing.{cond_pushed, open_picked}

pub weaker_places : (P Q : Placed → Type 0) → ((p : Placed) → P p → Q p) → (ps : List Placed) → AllByRecursion P ps → AllByRecursion Q ps
weaker_places P Q f [] h = tt
weaker_places P Q f (p ∷ ps) h = (f p h.0, weaker_places P Q f ps h.1)

module _ (marks : List Mark) where
  pub placed_cons : (test : Placed → Bool) (p : Placed) (ps : List Placed) → placed_documents marks test (p ∷ ps) ≡ cond (is_unjudged (mark_at marks p.doc) && test p) (p.doc ∷ placed_documents marks test ps) (placed_documents marks test ps)
  placed_cons test p ps = at (is_unjudged (mark_at marks p.doc) && test p)
    where
      kept : List Placed
      kept = filter (λ (q : Placed). is_unjudged (mark_at marks q.doc) && test q) ps

      at : (b : Bool) → map (λ (q : Placed). q.doc) (cond b (p ∷ kept) kept) ≡ cond b (p.doc ∷ map (λ (q : Placed). q.doc) kept) (map (λ (q : Placed). q.doc) kept)
      at true = refl
      at false = refl

  pub placed_same : (test other : Placed → Bool) (ps : List Placed) → AllByRecursion (λ p. test p ≡ other p) ps → placed_documents marks test ps ≡ placed_documents marks other ps
  placed_same test other [] h = refl
  placed_same test other (p ∷ ps) h =
      let u = is_unjudged (mark_at marks p.doc) in
      placed_cons test p ps ∙ ap (λ l. cond (u && test p) (p.doc ∷ l) l) (placed_same test other ps h.1) ∙ ap (λ b. cond (u && b) (p.doc ∷ placed_documents marks other ps) (placed_documents marks other ps)) h.0 ∙ sym (placed_cons other p ps)

  -- the places of a list from one on
  pub placed_step : (test : Placed → Bool) (ps : List Placed) (i : ℕ) (o : Placed) (b : Bool) → i < length ps → let p = slice_index_or ps i o in (is_unjudged (mark_at marks p.doc) && test p) ≡ b →
      placed_documents marks test (drop i ps) ≡ cond b (p.doc ∷ placed_documents marks test (drop (i + 1) ps)) (placed_documents marks test (drop (i + 1) ps))
  placed_step test ps i o b lt e =
      let p = slice_index_or ps i o in
      let next : suc i ≡ i + 1 = omega arith in
      ap (placed_documents marks test) (drop-cons ps i o lt) ∙ placed_cons test p (drop (suc i) ps) ∙ ap (λ n. cond (is_unjudged (mark_at marks p.doc) && test p) (p.doc ∷ placed_documents marks test (drop n ps)) (placed_documents marks test (drop n ps))) next
      ∙ ap (λ t. cond t (p.doc ∷ placed_documents marks test (drop (i + 1) ps)) (placed_documents marks test (drop (i + 1) ps))) e

  -- ---- all places are all documents that pass
  module _ (look : ℕ → Option ℕ) (test : Option ℕ → Option ℕ → Bool) (absent : (x : Option ℕ) → test x None ≡ false) where
    abbrev pub by_look : Placed → Bool
    by_look p = test (look p.doc) (Some p.rank)

    later : (m n : ℕ) → m ≤ n → nat_eq n m ≡ false → m < n
    later m n h e = grind (arith, nat_tests)

    pub placed_are : (whole : ℕ → Bool) (n low : ℕ) (ps : List Placed) → IsAscending ps → AllByRecursion (λ (p : Placed). low ≤ p.doc) ps → AllByRecursion (λ (p : Placed). p.doc < low + n) ps →
        ((d : ℕ) → low ≤ d → d < low + n → whole d ≡ (is_unjudged (mark_at marks d) && test (look d) (lookup ps d))) → filter whole (range_with_len low n) ≡ placed_documents marks by_look ps
    placed_are whole zero low [] up from to same = refl
    placed_are whole zero low (p ∷ ps) up from to same = absurd (omega (arith, from.0, to.0))
    placed_are whole (suc n) low [] up from to same =
        let rest = filter whole (range_with_len (low + 1) n) in
        let fails : whole low ≡ false = same low (omega arith) (omega arith) ∙ ap (λ b. is_unjudged (mark_at marks low) && b) (absent (look low)) ∙ and-false (is_unjudged (mark_at marks low)) in
        ap (λ b. cond b (low ∷ rest) rest) fails ∙ placed_are whole n (low + 1) [] tt tt tt (λ d lo hi. same d (omega (arith, lo)) (omega (arith, hi)))
    placed_are whole (suc n) low (p ∷ ps) up from to same =
        at (nat_eq p.doc low) refl
        (λ is. placed_are whole n (low + 1) ps up.1 (weaker_places (λ q. p.doc < q.doc) (λ q. low + 1 ≤ q.doc) (λ q lt. omega (arith, lt, is)) ps up.0) (weaker_places (λ q. q.doc < low + suc n) (λ q. q.doc < low + 1 + n) (λ q lt. omega (arith, lt)) ps to.1)
        (λ d lo hi. same d (omega (arith, lo)) (omega (arith, hi)) ∙ ap (λ (b : Bool). is_unjudged (mark_at marks d) && test (look d) (if b then Some p.rank else lookup ps d)) (apart_below p.doc d (omega (arith, lo, is)))))
        (λ lt. placed_are whole n (low + 1) (p ∷ ps) up (omega (arith, lt), weaker_places (λ q. p.doc < q.doc) (λ q. low + 1 ≤ q.doc) (λ q h. omega (arith, lt, h)) ps up.0) (weaker_places (λ q. q.doc < low + suc n) (λ q. q.doc < low + 1 + n) (λ q h. omega (arith, h)) (p ∷ ps) to)
        (λ d lo hi. same d (omega (arith, lo)) (omega (arith, hi))))
      where
        rest : List ℕ
        rest = filter whole (range_with_len (low + 1) n)

        at : (b : Bool) → nat_eq p.doc low ≡ b → (p.doc ≡ low → rest ≡ placed_documents marks by_look ps) → (low < p.doc → rest ≡ placed_documents marks by_look (p ∷ ps)) → cond (whole low) (low ∷ rest) rest ≡ placed_documents marks by_look (p ∷ ps)
        at true e here after =
            let is : p.doc ≡ low = nat_eq-true p.doc low e in
            let tested : whole low ≡ (is_unjudged (mark_at marks p.doc) && by_look p) =
            same low (omega arith) (omega arith) ∙ ap (λ (b : Bool). is_unjudged (mark_at marks low) && test (look low) (if b then Some p.rank else lookup ps low)) e ∙ ap (λ d. is_unjudged (mark_at marks d) && test (look d) (Some p.rank)) (sym is) in
            ap (λ b. cond b (low ∷ rest) rest) tested ∙ ap (λ d. cond (is_unjudged (mark_at marks p.doc) && by_look p) (d ∷ rest) rest) (sym is)
            ∙ ap (λ l. cond (is_unjudged (mark_at marks p.doc) && by_look p) (p.doc ∷ l) l) (here is) ∙ sym (placed_cons by_look p ps)
        at false e here after =
            let lt : low < p.doc = later low p.doc from.0 e in
            let gone : lookup (p ∷ ps) low ≡ None = absent_below low (p ∷ ps) (lt, further low p.doc ps (omega (arith, lt)) up.0) in
            let fails : whole low ≡ false = same low (omega arith) (omega arith) ∙ ap (λ (r : Option ℕ). is_unjudged (mark_at marks low) && test (look low) r) gone ∙ ap (λ b. is_unjudged (mark_at marks low) && b) (absent (look low)) ∙ and-false (is_unjudged (mark_at marks low)) in
            ap (λ b. cond b (low ∷ rest) rest) fails ∙ after lt

-- the unjudged documents whose ranks pass are those of the places of the second ranking that do, by any account of the ranks in the first
pub looked_listed : (marks : List Mark) (test : Option ℕ → Option ℕ → Bool) (absent : (x : Option ℕ) → test x None ≡ false) (a b : List ℕ) (look : ℕ → Option ℕ) (fs : List Placed) → ((d : ℕ) → d < length marks → look d ≡ rank a d) → ((d : ℕ) → lookup fs d ≡ rank b d) → IsLeft (length marks) fs →
    added_documents marks (with_picked marks (passes_by_ranks test a b)) ≡ placed_documents marks (λ (p : Placed). test (look p.doc) (Some p.rank)) fs
looked_listed marks test absent a b look fs ea eb right =
    let n = length marks in
    let truth = with_picked marks (passes_by_ranks test a b) in
    let same : (d : ℕ) → d < n → (is_unjudged (mark_at marks d) && truth d) ≡ (is_unjudged (mark_at marks d) && test (look d) (lookup fs d)) =
    λ d lt. open_picked (test (rank a d) (rank b d)) (mark_at marks d) ∙ sym (ap (λ (r : Option ℕ). is_unjudged (mark_at marks d) && test r (lookup fs d)) (ea d lt) ∙ ap (λ (r : Option ℕ). is_unjudged (mark_at marks d) && test (rank a d) r) (eb d)) in
    placed_are marks look test absent (λ d. is_unjudged (mark_at marks d) && truth d) n 0 fs right.ascending
    (weaker_places (λ p. p.doc < n) (λ p. 0 ≤ p.doc) (λ p h. omega arith) fs right.within) (weaker_places (λ p. p.doc < n) (λ p. p.doc < 0 + n) (λ p h. omega (arith, h)) fs right.within) (λ d from to. same d (omega (arith, to)))

-- and by the places of the first
pub ranked_listed : (marks : List Mark) (test : Option ℕ → Option ℕ → Bool) (absent : (x : Option ℕ) → test x None ≡ false) (a b : List ℕ) (es fs : List Placed) → ((d : ℕ) → lookup es d ≡ rank a d) → ((d : ℕ) → lookup fs d ≡ rank b d) → IsLeft (length marks) fs →
    added_documents marks (with_picked marks (passes_by_ranks test a b)) ≡ placed_documents marks (λ (p : Placed). test (lookup es p.doc) (Some p.rank)) fs
ranked_listed marks test absent a b es fs ea eb right = looked_listed marks test absent a b (lookup es) fs (λ d lt. ea d) eb right

-- ---- the walk over two lists
-- what is left of the first list has the ranks of the documents that are left of the second
abbrev pub AreRanked : List Placed → List Placed → List Placed → Type 0
AreRanked whole left places = AllByRecursion (λ (p : Placed). lookup left p.doc ≡ lookup whole p.doc) places

pub ranked_whole : (whole places : List Placed) → AreRanked whole whole places
ranked_whole whole [] = tt
ranked_whole whole (p ∷ ps) = (refl, ranked_whole whole ps)

past_first : (whole : List Placed) (x : Placed) (xs ps : List Placed) → AllByRecursion (λ (p : Placed). x.doc < p.doc) ps → AreRanked whole (x ∷ xs) ps → AreRanked whole xs ps
past_first whole x xs [] after h = tt
past_first whole x xs (p ∷ ps) after h = (sym (ap (λ (b : Bool). if b then Some x.rank else lookup xs p.doc) (apart_below x.doc p.doc after.0)) ∙ h.0, past_first whole x xs ps after.1 h.1)

step_past : (whole : List Placed) (x y : Placed) (xs ys : List Placed) (b c : Bool) → nat_le x.doc y.doc ≡ b → nat_le y.doc x.doc ≡ c → IsAscending (y ∷ ys) → AreRanked whole (x ∷ xs) (y ∷ ys) →
    AreRanked whole (if b then xs else x ∷ xs) (if c then ys else y ∷ ys)
step_past whole x y xs ys true true e f up h = let order : x.doc ≤ y.doc = grind (arith, nat_tests) in past_first whole x xs ys (weaker_places (λ p. y.doc < p.doc) (λ p. x.doc < p.doc) (λ p lt. omega (arith, lt, order)) ys up.0) h.1
step_past whole x y xs ys true false e f up h =
    let order : x.doc < y.doc = grind (arith, nat_tests) in past_first whole x xs (y ∷ ys) (order, weaker_places (λ p. y.doc < p.doc) (λ p. x.doc < p.doc) (λ p lt. omega (arith, lt, order)) ys up.0) h
step_past whole x y xs ys false true e f up h = h.1
step_past whole x y xs ys false false e f up h = h

pub ranked_step : (es fs : List Placed) (i j p q : ℕ) (o : Placed) → i < length es → j < length fs → IsAscending fs → AreRanked es (drop i es) (drop j fs) →
    let x = slice_index_or es i o in let y = slice_index_or fs j o in p ≡ i + one_if (nat_le x.doc y.doc) → q ≡ j + one_if (nat_le y.doc x.doc) → AreRanked es (drop p es) (drop q fs)
ranked_step es fs i j p q o in_first in_second up h e f =
    let x = slice_index_or es i o in
    let y = slice_index_or fs j o in
    let b = nat_le x.doc y.doc in
    let c = nat_le y.doc x.doc in
    let first = drop-cons es i o in_first in
    let second = drop-cons fs j o in_second in
    let rises : IsAscending (y ∷ drop (suc j) fs) = subst IsAscending second (IsAscending-drop j fs up) in
    let here : AreRanked es (x ∷ drop (suc i) es) (y ∷ drop (suc j) fs) = subst (λ zs. AreRanked es zs (y ∷ drop (suc j) fs)) first (subst (AreRanked es (drop i es)) second h) in
    let next = step_past es x y (drop (suc i) es) (drop (suc j) fs) b c refl refl rises here in
    let to_first : (if b then drop (suc i) es else x ∷ drop (suc i) es) ≡ drop p es = ap (λ (zs : List Placed). if b then drop (suc i) es else zs) (sym first) ∙ stepped i es b ∙ ap (λ m. drop m es) (sym e) in
    let to_second : (if c then drop (suc j) fs else y ∷ drop (suc j) fs) ≡ drop q fs = ap (λ (zs : List Placed). if c then drop (suc j) fs else zs) (sym second) ∙ stepped j fs c ∙ ap (λ m. drop m fs) (sym f) in
    subst (λ zs. AreRanked es zs (drop q fs)) to_first (subst (AreRanked es (if b then drop (suc i) es else x ∷ drop (suc i) es)) to_second next)

-- the rank of the document of the second place, where that of the first comes no earlier
head_ranked : (x y : Placed) (xs : List Placed) (b : Bool) → nat_le x.doc y.doc ≡ b → nat_le y.doc x.doc ≡ true → IsAscending (x ∷ xs) → lookup (x ∷ xs) y.doc ≡ rank_unless_after x y
head_ranked x y xs true e f up =
    let same : nat_eq x.doc y.doc ≡ true = grind (arith, nat_tests) in
    ap (λ (b : Bool). if b then Some x.rank else lookup xs y.doc) same ∙ sym (ap (λ (b : Bool). if b then Some x.rank else None) e)
head_ranked x y xs false e f up =
    let order : y.doc < x.doc = grind (arith, nat_tests) in
    absent_below y.doc (x ∷ xs) (order, further y.doc x.doc xs (omega (arith, order)) up.0) ∙ sym (ap (λ (b : Bool). if b then Some x.rank else None) e)

module _ (marks : List Mark) (test : Option ℕ → Option ℕ → Bool) (es fs : List Placed) where
  abbrev pub listed_by : Placed → Bool
  listed_by p = test (lookup es p.doc) (Some p.rank)

  -- the documents that are left to be listed from a place on
  abbrev pub listed_from : ℕ → List ℕ
  listed_from j = placed_documents marks listed_by (drop j fs)

  -- one is listed, or none
  pub rest_step : (i j q : ℕ) (o : Placed) (b : Bool) → i < length es → j < length fs → IsAscending es → AreRanked es (drop i es) (drop j fs) → let x = slice_index_or es i o in let y = slice_index_or fs j o in
      q ≡ j + one_if (nat_le y.doc x.doc) → b ≡ (nat_le y.doc x.doc && (is_unjudged (mark_at marks y.doc) && test (rank_unless_after x y) (Some y.rank))) →
      listed_from j ≡ cond b (y.doc ∷ listed_from q) (listed_from q)
  rest_step i j q o b in_first in_second up ranked f listed = at (nat_le y.doc x.doc) refl
    where
      x : Placed
      x = slice_index_or es i o

      y : Placed
      y = slice_index_or fs j o

      u : Bool
      u = is_unjudged (mark_at marks y.doc)

      at : (c : Bool) → nat_le y.doc x.doc ≡ c → listed_from j ≡ cond b (y.doc ∷ listed_from q) (listed_from q)
      at true t =
          let first = drop-cons es i o in_first in
          let second = drop-cons fs j o in_second in
          let rises : IsAscending (x ∷ drop (suc i) es) = subst IsAscending first (IsAscending-drop i es up) in
          let here : AreRanked es (drop i es) (y ∷ drop (suc j) fs) = subst (AreRanked es (drop i es)) second ranked in
          let known : lookup es y.doc ≡ rank_unless_after x y = sym here.0 ∙ ap (λ zs. lookup zs y.doc) first ∙ head_ranked x y (drop (suc i) es) (nat_le x.doc y.doc) refl t rises in
          let tested : (u && listed_by y) ≡ b = ap (λ (r : Option ℕ). u && test r (Some y.rank)) known ∙ sym (listed ∙ ap (λ c. c && (u && test (rank_unless_after x y) (Some y.rank))) t) in
          let next_place : q ≡ j + 1 = f ∙ ap (λ c. j + one_if c) t in
          placed_step marks listed_by fs j o b in_second tested ∙ sym (ap (λ m. cond b (y.doc ∷ listed_from m) (listed_from m)) next_place)
      at false t =
          let none : b ≡ false = listed ∙ ap (λ c. c && (u && test (rank_unless_after x y) (Some y.rank))) t in
          let place : q ≡ j = let nothing : j + 0 ≡ j = omega arith in f ∙ ap (λ c. j + one_if c) t ∙ nothing in
          sym (ap listed_from place) ∙ sym (ap (λ c. cond c (y.doc ∷ listed_from q) (listed_from q)) none)

  no_ranks : (ps : List Placed) → AreRanked es [] ps → AllByRecursion (λ (p : Placed). test None (Some p.rank) ≡ listed_by p) ps
  no_ranks [] h = tt
  no_ranks (p ∷ ps) h = (ap (λ (r : Option ℕ). test r (Some p.rank)) h.0, no_ranks ps h.1)

  -- one of the two lists is at its end
  pub rest_end : (i j : ℕ) → (length es ≤ i) ⊎ (length fs ≤ j) → AreRanked es (drop i es) (drop j fs) → placed_documents marks (λ (p : Placed). test None (Some p.rank)) (drop j fs) ≡ listed_from j
  rest_end i j (inl end) ranked =
      let left : AreRanked es [] (drop j fs) = subst (λ zs. AreRanked es zs (drop j fs)) (drop_all i es end) ranked in
      placed_same marks (λ (p : Placed). test None (Some p.rank)) listed_by (drop j fs) (no_ranks (drop j fs) left)
  rest_end i j (inr end) ranked =
      let none = drop_all j fs end in
      ap (placed_documents marks (λ (p : Placed). test None (Some p.rank))) none ∙ sym (ap (placed_documents marks listed_by) none)

  module _ (before : List ℕ) where
    -- what is pushed, and what is left of the places, are what is to be pushed of all
    pub record AreWalked (i j : ℕ) (now : List ℕ) : Type 0 where
      pub made : now ++ listed_from j ≡ before ++ placed_documents marks listed_by fs
      pub ranked : AreRanked es (drop i es) (drop j fs)

    pub walk_start : AreWalked 0 0 before
    walk_start = record { made = refl; ranked = ranked_whole es fs }

    pub walk_next : (i j p q : ℕ) (o : Placed) (now next : List ℕ) (b : Bool) → i < length es → j < length fs → IsAscending es → IsAscending fs → AreWalked i j now → let x = slice_index_or es i o in let y = slice_index_or fs j o in
        p ≡ i + one_if (nat_le x.doc y.doc) → q ≡ j + one_if (nat_le y.doc x.doc) → b ≡ (nat_le y.doc x.doc && (is_unjudged (mark_at marks y.doc) && test (rank_unless_after x y) (Some y.rank))) →
        next ≡ cond b (now ++ y.doc ∷ []) now → AreWalked p q next
    walk_next i j p q o now next b in_first in_second up also_up h e f listed pushed =
        let y = slice_index_or fs j o in
        record {
          made = cond_pushed now (listed_from j) (listed_from q) (before ++ placed_documents marks listed_by fs) next y.doc b (rest_step i j q o b in_first in_second up h.ranked f listed) pushed h.made;
          ranked = ranked_step es fs i j p q o in_first in_second also_up h.ranked e f;
        }

    pub walk_end : (i j : ℕ) (now : List ℕ) → (length es ≤ i) ⊎ (length fs ≤ j) → AreWalked i j now → now ++ placed_documents marks (λ (p : Placed). test None (Some p.rank)) (drop j fs) ≡ before ++ placed_documents marks listed_by fs
    walk_end i j now ended h = ap (λ l. now ++ l) (rest_end i j ended h.ranked) ∙ h.made
