-- ComparedRuns runs have one order.
use Rattle.std.proofs.Common.{◌≡◌, ◌⊎◌, ℕ, zero, suc, ◌<◌, ◌≤◌, Bool, true, false, List, [], ◌∷◌, length, get_or, refl, ap, sym, subst, ◌∙◌, inl, inr, arith}
use Rattle.std.specs.Prelude.{All, AllPairs, Contains}
use Rattle.std.specs.List.{AllZip}
use Rattle.desk_model.specs.Desk.{Desk, topics_under}
use Rattle.desk_model.specs.Pairs.{pairs_of}
use Rattle.desk_model.specs.declared.types.Mark.{Mark}
use Rattle.desk_model.specs.declared.types.MeasureName.{MeasureName}
use Rattle.desk_model.specs.declared.types.Totals.{Totals}
use Rattle.measure_core.specs.Made.{HasEnds}
use Rattle.pair_table.specs.Numbers.{ArePairNumbers}
use Rattle.pair_table.specs.Sums.{run_numbers}
use Rattle.pair_table.proofs.Named.{ends_one, pair_unique}
use Rattle.pair_table.proofs.Zips.{zip_unique}
use Rattle.order_tiers.specs.Order.{ComparedRuns, compared, IsCertifiedIn, IsCover, IsEarlierCover, AreCovers, Ordered, IsOrderBy, IsOrderIn, wins_in, losses_in}
use Rattle.order_tiers.specs.Rows.{is_above}
use Rattle.order_tiers.specs.Tiers.{IsGreatestTier, tier_in}
use Rattle.order_tiers.specs.declared.cover.Cover.{Cover}
use Rattle.order_tiers.proofs.Tiering.{one_tier}

-- ---- lists by their items
same_list : {X : Type 0} (d : X) (xs ys : List X) → length xs ≡ length ys → ((k : ℕ) → k < length xs → get_or xs k d ≡ get_or ys k d) → xs ≡ ys
same_list d [] [] e h = refl
same_list d [] (y ∷ ys) e h = absurd (omega (arith, e))
same_list d (x ∷ xs) [] e h = absurd (omega (arith, e))
same_list d (x ∷ xs) (y ∷ ys) e h =
    let first : x ≡ y = h 0 (omega arith) in
    let rest : xs ≡ ys = same_list d xs ys (omega (arith, e)) (λ k lt. h (suc k) (omega (arith, lt))) in
    ap (λ z. z ∷ xs) first ∙ ap (λ zs. y ∷ zs) rest

same_test : (b c : Bool) → (b ≡ true → c ≡ true) → (c ≡ true → b ≡ true) → b ≡ c
same_test true c h k = sym (h refl)
same_test false true h k = k refl
same_test false false h k = refl

-- an item of a list
In : {X : Type 0} → List X → X → Type 0
In [] c = ⊥
In (x ∷ xs) c = (x ≡ c) ⊎ In xs c

in_from : {X : Type 0} (xs : List X) (c : X) → Contains xs c → In xs c
unfolding In
in_from [] c (k, lt, is) = absurd (omega (arith, lt))
in_from (x ∷ xs) c (zero, lt, is) = inl is
in_from (x ∷ xs) c (suc k, lt, is) = inr (in_from xs c (k, omega (arith, lt), is))

in_back : {X : Type 0} (xs : List X) (c : X) → In xs c → Contains xs c
unfolding In
in_back [] c h = absurd h
in_back (x ∷ xs) c (inl is) = (0, omega arith, is)
in_back (x ∷ xs) c (inr later) = let rest = in_back xs c later in let lt = rest.1 in (suc rest.0, omega (arith, lt), rest.2)

Sorted : {X : Type 0} → (X → X → Type 0) → List X → Type 0
Sorted R [] = Unit {0}
Sorted {X = X} R (x ∷ xs) = ((c : X) → In xs c → R x c) × Sorted R xs

sorted_from : {X : Type 0} (R : X → X → Type 0) (xs : List X) → AllPairs R xs → Sorted R xs
unfolding Sorted
sorted_from R [] h = tt
sorted_from R (x ∷ xs) h = (
  λ c later. let there = in_back xs c later in let lt = there.1 in subst (R x) there.2 (h 0 (suc there.0) c (omega arith) (omega (arith, lt))),
  sorted_from R xs (λ i j d less lt. h (suc i) (suc j) d (omega (arith, less)) (omega (arith, lt))),
)

-- two ascending lists with the same items
same_sorted : {X : Type 0} (R : X → X → Type 0) → ((x y : X) → R x y → R y x → ⊥) → (xs ys : List X) → Sorted R xs → Sorted R ys → ((c : X) → In xs c → In ys c) → ((c : X) → In ys c → In xs c) → xs ≡ ys
unfolding Sorted In
same_sorted R one_way [] [] h k there back = refl
same_sorted R one_way [] (y ∷ ys) h k there back = absurd (back y (inl refl))
same_sorted R one_way (x ∷ xs) [] h k there back = absurd (there x (inl refl))
same_sorted R one_way (x ∷ xs) (y ∷ ys) h k there back =
    let first : x ≡ y = elim (there x (inl refl)) [
      | inl same ↦ sym same
      | inr later ↦ elim (back y (inl refl)) [ inl same ↦ same | inr other ↦ absurd (one_way x y (h.0 y other) (k.0 x later)) ]
    ] in
    let into : (c : _) → In xs c → In ys c = λ c at. elim (there c (inr at)) [
      | inl same ↦ absurd (let own : R c c = subst (λ z. R z c) (first ∙ same) (h.0 c at) in one_way c c own own)
      | inr later ↦ later
    ] in
    let out : (c : _) → In ys c → In xs c = λ c at. elim (back c (inr at)) [
      | inl same ↦ absurd (let own : R c c = subst (λ z. R z c) (sym first ∙ same) (k.0 c at) in one_way c c own own)
      | inr later ↦ later
    ] in
    ap (λ z. z ∷ xs) first ∙ ap (λ zs. y ∷ zs) (same_sorted R one_way xs ys h.1 k.1 into out)

-- ---- covering pairs
earlier_one_way : (c d : Cover) → IsEarlierCover c d → IsEarlierCover d c → ⊥
earlier_one_way c d h k = elim h [
  | inl less ↦ elim k [ inl more ↦ omega (arith, less, more) | inr same ↦ let e = same.0 in omega (arith, less, e) ]
  | inr same ↦ let e = same.0 in let less = same.1 in elim k [ inl more ↦ omega (arith, e, more) | inr other ↦ let more = other.1 in omega (arith, less, more) ]
]

cover_same : (c d : Cover) → c.first ≡ d.first → c.second ≡ d.second → c.wins ≡ d.wins → c.losses ≡ d.losses → c ≡ d
cover_same c d p q r s =
    let make : ℕ → ℕ → ℕ → ℕ → Cover = λ w x y z. record { first = w; second = x; wins = y; losses = z } in
    ap (λ v. make v c.second c.wins c.losses) p ∙ ap (λ v. make d.first v c.wins c.losses) q ∙ ap (λ v. make d.first d.second v c.losses) r ∙ ap (λ v. make d.first d.second d.wins v) s

module _ (name : MeasureName) (t : ComparedRuns) where
  abbrev Is : Cover → Type 0
  Is = IsCover (IsCertifiedIn t) (HasEnds name) t

  determined : (c d : Cover) → Is c → Is d → c.first ≡ d.first → c.second ≡ d.second → c ≡ d
  determined c d h k p q =
      let ends = ends_one name t.topics d.first d.second h.ends k.ends (subst (λ x. AllZip (λ e topic. HasEnds name topic.marks (topic.ranking x) (topic.ranking d.second) e) h.ends t.topics) p
      (subst (λ x. AllZip (λ e topic. HasEnds name topic.marks (topic.ranking c.first) (topic.ranking x) e) h.ends t.topics) q h.named)) k.named in
      cover_same c d p q (h.wins ∙ ap wins_in ends ∙ sym k.wins) (h.losses ∙ ap losses_in ends ∙ sym k.losses)

  is_at : (covers : List Cover) → All Is covers → (c : Cover) → Contains covers c → Is c
  is_at covers each c at = subst Is at.2 (each at.0 c at.1)

  listed : (covers others : List Cover) → AreCovers (IsCertifiedIn t) (HasEnds name) t covers → AreCovers (IsCertifiedIn t) (HasEnds name) t others → (c : Cover) → In covers c → In others c
  listed covers others h k c at =
      let cover = is_at covers h.each c (in_back covers c at) in
      let found = k.every c.first c.second cover.covering in
      let same = determined c found.cover cover (is_at others k.each found.cover found.listed) (sym found.first) (sym found.second) in
      subst (In others) (sym same) (in_from others found.cover found.listed)

  one_list : (covers others : List Cover) → AreCovers (IsCertifiedIn t) (HasEnds name) t covers → AreCovers (IsCertifiedIn t) (HasEnds name) t others → covers ≡ others
  one_list covers others h k =
      same_sorted IsEarlierCover earlier_one_way covers others (sorted_from IsEarlierCover covers h.ascending) (sorted_from IsEarlierCover others k.ascending) (listed covers others h k) (listed others covers k h)

  -- ---- the rest of an order
  at_most : (tiers : List ℕ) (m n : ℕ) → IsGreatestTier tiers m → IsGreatestTier tiers n → m ≤ n
  at_most tiers m n h k = let at = h.reached in let low = k.others at.0 m at.1 in let is = at.2 in omega (arith, low, is)

  one_order : (x y : Ordered) → IsOrderBy (HasEnds name) t x → IsOrderBy (HasEnds name) t y → x ≡ y
  one_order x y h k =
      let make : List (List Bool) → List ℕ → ℕ → List Cover → Ordered = λ a b c d. record { above = a; tiers = b; greatest = c; covers = d } in
      let tests : (a b : ℕ) → is_above x.above a b ≡ is_above y.above a b = λ a b.
      same_test (is_above x.above a b) (is_above y.above a b) (λ e. (k.certified a b).1 ((h.certified a b).0 e)) (λ e. (h.certified a b).1 ((k.certified a b).0 e)) in
      let above : x.above ≡ y.above = same_list [] x.above y.above (h.square.count ∙ sym k.square.count) (λ a lt.
      same_list false (get_or x.above a []) (get_or y.above a [])
      (let own = h.square.wide a [] lt in let long = h.square.count in let same = k.square.count in own ∙ sym (k.square.wide a [] (omega (arith, lt, long, same))))
      (λ b _. tests a b)) in
      let tiers : x.tiers ≡ y.tiers = same_list 0 x.tiers y.tiers (h.count ∙ sym k.count) (λ b lt. let long = h.count in one_tier (IsCertifiedIn t) t.runs (tier_in x.tiers) (tier_in y.tiers) h.tiers k.tiers b (omega (arith, lt, long))) in
      let most : IsGreatestTier x.tiers y.greatest = subst (λ ts. IsGreatestTier ts y.greatest) (sym tiers) k.greatest in
      let greatest : x.greatest ≡ y.greatest = omega (arith, at_most x.tiers x.greatest y.greatest h.greatest most, at_most x.tiers y.greatest x.greatest most h.greatest) in
      ap (λ v. make v x.tiers x.greatest x.covers) above ∙ ap (λ v. make y.above v x.greatest x.covers) tiers
      ∙ ap (λ v. make y.above y.tiers v x.covers) greatest ∙ ap (λ v. make y.above y.tiers y.greatest v) (one_list x.covers y.covers h.covers k.covers)

pub one_named_order : (name : MeasureName) (desk : Desk) (marks : List (List Mark)) (x y : Ordered) → IsOrderIn name desk marks x → IsOrderIn name desk marks y → x ≡ y
one_named_order name desk marks x y h k =
    let topics = topics_under desk marks in
    let same : k.totals ≡ h.totals = zip_unique (λ (pair : ℕ × ℕ) (s : Totals). ArePairNumbers name topics pair.0 pair.1 s) (λ pair s r. pair_unique name topics pair.0 pair.1 s r) (pairs_of (run_numbers (length desk.runs))) k.totals h.totals k.numbers h.numbers in
    one_order name (compared desk marks h.totals) x y h.is (subst (λ ts. IsOrderBy (HasEnds name) (compared desk marks ts) y) same k.is)
