-- Names that are cut out of bytes.
use Rattle.std.proofs.Common.{◌≡◌, ℕ, zero, suc, ◌+◌, ◌-◌, ◌<◌, ◌≤◌, List, [], ◌∷◌, ◌++◌, length, get_or, take, drop, refl, ap, ap₂, sym, subst, ◌∙◌, arith, length-append, length-take, length-drop}
use Rattle.std.specs.Prelude.{Some, sum_by, slice_get, slice_range}
use Rattle.std.proofs.Math.Seq.{drop-append_seam}
use Rattle.std.proofs.lemmas.List.{take_all, take_more, length_push, take-append-drop, drop-append-le, take-append-le}
use Rattle.std.proofs.lemmas.List.Sums.{sum_by-cons}
use Rattle.name_table.specs.Cut.{cut, IsCut, start_at}

pub length-cut : (start : ℕ) (ends bytes : List ℕ) → length (cut start ends bytes) ≡ length ends
length-cut start [] bytes = refl
length-cut start (end ∷ ends) bytes = ap suc (length-cut end ends bytes)

-- a piece by its number
pub slice_get-cut : (start : ℕ) (ends bytes : List ℕ) (i : ℕ) → i < length ends → slice_get (cut start ends bytes) i ≡ Some (slice_range bytes (start_at start ends i) (get_or ends i 0))
slice_get-cut start [] bytes i lt = absurd (omega arith)
slice_get-cut start (end ∷ ends) bytes zero lt = refl
slice_get-cut start (end ∷ ends) bytes (suc i) lt = slice_get-cut end ends bytes i (omega arith)

-- the first piece begins where the bytes do
pub start_at-first : (start : ℕ) (ends : List ℕ) → start_at start ends 0 ≡ start
start_at-first start [] = refl
start_at-first start (end ∷ ends) = refl

-- each later one begins where the one before it ends
pub start_at-later : (start : ℕ) (ends : List ℕ) (i j : ℕ) → j < length ends → j ≡ i + 1 → start_at start ends j ≡ get_or ends i 0
start_at-later start [] i j lt e = absurd (omega arith)
start_at-later start (end ∷ ends) i zero lt e = absurd (omega arith)
start_at-later start (end ∷ ends) zero (suc j) lt e = ap (start_at end ends) zero_j ∙ start_at-first end ends
  where
    zero_j : j ≡ 0
    zero_j = omega arith
start_at-later start (end ∷ ends) (suc i) (suc j) lt e = start_at-later end ends i j (omega arith) (omega arith)

pub starts_within : (start : ℕ) (ends bytes : List ℕ) → IsCut start ends bytes → start ≤ length bytes
starts_within start [] bytes c = omega arith
starts_within start (end ∷ ends) bytes c = let w = starts_within end ends bytes c.1 in omega (arith, c.0, w)

-- a piece begins no later than it ends, within the bytes
pub piece_within : (start : ℕ) (ends bytes : List ℕ) (i : ℕ) → IsCut start ends bytes → i < length ends → (start_at start ends i ≤ get_or ends i 0) × (get_or ends i 0 ≤ length bytes)
piece_within start [] bytes i c lt = absurd (omega arith)
piece_within start (end ∷ ends) bytes zero c lt = (c.0, starts_within end ends bytes c.1)
piece_within start (end ∷ ends) bytes (suc i) c lt = piece_within end ends bytes i c.1 (omega arith)

-- the names have the bytes together
pub sum_by-cut : (start : ℕ) (ends bytes : List ℕ) → IsCut start ends bytes → start + sum_by length (cut start ends bytes) ≡ length bytes
sum_by-cut start [] bytes c = omega arith
sum_by-cut start (end ∷ ends) bytes c =
    let w = starts_within end ends bytes c.1 in
    let rest = sum_by-cut end ends bytes c.1 in
    let more = sum_by-cons length (slice_range bytes start end) (cut end ends bytes) in
    let size : length (slice_range bytes start end) ≡ end - start = omega (arith, length-take (end - start) (drop start bytes), length-drop start bytes) in
    omega (arith, c.0)

-- one more name
pub cut-append : (start : ℕ) (ends bytes name : List ℕ) (end : ℕ) → IsCut start ends bytes → end ≡ length bytes + length name → cut start (ends ++ end ∷ []) (bytes ++ name) ≡ cut start ends bytes ++ name ∷ []
cut-append start [] bytes name end c e =
    let size : end - start ≡ length name = omega (arith, c) in
    ap (λ xs. xs ∷ []) (ap₂ take size (ap (λ n. drop n (bytes ++ name)) c ∙ drop-append_seam bytes name) ∙ take_all (length name) name (omega arith))
cut-append start (first ∷ ends) bytes name end c e =
    let w = starts_within first ends bytes c.1 in
    let part : slice_range (bytes ++ name) start first ≡ slice_range bytes start first =
    ap (take (first - start)) (drop-append-le start bytes name (omega (arith, c.0))) ∙ take-append-le (first - start) (drop start bytes) name (omega (arith, length-drop start bytes)) in
    ap₂ (λ x xs. x ∷ xs) part (cut-append first ends bytes name end c.1 e)

pub IsCut-append : (start : ℕ) (ends bytes name : List ℕ) (end : ℕ) → IsCut start ends bytes → end ≡ length bytes + length name → IsCut start (ends ++ end ∷ []) (bytes ++ name)
IsCut-append start [] bytes name end c e = (omega (arith, c), e ∙ sym (length-append bytes name))
IsCut-append start (first ∷ ends) bytes name end c e = (c.0, IsCut-append first ends bytes name end c.1 e)

pub record Pushed (ends bytes ends' bytes' name : List ℕ) : Type 0 where
  pub is_cut : IsCut 0 ends' bytes'
  pub names : cut 0 ends' bytes' ≡ cut 0 ends bytes ++ name ∷ []

pub pushed : (ends bytes ends' bytes' name : List ℕ) (end : ℕ) → IsCut 0 ends bytes → ends' ≡ ends ++ end ∷ [] → bytes' ≡ bytes ++ name → end ≡ length bytes + length name → Pushed ends bytes ends' bytes' name
pushed ends bytes ends' bytes' name end c e f g = record {
  is_cut = subst (λ es. IsCut 0 es bytes') (sym e) (subst (IsCut 0 (ends ++ end ∷ [])) (sym f) (IsCut-append 0 ends bytes name end c g));
  names = ap₂ (cut 0) e f ∙ cut-append 0 ends bytes name end c g;
}

-- without its last end, the part of the bytes before the last name is cut as well
shorter : (start : ℕ) (ends : List ℕ) (end : ℕ) (bytes part : List ℕ) → IsCut start (ends ++ end ∷ []) bytes → length part ≡ start_at start (ends ++ end ∷ []) (length ends) → IsCut start ends part
shorter start [] end bytes part c e = sym e
shorter start (first ∷ ends) end bytes part c e = (c.0, shorter first ends end bytes part c.1 e)

-- the last end is that of the bytes
last_end : (start : ℕ) (ends : List ℕ) (end : ℕ) (bytes : List ℕ) → IsCut start (ends ++ end ∷ []) bytes → end ≡ length bytes
last_end start [] end bytes c = c.1
last_end start (first ∷ ends) end bytes c = last_end first ends end bytes c.1

-- the last element was put there
pub take_pushed : {A : Type 0} (xs : List A) (x : A) → take (length (xs ++ x ∷ []) - 1) (xs ++ x ∷ []) ≡ xs
take_pushed xs x =
    let size = length_push xs x in
    let less : length (xs ++ x ∷ []) - 1 ≡ length xs = omega (arith, size) in
    ap (λ n. take n (xs ++ x ∷ [])) less ∙ take-append-le (length xs) xs (x ∷ []) (omega arith) ∙ take_all (length xs) xs (omega arith)

-- the names without the last
pub record Shortened (ends bytes ends' bytes' : List ℕ) : Type 0 where
  pub is_cut : IsCut 0 ends' bytes'
  pub names : cut 0 ends' bytes' ≡ take (length ends - 1) (cut 0 ends bytes)

cut_short : (ends bytes : List ℕ) (last start : ℕ) → IsCut 0 ends bytes → last + 1 ≡ length ends → start ≡ start_at 0 ends last → Shortened ends bytes (take last ends) (take start bytes)
cut_short ends bytes last start c count from = record {
  is_cut = part;
  names = sym (ap (λ n. take n (cut 0 ends bytes)) (omega (arith, count, sizes))
      ∙ ap (λ xs. take (length xs - 1) xs) whole ∙ take_pushed (cut 0 (take last ends) (take start bytes)) (drop start bytes));
}
  where
    end : ℕ
    end = get_or ends last 0

    split : ends ≡ take last ends ++ end ∷ []
    split = sym (take_all (last + 1) ends (omega (arith, count))) ∙ take_more ends last 0 (omega (arith, count))

    cut_split : IsCut 0 (take last ends ++ end ∷ []) bytes
    cut_split = subst (λ es. IsCut 0 es bytes) split c

    few : length (take last ends) ≡ last
    few = omega (arith, length-take last ends, count)

    within : start ≤ length bytes
    within = let w = piece_within 0 ends bytes last c (omega (arith, count)) in omega (arith, w.0, w.1, from)

    part : IsCut 0 (take last ends) (take start bytes)
    part = shorter 0 (take last ends) end bytes (take start bytes) cut_split
        (omega (arith, length-take start bytes, within) ∙ from ∙ ap₂ (start_at 0) split (sym few))

    joined : take start bytes ++ drop start bytes ≡ bytes
    joined = take-append-drop start bytes

    whole : cut 0 ends bytes ≡ cut 0 (take last ends) (take start bytes) ++ drop start bytes ∷ []
    whole = ap₂ (cut 0) split (sym joined)
        ∙ cut-append 0 (take last ends) (take start bytes) (drop start bytes) end part
        (last_end 0 (take last ends) end bytes cut_split ∙ ap length (sym joined) ∙ length-append (take start bytes) (drop start bytes))

    sizes : length (cut 0 ends bytes) ≡ length ends
    sizes = length-cut 0 ends bytes

pub shortened : (ends bytes ends' bytes' : List ℕ) (last start : ℕ) → IsCut 0 ends bytes → last + 1 ≡ length ends → start ≡ start_at 0 ends last → ends' ≡ take last ends → bytes' ≡ take start bytes → Shortened ends bytes ends' bytes'
shortened ends bytes ends' bytes' last start c count from e f =
    let s = cut_short ends bytes last start c count from in
    subst (λ es. Shortened ends bytes es bytes') (sym e) (subst (Shortened ends bytes (take last ends)) (sym f) s)
