-- What stands where in blocks of one size.
use Rattle.std.proofs.Common.{◌≡◌, ℕ, zero, suc, ◌+◌, ◌-◌, ◌*◌, ◌<◌, ◌≤◌, List, [], ◌∷◌, ◌++◌, length, get_or, map, take, drop, refl, ap, ap₂, sym, ◌∙◌, arith, length-append}
use Rattle.std.specs.Prelude.{All, flat_map, slice_range}
use Rattle.std.proofs.lemmas.List.{get_or_append_left, append_assoc, append-nil, get_or-append_right, map-append, take_all, take-append-drop}
use Rattle.std.proofs.lemmas.Grind.{flat_map-append}
use Rattle.name_table.specs.declared.blocked_names.TheConstants.{BLOCK_NAMES}

-- the first elements, and so many more
take_further : {Y : Type 0} (n m : ℕ) (ys : List Y) → take (n + m) ys ≡ take n ys ++ take m (drop n ys)
take_further zero m ys = let on : zero + m ≡ m = omega arith in ap (λ k. take k ys) on
take_further (suc n) m [] = let on : suc n + m ≡ suc (n + m) = omega arith in ap (λ k. take k []) on ∙ sym (take_all m [] (omega arith))
take_further (suc n) m (y ∷ ys) = let on : suc n + m ≡ suc (n + m) = omega arith in ap (λ k. take k (y ∷ ys)) on ∙ ap (λ zs. y ∷ zs) (take_further n m ys)

module _ {B X : Type 0} (parts : B → List X) where
  -- blocks of so many elements each
  abbrev pub AreWhole : List B → Type 0
  AreWhole blocks = All (λ block. length (parts block) ≡ BLOCK_NAMES) blocks

  later : (b : B) (blocks : List B) → AreWhole (b ∷ blocks) → AreWhole blocks
  later b blocks whole = λ k d lt. whole (suc k) d (omega arith)

  first : (b : B) (blocks : List B) → AreWhole (b ∷ blocks) → length (parts b) ≡ BLOCK_NAMES
  first b blocks whole = whole zero b (omega arith)

  pub length-blocks : (blocks : List B) → AreWhole blocks → length (flat_map parts blocks) ≡ BLOCK_NAMES * length blocks
  length-blocks [] whole = refl
  length-blocks (b ∷ blocks) whole =
      let rest = length-blocks blocks (later b blocks whole) in
      let here = first b blocks whole in
      let both = length-append (parts b) (flat_map parts blocks) in
      omega (arith, rest, here, both)

  -- an element of a whole block
  pub in_block : (blocks : List B) (last : List X) (k r i : ℕ) (e : B) (d : X) → AreWhole blocks → k < length blocks → r < BLOCK_NAMES → i ≡ BLOCK_NAMES * k + r
      → get_or (flat_map parts blocks ++ last) i d ≡ get_or (parts (get_or blocks k e)) r d
  in_block [] last k r i e d whole within small is = absurd (omega arith)
  in_block (b ∷ blocks) last zero r i e d whole within small is =
      let here = first b blocks whole in
      let same : i ≡ r = omega (arith, is) in
      ap (λ xs. get_or xs i d) (append_assoc (parts b) (flat_map parts blocks) last)
      ∙ get_or_append_left (parts b) (flat_map parts blocks ++ last) d i (omega (arith, here, same, small))
      ∙ ap (λ n. get_or (parts b) n d) same
  in_block (b ∷ blocks) last (suc k) r i e d whole within small is =
      let here = first b blocks whole in
      ap (λ xs. get_or xs i d) (append_assoc (parts b) (flat_map parts blocks) last)
      ∙ get_or-append_right (parts b) (flat_map parts blocks ++ last) (length (parts b)) i d refl (omega (arith, here, is))
      ∙ in_block blocks last k r (i - length (parts b)) e d (later b blocks whole) (omega arith) small (omega (arith, here, is))

  -- an element behind all whole blocks
  pub behind_blocks : (blocks : List B) (last : List X) (i : ℕ) (d : X) → AreWhole blocks → BLOCK_NAMES * length blocks ≤ i
      → get_or (flat_map parts blocks ++ last) i d ≡ get_or last (i - BLOCK_NAMES * length blocks) d
  behind_blocks blocks last i d whole behind =
      let size = length-blocks blocks whole in
      get_or-append_right (flat_map parts blocks) last (BLOCK_NAMES * length blocks) i d size behind

  -- one more block is made of the next elements
  pub one_block_more : {Y : Type 0} (make : Y → X) (ys : List Y) (blocks : List B) (block : B) (k : ℕ) → BLOCK_NAMES * k + BLOCK_NAMES ≤ length ys
      → flat_map parts blocks ≡ map make (take (BLOCK_NAMES * k) ys) → parts block ≡ map make (slice_range ys (BLOCK_NAMES * k) (BLOCK_NAMES * k + BLOCK_NAMES))
      → flat_map parts (blocks ++ block ∷ []) ≡ map make (take (BLOCK_NAMES * (k + 1)) ys)
  one_block_more make ys blocks block k within made next =
      let start = BLOCK_NAMES * k in
      let end : BLOCK_NAMES * (k + 1) ≡ start + BLOCK_NAMES = omega arith in
      let size : start + BLOCK_NAMES - start ≡ BLOCK_NAMES = omega arith in
      flat_map-append parts blocks (block ∷ [])
      ∙ ap (λ xs. flat_map parts blocks ++ xs) (append-nil (parts block))
      ∙ ap₂ (λ xs zs. xs ++ zs) made next
      ∙ sym (map-append make (take start ys) (slice_range ys start (start + BLOCK_NAMES)))
      ∙ ap (map make) (ap (λ n. take start ys ++ take n (drop start ys)) size ∙ sym (take_further start BLOCK_NAMES ys) ∙ ap (λ n. take n ys) (sym end))

  -- all blocks, and the last one of what is left
  pub all_blocks : {Y : Type 0} (make : Y → X) (ys : List Y) (blocks : List B) (last : List X) (n : ℕ)
      → flat_map parts blocks ≡ map make (take n ys) → last ≡ map make (drop n ys) → flat_map parts blocks ++ last ≡ map make ys
  all_blocks make ys blocks last n made left =
      ap₂ (λ xs zs. xs ++ zs) made left ∙ sym (map-append make (take n ys) (drop n ys)) ∙ ap (map make) (take-append-drop n ys)
