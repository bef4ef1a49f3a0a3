-- What stands in slots after one is filled.
use Rattle.std.proofs.Common.{inl, inr, ◌≡◌, ◌≢◌, ℕ, ◌+◌, ◌-◌, ◌<◌, ◌≤◌, ◌⊎◌, List, length, Some, refl, ap, sym, ◌∙◌, arith, get_or, set, subst, false, Bool, true}
use Rattle.std.specs.Prelude.{nat_eq, bit_and}
use Rattle.std.specs.Str.{bytes_eq}
use Rattle.std.proofs.lemmas.Bool.Decides.{nat_tests}
use Rattle.std.proofs.lemmas.Slice.Eq.{bytes_eq-Decides}
use Rattle.std.proofs.lemmas.List.{get_or-set_same, get_or-set_other, length-set}
use Rattle.name_table.specs.declared.table.Slot.{Slot}
use Rattle.name_table.specs.declared.table.TheConstants.{REACH}
use Rattle.name_table.specs.Finds.{FindsIn}
use Rattle.name_table.specs.Table.{start_of, hash_of, name_at, number_in, number_at, hash_at, empty_slot, AreTaken, IsFree, Stands, StandsByName}

-- a slot that is taken stays as it was where an empty one is filled
pub slot_stays : (slots : List Slot) (at : ℕ) (slot : Slot) (other : ℕ) → other ≢ at → get_or (set slots at slot) other empty_slot ≡ get_or slots other empty_slot
slot_stays slots at slot other apart = get_or-set_other slots at other slot empty_slot apart

-- the first slot of a hash rests on how many slots there are
pub start_stays : (slots others : List Slot) (hash : ℕ) → length others ≡ length slots → start_of others hash ≡ start_of slots hash
unfolding start_of
start_stays slots others hash e = ap (λ n. bit_and hash (n - REACH - 1)) e

-- an empty slot is none of those that are taken
not_empty : (slots : List Slot) (at other : ℕ) → number_at slots at ≡ 0 → 0 < number_at slots other → other ≢ at
not_empty slots at other empty taken = λ same. let e : number_at slots other ≡ number_at slots at = ap (number_at slots) same in omega (arith, e, empty, taken)

taken_stays : (slots : List Slot) (at : ℕ) (slot : Slot) (start end : ℕ) → number_at slots at ≡ 0 → AreTaken slots start end → AreTaken (set slots at slot) start end
taken_stays slots at slot start end empty taken = λ other from below.
    let was = taken other from below in
    subst (λ n. 0 < n) (sym (ap (λ s. s.number) (slot_stays slots at slot other (not_empty slots at other empty was)))) was

stands_still : (slots : List Slot) (at : ℕ) (slot : Slot) (hash number other : ℕ) → number_at slots at ≡ 0 → 0 < number → Stands slots hash number other → Stands (set slots at slot) hash number other
stands_still slots at slot hash number other empty some s =
    let start = start_stays slots (set slots at slot) hash (length-set slots at slot) in
    let holds = s.holds in
    let was : 0 < number_at slots other = omega (arith, holds, some) in
    let from = s.from in
    let below = s.below in
    record {
      from = omega (arith, start, from);
      below = omega (arith, start, below);
      holds = ap (λ s. s.number) (slot_stays slots at slot other (not_empty slots at other empty was)) ∙ s.holds;
      taken = subst (λ from. AreTaken (set slots at slot) from other) (sym start) (taken_stays slots at slot (start_of slots hash) other empty s.taken);
    }

kept_still : (slots : List Slot) (at : ℕ) (slot : Slot) (rest : List (List ℕ × ℕ)) (hash : ℕ) (name : List ℕ) (i : ℕ) → number_at slots at ≡ 0 → StandsByName slots rest hash name i → StandsByName (set slots at slot) rest hash name i
kept_still slots at slot rest hash name i empty k =
    let start = start_stays slots (set slots at slot) hash (length-set slots at slot) in
    record {
      taken = subst (λ from. AreTaken (set slots at slot) from (from + REACH)) (sym start) (taken_stays slots at slot (start_of slots hash) (start_of slots hash + REACH) empty k.taken);
      kept = k.kept;
    }

is_one : (i j : ℕ) → nat_eq i j ≡ true → i ≡ j
is_one i j e = grind (arith, nat_tests)

is_other : (i j : ℕ) → nat_eq i j ≡ false → i ≢ j
is_other i j e = λ same. grind (arith, nat_tests)

-- a name is entered in an empty slot
pub slot_entered : (names : List (List ℕ)) (i : ℕ) (slots : List Slot) (rest : List (List ℕ × ℕ)) (hash at : ℕ)
    → i < length names → hash ≡ hash_of (name_at names i) → REACH < length slots → IsFree slots hash at
    → FindsIn names i slots rest → FindsIn names (i + 1) (set slots at (record { hash = hash; number = i + 1 })) rest
slot_entered names i slots rest hash at within hashed room free f = record {
  different = f.different;
  room = λ _. omega (arith, length-set slots at slot);
  found = λ k l. found k (nat_eq k i) refl l;
  in_slots = λ other taken. in_slots other (nat_eq other at) refl taken;
  by_name = λ name k e. let b = f.by_name name k e in (omega (arith, b.0), b.1);
}
  where
    slot : Slot
    slot = record { hash = hash; number = i + 1 }

    here : get_or (set slots at slot) at empty_slot ≡ slot
    here = get_or-set_same slots at slot empty_slot free.within

    start : start_of (set slots at slot) hash ≡ start_of slots hash
    start = start_stays slots (set slots at slot) hash (length-set slots at slot)

    new : Stands (set slots at slot) hash (i + 1) at
    new = let s = start in let from = free.from in let below = free.below in record {
      from = omega (arith, s, from);
      below = omega (arith, s, below);
      holds = ap (λ s. s.number) here;
      taken = subst (λ from. AreTaken (set slots at slot) from at) (sym start) (taken_stays slots at slot (start_of slots hash) at free.empty free.taken);
    }

    Found : ℕ → Type 0
    Found k = ((place : ℕ) × Stands (set slots at slot) (hash_of (name_at names k)) (k + 1) place) ⊎ StandsByName (set slots at slot) rest (hash_of (name_at names k)) (name_at names k) k

    still : (k : ℕ) → ((place : ℕ) × Stands slots (hash_of (name_at names k)) (k + 1) place) ⊎ StandsByName slots rest (hash_of (name_at names k)) (name_at names k) k → Found k
    still k (inl (other, s)) = inl (other, stands_still slots at slot (hash_of (name_at names k)) (k + 1) other free.empty (omega arith) s)
    still k (inr s) = inr (kept_still slots at slot rest (hash_of (name_at names k)) (name_at names k) k free.empty s)

    found : (k : ℕ) (b : Bool) → nat_eq k i ≡ b → k < i + 1 → Found k
    found k true e l = subst Found (sym (is_one k i e)) (inl (at, subst (λ h. Stands (set slots at slot) h (i + 1) at) hashed new))
    found k false e l = let apart = is_other k i e in still k (f.found k (grind arith))

    InSlot : ℕ → Type 0
    InSlot other = (number_at (set slots at slot) other ≤ i + 1) × (hash_at (set slots at slot) other ≡ hash_of (name_at names (number_at (set slots at slot) other - 1)))

    in_new : InSlot at
    in_new = let n = ap (λ s. s.number) here in
        let less : number_at (set slots at slot) at - 1 ≡ i = omega (arith, n) in
        (omega (arith, n), ap (λ s. s.hash) here ∙ hashed ∙ ap (λ n. hash_of (name_at names n)) (sym less))

    in_slots : (other : ℕ) (b : Bool) → nat_eq other at ≡ b → 0 < number_at (set slots at slot) other → InSlot other
    in_slots other true e taken = subst InSlot (sym (is_one other at e)) in_new
    in_slots other false e taken =
        let stays = slot_stays slots at slot other (is_other other at e) in
        let number = ap (λ s. s.number) stays in
        let was = f.in_slots other (omega (arith, number, taken)) in
        let less = was.0 in
        (omega (arith, number, less), ap (λ s. s.hash) stays ∙ was.1 ∙ ap (λ n. hash_of (name_at names (n - 1))) (sym number))

-- a name is kept by name, where all slots within reach are taken
pub name_kept : (names : List (List ℕ)) (i : ℕ) (slots : List Slot) (rest more : List (List ℕ × ℕ))
    → i < length names → REACH < length slots
    → AreTaken slots (start_of slots (hash_of (name_at names i))) (start_of slots (hash_of (name_at names i)) + REACH)
    → number_in (name_at names i) more ≡ Some i
    → ((other : List ℕ) → bytes_eq (name_at names i) other ≡ false → number_in other more ≡ number_in other rest)
    → FindsIn names i slots rest → FindsIn names (i + 1) slots more
name_kept names i slots rest more within room taken put others f = record {
  different = f.different;
  room = λ _. room;
  found = λ k l. found k (nat_eq k i) refl l;
  in_slots = λ other some. let was = f.in_slots other some in (omega (arith, was.0), was.1);
  by_name = λ name k e. by_name name k (bytes_eq (name_at names i) name) refl e;
}
  where
    Found : ℕ → Type 0
    Found k = ((at : ℕ) × Stands slots (hash_of (name_at names k)) (k + 1) at) ⊎ StandsByName slots more (hash_of (name_at names k)) (name_at names k) k

    apart : (k : ℕ) → k < i → (b : Bool) → bytes_eq (name_at names i) (name_at names k) ≡ b → b ≡ false
    apart k l true e = absurd (let same = f.different i k within (omega arith) ((bytes_eq-Decides (name_at names i) (name_at names k)).0 e) in omega (arith, same))
    apart k l false e = refl

    still : (k : ℕ) → k < i → ((at : ℕ) × Stands slots (hash_of (name_at names k)) (k + 1) at) ⊎ StandsByName slots rest (hash_of (name_at names k)) (name_at names k) k → Found k
    still k l (inl s) = inl s
    still k l (inr s) = inr (record { taken = s.taken; kept = others (name_at names k) (apart k l (bytes_eq (name_at names i) (name_at names k)) refl) ∙ s.kept })

    found : (k : ℕ) (b : Bool) → nat_eq k i ≡ b → k < i + 1 → Found k
    found k true e l = subst Found (sym (is_one k i e)) (inr (record { taken = taken; kept = put }))
    found k false e l = let differs = is_other k i e in let less : k < i = grind arith in still k less (f.found k less)

    by_name : (name : List ℕ) (k : ℕ) (b : Bool) → bytes_eq (name_at names i) name ≡ b → number_in name more ≡ Some k → (k < i + 1) × (name_at names k ≡ name)
    by_name name k true same e =
        let is = (bytes_eq-Decides (name_at names i) name).0 same in
        let one : Some i ≡ Some k = sym put ∙ ap (λ n. number_in n more) is ∙ e in
        let number : i ≡ k = cc in
        (omega (arith, number), ap (name_at names) (sym number) ∙ is)
    by_name name k false same e = let was = f.by_name name k (sym (others name same) ∙ e) in (omega (arith, was.0), was.1)
