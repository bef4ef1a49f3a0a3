-- What a search by hash finds.
use Rattle.std.proofs.Common.{get_or, inl, inr, ◌≡◌, ℕ, ◌+◌, ◌-◌, ◌<◌, ◌≤◌, ◌⊎◌, List, [], ◌∷◌, ◌++◌, length, Some, None, refl, ap, sym, ◌∙◌, arith, subst, false, true, position}
use Rattle.std.specs.Prelude.{nat_eq, nat_lt, Bool, Option}
use Rattle.std.proofs.lemmas.Bool.Decides.{nat_tests}
use Rattle.std.specs.List.{list_any}
use Rattle.std.specs.Str.{bytes_eq}
use Rattle.name_table.specs.declared.table.Slot.{Slot}
use Rattle.name_table.specs.declared.table.TheConstants.{REACH}
use Rattle.name_table.specs.Finds.{FindsIn}
use Rattle.std.proofs.lemmas.List.{get_or_default, get_or_append_left}
use Rattle.name_table.specs.Table.{start_of, hash_of, name_at, number_in, number_at, hash_at, empty_slot, AreTaken, Stands, StandsByName}
use Rattle.name_table.proofs.Positions.{different_more, none_is, missing_position, place_of_name}

-- the slots from start up to end are taken by other names
abbrev pub ArePassed : List (List ℕ) → List Slot → List ℕ → ℕ → ℕ → Type 0
ArePassed names slots name start end = (at : ℕ) → start ≤ at → at < end → (0 < number_at slots at) × (name_at names (number_at slots at - 1) ≡ name → ⊥)

-- the number of a slot is found where its name is this one
pub found_in_slot : (names : List (List ℕ)) (slots : List Slot) (rest : List (List ℕ × ℕ)) (name : List ℕ) (at : ℕ)
    → FindsIn names (length names) slots rest → 0 < number_at slots at → name_at names (number_at slots at - 1) ≡ name
    → position (bytes_eq name) names ≡ Some (number_at slots at - 1)
found_in_slot names slots rest name at f some is =
    let holds = (f.in_slots at some).0 in
    place_of_name name names (number_at slots at - 1) f.different (omega (arith, holds, some)) is

-- the hash of a slot is not that of this name, so its name is another
pub other_hash : (names : List (List ℕ)) (slots : List Slot) (rest : List (List ℕ × ℕ)) (name : List ℕ) (at : ℕ)
    → FindsIn names (length names) slots rest → 0 < number_at slots at → (hash_at slots at ≡ hash_of name → ⊥)
    → name_at names (number_at slots at - 1) ≡ name → ⊥
other_hash names slots rest name at f some apart is = apart ((f.in_slots at some).1 ∙ ap hash_of is)

-- what stands in a slot before the search's end was passed
stood : (names : List (List ℕ)) (slots : List Slot) (name : List ℕ) (i at end : ℕ)
    → Stands slots (hash_of (name_at names i)) (i + 1) at → at < end → ArePassed names slots name (start_of slots (hash_of name)) end
    → name_at names i ≡ name → ⊥
stood names slots name i at end s below passed is =
    let hashed : start_of slots (hash_of (name_at names i)) ≡ start_of slots (hash_of name) = ap (λ name. start_of slots (hash_of name)) is in
    let from = s.from in
    let holds = s.holds in
    let less : number_at slots at - 1 ≡ i = omega (arith, holds) in
    (passed at (omega (arith, hashed, from)) below).1 (ap (name_at names) less ∙ is)

-- no name of the list is this one, where the search came to an empty slot
pub missing_at_empty : (names : List (List ℕ)) (slots : List Slot) (rest : List (List ℕ × ℕ)) (name : List ℕ) (end : ℕ)
    → FindsIn names (length names) slots rest → ArePassed names slots name (start_of slots (hash_of name)) end
    → start_of slots (hash_of name) ≤ end → end < start_of slots (hash_of name) + REACH → number_at slots end ≡ 0
    → position (bytes_eq name) names ≡ None
missing_at_empty names slots rest name end f passed from below empty =
    missing_position (bytes_eq name) names (none_is name names (λ i l is. by i is (f.found i l)))
  where
    hashed : (i : ℕ) → name_at names i ≡ name → start_of slots (hash_of (name_at names i)) ≡ start_of slots (hash_of name)
    hashed i is = ap (λ name. start_of slots (hash_of name)) is

    not_taken : AreTaken slots (start_of slots (hash_of name)) (end + 1) → ⊥
    not_taken taken = let here = taken end from (omega arith) in omega (arith, here, empty)

    by : (i : ℕ) → name_at names i ≡ name → ((at : ℕ) × Stands slots (hash_of (name_at names i)) (i + 1) at) ⊎ StandsByName slots rest (hash_of (name_at names i)) (name_at names i) i → ⊥
    by i is (inl (at, s)) = before i is at s (nat_lt at end) (nat_eq at end) refl refl
      where
        before : (i : ℕ) → name_at names i ≡ name → (at : ℕ) → Stands slots (hash_of (name_at names i)) (i + 1) at → (b c : Bool) → nat_lt at end ≡ b → nat_eq at end ≡ c → ⊥
        before i is at s true c p q = stood names slots name i at end s (grind (arith, nat_tests)) passed is
        before i is at s false true p q = let same : at ≡ end = grind (arith, nat_tests) in let holds = s.holds in let e = ap (number_at slots) same in omega (arith, holds, e, empty)
        before i is at s false false p q =
            let past : end < at = grind (arith, nat_tests) in
            let here = s.taken end (omega (arith, hashed i is, from)) past in omega (arith, here, empty)
    by i is (inr k) = let here = k.taken end (omega (arith, hashed i is, from)) (omega (arith, hashed i is, below)) in omega (arith, here, empty)

-- what a search by name says where all slots within reach were passed
pub found_by_name : (names : List (List ℕ)) (slots : List Slot) (rest : List (List ℕ × ℕ)) (name : List ℕ)
    → FindsIn names (length names) slots rest → ArePassed names slots name (start_of slots (hash_of name)) (start_of slots (hash_of name) + REACH)
    → number_in name rest ≡ position (bytes_eq name) names
found_by_name names slots rest name f passed = by (number_in name rest) refl
  where
    kept : (i : ℕ) → name_at names i ≡ name → ((at : ℕ) × Stands slots (hash_of (name_at names i)) (i + 1) at) ⊎ StandsByName slots rest (hash_of (name_at names i)) (name_at names i) i → number_in name rest ≡ Some i
    kept i is (inl (at, s)) =
        let hashed : start_of slots (hash_of (name_at names i)) ≡ start_of slots (hash_of name) = ap (λ name. start_of slots (hash_of name)) is in
        let below = s.below in
        absurd (stood names slots name i at (start_of slots (hash_of name) + REACH) s (omega (arith, hashed, below)) passed is)
    kept i is (inr k) = ap (λ name. number_in name rest) (sym is) ∙ k.kept

    by : (found : Option ℕ) → number_in name rest ≡ found → number_in name rest ≡ position (bytes_eq name) names
    by (Some i) e = let was = f.by_name name i e in e ∙ sym (place_of_name name names i f.different was.0 was.1)
    by None e = e ∙ sym (missing_position (bytes_eq name) names (none_is name names (λ i l is. let k = kept i is (f.found i l) in cc)))

-- what was read of a slot
pub slot_read : (slots : List Slot) (at : ℕ) (slot : Slot) → at < length slots → slot ≡ get_or slots at slot → get_or slots at empty_slot ≡ slot
slot_read slots at slot within e = get_or_default slots at empty_slot slot within ∙ sym e

-- one more slot was passed
pub passed_more : (names : List (List ℕ)) (slots : List Slot) (name : List ℕ) (start end : ℕ) → ArePassed names slots name start end
    → 0 < number_at slots end → (name_at names (number_at slots end - 1) ≡ name → ⊥) → ArePassed names slots name start (end + 1)
passed_more names slots name start end passed some other = λ at from below. by at (nat_lt at end) refl from below
  where
    Passed : ℕ → Type 0
    Passed at = (0 < number_at slots at) × (name_at names (number_at slots at - 1) ≡ name → ⊥)

    by : (at : ℕ) (b : Bool) → nat_lt at end ≡ b → start ≤ at → at < end + 1 → Passed at
    by at true e from below = passed at from (grind (arith, nat_tests))
    by at false e from below = let same : at ≡ end = grind (arith, nat_tests) in subst Passed (sym same) (some, other)

-- a table finds the first names as well where one more is put behind them
pub finds_more : (names : List (List ℕ)) (slots : List Slot) (rest : List (List ℕ × ℕ)) (name : List ℕ) → list_any (bytes_eq name) names ≡ false
    → FindsIn names (length names) slots rest → FindsIn (names ++ name ∷ []) (length names) slots rest
finds_more names slots rest name new f = record {
  different = different_more names name f.different new;
  room = f.room;
  found = λ i l. subst (λ each. ((at : ℕ) × Stands slots (hash_of each) (i + 1) at) ⊎ StandsByName slots rest (hash_of each) each i) (sym (same i l)) (f.found i l);
  in_slots = λ at some.
      let was = f.in_slots at some in
      let holds = was.0 in
      (holds, was.1 ∙ ap hash_of (sym (same (number_at slots at - 1) (omega (arith, holds, some)))));
  by_name = λ each i e. let was = f.by_name each i e in (was.0, same i was.0 ∙ was.1);
}
  where
    same : (i : ℕ) → i < length names → name_at (names ++ name ∷ []) i ≡ name_at names i
    same i l = get_or_append_left names (name ∷ []) [] i l
