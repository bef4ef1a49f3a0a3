-- What a table finds once one more name is entered.
use Rattle.std.proofs.Common.{inl, inr, ◌≡◌, ℕ, ◌+◌, ◌<◌, ◌≤◌, ◌⊎◌, List, [], ◌∷◌, ◌++◌, length, length-append, Some, None, refl, ap, ap₂, sym, ◌∙◌, arith, set, subst, true, false, position, unwrap_or}
use Rattle.std.specs.Prelude.{Bool, Option, map}
use Rattle.std.specs.Str.{bytes_eq}
use Rattle.std.proofs.lemmas.Slice.Eq.{bytes_eq-Decides}
use Rattle.name_table.specs.declared.table.Slot.{Slot}
use Rattle.name_table.specs.declared.table.TheConstants.{REACH}
use Rattle.std.proofs.lemmas.List.{map-append, length_push}
use Rattle.name_table.specs.declared.table.NameTable.{NameTable}
use Rattle.name_table.specs.Finds.{FindsIn, Finds, FindsAll}
use Rattle.name_table.specs.Table.{start_of, hash_of, name_at, number_in, AreTaken, IsFree, Stands, StandsByName}
use Rattle.name_table.proofs.Positions.{last_name, not_there}
use Rattle.name_table.proofs.Finding.{finds_more}
use Rattle.name_table.proofs.Slots.{slot_entered, name_kept}

-- a slot was filled with name i, and nothing else changed
pub slot_filled : (names : List (List ℕ)) (i : ℕ) (slots others : List Slot) (rest same : List (List ℕ × ℕ)) (hash at : ℕ)
    → i < length names → hash ≡ hash_of (name_at names i) → REACH < length slots → IsFree slots hash at
    → others ≡ set slots at (record { hash = hash; number = i + 1 }) → same ≡ rest
    → FindsIn names i slots rest → FindsIn names (i + 1) others same
slot_filled names i slots others rest same hash at within hashed room free filled stays f =
    subst (λ slots. FindsIn names (i + 1) slots same) (sym filled)
    (subst (λ rest. FindsIn names (i + 1) (set slots at (record { hash = hash; number = i + 1 })) rest) (sym stays) (slot_entered names i slots rest hash at within hashed room free f))

-- a name that is not entered yet has no number by name
pub not_kept : (names : List (List ℕ)) (i : ℕ) (slots : List Slot) (rest : List (List ℕ × ℕ)) → i < length names → FindsIn names i slots rest → number_in (name_at names i) rest ≡ None
not_kept names i slots rest within f = by (number_in (name_at names i) rest) refl
  where
    by : (found : Option ℕ) → number_in (name_at names i) rest ≡ found → number_in (name_at names i) rest ≡ None
    by (Some k) e =
        let was = f.by_name (name_at names i) k e in
        let less = was.0 in
        let same = f.different k i (omega (arith, within, less)) within was.1 in
        absurd (omega (arith, same, less))
    by None e = e

one_more : (names : List (List ℕ)) (name : List ℕ) → length names < length (names ++ name ∷ [])
one_more names name = let size : length (names ++ name ∷ []) ≡ length names + 1 = length-append names (name ∷ []) in omega (arith, size)

-- a name that was not in the list stands behind it, in a slot that was empty
pub found_in_filled : (names : List (List ℕ)) (slots others : List Slot) (rest same : List (List ℕ × ℕ)) (name : List ℕ) (hash at i : ℕ)
    → i ≡ length names → hash ≡ hash_of name → REACH < length slots → IsFree slots (hash_of name) at → position (bytes_eq name) names ≡ None
    → others ≡ set slots at (record { hash = hash; number = i + 1 }) → same ≡ rest
    → FindsIn names (length names) slots rest → FindsIn (names ++ name ∷ []) (length names + 1) others same
found_in_filled names slots others rest same name hash at i counted hashed room free missing filled stays f =
    slot_filled (names ++ name ∷ []) (length names) slots others rest same hash at (one_more names name) (hashed ∙ ap hash_of (sym (last_name names name))) room
    (subst (λ h. IsFree slots h at) (sym hashed) free)
    (filled ∙ ap (λ i. set slots at (record { hash = hash; number = i + 1 })) counted) stays
    (finds_more names slots rest name (not_there names name missing) f)

-- a name that was not in the list is kept by name, behind it
pub found_in_kept : (names : List (List ℕ)) (slots : List Slot) (rest more : List (List ℕ × ℕ)) (name : List ℕ) (i : ℕ)
    → i ≡ length names → REACH < length slots → AreTaken slots (start_of slots (hash_of name)) (start_of slots (hash_of name) + REACH)
    → position (bytes_eq name) names ≡ None → number_in name more ≡ Some i
    → ((other : List ℕ) → bytes_eq name other ≡ false → number_in other more ≡ number_in other rest)
    → FindsIn names (length names) slots rest → FindsIn (names ++ name ∷ []) (length names + 1) slots more
found_in_kept names slots rest more name i counted room taken missing put others f =
    let last = last_name names name in
    name_kept (names ++ name ∷ []) (length names) slots rest more (one_more names name) room
    (subst (λ n. AreTaken slots (start_of slots (hash_of n)) (start_of slots (hash_of n) + REACH)) (sym last) taken)
    (ap (λ n. number_in n more) last ∙ put ∙ ap (λ n. Some n) counted)
    (λ other apart. others other (ap (λ n. bytes_eq n other) (sym last) ∙ apart))
    (finds_more names slots rest name (not_there names name missing) f)

-- a name that has a number is given no other
pub found_still : (names : List (List ℕ)) (count : ℕ) (slots : List Slot) (rest more : List (List ℕ × ℕ)) (name : List ℕ) (i : ℕ)
    → number_in name rest ≡ Some i → number_in name more ≡ Some i
    → ((other : List ℕ) → bytes_eq name other ≡ false → number_in other more ≡ number_in other rest)
    → FindsIn names count slots rest → FindsIn names count slots more
found_still names count slots rest more name i there put others f = record {
  different = f.different;
  room = f.room;
  found = λ k l. still k (f.found k l);
  in_slots = f.in_slots;
  by_name = λ each k e. f.by_name each k (sym (same each (bytes_eq name each) refl) ∙ e);
}
  where
    same : (each : List ℕ) (b : Bool) → bytes_eq name each ≡ b → number_in each more ≡ number_in each rest
    same each true e =
        subst (λ n. number_in n more ≡ number_in n rest) ((bytes_eq-Decides name each).0 e)
        (put ∙ sym there)
    same each false e = others each e

    still : (k : ℕ) → ((at : ℕ) × Stands slots (hash_of (name_at names k)) (k + 1) at) ⊎ StandsByName slots rest (hash_of (name_at names k)) (name_at names k) k
        → ((at : ℕ) × Stands slots (hash_of (name_at names k)) (k + 1) at) ⊎ StandsByName slots more (hash_of (name_at names k)) (name_at names k) k
    still k (inl s) = inl s
    still k (inr s) = inr (record { taken = s.taken; kept = same (name_at names k) (bytes_eq name (name_at names k)) refl ∙ s.kept })

-- a number below that of a new name was there
pub was_there : (found : Option ℕ) (number i : ℕ) → number ≡ unwrap_or found i → number < i → found ≡ Some number
was_there (Some k) number i e less = ap (λ n. Some n) (sym e)
was_there None number i e less = absurd (omega (arith, e, less))

-- a number that is not below that of a new name is that one's
pub was_missing : (found : Option ℕ) (number i : ℕ) → number ≡ unwrap_or found i → i ≤ number → ((k : ℕ) → found ≡ Some k → k < i) → found ≡ None
was_missing (Some k) number i e least below = let less = below k refl in absurd (omega (arith, e, least, less))
was_missing None number i e least below = refl

-- a table of all names of a list finds those of one that has one more
pub finds_pushed : (names pushed : List (List ℕ)) (name : List ℕ) (table : NameTable) → pushed ≡ names ++ name ∷ [] → Finds (names ++ name ∷ []) (length names + 1) table → FindsAll pushed table
finds_pushed names pushed name table e f =
    subst (λ ns. FindsAll ns table) (sym e) (subst (λ n. Finds (names ++ name ∷ []) n table) (sym (length_push names name)) f)

-- the hashes of a list that stays
pub hashed_still : (names kept : List (List ℕ)) (hashes others : List ℕ) → kept ≡ names → others ≡ hashes → hashes ≡ map hash_of names → others ≡ map hash_of kept
hashed_still names kept hashes others e f h = f ∙ h ∙ sym (ap (map hash_of) e)

-- and of one that has one more name
pub hashed_more : (names pushed : List (List ℕ)) (hashes more : List ℕ) (name : List ℕ) (hash : ℕ) → pushed ≡ names ++ name ∷ [] → more ≡ hashes ++ hash ∷ [] → hash ≡ hash_of name → hashes ≡ map hash_of names → more ≡ map hash_of pushed
hashed_more names pushed hashes more name hash e f g h =
    f ∙ ap₂ (λ hs k. hs ++ k ∷ []) h g ∙ sym (ap (map hash_of) e ∙ map-append hash_of names (name ∷ []))
