-- The files of a shelf in memory, one by one.
use Rattle.std.proofs.Common.{◌≡◌, ℕ, suc, ◌<◌, List, ◌∷◌, drop, length, get_or, cond, true, refl, ap, sym, ◌∙◌, drop-cons}
use Rattle.std.proofs.lemmas.Option.{slice_get-map, slice_get_read}
use Rattle.std.specs.Prelude.{Some, nat_eq, String, string_bytes, Vec, option_map, slice_get}
use Rattle.std.specs.Cmp.Lexicographic.{pointwise}
use Rattle.std.specs.declared.alloc.Global.{Global}
use Rattle.desk_outside.specs.InMemory.{entries_of, held_in}

-- the first file of this name from a place on is the one at that place
pub held_at : (es : List (String Global × Vec ℕ Global)) (i : ℕ) (e : String Global × Vec ℕ Global) (name : List ℕ) → i < length es → e ≡ get_or es i e → pointwise nat_eq (string_bytes e.0) name ≡ true → held_in (entries_of (drop i es)) name ≡ Some e.1.items
held_at es i e name lt h t =
    let q : drop i es ≡ e ∷ drop (suc i) es = drop-cons es i e lt ∙ ap (λ x. x ∷ drop (suc i) es) (sym h) in
    ap (λ l. held_in (entries_of l) name) q ∙ ap (λ b. cond b (Some e.1.items) (held_in (entries_of (drop (suc i) es)) name)) t

-- the file at a place
pub entry_at : (es : List (String Global × Vec ℕ Global)) (i : ℕ) (e : String Global × Vec ℕ Global) → i < length es → e ≡ get_or es i e → slice_get (entries_of es) i ≡ Some (string_bytes e.0, e.1.items)
entry_at es i e lt h = slice_get-map (λ e. (string_bytes e.0, e.1.items)) es i ∙ ap (option_map (λ e. (string_bytes e.0, e.1.items))) (slice_get_read es (length es) i e refl lt h)
