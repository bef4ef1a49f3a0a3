-- Numbers that are kept by name.
use Rattle.std.proofs.Common.{◌≡◌, ℕ, List, [], ◌∷◌, true, false, Some, refl, ap, sym, ◌∙◌}
use Rattle.std.specs.Prelude.{Bool, cond, map, Option, Vec}
use Rattle.std.specs.declared.alloc.Global.{Global}
use Rattle.std.specs.declared.cmp.Ordering.{Ordering}
use Rattle.std.specs.declared.cmp.Ordering.TheVariants.{Less, Equal, Greater}
use Rattle.std.specs.Ordering.{is_eq, nat_cmp, match_ordering}
use Rattle.std.specs.Cmp.Lexicographic.{slice_cmp}
use Rattle.std.specs.Str.{bytes_eq}
use Rattle.std.specs.Map.{lookup}
use Rattle.std.specs.BTreeMap.{insert_entry, is_at}
use Rattle.std.proofs.lemmas.Map.Text.{is_eq-slice_cmp}
use Rattle.std.proofs.lemmas.Slice.Eq.{bytes_eq-Decides}
use Rattle.name_table.specs.Table.{number_in}

abbrev pub Entries : Type 0
Entries = List (Vec ℕ Global × ℕ)

abbrev pub named : Entries → List (List ℕ × ℕ)
named entries = map (λ entry. (entry.0.items, entry.1)) entries

pub lookup_named : (name : List ℕ) (entries : Entries) → lookup (is_at (λ key. slice_cmp nat_cmp name key.items)) entries ≡ number_in name (named entries)
lookup_named name [] = refl
lookup_named name (e ∷ es) =
    ap (λ b. cond b (Some e.1) (lookup (is_at (λ key. slice_cmp nat_cmp name key.items)) es)) (is_eq-slice_cmp name e.0.items)
    ∙ ap (λ rest. cond (bytes_eq name e.0.items) (Some e.1) rest) (lookup_named name es)

abbrev pub with_number : Entries → Vec ℕ Global → ℕ → Entries
with_number entries key number = insert_entry (λ x y. slice_cmp nat_cmp x.items y.items) entries key number

equal_names : (a b : List ℕ) → slice_cmp nat_cmp a b ≡ Equal → a ≡ b
equal_names a b e = (bytes_eq-Decides a b).0 (sym (is_eq-slice_cmp a b) ∙ ap is_eq e)

-- the number of each name after one was put
pub number-put : (name : List ℕ) (entries : Entries) (key : Vec ℕ Global) (number : ℕ) → number_in name (named (with_number entries key number)) ≡ cond (bytes_eq name key.items) (Some number) (number_in name (named entries))
number-put name [] key number = refl
number-put name (e ∷ es) key number = by (slice_cmp nat_cmp key.items e.0.items) refl (number-put name es key number)
  where
    same : (b : Bool) (more : Option ℕ) → cond b (Some number) more ≡ cond b (Some number) (cond b (Some e.1) more)
    same true more = refl
    same false more = refl

    apart : (b c : Bool) (more : Option ℕ) → bytes_eq name e.0.items ≡ b → bytes_eq name key.items ≡ c → slice_cmp nat_cmp key.items e.0.items ≡ Greater → cond b (Some e.1) (cond c (Some number) more) ≡ cond c (Some number) (cond b (Some e.1) more)
    apart true true more p q o =
        let here = sym ((bytes_eq-Decides name key.items).0 q) ∙ (bytes_eq-Decides name e.0.items).0 p in
        let equal : is_eq (slice_cmp nat_cmp key.items e.0.items) ≡ true = is_eq-slice_cmp key.items e.0.items ∙ (bytes_eq-Decides key.items e.0.items).1 here in
        absurd (cc (ap is_eq o, equal))
    apart true false more p q o = refl
    apart false c more p q o = refl

    by : (o : Ordering) → slice_cmp nat_cmp key.items e.0.items ≡ o → number_in name (named (with_number es key number)) ≡ cond (bytes_eq name key.items) (Some number) (number_in name (named es))
        → number_in name (named (match_ordering o ((key, number) ∷ e ∷ es) ((e.0, number) ∷ es) (e ∷ with_number es key number))) ≡ cond (bytes_eq name key.items) (Some number) (number_in name (named (e ∷ es)))
    by Less o h = refl
    by Equal o h =
        same (bytes_eq name e.0.items) (number_in name (named es))
        ∙ ap (λ key. cond (bytes_eq name key) (Some number) (number_in name (named (e ∷ es)))) (sym (equal_names key.items e.0.items o))
    by Greater o h =
        ap (λ rest. cond (bytes_eq name e.0.items) (Some e.1) rest) h
        ∙ apart (bytes_eq name e.0.items) (bytes_eq name key.items) (number_in name (named es)) refl refl o
