-- The place of a topic among the topics.
use Rattle.std.proofs.Common.{◌≡◌, ℕ, List, [], ◌∷◌, ◌++◌, true, false, cond, sym, subst, arith, inl, inr}
use Rattle.std.specs.Prelude.{Bool, All, Some, None}
use Rattle.std.specs.Str.{bytes_eq}
use Rattle.std.proofs.lemmas.List.Elements.{All-cons, All-head, All-tail}
use Rattle.file_rows.specs.Rows.{Row}
use Rattle.file_rows.specs.Grouped.{TopicRows, valued_of, names_of, place_of, with_row_on}
use Rattle.desk_model.proofs.Names.{same_name}
use Rattle.file_rows.proofs.Places.{located}

-- a property of the names of topics that have a place holds of a name that has one
pub placed_has : (P : List ℕ → Type 0) (name : List ℕ) (ts : List TopicRows) (t : ℕ) → All P (names_of ts) → place_of name ts ≡ Some t → P name
placed_has P name [] t h e = absurd (let k : None ≡ Some t = e in cc)
placed_has P name (x ∷ ts) t h e = elim (located (bytes_eq name) x.name (names_of ts) t e) [
  | inl w ↦ subst P (sym (same_name name x.name w.0)) (All-head P x.name (names_of ts) h)
  | inr w ↦ placed_has P name ts w.place (All-tail P x.name (names_of ts) h) w.found
]

-- and stays with a row of a topic that has it
pub names_with : (P : List ℕ → Type 0) (ts : List TopicRows) (row : Row) → All P (names_of ts) → P row.topic → All P (names_of (with_row_on ts row))
names_with P [] row h new = All-cons P row.topic [] new (λ k d lt. absurd (omega arith))
names_with P (x ∷ ts) row h new = by (bytes_eq row.topic x.name) (names_with P ts row (All-tail P x.name (names_of ts) h) new)
  where
    by : (b : Bool) → All P (names_of (with_row_on ts row)) → All P (names_of (cond b (record { name = x.name; rows = x.rows ++ valued_of row ∷ [] } ∷ ts) (x ∷ with_row_on ts row)))
    by true rest = h
    by false rest = All-cons P x.name (names_of (with_row_on ts row)) (All-head P x.name (names_of ts) h) rest
