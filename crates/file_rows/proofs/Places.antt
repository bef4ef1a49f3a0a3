-- The place of a topic among the topics.
use Rattle.std.proofs.Common.{◌≡◌, ℕ, zero, suc, ◌+◌, ◌<◌, ◌≤◌, List, [], ◌∷◌, ◌++◌, length, true, false, cond, refl, ap, ap₂, sym, subst, ◌∙◌, arith, inl, inr, ◌⊎◌}
use Rattle.std.specs.Prelude.{Bool, not, ◌||◌, Option, Some, None, option_map, position, nat_lt, is_some}
use Rattle.std.specs.List.{list_any, position_or_len}
use Rattle.std.specs.Str.{bytes_eq}
use Rattle.std.proofs.lemmas.Bool.{lt-ltb, ltb-true, le-ltb, ltb-false}
use Rattle.small_lemmas.proofs.Tests.{neither}
use Rattle.file_rows.specs.Rows.{Row}
use Rattle.file_rows.specs.Grouped.{names_of, is_topic, rows_at, place_of, Valued, TopicRows, valued_of, rows_in, with_valued, with_row_on}
use Rattle.file_rows.proofs.RowFiles.{topic_with}

later : (b : Bool) (n m : ℕ) → nat_lt n m ≡ b → cond (nat_lt (1 + n) (suc m)) (Some (1 + n)) None ≡ option_map suc (cond b (Some n) None)
later true n m e =
    let lt : n < m = ltb-true n m e in
    ap (λ b. cond b (Some (1 + n)) None) (lt-ltb (1 + n) (suc m) (omega arith)) ∙ ap Some (omega arith)
later false n m e = let le : m ≤ n = ltb-false n m e in ap (λ b. cond b (Some (1 + n)) None) (le-ltb (1 + n) (suc m) (omega arith))

position-cons : {A : Type 0} (p : A → Bool) (x : A) (xs : List A) → position p (x ∷ xs) ≡ cond (p x) (Some 0) (option_map suc (position p xs))
position-cons p x xs = by (p x)
  where
    by : (b : Bool) → cond (nat_lt (cond (not b) (1 + position_or_len p xs) 0) (suc (length xs))) (Some (cond (not b) (1 + position_or_len p xs) 0)) None ≡ cond b (Some 0) (option_map suc (position p xs))
    by true = ap (λ b. cond b (Some 0) None) (lt-ltb 0 (suc (length xs)) (omega arith))
    by false = later (nat_lt (position_or_len p xs) (length xs)) (position_or_len p xs) (length xs) refl

-- where a test passes first: at the head, or in the tail
pub record Later {A : Type 0} (p : A → Bool) (x : A) (xs : List A) (t : ℕ) : Type 0 where
  pub fails : p x ≡ false
  pub place : ℕ
  pub found : position p xs ≡ Some place
  pub next : t ≡ suc place

pub located : {A : Type 0} (p : A → Bool) (x : A) (xs : List A) (t : ℕ) → position p (x ∷ xs) ≡ Some t → ((p x ≡ true) × (t ≡ 0)) ⊎ Later p x xs t
located p x xs t e = by (p x) refl (position p xs) refl (sym (position-cons p x xs) ∙ e)
  where
    by : (b : Bool) → p x ≡ b → (r : Option ℕ) → position p xs ≡ r → cond (p x) (Some 0) (option_map suc (position p xs)) ≡ Some t → ((p x ≡ true) × (t ≡ 0)) ⊎ Later p x xs t
    by true f r g h = inl (f, (let k : Some 0 ≡ Some t = sym (ap (λ b. cond b (Some 0) (option_map suc (position p xs))) f) ∙ h in cc))
    by false f None g h = (let k : None ≡ Some t = sym (ap₂ (λ b r. cond b (Some 0) (option_map suc r)) f g) ∙ h in absurd (cc))
    by false f (Some s) g h = inr (record {
      fails = f;
      place = s;
      found = g;
      next = (let k : Some (suc s) ≡ Some t = sym (ap₂ (λ b r. cond b (Some 0) (option_map suc r)) f g) ∙ h in cc);
    })

-- whether a test passes is whether it has a place
pub is_some-position : {A : Type 0} (p : A → Bool) (xs : List A) → is_some (position p xs) ≡ list_any p xs
is_some-position p [] = refl
is_some-position p (x ∷ xs) = ap is_some (position-cons p x xs) ∙ by (is_some-position p xs) (p x) (position p xs)
  where
    by : is_some (position p xs) ≡ list_any p xs → (b : Bool) (r : Option ℕ) → is_some (cond b (Some 0) (option_map suc (position p xs))) ≡ (b || list_any p xs)
    by rest true r = refl
    by rest false r = kept (position p xs) ∙ rest
      where
        kept : (r : Option ℕ) → is_some (option_map suc r) ≡ is_some r
        kept None = refl
        kept (Some s) = refl

-- the topic that has a place
pub at_name : (ts : List TopicRows) (name : List ℕ) (t : ℕ) → place_of name ts ≡ Some t → (t < length ts) × (rows_at ts t ≡ rows_in name ts)
at_name [] name t e = absurd (let k : None ≡ Some t = e in cc)
at_name (x ∷ ts) name t e = elim (located (bytes_eq name) x.name (names_of ts) t e) [
  | inl w ↦ subst (λ t. (t < length (x ∷ ts)) × (rows_at (x ∷ ts) t ≡ rows_in name (x ∷ ts))) (sym w.1) (omega arith, sym (on true w.0))
  | inr w ↦
      let rest = at_name ts name w.place w.found in
      subst (λ t. (t < length (x ∷ ts)) × (rows_at (x ∷ ts) t ≡ rows_in name (x ∷ ts))) (sym w.next) ((let h = rest.0 in omega arith), rest.1 ∙ sym (on false w.fails))
]
  where
    on : (b : Bool) → bytes_eq name x.name ≡ b → rows_in name (x ∷ ts) ≡ cond b x.rows (rows_in name ts)
    on b h = ap (λ b. cond b x.rows (rows_in name ts)) h

-- a row that is added to topics of which the first has, or has not, its name
with_row-cons : (x : TopicRows) (ts : List TopicRows) (row : Row) (b : Bool) → bytes_eq row.topic x.name ≡ b → with_row_on (x ∷ ts) row ≡ cond b (topic_with x.name (x.rows ++ valued_of row ∷ []) ∷ ts) (x ∷ with_row_on ts row)
with_row-cons x ts row b e = ap (λ b. cond b (topic_with x.name (x.rows ++ valued_of row ∷ []) ∷ ts) (x ∷ with_row_on ts row)) e

-- the member of a row is put into the place of its topic
pub put_at : (ts : List TopicRows) (row : Row) (t : ℕ) → place_of row.topic ts ≡ Some t → with_valued ts t (valued_of row) ≡ with_row_on ts row
put_at [] row t e = absurd (let k : None ≡ Some t = e in cc)
put_at (x ∷ ts) row t e = elim (located (bytes_eq row.topic) x.name (names_of ts) t e) [
  | inl w ↦ ap (λ t. with_valued (x ∷ ts) t (valued_of row)) w.1 ∙ sym (with_row-cons x ts row true w.0)
  | inr w ↦
      ap (λ t. with_valued (x ∷ ts) t (valued_of row)) w.next ∙ ap (λ us. x ∷ us) (put_at ts row w.place w.found)
      ∙ sym (with_row-cons x ts row false w.fails)
]

-- a topic that has none
pub no_place : (name : List ℕ) (ts : List TopicRows) → place_of name ts ≡ None → is_topic name ts ≡ false
no_place name ts e = sym (is_some-position (bytes_eq name) (names_of ts)) ∙ ap is_some e

pub members_on-none : (name : List ℕ) (ts : List TopicRows) → is_topic name ts ≡ false → rows_in name ts ≡ []
members_on-none name [] e = refl
members_on-none name (x ∷ ts) e =
    let parts = neither (bytes_eq name x.name) (is_topic name ts) e in
    ap (λ b. cond b x.rows (rows_in name ts)) parts.0 ∙ members_on-none name ts parts.1

-- a new topic at the end, and the member of a row that is put there
pub put_new : (ts : List TopicRows) (row : Row) → is_topic row.topic ts ≡ false → with_valued (ts ++ topic_with row.topic [] ∷ []) (length ts) (valued_of row) ≡ with_row_on ts row
put_new [] row e =
    refl
put_new (x ∷ ts) row e =
    let parts = neither (bytes_eq row.topic x.name) (is_topic row.topic ts) e in
    ap (λ us. x ∷ us) (put_new ts row parts.1) ∙ sym (with_row-cons x ts row false parts.0)

pub members_at-new : (ts : List TopicRows) (name : List ℕ) → rows_at (ts ++ topic_with name [] ∷ []) (length ts) ≡ []
members_at-new [] name = refl
members_at-new (x ∷ ts) name = members_at-new ts name

-- one more row leaves the names of the topics
pub names_of-with_valued : (ts : List TopicRows) (t : ℕ) (valued : Valued) → names_of (with_valued ts t valued) ≡ names_of ts
names_of-with_valued [] t valued = refl
names_of-with_valued (x ∷ ts) zero valued = refl
names_of-with_valued (x ∷ ts) (suc t) valued = ap (λ ns. x.name ∷ ns) (names_of-with_valued ts t valued)
