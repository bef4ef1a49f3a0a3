-- Whether a line shows a part that fits its place can be tested.
use Rattle.std.proofs.Common.{◌≡◌, ◌≢◌, ℕ, zero, suc, ◌^◌, ◌<◌, ◌≤◌, Bool, true, false, List, [], ◌∷◌, ◌++◌, length, refl, ap, sym, subst, ◌∙◌, arith, ◌⊎◌, inl, inr, ℤ, pos, negsuc, append_assoc, length-append}
use Rattle.std.specs.Prelude.{decimal}
use Rattle.std.specs.Fmt.{signed_decimal}
use Rattle.std.specs.declared.cmp.Ordering.{Ordering}
use Rattle.std.specs.declared.cmp.Ordering.TheVariants.{Less, Equal, Greater}
use Rattle.std.proofs.lemmas.Bool.{cases_eq}
use Rattle.desk_model.specs.Name.{is_name, name_cmp}
use Rattle.line_forms.specs.Places.{IsLaterName, IsShortNumber, count_line}
use Rattle.line_forms.specs.Reading.{IsFreeOf}
use Rattle.line_forms.proofs.Cuts.{above_free, free_parts, head_of, tail_of}
use Rattle.line_forms.proofs.Forms.{either_first}
use Rattle.line_forms.proofs.WordParts.{after_word}
use Rattle.line_forms.proofs.Shown.{name_above, signed_above, named_one}

-- a fact is so or not
abbrev pub Known : Type 0 → Type 0
Known A = A ⊎ (A → ⊥)

-- a line shows a part that fits, or none
abbrev pub Found : {P : Type 0} → (P → List ℕ) → (P → Type 0) → List ℕ → Type 0
Found {P} show Fits line = ((p : P) × Fits p × (line ≡ show p)) ⊎ ((p : P) → Fits p → line ≢ show p)

pub both : {A B : Type 0} → Known A → Known B → Known (A × B)
both (inl a) (inl b) = inl (a, b)
both (inl a) (inr never) = inr (λ p. never p.1)
both (inr never) k = inr (λ p. never p.0)

pub same_known : {A B : Type 0} → (A → B) → (B → A) → Known A → Known B
same_known f g (inl a) = inl (f a)
same_known f g (inr never) = inr (λ b. never (g b))

pub other : {A : Type 0} → Known A → Known (A → ⊥)
other (inl a) = inr (λ never. never a)
other (inr never) = inl never

pub true_known : (b : Bool) → Known (b ≡ true)
true_known true = inl refl
true_known false = inr (λ e. cc)

pub less_known : (o : Ordering) → Known (o ≡ Less)
less_known Less = inl refl
less_known Equal = inr (λ e. cc)
less_known Greater = inr (λ e. cc)

pub at_most : (m n : ℕ) → Known (m ≤ n)
at_most m n = elim (either_first n m) [ inl lt ↦ inr (λ le. omega arith) | inr le ↦ inl le ]

pub below : (m n : ℕ) → Known (m < n)
below m n = elim (at_most (suc m) n) [ inl le ↦ inl (omega arith) | inr never ↦ inr (λ lt. never (omega arith)) ]

not_empty : (xs ys : List ℕ) (y : ℕ) → [] ≢ xs ++ y ∷ ys
not_empty xs ys y e = let n : 0 ≡ length (xs ++ y ∷ ys) = ap length e in let long = length-append xs (y ∷ ys) in omega arith

pub same_list : (xs ys : List ℕ) → Known (xs ≡ ys)
same_list [] [] = inl refl
same_list [] (y ∷ ys) = inr (λ e. not_empty [] ys y e)
same_list (x ∷ xs) [] = inr (λ e. not_empty [] xs x (sym e))
same_list (x ∷ xs) (y ∷ ys) = elim (cases_eq x y) [
  | inl e ↦ elim (same_list xs ys) [ inl f ↦ inl (ap (λ z. z ∷ xs) e ∙ ap (λ zs. y ∷ zs) f) | inr never ↦ inr (λ g. never (ap tail_of g)) ]
  | inr never ↦ inr (λ g. never (ap (head_of 0) g))
]

-- the numbers below a bound are tried one after another
pub try_all : (P : ℕ → Type 0) → ((n : ℕ) → Known (P n)) → (bound : ℕ) → ((n : ℕ) × P n) ⊎ ((n : ℕ) → n < bound → P n → ⊥)
try_all P known zero = inr (λ n lt p. omega arith)
try_all P known (suc bound) = elim (known bound) [
  | inl p ↦ inl (bound, p)
  | inr never ↦ elim (try_all P known bound) [
    | inl h ↦ inl h
    | inr none ↦ inr (λ n lt p. elim (cases_eq n bound) [ inl e ↦ never (subst P e p) | inr ne ↦ none n (omega (arith, ne)) p ])
  ]
]

pub numbers_found : (show : ℕ → List ℕ) (Fits : ℕ → Type 0) (bound : ℕ) → ((n : ℕ) → Known (Fits n)) → ((n : ℕ) → Fits n → n < bound) → (line : List ℕ) → Found show Fits line
numbers_found show Fits bound known within line = elim (try_all (λ n. Fits n × (line ≡ show n)) (λ n. both (known n) (same_list line (show n))) bound) [
  | inl h ↦ inl (h.0, h.1.0, h.1.1)
  | inr none ↦ inr (λ n fits e. none n (within n fits) (fits, e))
]

pub signed_found : (text : List ℕ) → Found signed_decimal IsShortNumber text
signed_found text = elim (numbers_found decimal (λ n. n < 10 ^ 19) (10 ^ 19) (λ n. below n (10 ^ 19)) (λ n lt. lt) text) [
  | inl h ↦ inl (pos h.0, h.1, h.2)
  | inr none ↦ elim (numbers_found (λ n. 45 ∷ decimal (suc n)) (λ n. suc n < 10 ^ 19) (10 ^ 19) (λ n. below (suc n) (10 ^ 19)) (λ n lt. omega arith) text) [
    | inl h ↦ inl (negsuc h.0, h.1, h.2)
    | inr never ↦ inr (by none never)
  ]
]
  where
    by : ((n : ℕ) → n < 10 ^ 19 → text ≢ decimal n) → ((n : ℕ) → suc n < 10 ^ 19 → text ≢ 45 ∷ decimal (suc n)) → (z : ℤ) → IsShortNumber z → text ≢ signed_decimal z
    by none never (pos n) fits e = none n fits e
    by none never (negsuc n) fits e = never n fits e

-- what stands after a word
word_known : (word line : List ℕ) → ((rest : List ℕ) × (line ≡ word ++ rest)) ⊎ ((rest : List ℕ) → line ≢ word ++ rest)
word_known [] line = inl (line, refl)
word_known (w ∷ ws) [] = inr (λ rest e. not_empty [] (ws ++ rest) w e)
word_known (w ∷ ws) (l ∷ ls) = elim (cases_eq l w) [
  | inl e ↦ elim (word_known ws ls) [ inl h ↦ inl (h.0, ap (λ z. z ∷ ls) e ∙ ap (λ zs. w ∷ zs) h.1) | inr never ↦ inr (λ rest g. never rest (ap tail_of g)) ]
  | inr never ↦ inr (λ rest g. never (ap (head_of 0) g))
]

pub word_found : {P : Type 0} (word : List ℕ) (show : P → List ℕ) (Fits : P → Type 0) → ((text : List ℕ) → Found show Fits text) → (line : List ℕ) → Found (λ p. word ++ show p) Fits line
word_found word show Fits found line = elim (word_known word line) [
  | inl h ↦ elim (found h.0) [
    | inl k ↦ inl (k.0, k.1, h.1 ∙ ap (λ z. word ++ z) k.2)
    | inr never ↦ inr (λ p fits e. never p fits (after_word word line h.0 (show p) h.1 e))
  ]
  | inr never ↦ inr (λ p fits e. never (show p) e)
]

-- the first place of a byte
later_cut : (s x : ℕ) (xs : List ℕ) → x ≢ s → ((n u : List ℕ) → xs ≢ n ++ s ∷ u) → (n u : List ℕ) → x ∷ xs ≢ n ++ s ∷ u
later_cut s x xs ne never [] u e = ne (ap (head_of 0) e)
later_cut s x xs ne never (m ∷ ms) u e = never ms u (ap tail_of e)

pub cut_known : (s : ℕ) (xs : List ℕ) → ((n : List ℕ) × (u : List ℕ) × IsFreeOf s n × (xs ≡ n ++ s ∷ u)) ⊎ ((n u : List ℕ) → xs ≢ n ++ s ∷ u)
cut_known s [] = inr (λ n u e. not_empty n u s e)
cut_known s (x ∷ xs) = elim (cases_eq x s) [
  | inl e ↦ inl ([], xs, tt, ap (λ z. z ∷ xs) e)
  | inr ne ↦ elim (cut_known s xs) [ inl h ↦ inl (x ∷ h.0, h.1, (ne, h.2), ap (λ zs. x ∷ zs) h.3) | inr never ↦ inr (later_cut s x xs ne never) ]
]

pub later_known : (before name : List ℕ) → Known (IsLaterName before name)
later_known before name = both (true_known (is_name name)) (less_known (name_cmp before name))

-- a name that may come next, and a text after a space
pub name_and_text_known : (before text : List ℕ) → ((name : List ℕ) × (rest : List ℕ) × IsLaterName before name × (text ≡ name ++ 32 ∷ rest)) ⊎ ((name rest : List ℕ) → IsLaterName before name → text ≢ name ++ 32 ∷ rest)
name_and_text_known before text = elim (cut_known 32 text) [
  | inl h ↦ elim (later_known before h.0) [
    | inl later ↦ inl (h.0, h.1, later, h.3)
    | inr never ↦ inr (λ name rest later e.
        let same = free_parts 32 h.0 name h.1 rest h.2 (above_free 32 name (name_above name later.0)) (sym h.3 ∙ e) in
        never (subst (IsLaterName before) (sym same.0) later))
  ]
  | inr never ↦ inr (λ name rest later e. never name rest e)
]

-- two numbers with a space between
pub two_known : (text : List ℕ) → ((y : ℤ) × (z : ℤ) × IsShortNumber y × IsShortNumber z × (text ≡ signed_decimal y ++ 32 ∷ signed_decimal z)) ⊎ ((y z : ℤ) → IsShortNumber y → IsShortNumber z → text ≢ signed_decimal y ++ 32 ∷ signed_decimal z)
two_known text = elim (cut_known 32 text) [
  | inl h ↦
      let parts = λ (y z : ℤ) (e : text ≡ signed_decimal y ++ 32 ∷ signed_decimal z). free_parts 32 h.0 (signed_decimal y) h.1 (signed_decimal z) h.2 (above_free 32 (signed_decimal y) (signed_above y)) (sym h.3 ∙ e) in
      elim (signed_found h.0) [
        | inl k ↦ elim (signed_found h.1) [
          | inl l ↦ inl (k.0, l.0, k.1, l.1, h.3 ∙ ap (λ z. z ++ 32 ∷ h.1) k.2 ∙ ap (λ z. signed_decimal k.0 ++ 32 ∷ z) l.2)
          | inr never ↦ inr (λ y z fy fz e. never z fz (parts y z e).1)
        ]
        | inr never ↦ inr (λ y z fy fz e. never y fy (parts y z e).0)
      ]
  | inr never ↦ inr (λ y z fy fz e. never (signed_decimal y) (signed_decimal z) e)
]

-- ---- places of the commonest kinds
pub fixed_found : (text line : List ℕ) → Found (λ (_ : Unit {0}). text) (λ _. Unit {0}) line
fixed_found text line = elim (same_list line text) [ inl e ↦ inl (tt, tt, e) | inr never ↦ inr (λ p fits e. never e) ]

pub name_found : (word line : List ℕ) → Found (λ name. word ++ name) (λ name. is_name name ≡ true) line
name_found word line = word_found word (λ name. name) (λ name. is_name name ≡ true)
    (λ text. elim (true_known (is_name text)) [ inl named ↦ inl (text, named, refl) | inr never ↦ inr (λ name named e. never (subst (λ z. is_name z ≡ true) (sym e) named)) ]) line

pub later_name_found : (word before line : List ℕ) → Found (λ name. word ++ name) (IsLaterName before) line
later_name_found word before line = word_found word (λ name. name) (IsLaterName before)
    (λ text. elim (later_known before text) [ inl later ↦ inl (text, later, refl) | inr never ↦ inr (λ name later e. never (subst (IsLaterName before) (sym e) later)) ]) line

-- numbers up to a limit
pub most_found : (limit : ℕ) (text : List ℕ) → Found decimal (λ n. n ≤ limit) text
most_found limit text = numbers_found decimal (λ n. n ≤ limit) (suc limit) (λ n. at_most n limit) (λ n le. omega arith) text

name_then_number : (limit : ℕ) (before text : List ℕ) → Found (λ (p : List ℕ × ℕ). p.0 ++ 32 ∷ decimal p.1) (λ p. IsLaterName before p.0 × (p.1 ≤ limit)) text
name_then_number limit before text = elim (name_and_text_known before text) [
  | inl h ↦ elim (most_found limit h.1) [
    | inl k ↦ inl ((h.0, k.0), (h.2, k.1), h.3 ∙ ap (λ z. h.0 ++ 32 ∷ z) k.2)
    | inr never ↦ inr (λ p fits e. never p.1 fits.1 (named_one h.0 p.0 h.1 (decimal p.1) h.2.0 fits.0.0 (sym h.3 ∙ e)).1)
  ]
  | inr never ↦ inr (λ p fits e. never p.0 (decimal p.1) fits.0 e)
]

pub name_and_count_found : (word : List ℕ) (limit : ℕ) (before line : List ℕ) → Found (λ (p : List ℕ × ℕ). count_line word p.0 p.1) (λ p. IsLaterName before p.0 × (p.1 ≤ limit)) line
name_and_count_found word limit before line =
    let show = λ (p : List ℕ × ℕ). p.0 ++ 32 ∷ decimal p.1 in
    let cut : (p : List ℕ × ℕ) → count_line word p.0 p.1 ≡ word ++ show p = λ p. append_assoc word p.0 (32 ∷ decimal p.1) in
    elim (word_found word show (λ p. IsLaterName before p.0 × (p.1 ≤ limit)) (name_then_number limit before) line) [
      | inl h ↦ inl (h.0, h.1, h.2 ∙ sym (cut h.0))
      | inr never ↦ inr (λ p fits e. never p fits (e ∙ cut p))
    ]

-- from 1 to a limit
pub range_known : (limit n : ℕ) → Known ((1 ≤ n) × (n ≤ limit))
range_known limit n = both (at_most 1 n) (at_most n limit)
