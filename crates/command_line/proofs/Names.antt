-- Long names, as clap cuts the words that hold them.
use Rattle.std.proofs.Common.{◌≡◌, zero, suc, Bool, true, false, true≢false, List, [], ◌∷◌, ◌++◌, refl, ap, sym, ◌∙◌, arith, inl, inr}
use Rattle.std.specs.Prelude.{Some, None, Contains, ◌⊎◌, ◌==◌, ◌&&◌, ◌||◌, not}
use Rattle.std.specs.List.{list_all, list_any}
use Rattle.std.specs.Str.{bytes_eq}
use Rattle.std.proofs.lemmas.Bool.{false_from_ne_true}
use Rattle.std.proofs.lemmas.Bool.Decides.{nat_tests}
use Rattle.std.proofs.lemmas.Slice.Eq.{bytes_eq-Decides}
use Rattle.clap.specs.Words.{Text}
use Rattle.clap.specs.Lexer.{long_of}
use Rattle.clap.proofs.CutLemmas.{Lacks}
use Rattle.clap.proofs.LexerLemmas.{name_and_value-at, name_and_value-without}
use Rattle.command_line.specs.Laws.{IsTaken}
use Rattle.command_line.specs.Takes.{Takes, options, is_long_name, are_distinct, IsSound}

-- what clap makes of `--name` and of `--name=value`
pub record IsLong (n : Text) : Type 0 where
  pub long : long_of (45 ∷ 45 ∷ n) ≡ Some (n, None)
  pub more : bytes_eq (45 ∷ 45 ∷ n) (45 ∷ 45 ∷ []) ≡ false
  pub joined : (v : Text) → long_of (45 ∷ 45 ∷ (n ++ 61 ∷ v)) ≡ Some (n, Some v)
  pub joined_more : (v : Text) → bytes_eq (45 ∷ 45 ∷ (n ++ 61 ∷ v)) (45 ∷ 45 ∷ []) ≡ false

lacks : (xs : Text) → list_any (λ x. x == 61) xs ≡ false → Lacks 61 xs
lacks [] none = λ i lt. absurd (omega arith)
lacks (x ∷ xs) none = by_first (x == 61) refl (lacks xs)
  where
    by_place : (x == 61) ≡ false → Lacks 61 xs → Lacks 61 (x ∷ xs)
    by_place e rest zero lt same = grind (arith, nat_tests)
    by_place e rest (suc i) lt same = rest i (omega arith) same

    by_first : (b : Bool) → (x == 61) ≡ b → (list_any (λ x. x == 61) xs ≡ false → Lacks 61 xs) → Lacks 61 (x ∷ xs)
    by_first true e rest = absurd (true≢false (sym (ap (λ b. b || list_any (λ x. x == 61) xs) e) ∙ none))
    by_first false e rest = by_place e (rest (sym (ap (λ b. b || list_any (λ x. x == 61) xs) e) ∙ none))

not_true : (b : Bool) → not b ≡ true → b ≡ false
not_true true e = absurd (true≢false (sym e))
not_true false e = refl

pub is_long : (n : Text) → is_long_name n ≡ true → IsLong n
is_long [] is = absurd (true≢false (sym is))
is_long (b ∷ bs) is =
    let none : Lacks 61 (b ∷ bs) = lacks (b ∷ bs) (not_true (list_any (λ x. x == 61) (b ∷ bs)) is) in
    record { long = ap Some (name_and_value-without (b ∷ bs) none); more = refl; joined = λ v. ap Some (name_and_value-at (b ∷ bs) v none); joined_more = λ v. refl }

-- ---- names of a row
pub both : (a b : Bool) → (a && b) ≡ true → (a ≡ true) × (b ≡ true)
both true b e = (refl, e)
both false b e = absurd (true≢false (sym e))

pub each_of : (p : Text → Bool) (names : List Text) → list_all p names ≡ true → (n : Text) → Contains names n → p n ≡ true
each_of p [] all n (k, lt, e) = absurd (omega arith)
each_of p (x ∷ xs) all n has = by_place has (each_of p xs (both (p x) (list_all p xs) all).1)
  where
    by_place : Contains (x ∷ xs) n → ((n : Text) → Contains xs n → p n ≡ true) → p n ≡ true
    by_place (zero, lt, same) rest = ap p (sym same) ∙ (both (p x) (list_all p xs) all).0
    by_place (suc k, lt, same) rest = rest n (k, omega arith, same)

-- a name among the first, and among the last
pub first_among : (xs ys : List Text) (n : Text) → Contains xs n → Contains (xs ++ ys) n
first_among [] ys n (k, lt, e) = absurd (omega arith)
first_among (x ∷ xs) ys n (zero, lt, e) = (0, omega arith, e)
first_among (x ∷ xs) ys n (suc k, lt, e) = let more = first_among xs ys n (k, omega arith, e) in (suc more.0, omega (arith, more.1), more.2)

pub last_among : (xs ys : List Text) (n : Text) → Contains ys n → Contains (xs ++ ys) n
last_among [] ys n is = is
last_among (x ∷ xs) ys n is = let more = last_among xs ys n is in (suc more.0, omega (arith, more.1), more.2)

pub among_names : (t : Takes) (n : Text) → IsTaken t n → Contains (options t ++ t.flags) n
among_names t n (inl option) = first_among (options t) t.flags n option
among_names t n (inr flag) = last_among (options t) t.flags n flag

-- of distinct names, none of the first is one of the last
pub apart : (xs ys : List Text) → are_distinct (xs ++ ys) ≡ true → (m n : Text) → Contains xs m → Contains ys n → bytes_eq m n ≡ false
apart [] ys all m n (k, lt, e) last = absurd (omega arith)
apart (x ∷ xs) ys all m n (zero, lt, e) last = not_true (bytes_eq m n) (each_of (λ y. not (bytes_eq m y)) (xs ++ ys) (ap (λ z. list_all (λ y. not (bytes_eq z y)) (xs ++ ys)) (sym e) ∙ (both _ _ all).0) n (last_among xs ys n last))
apart (x ∷ xs) ys all m n (suc k, lt, e) last = apart xs ys (both _ _ all).1 m n (k, omega arith, e) last

module _ (t : Takes) (sound : IsSound t) where
  pub name_long : (n : Text) → Contains (options t ++ t.flags) n → IsLong n
  name_long n has = is_long n (each_of is_long_name (options t ++ t.flags) (both _ _ sound).0 n has)

  pub other_not : (n : Text) → Contains (options t ++ t.flags) n → bytes_eq t.other n ≡ false
  other_not n has = apart (t.other ∷ []) (options t ++ t.flags) (both _ _ sound).1 t.other n (0, omega arith, refl) has

  pub not_other : (n : Text) → Contains (options t ++ t.flags) n → bytes_eq n t.other ≡ false
  not_other n has = false_from_ne_true (bytes_eq n t.other) (λ e. let same : t.other ≡ n = sym ((bytes_eq-Decides n t.other).0 e) in true≢false (sym ((bytes_eq-Decides t.other n).1 same) ∙ other_not n has))

  pub flag_no_option : (m n : Text) → Contains (options t) m → Contains t.flags n → bytes_eq m n ≡ false
  flag_no_option m n option flag = apart (options t) t.flags (both _ _ (both _ _ sound).1).1 m n option flag

-- a name is among some, or other than each
pub among_or_none : (names : List Text) (n : Text) → Contains names n ⊎ ((m : Text) → Contains names m → bytes_eq m n ≡ false)
among_or_none [] n = inr (λ m is. absurd (omega (arith, is.1)))
among_or_none (x ∷ xs) n = by_first (bytes_eq x n) refl (among_or_none xs n)
  where
    by_first : (b : Bool) → bytes_eq x n ≡ b → (Contains xs n ⊎ ((m : Text) → Contains xs m → bytes_eq m n ≡ false)) → Contains (x ∷ xs) n ⊎ ((m : Text) → Contains (x ∷ xs) m → bytes_eq m n ≡ false)
    by_first true e rest = inl (0, omega arith, (bytes_eq-Decides x n).0 e)
    by_first false e (inl is) = inl (suc is.0, omega (arith, is.1), is.2)
    by_first false e (inr none) = inr none_of
      where
        none_of : (m : Text) → Contains (x ∷ xs) m → bytes_eq m n ≡ false
        none_of m (zero, lt, same) = ap (λ z. bytes_eq z n) (sym same) ∙ e
        none_of m (suc k, lt, same) = none m (k, omega arith, same)
