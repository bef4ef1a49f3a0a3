-- What clap builds of the rules of a row.
use Rattle.std.proofs.Common.{◌≡◌, ℕ, ◌+◌, zero, suc, Bool, true, false, List, [], ◌∷◌, ◌++◌, map, refl, ap, ap₂, ◌∙◌, arith, inl, inr, cond}
use Rattle.std.specs.Prelude.{Some, None, Contains, find, ◌⊎◌, ◌&&◌, ◌||◌, ◌==◌, not, count_by, fold, is_some}
use Rattle.std.specs.List.{list_all, list_any}
use Rattle.std.specs.Option.{option_map_or}
use Rattle.std.specs.Str.{bytes_eq}
use Rattle.std.proofs.lemmas.Slice.Eq.{bytes_eq-Decides}
use Rattle.clap.specs.Words.{App, Rule, Shape, Text, built, is_simple, is_simple_and_free}
use Rattle.clap.specs.Simple.{filled, filled_from, with_index, is_buildable, is_ready, is_ready_leaf, is_in_order}
use Rattle.clap.specs.Faults.{is_free_app}
use Rattle.clap.specs.Walk.{arg_by_id, arg_by_index, arg_by_long, arg_by_short, has_long, has_short, is_early_multiple}
use Rattle.command_line.specs.Takes.{Takes, options, IsSound}
use Rattle.command_line.specs.Laws.{IsTaken}
use Rattle.command_line.specs.Parser.{app_for, bare_app, flag_rule, option_rule, other_rule, rules_for}
use Rattle.command_line.proofs.Names.{IsLong, name_long, not_other, flag_no_option, first_among, last_among, among_or_none}

-- an option, a flag and the other words, as they are built
abbrev pub option_built : Text → Rule
option_built name = with_index 1 (filled (option_rule name))

abbrev pub flag_built : Text → Rule
flag_built name = with_index 1 (filled (flag_rule name))

abbrev pub other_built : Text → Rule
other_built name = with_index 1 (filled (other_rule name))

abbrev pub built_rules : Takes → List Rule
built_rules t = map option_built (options t) ++ (map flag_built t.flags ++ other_built t.other ∷ [])

options_built : (names : List Text) (rest : List Rule) → filled_from 1 (map option_rule names ++ rest) ≡ map option_built names ++ filled_from 1 rest
options_built [] rest = refl
options_built (name ∷ names) rest = ap (λ rs. option_built name ∷ rs) (options_built names rest)

flags_built : (names : List Text) (rest : List Rule) → filled_from 1 (map flag_rule names ++ rest) ≡ map flag_built names ++ filled_from 1 rest
flags_built [] rest = refl
flags_built (name ∷ names) rest = ap (λ rs. flag_built name ∷ rs) (flags_built names rest)

-- the command as it is built
abbrev pub shape_for : Takes → Shape
shape_for t = record (built bare_app).top { rules = built_rules t }

abbrev pub built_for : Takes → App
built_for t = record { top = shape_for t; subs = [] }

pub built_is : (t : Takes) → built (app_for t) ≡ built_for t
built_is t =
    let rules : filled_from 1 (rules_for t) ≡ built_rules t = options_built (options t) (map flag_rule t.flags ++ other_rule t.other ∷ []) ∙ ap (λ rs. map option_built (options t) ++ rs) (flags_built t.flags (other_rule t.other ∷ [])) in
    ap (λ (rs : List Rule). record { top = record (shape_for t) { rules = rs }; subs = [] }) rules

-- ---- rules with names
module _ (rule : Text → Rule) (p : Rule → Bool) where
  pub all_pass : (names : List Text) (rest : List Rule) → ((n : Text) → p (rule n) ≡ true) → list_all p rest ≡ true → list_all p (map rule names ++ rest) ≡ true
  all_pass [] rest each last = last
  all_pass (name ∷ names) rest each last = rw (each name) (all_pass names rest each last)

  pub none_pass : (names : List Text) (rest : List Rule) → ((n : Text) → p (rule n) ≡ false) → list_any p (map rule names ++ rest) ≡ list_any p rest
  none_pass [] rest each = refl
  none_pass (name ∷ names) rest each = rw (each name) (none_pass names rest each)

  pub none_counted : (names : List Text) (rest : List Rule) (n : ℕ) → ((m : Text) → p (rule m) ≡ false) → fold (λ k r. k + cond (p r) 1 0) n (map rule names ++ rest) ≡ fold (λ k r. k + cond (p r) 1 0) n rest
  none_counted [] rest n each = refl
  none_counted (name ∷ names) rest n each =
      let same : n + cond (p (rule name)) 1 0 ≡ n = ap (λ b. n + cond b 1 0) (each name) ∙ omega arith in
      ap (λ k. fold (λ k r. k + cond (p r) 1 0) k (map rule names ++ rest)) same ∙ none_counted names rest n each

  pub passed_over : (names : List Text) (rest : List Rule) → ((n : Text) → Contains names n → p (rule n) ≡ false) → find p (map rule names ++ rest) ≡ find p rest
  passed_over [] rest each = refl
  passed_over (name ∷ names) rest each = rw (each name (0, omega arith, refl)) (passed_over names rest (λ n is. each n (suc is.0, omega (arith, is.1), is.2)))

  pub found : (names : List Text) (rest : List Rule) (n : Text) → ((m : Text) → p (rule m) ≡ bytes_eq m n) → Contains names n → find p (map rule names ++ rest) ≡ Some (rule n)
  found [] rest n is (k, lt, e) = absurd (omega arith)
  found (name ∷ names) rest n is has = here (bytes_eq name n) refl has (found names rest n is)
    where
      here : (b : Bool) → bytes_eq name n ≡ b → Contains (name ∷ names) n → (Contains names n → find p (map rule names ++ rest) ≡ Some (rule n)) → find p (map rule (name ∷ names) ++ rest) ≡ Some (rule n)
      here true e has more = rw (is name, e) (ap (λ m. Some (rule m)) ((bytes_eq-Decides name n).0 e))
      here false e (zero, lt, same) more = let there : bytes_eq name n ≡ true = (bytes_eq-Decides name n).1 same in cc
      here false e (suc k, lt, same) more = rw (is name, e) (more (k, omega arith, same))

-- ---- clap gives its account of the command
abbrev has_simple : List Rule → Bool
has_simple rules = list_all (λ a. a.is_simple) rules

abbrev has_free : List Rule → Bool
has_free rules = list_all (λ a. a.is_free) rules

abbrev has_index : Rule → Bool
has_index a = is_some a.index

rules_simple : (t : Takes) → has_simple (rules_for t) ≡ true
rules_simple t = all_pass option_rule (λ a. a.is_simple) (options t) _ (λ n. refl) (all_pass flag_rule (λ a. a.is_simple) t.flags _ (λ n. refl) refl)

built_simple : (t : Takes) → has_simple (built_rules t) ≡ true
built_simple t = all_pass option_built (λ a. a.is_simple) (options t) _ (λ n. refl) (all_pass flag_built (λ a. a.is_simple) t.flags _ (λ n. refl) refl)

built_free : (t : Takes) → has_free (built_rules t) ≡ true
built_free t = all_pass option_built (λ a. a.is_free) (options t) _ (λ n. refl) (all_pass flag_built (λ a. a.is_free) t.flags _ (λ n. refl) refl)

one_index : (t : Takes) → count_by has_index (built_rules t) ≡ 1
one_index t = none_counted option_built has_index (options t) _ 0 (λ n. refl) ∙ none_counted flag_built has_index t.flags _ 0 (λ n. refl)

in_order : (t : Takes) → is_in_order (built_rules t) ≡ true
in_order t =
    let none : list_any (is_early_multiple 1) (built_rules t) ≡ false = none_pass option_built (is_early_multiple 1) (options t) _ (λ n. refl) ∙ none_pass flag_built (is_early_multiple 1) t.flags _ (λ n. refl) in
    ap (λ n. not (list_any (is_early_multiple n) (built_rules t))) (one_index t) ∙ ap not none

abbrev simple_when : App → App → Bool
simple_when a built = is_buildable a && (is_ready built.top && list_all is_ready_leaf built.subs)

pub simple_row : (t : Takes) → is_simple (app_for t) ≡ true
simple_row t = ap (simple_when (app_for t)) (built_is t) ∙ rw (rules_simple t, built_simple t, in_order t) refl

pub free_row : (t : Takes) → is_simple_and_free (app_for t) ≡ true
free_row t = ap₂ (λ simple (built : App). simple && is_free_app built) (simple_row t) (built_is t) ∙ rw (built_free t) refl

-- ---- what clap finds by a name, an id and a place
pub record Reads (t : Takes) (s : Shape) : Type 0 where
  pub index : arg_by_index s.rules 1 ≡ Some (other_built t.other)
  pub own : arg_by_id s.rules t.other ≡ Some (other_built t.other)
  pub option_by_id : (n : Text) → Contains (options t) n → arg_by_id s.rules n ≡ Some (option_built n)
  pub option_by_long : (n : Text) → Contains (options t) n → arg_by_long s.rules n ≡ Some (option_built n)
  pub flag_by_long : (n : Text) → Contains t.flags n → arg_by_long s.rules n ≡ Some (flag_built n)
  pub named : (n : Text) → (arg_by_long s.rules n ≡ None) ⊎ IsTaken t n
  pub no_short : (x : ℕ) → arg_by_short s.rules x ≡ None
  pub option_long : (n : Text) → Contains (options t) n → IsLong n
  pub flag_long : (n : Text) → Contains t.flags n → IsLong n

or_false : (b : Bool) → (b || false) ≡ b
or_false true = refl
or_false false = refl

module _ (t : Takes) (sound : IsSound t) where
  abbrev by_index : Rule → Bool
  by_index a = option_map_or (λ k. k == 1) a.index false

  abbrev by_id : Text → Rule → Bool
  by_id n a = bytes_eq a.id n

  abbrev by_long : Text → Rule → Bool
  by_long n a = not (is_some a.index) && has_long a n

  abbrev by_short : ℕ → Rule → Bool
  by_short x a = not (is_some a.index) && has_short a x

  pub reads_of : Reads t (shape_for t)
  reads_of = record {
    index = passed_over option_built by_index (options t) _ (λ n is. refl) ∙ passed_over flag_built by_index t.flags _ (λ n is. refl);
    own = passed_over option_built (by_id t.other) (options t) _ (λ n is. not_other t sound n (first_among (options t) t.flags n is))
        ∙ passed_over flag_built (by_id t.other) t.flags _ (λ n is. not_other t sound n (last_among (options t) t.flags n is)) ∙ rw ((bytes_eq-Decides t.other t.other).1 refl) refl;
    option_by_id = λ n is. found option_built (by_id n) (options t) _ n (λ m. refl) is;
    option_by_long = λ n is. found option_built (by_long n) (options t) _ n (λ m. or_false (bytes_eq m n)) is;
    flag_by_long = λ n is. passed_over option_built (by_long n) (options t) _ (λ m option. or_false (bytes_eq m n) ∙ flag_no_option t sound m n option is) ∙ found flag_built (by_long n) t.flags _ n (λ m. or_false (bytes_eq m n)) is;
    named = λ n. named n (among_or_none (options t) n) (among_or_none t.flags n);
    no_short = λ x. passed_over option_built (by_short x) (options t) _ (λ n is. refl) ∙ passed_over flag_built (by_short x) t.flags _ (λ n is. refl);
    option_long = λ n is. name_long t sound n (first_among (options t) t.flags n is);
    flag_long = λ n is. name_long t sound n (last_among (options t) t.flags n is);
  }
    where
      named : (n : Text) → (Contains (options t) n ⊎ ((m : Text) → Contains (options t) m → bytes_eq m n ≡ false)) → (Contains t.flags n ⊎ ((m : Text) → Contains t.flags m → bytes_eq m n ≡ false)) → (arg_by_long (shape_for t).rules n ≡ None) ⊎ IsTaken t n
      named n (inl option) flag = inr (inl option)
      named n (inr no_option) (inl flag) = inr (inr flag)
      named n (inr no_option) (inr no_flag) = inl (passed_over option_built (by_long n) (options t) _ (λ m is. or_false (bytes_eq m n) ∙ no_option m is) ∙ passed_over flag_built (by_long n) t.flags _ (λ m is. or_false (bytes_eq m n) ∙ no_flag m is))
