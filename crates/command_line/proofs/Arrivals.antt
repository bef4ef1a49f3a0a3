-- What clap makes of the words of parts.
use Rattle.std.proofs.Common.{◌≡◌, true, false, Bool, List, [], ◌∷◌, ◌++◌, map, refl, ap, ap₂, sym, ◌∙◌, cond, append-nil, codes}
use Rattle.std.specs.Prelude.{Option, Some, None, ◌||◌, ◌&&◌, not, fold}
use Rattle.std.specs.List.{AllByRecursion, list_any}
use Rattle.std.specs.Str.{bytes_eq}
use Rattle.std.proofs.lemmas.Slice.Eq.{bytes_eq-Decides}
use Rattle.clap.specs.Words.{App, Row, Rule, Shape, Text, fault_of}
use Rattle.clap.specs.Kinds.{Kinds, or_else}
use Rattle.clap.specs.Walk.{Held, Walk, walked, with_default, has_row, settled, nothing_held, rows_after}
use Rattle.clap.specs.Simple.{names_of}
use Rattle.clap.specs.Faults.{built_fault, walk_fault, defaults_fault, check_fault, level_fault}
use Rattle.clap.specs.Takes.{is_given}
use Rattle.clap.proofs.FaultLemmas.{leaf_fault}
use Rattle.command_line.specs.Takes.{Takes, options, IsSound}
use Rattle.command_line.specs.Parser.{app_for, read_by, use_of_flag, values_in}
use Rattle.command_line.specs.Given.{Values}
use Rattle.command_line.specs.Parts.{Part, spaced, joined, flag, alone, values_of, words_alone, AreParts, words_at_end, whole_line, others_of, given_by}
use Rattle.command_line.proofs.Names.{first_among, last_among, not_other}
use Rattle.command_line.proofs.Rows.{Reads, reads_of, shape_for, built_is, built_for, built_rules, option_built, flag_built, none_pass}
use Rattle.command_line.proofs.Walks.{at, settles, holds, walk_parts, walk_trailing, all_values, dashes_walked, dashes_fault}

at_held : (b t : Bool) (h : Held) → (at b t h).held ≡ h
at_held true t h = refl
at_held false t h = refl

same : {X : Type 0} (b : Bool) (x : X) → cond b x x ≡ x
same true x = refl
same false x = refl

-- ---- nothing is left to do after the walk
abbrev HaveNoDefaults : List Rule → Type 0
HaveNoDefaults rs = AllByRecursion (λ (r : Rule). r.defaults ≡ []) rs

none_with : (rule : Text → Rule) → ((n : Text) → (rule n).defaults ≡ []) → (names : List Text) (rest : List Rule) → HaveNoDefaults rest → HaveNoDefaults (map rule names ++ rest)
none_with rule none [] rest last = last
none_with rule none (name ∷ names) rest last = (none name, none_with rule none names rest last)

no_defaults : (rows : List Row) (rs : List Rule) → HaveNoDefaults rs → fold with_default rows rs ≡ rows
no_defaults rows [] h = refl
no_defaults rows (r ∷ rs) h =
    let one : with_default rows r ≡ rows = rw h.0 (same (has_row r.id rows) rows) in
    ap (λ (x : List Row). fold with_default x rs) one ∙ no_defaults rows rs h.1

no_default_faults : (rows : List Row) (rs : List Rule) → HaveNoDefaults rs → defaults_fault rows rs ≡ []
unfolding defaults_fault
no_default_faults rows [] h = refl
no_default_faults rows (r ∷ rs) h =
    let or_true : (b : Bool) → (b || true) ≡ true = λ b. elim b as (λ v. (v || true) ≡ true) [ true ↦ refl | false ↦ refl ] in
    let one : with_default rows r ≡ rows = rw h.0 (same (has_row r.id rows) rows) in
    rw (h.0, or_true (has_row r.id rows)) (ap (λ (x : List Row). defaults_fault x rs) (same (has_row r.id rows) rows) ∙ no_default_faults rows rs h.1)

none_built : (t : Takes) → HaveNoDefaults (built_rules t)
none_built t = none_with option_built (λ n. refl) (options t) _ (none_with flag_built (λ n. refl) t.flags _ (refl, tt))

nothing_required : (t : Takes) (rows : List Row) → check_fault (shape_for t) rows false ≡ []
nothing_required t rows =
    let none : list_any (λ (a : Rule). a.required && not (is_given a.id rows)) (built_rules t) ≡ false =
    none_pass option_built (λ (a : Rule). a.required && not (is_given a.id rows)) (options t) _ (λ n. refl) ∙ none_pass flag_built (λ (a : Rule). a.required && not (is_given a.id rows)) t.flags _ (λ n. refl) in
    rw none refl

-- ---- a walk over a whole line
module _ (t : Takes) (s : Shape) (reads : Reads t s) where
  -- where it comes to
  record Arrived (words : List Text) (entry : Values) : Type 0 where
    waits : Bool
    is_trailing : Bool
    held : Held
    faults : walk_fault s [] (at false false nothing_held) words ≡ []
    walks : fold (walked s.rules []) (at false false nothing_held) words ≡ at waits is_trailing held
    sound : settles t s reads held ≡ []
    entries : (k : Text) → holds t s reads k held ≡ entry k

  arrive : (parts : List Part) (end : Option (List Text)) → AreParts t parts → Arrived (whole_line parts end) (λ k. all_values t.other k parts ++ cond (bytes_eq t.other k) (words_at_end end) [])
  unfolding walk_fault
  arrive parts None are =
      let r = walk_parts t s reads parts false nothing_held are refl in
      record {
        waits = r.waits;
        is_trailing = false;
        held = r.held;
        faults = r.faults [];
        walks = r.walks [];
        sound = r.sound;
        entries = λ k. r.holds_more k ∙ sym (append-nil (all_values t.other k parts)) ∙ ap (λ vs. all_values t.other k parts ++ vs) (sym (same (bytes_eq t.other k) []));
      }
  arrive parts (Some words) are =
      let r = walk_parts t s reads parts false nothing_held are refl in
      let w = walk_trailing t s reads words r.waits r.held r.sound in
      let end = append-nil words in
      record {
        waits = w.waits;
        is_trailing = true;
        held = w.held;
        faults = r.faults (codes "--" ∷ words)
            ∙ ap₂ (λ (k : Kinds) (x : Walk). or_else k (walk_fault s [] x words)) (dashes_fault t s reads r.waits r.held) (dashes_walked t s reads r.waits r.held)
            ∙ ap (walk_fault s [] (at r.waits true r.held)) (sym end) ∙ w.faults [];
        walks = r.walks (codes "--" ∷ words) ∙ ap (λ (x : Walk). fold (walked s.rules []) x words) (dashes_walked t s reads r.waits r.held)
            ∙ ap (fold (walked s.rules []) (at r.waits true r.held)) (sym end) ∙ w.walks [];
        sound = w.sound;
        entries = λ k. w.holds_more k ∙ ap (λ vs. vs ++ cond (bytes_eq t.other k) words []) (r.holds_more k);
      }

-- ---- what the entries then hold is what the parts give
named_values : (id k : Text) (parts : List Part) → bytes_eq id k ≡ false → all_values id k parts ≡ values_of k parts
named_values id k [] not_other = refl
named_values id k (spaced n v ∷ parts) not_other = rw (named_values id k parts not_other) (elim (bytes_eq n k) as (λ b. (cond b (v ∷ []) [] ++ values_of k parts) ≡ cond b (v ∷ values_of k parts) (values_of k parts)) [ true ↦ refl | false ↦ refl ])
named_values id k (joined n v ∷ parts) not_other = rw (named_values id k parts not_other) (elim (bytes_eq n k) as (λ b. (cond b (v ∷ []) [] ++ values_of k parts) ≡ cond b (v ∷ values_of k parts) (values_of k parts)) [ true ↦ refl | false ↦ refl ])
named_values id k (flag n ∷ parts) not_other = rw (named_values id k parts not_other) (elim (bytes_eq n k) as (λ b. (cond b (use_of_flag ∷ []) [] ++ values_of k parts) ≡ cond b (use_of_flag ∷ values_of k parts) (values_of k parts)) [ true ↦ refl | false ↦ refl ])
named_values id k (alone word ∷ parts) not_other = rw not_other (named_values id k parts not_other)

module _ (t : Takes) (sound : IsSound t) where
  alone_values : (parts : List Part) → AreParts t parts → all_values t.other t.other parts ≡ words_alone parts
  alone_values [] are = refl
  alone_values (spaced n v ∷ parts) are = rw (not_other t sound n (first_among (options t) t.flags n are.0)) (alone_values parts are.2)
  alone_values (joined n v ∷ parts) are = rw (not_other t sound n (first_among (options t) t.flags n are.0)) (alone_values parts are.1)
  alone_values (flag n ∷ parts) are = rw (not_other t sound n (last_among (options t) t.flags n are.0)) (alone_values parts are.1)
  alone_values (alone word ∷ parts) are = let self : bytes_eq t.other t.other ≡ true = (bytes_eq-Decides t.other t.other).1 refl in rw self (ap (λ vs. word ∷ vs) (alone_values parts are.1))

  all_given : (parts : List Part) (end : Option (List Text)) → AreParts t parts → (k : Text) → (all_values t.other k parts ++ cond (bytes_eq t.other k) (words_at_end end) []) ≡ given_by t parts end k
  all_given parts end are k = by_name (bytes_eq t.other k) refl
    where
      by_name : (b : Bool) → bytes_eq t.other k ≡ b → (all_values t.other k parts ++ cond b (words_at_end end) []) ≡ cond b (others_of parts end) (values_of k parts)
      by_name true e = let is : t.other ≡ k = (bytes_eq-Decides t.other k).0 e in ap (λ vs. vs ++ words_at_end end) (ap (λ n. all_values t.other n parts) (sym is) ∙ alone_values parts are)
      by_name false e = append-nil (all_values t.other k parts) ∙ named_values t.other k parts e

  -- ---- what clap says of words, by its walk alone
  pub fault_is : (words : List Text) → fault_of (app_for t) words ≡ level_fault (shape_for t) [] nothing_held words false []
  fault_is words = ap (λ (a : App). built_fault a nothing_held words) (built_is t) ∙ leaf_fault (built_for t) nothing_held words refl

  read_is : (words : List Text) (k : Text) → read_by t words k ≡ values_in k (rows_after (built_rules t) [] words)
  read_is words k = ap (λ (a : App). values_in k (rows_after a.top.rules (names_of a) words)) (built_is t)

  -- clap takes the words of parts, and reads from them what the parts give
  pub accepted : (parts : List Part) (end : Option (List Text)) → AreParts t parts → fault_of (app_for t) (whole_line parts end) ≡ []
  accepted parts end are =
      let s : Shape = shape_for t in
      let words : List Text = whole_line parts end in
      let a : Arrived t s (reads_of t sound) words (λ k. all_values t.other k parts ++ cond (bytes_eq t.other k) (words_at_end end) []) = arrive t s (reads_of t sound) parts end are in
      let held : (fold (walked s.rules []) (at false false nothing_held) words).held ≡ a.held = ap (λ (w : Walk). w.held) a.walks ∙ at_held a.waits a.is_trailing a.held in
      fault_is words ∙ rw (a.faults, held, a.sound, no_default_faults (settled s.rules a.held).rows s.rules (none_built t)) (nothing_required t (fold with_default (settled s.rules a.held).rows s.rules))

  pub read : (parts : List Part) (end : Option (List Text)) → AreParts t parts → (k : Text) → read_by t (whole_line parts end) k ≡ given_by t parts end k
  read parts end are k =
      let s : Shape = shape_for t in
      let words : List Text = whole_line parts end in
      let a : Arrived t s (reads_of t sound) words (λ k. all_values t.other k parts ++ cond (bytes_eq t.other k) (words_at_end end) []) = arrive t s (reads_of t sound) parts end are in
      let held : (fold (walked s.rules []) (at false false nothing_held) words).held ≡ a.held = ap (λ (w : Walk). w.held) a.walks ∙ at_held a.waits a.is_trailing a.held in
      read_is words k ∙ ap (λ (h : Held). values_in k (fold with_default (settled s.rules h).rows s.rules)) held ∙ ap (values_in k) (no_defaults (settled s.rules a.held).rows s.rules (none_built t)) ∙ a.entries k ∙ all_given parts end are k
