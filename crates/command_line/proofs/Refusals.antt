-- Words that clap refuses.
use Rattle.std.proofs.Common.{◌≡◌, ℕ, true, false, Bool, List, [], ◌∷◌, ◌++◌, refl, ap, sym, subst, ◌∙◌, arith, inl, inr}
use Rattle.std.specs.Prelude.{Option, Some, None, ◌⊎◌, ◌==◌, Contains, fold, slice_get}
use Rattle.std.specs.Str.{bytes_eq, chars, IsUtf8}
use Rattle.std.proofs.Math.Utf8.{encodes}
use Rattle.std.proofs.lemmas.Str.{encodes-chars}
use Rattle.std.proofs.lemmas.Bool.Decides.{nat_tests}
use Rattle.clap.specs.Words.{Shape, Text, fault_of}
use Rattle.clap.specs.Kinds.{Kinds, or_else}
use Rattle.clap.specs.Lexer.{long_of, name_and_value}
use Rattle.clap.specs.Walk.{Held, Walk, walked, arg_by_long, nothing_held, option, is_pending}
use Rattle.clap.specs.Faults.{bundle_fault, flags_fault, level_fault, long_fault, option_fault, settle_fault, turn_fault, walk_fault}
use Rattle.command_line.specs.Takes.{Takes, options, IsSound}
use Rattle.command_line.specs.Parser.{app_for}
use Rattle.command_line.specs.Parts.{Part, line_of, AreParts}
use Rattle.command_line.specs.Laws.{BeginsWithDashes, IsDashed, HaveNoValue, IsTaken}
use Rattle.command_line.proofs.Rows.{Reads, reads_of, shape_for, option_built, flag_built, other_built}
use Rattle.command_line.proofs.Walks.{Reached, all_values, and_false, at, dashed_bytes, name_fault, name_walked, short_word, step, turn, valued_fault, waiting_for, walk_parts}
use Rattle.command_line.proofs.Arrivals.{fault_is}

-- there is a fault
abbrev pub IsFaulty : Kinds → Type 0
IsFaulty kinds = kinds ≡ [] → ⊥

or_faulty : (one other : Kinds) → IsFaulty one → IsFaulty (or_else one other)
or_faulty [] other f e = f refl
or_faulty (x ∷ xs) other f e = cc

or_later : (one other : Kinds) → IsFaulty other → IsFaulty (or_else one other)
or_later [] other f e = f e
or_later (x ∷ xs) other f e = cc

-- the characters after a `-`
pub first_character : (x : ℕ) (xs : Text) → IsUtf8 (45 ∷ x ∷ xs) → (y : ℕ) × (slice_get (chars (x ∷ xs)) 0 ≡ Some y)
unfolding chars lib.Utf8.encode
first_character x xs text = go (chars (x ∷ xs)) refl
  where
    go : (cs : List ℕ) → chars (x ∷ xs) ≡ cs → (y : ℕ) × (slice_get cs 0 ≡ Some y)
    go [] e = let no : 45 ∷ [] ≡ 45 ∷ x ∷ xs = ap (λ cs. encodes (45 ∷ cs)) (sym e) ∙ encodes-chars (45 ∷ x ∷ xs) text in absurd (cc)
    go (y ∷ ys) e = (y, refl)

module _ (t : Takes) (s : Shape) (reads : Reads t s) where
  -- a short word is faulty
  bundle_turn : (x : ℕ) (xs : Text) (h : Held) → h.skip ≡ 0 → IsUtf8 (45 ∷ x ∷ xs) → IsFaulty (bundle_fault s.rules s.args_override_self (x ∷ xs) h)
  unfolding flags_fault
  bundle_turn x xs h none text =
      let first = first_character x xs text in
      rw (none, first.1, reads.no_short first.0) (λ e. cc)

  short_turn : (b : Bool) (x : ℕ) (xs : Text) (h : Held) → (x == 45) ≡ false → h.skip ≡ 0 → IsUtf8 (45 ∷ x ∷ xs) → IsFaulty (turn_fault s [] (at b false h) (45 ∷ x ∷ xs))
  short_turn true x xs h e none text = let is = short_word x xs e in rw (is.more, is.no_long, is.short) (or_faulty _ _ (bundle_turn x xs h none text))
  short_turn false x xs h e none text = let is = short_word x xs e in rw (is.more, is.no_long, is.short) (or_faulty _ _ (bundle_turn x xs h none text))

  short_value : (n : Text) (x : ℕ) (xs : Text) (h : Held) → (x == 45) ≡ false → h.skip ≡ 0 → IsUtf8 (45 ∷ x ∷ xs) → IsFaulty (turn_fault s [] (waiting_for t s reads n h) (45 ∷ x ∷ xs))
  short_value n x xs h e none text = let is = short_word x xs e in rw (is.more, is.no_long, is.short) (or_faulty _ _ (bundle_turn x xs (waiting_for t s reads n h).held none text))

  -- what is held while an option waits for its value
  abbrev held_for : Text → Held → Held
  held_for n h = (waiting_for t s reads n h).held

  -- an option can't be used without one
  unused : (n : Text) (h : Held) → Contains (options t) n → IsFaulty (settle_fault s.rules s.args_override_self (held_for n h))
  unused n h is = rw (reads.option_by_id n is) (λ e. cc)

  -- so no other option may come then,
  other_option : (m : Text) (v : Option Text) (n : Text) (h : Held) → Contains (options t) n → IsFaulty (option_fault s.rules s.args_override_self (option_built m) v (held_for n h))
  other_option m None n h is = unused n h is
  other_option m (Some v) n h is = or_faulty _ _ (unused n h is)

  other_flag : (m : Text) (v : Option Text) (n : Text) (h : Held) → Contains (options t) n → IsFaulty (long_fault s.rules s.args_override_self (Some (flag_built m)) v (held_for n h))
  other_flag m None n h is = or_faulty _ _ (unused n h is)
  other_flag m (Some v) n h is = λ e. cc

  long_word : (m : Text) (v : Option Text) (n : Text) (h : Held) → Contains (options t) n → ((arg_by_long s.rules m ≡ None) ⊎ IsTaken t m)
      → IsFaulty (long_fault s.rules s.args_override_self (arg_by_long s.rules m) v (held_for n h))
  long_word m v n h is (inl none) = rw none (λ e. cc)
  long_word m v n h is (inr (inl known)) = rw (reads.option_by_long m known) (other_option m v n h is)
  long_word m v n h is (inr (inr known)) = rw (reads.flag_by_long m known) (other_flag m v n h is)

  dashed_turn : (n : Text) (h : Held) (x : ℕ) (xs : Text) → Contains (options t) n → IsFaulty (turn_fault s [] (waiting_for t s reads n h) (45 ∷ 45 ∷ x ∷ xs))
  dashed_turn n h x xs is =
      let p = name_and_value (x ∷ xs) in
      or_faulty _ _ (long_word p.0 p.1 n h is (reads.named p.0))

  -- nor a word after `--`
  abbrev after_dashes : Text → Held → Walk
  after_dashes n h = record { held = held_for n h; waiting = option n; position = 1; is_trailing = true; stopped = None }

  dashes : (n : Text) (h : Held) → walked s.rules [] (waiting_for t s reads n h) (45 ∷ 45 ∷ []) ≡ after_dashes n h
  unfolding walked
  dashes n h = refl

  trailing_turn : (n : Text) (h : Held) (word : Text) → Contains (options t) n → IsFaulty (turn_fault s [] (after_dashes n h) word)
  trailing_turn n h word is = rw (reads.index, and_false (is_pending (other_built t.other) (Some (n, [])))) (unused n h is)

  walk_turn : (w : Walk) (word : Text) (rest : List Text) → IsFaulty (turn_fault s [] w word) → IsFaulty (walk_fault s [] w (word ∷ rest))
  unfolding walk_fault
  walk_turn w word rest f = or_faulty _ _ f

  -- where the words end, the walk has a fault, or the option still waits
  abbrev Ended : Walk → List Text → Text → Held → Type 0
  Ended w words n h = IsFaulty (walk_fault s [] w words) ⊎ ((fold (walked s.rules []) w words).held ≡ held_for n h)

  dashes_waited : (n : Text) (h : Held) (next : Text) (rest : List Text) → Contains (options t) n → BeginsWithDashes next → Ended (waiting_for t s reads n h) (next ∷ rest) n h
  dashes_waited n h next rest is ([], e) = rw e (after rest)
    where
      mid : Walk
      mid = waiting_for t s reads n h

      after : (rest : List Text) → Ended mid ((45 ∷ 45 ∷ []) ∷ rest) n h
      after [] = inr (ap (λ (w : Walk). w.held) (dashes n h))
      after (word ∷ rest) = inl (λ none. walk_turn (after_dashes n h) word rest (trailing_turn n h word is) (sym (turn t s reads mid (after_dashes n h) (45 ∷ 45 ∷ []) (word ∷ rest) (dashes n h) refl) ∙ none))
  dashes_waited n h next rest is (x ∷ xs, e) = rw e (inl (walk_turn (waiting_for t s reads n h) (45 ∷ 45 ∷ x ∷ xs) rest (dashed_turn n h x xs is)))

  dashed_waited : (n : Text) (h : Held) (next : Text) (rest : List Text) → h.skip ≡ 0 → Contains (options t) n → IsDashed next → Ended (waiting_for t s reads n h) (next ∷ rest) n h
  dashed_waited n h next rest unskipped is (dashed, text) = by_second (dashed_bytes next dashed).0 (dashed_bytes next dashed).1 (dashed_bytes next dashed).2
    where
      by_second : (x : ℕ) (xs : Text) → next ≡ 45 ∷ x ∷ xs → Ended (waiting_for t s reads n h) (next ∷ rest) n h
      by_second x xs e = by_dash (x == 45) refl
        where
          by_dash : (b : Bool) → (x == 45) ≡ b → Ended (waiting_for t s reads n h) (next ∷ rest) n h
          by_dash true d = let same : x ≡ 45 = grind (arith, nat_tests) in dashes_waited n h next rest is (xs, e ∙ ap (λ y. 45 ∷ y ∷ xs) same)
          by_dash false d = rw e (inl (walk_turn (waiting_for t s reads n h) (45 ∷ x ∷ xs) rest (short_value n x xs h d unskipped (subst IsUtf8 e text))))

  waited : (n : Text) (h : Held) (rest : List Text) → h.skip ≡ 0 → Contains (options t) n → HaveNoValue rest → Ended (waiting_for t s reads n h) rest n h
  waited n h [] unskipped is none = inr refl
  waited n h (next ∷ rest) unskipped is (inl dashes) = dashes_waited n h next rest is dashes
  waited n h (next ∷ rest) unskipped is (inr dashed) = dashed_waited n h next rest unskipped is dashed

  -- a long word of no name
  unknown_turn : (b : Bool) (h : Held) (word n : Text) (v : Option Text) → long_of word ≡ Some (n, v) → bytes_eq word (45 ∷ 45 ∷ []) ≡ false → arg_by_long s.rules n ≡ None → IsFaulty (turn_fault s [] (at b false h) word)
  unknown_turn true h word n v long more none = rw (more, long, none) (λ e. cc)
  unknown_turn false h word n v long more none = rw (more, long, none) (λ e. cc)

  -- a word at which the walk over parts fails
  pub fails_after : (parts : List Part) (word : Text) (rest : List Text) → AreParts t parts → ((b : Bool) (h : Held) → h.skip ≡ 0 → IsFaulty (turn_fault s [] (at b false h) word))
      → IsFaulty (level_fault s [] nothing_held (line_of parts ++ word ∷ rest) false [])
  fails_after parts word rest are fails =
      let r = walk_parts t s reads parts false nothing_held are refl in
      or_faulty _ _ (λ none. walk_turn (at r.waits false r.held) word rest (fails r.waits r.held r.unskipped) (sym (r.faults (word ∷ rest)) ∙ none))

  pub missing : (parts : List Part) (n : Text) (rest : List Text) → AreParts t parts → Contains (options t) n → HaveNoValue rest
      → IsFaulty (level_fault s [] nothing_held (line_of parts ++ (45 ∷ 45 ∷ n) ∷ rest) false [])
  missing parts n rest are is none = by_end (waited n r.held rest r.unskipped is none)
    where
      r : Reached t s reads false false nothing_held (line_of parts) (λ k. all_values t.other k parts) false
      r = walk_parts t s reads parts false nothing_held are refl

      one : walked s.rules [] (at r.waits false r.held) (45 ∷ 45 ∷ n) ≡ waiting_for t s reads n r.held
      one = name_walked t s reads r.waits n r.held is

      by_end : Ended (waiting_for t s reads n r.held) rest n r.held → IsFaulty (level_fault s [] nothing_held (line_of parts ++ (45 ∷ 45 ∷ n) ∷ rest) false [])
      by_end (inl f) =
          let faults = r.faults ((45 ∷ 45 ∷ n) ∷ rest) ∙ turn t s reads (at r.waits false r.held) (waiting_for t s reads n r.held) (45 ∷ 45 ∷ n) rest one (name_fault t s reads r.waits n r.held is r.sound) in
          or_faulty _ _ (λ none. f (sym faults ∙ none))
      by_end (inr held) =
          let walks = r.walks ((45 ∷ 45 ∷ n) ∷ rest) ∙ step t s reads (at r.waits false r.held) (waiting_for t s reads n r.held) (45 ∷ 45 ∷ n) rest one in
          let end = ap (λ (w : Walk). w.held) walks ∙ held in
          or_later _ _ (or_faulty _ _ (λ none. unused n r.held is (ap (settle_fault s.rules s.args_override_self) (sym end) ∙ none)))

-- ---- a line is refused
module _ (t : Takes) (sound : IsSound t) where
  pub missing_refused : (parts : List Part) (n : Text) (rest : List Text) → AreParts t parts → Contains (options t) n → HaveNoValue rest → IsFaulty (fault_of (app_for t) (line_of parts ++ (45 ∷ 45 ∷ n) ∷ rest))
  missing_refused parts n rest are is none accepted = missing t (shape_for t) (reads_of t sound) parts n rest are is none (sym (fault_is t sound _) ∙ accepted)

  pub short_refused : (parts : List Part) (x : ℕ) (xs : Text) (rest : List Text) → AreParts t parts → (x == 45) ≡ false → IsUtf8 (45 ∷ x ∷ xs) → IsFaulty (fault_of (app_for t) (line_of parts ++ (45 ∷ x ∷ xs) ∷ rest))
  short_refused parts x xs rest are e text accepted =
      fails_after t (shape_for t) (reads_of t sound) parts (45 ∷ x ∷ xs) rest are (λ b h none. short_turn t (shape_for t) (reads_of t sound) b x xs h e none text) (sym (fault_is t sound _) ∙ accepted)

  pub unknown_refused : (parts : List Part) (word n : Text) (v : Option Text) (rest : List Text) → AreParts t parts → long_of word ≡ Some (n, v) → bytes_eq word (45 ∷ 45 ∷ []) ≡ false → arg_by_long (shape_for t).rules n ≡ None
      → IsFaulty (fault_of (app_for t) (line_of parts ++ word ∷ rest))
  unknown_refused parts word n v rest are long more none accepted =
      fails_after t (shape_for t) (reads_of t sound) parts word rest are (λ b h _. unknown_turn t (shape_for t) (reads_of t sound) b h word n v long more none) (sym (fault_is t sound _) ∙ accepted)

  pub valued_refused : (parts : List Part) (n v : Text) (rest : List Text) → AreParts t parts → Contains t.flags n → IsFaulty (fault_of (app_for t) (line_of parts ++ (45 ∷ 45 ∷ (n ++ 61 ∷ v)) ∷ rest))
  valued_refused parts n v rest are is accepted =
      fails_after t (shape_for t) (reads_of t sound) parts (45 ∷ 45 ∷ (n ++ 61 ∷ v)) rest are (λ b h _. rw (valued_fault t (shape_for t) (reads_of t sound) b n v h is) (λ e. cc)) (sym (fault_is t sound _) ∙ accepted)
