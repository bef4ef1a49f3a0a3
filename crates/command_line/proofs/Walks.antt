-- How clap walks over parts.
use Rattle.std.proofs.Common.{◌≡◌, ℕ, true, false, true≢false, Bool, List, [], ◌∷◌, ◌++◌, length, refl, ap, ap₂, sym, ◌∙◌, arith, cond, append_assoc, append-nil}
use Rattle.std.specs.Prelude.{Some, None, ◌&&◌, ◌==◌, nat_lt, fold, unwrap_or, option_map, Contains}
use Rattle.std.specs.Str.{bytes_eq}
use Rattle.std.proofs.lemmas.Bool.{and_from, false_from_ne_true, lt-ltb}
use Rattle.std.proofs.lemmas.Bool.Decides.{nat_tests}
use Rattle.std.proofs.lemmas.Slice.Eq.{bytes_eq-Decides}
use Rattle.clap.specs.Words.{Row, Shape, Text}
use Rattle.clap.specs.Lexer.{long_of, short_of}
use Rattle.clap.specs.Kinds.{Kinds, or_else}
use Rattle.clap.specs.Walk.{Held, Walk, idle, positional, option, walked, settled, reacted, with_values, is_pending, reading_by}
use Rattle.clap.specs.declared.builder.value_parser.Reading.{Reading}
use Rattle.clap.specs.declared.parser.matches.ValueSource.TheVariants.{CommandLine}
use Rattle.clap.specs.declared.error.kind.ErrorKind.TheVariants.{TooManyValues}
use Rattle.clap.specs.Faults.{walk_fault, turn_fault, settle_fault}
use Rattle.command_line.specs.Takes.{Takes, options}
use Rattle.command_line.specs.Parser.{use_of_flag, values_in}
use Rattle.command_line.specs.Parts.{Part, spaced, joined, flag, alone, line_of, is_dashed, AreParts}
use Rattle.command_line.proofs.Rows.{Reads, option_built, flag_built, other_built}

pub and_false : (b : Bool) → (b && false) ≡ false
and_false true = refl
and_false false = refl

-- what a word looks like that is not dashed
pub record IsBare (word : Text) : Type 0 where
  pub more : bytes_eq word (45 ∷ 45 ∷ []) ≡ false
  pub no_long : long_of word ≡ None
  pub no_short : short_of word ≡ None

pub bare : (word : Text) → is_dashed word ≡ false → IsBare word
bare [] h = record { more = refl; no_long = refl; no_short = refl }
bare (x ∷ []) h = by_first (x == 45) refl
  where
    by_first : (b : Bool) → (x == 45) ≡ b → IsBare (x ∷ [])
    by_first true e = record { more = rw e refl; no_long = rw e refl; no_short = rw e refl }
    by_first false e = record { more = rw e refl; no_long = rw e refl; no_short = rw e refl }
bare (x ∷ y ∷ rest) h = by_first (x == 45) refl
  where
    by_first : (b : Bool) → (x == 45) ≡ b → IsBare (x ∷ y ∷ rest)
    by_first true e = let no : true ≡ false = sym (and_from (x == 45) (nat_lt 1 (length (x ∷ y ∷ rest))) e (lt-ltb 1 (length (x ∷ y ∷ rest)) (omega arith))) ∙ h in cc
    by_first false e = record { more = rw e refl; no_long = rw e refl; no_short = rw e refl }

-- what a word looks like that begins with one `-` and is longer
pub record IsShort (word flags : Text) : Type 0 where
  pub more : bytes_eq word (45 ∷ 45 ∷ []) ≡ false
  pub no_long : long_of word ≡ None
  pub short : short_of word ≡ Some flags

pub short_word : (x : ℕ) (xs : Text) → (x == 45) ≡ false → IsShort (45 ∷ x ∷ xs) (x ∷ xs)
short_word x xs e = record { more = rw e refl; no_long = rw e refl; short = rw e refl }

-- the bytes of a dashed word
pub dashed_bytes : (word : Text) → is_dashed word ≡ true → (x : ℕ) × (xs : Text) × (word ≡ 45 ∷ x ∷ xs)
dashed_bytes [] h = absurd (true≢false (sym h))
dashed_bytes (y ∷ []) h = absurd (true≢false (sym h ∙ and_false (y == 45)))
dashed_bytes (y ∷ x ∷ xs) h = go (y == 45) refl
  where
    go : (b : Bool) → (y == 45) ≡ b → (x' : ℕ) × (xs' : Text) × (y ∷ x ∷ xs ≡ 45 ∷ x' ∷ xs')
    go true e = let is : y ≡ 45 = grind (arith, nat_tests) in (x, xs, ap (λ n. n ∷ x ∷ xs) is)
    go false e = let no : is_dashed (y ∷ x ∷ xs) ≡ false = rw e refl in absurd (true≢false (sym h ∙ no))

-- the values of an entry after more of them come to an entry
pub values_more : (k n : Text) (how : Reading) (vs : List Text) (rows : List Row)
    → values_in k (with_values n how CommandLine vs rows) ≡ values_in k rows ++ cond (bytes_eq n k) vs []
values_more k n how vs [] = by_name (bytes_eq n k)
  where
    by_name : (b : Bool) → unwrap_or (option_map (λ (r : Row). r.values) (cond b (Some (record { id = n; values = vs; count = None; source = Some CommandLine; reading = how })) None)) [] ≡ cond b vs []
    by_name true = refl
    by_name false = refl
values_more k n how vs (r ∷ rs) = by_both (bytes_eq r.id n) (bytes_eq r.id k) refl refl (values_more k n how vs rs)
  where
    alike : (a b c : Text) → bytes_eq a b ≡ true → bytes_eq a c ≡ bytes_eq b c
    alike a b c e = ap (λ x. bytes_eq x c) ((bytes_eq-Decides a b).0 e)

    by_both : (x y : Bool) → bytes_eq r.id n ≡ x → bytes_eq r.id k ≡ y → values_in k (with_values n how CommandLine vs rs) ≡ values_in k rs ++ cond (bytes_eq n k) vs []
        → values_in k (with_values n how CommandLine vs (r ∷ rs)) ≡ values_in k (r ∷ rs) ++ cond (bytes_eq n k) vs []
    by_both true true e f more = let g : bytes_eq n k ≡ true = sym (alike r.id n k e) ∙ f in rw (e, f, g) refl
    by_both true false e f more = let g : bytes_eq n k ≡ false = sym (alike r.id n k e) ∙ f in rw (e, f, g) (sym (append-nil (values_in k rs)))
    by_both false true e f more = let g : bytes_eq n k ≡ false = false_from_ne_true (bytes_eq n k) (λ t. let same : bytes_eq r.id n ≡ true = (bytes_eq-Decides r.id n).1 ((bytes_eq-Decides r.id k).0 f ∙ sym ((bytes_eq-Decides n k).0 t)) in cc) in rw (e, f, g) (sym (append-nil r.values))
    by_both false false e f more = rw (e, f) more

-- a walk that waits for no value
abbrev pub at : Bool → Bool → Held → Walk
at true t h = record { held = h; waiting = positional; position = 1; is_trailing = t; stopped = None }
at false t h = record { held = h; waiting = idle; position = 1; is_trailing = t; stopped = None }

module _ (t : Takes) (s : Shape) (reads : Reads t s) where
  -- what is held after a value of an option, and after a word alone
  abbrev pub with_option : Text → Text → Held → Held
  with_option n v h = record (settled s.rules h) { pending = Some (n, v ∷ []) }

  abbrev pub with_alone : Text → Held → Held
  with_alone word h = record (settled s.rules h) { pending = Some (t.other, word ∷ []) }

  -- a word alone
  pub alone_walked : (b : Bool) (word : Text) (h : Held) → IsBare word → walked s.rules [] (at b false h) word ≡ at true false (with_alone word h)
  unfolding walked
  alone_walked true word h is = rw (is.more, is.no_long, is.no_short, reads.index, and_false (is_pending (other_built t.other) h.pending)) refl
  alone_walked false word h is = rw (is.more, is.no_long, is.no_short, reads.index, and_false (is_pending (other_built t.other) h.pending)) refl

  pub trailing_walked : (b : Bool) (word : Text) (h : Held) → walked s.rules [] (at b true h) word ≡ at true true (with_alone word h)
  unfolding walked
  trailing_walked true word h = rw (reads.index, and_false (is_pending (other_built t.other) h.pending)) refl
  trailing_walked false word h = rw (reads.index, and_false (is_pending (other_built t.other) h.pending)) refl

  -- `--`
  pub dashes_walked : (b : Bool) (h : Held) → walked s.rules [] (at b false h) (45 ∷ 45 ∷ []) ≡ at b true h
  unfolding walked
  dashes_walked true h = refl
  dashes_walked false h = refl

  -- an option that waits for its value
  abbrev pub waiting_for : Text → Held → Walk
  waiting_for n h = record { held = record (settled s.rules h) { pending = Some (n, []) }; waiting = option n; position = 1; is_trailing = false; stopped = None }

  pub name_walked : (b : Bool) (n : Text) (h : Held) → Contains (options t) n → walked s.rules [] (at b false h) (45 ∷ 45 ∷ n) ≡ waiting_for n h
  unfolding walked
  name_walked true n h is = rw ((reads.option_long n is).more, (reads.option_long n is).long, reads.option_by_long n is) refl
  name_walked false n h is = rw ((reads.option_long n is).more, (reads.option_long n is).long, reads.option_by_long n is) refl

  same_text : (n : Text) → bytes_eq n n ≡ true
  same_text n = (bytes_eq-Decides n n).1 refl

  pub value_walked : (n v : Text) (h : Held) → Contains (options t) n → IsBare v → walked s.rules [] (waiting_for n h) v ≡ at false false (with_option n v h)
  unfolding walked
  value_walked n v h is bare = rw (bare.more, bare.no_long, bare.no_short, reads.option_by_id n is, same_text n) refl

  -- an option with its value after `=`
  pub joined_walked : (b : Bool) (n v : Text) (h : Held) → Contains (options t) n
      → walked s.rules [] (at b false h) (45 ∷ 45 ∷ (n ++ 61 ∷ v)) ≡ at false false (reacted s.rules (option_built n) (v ∷ []) h)
  unfolding walked
  joined_walked true n v h is = rw ((reads.option_long n is).joined_more v, (reads.option_long n is).joined v, reads.option_by_long n is) refl
  joined_walked false n v h is = rw ((reads.option_long n is).joined_more v, (reads.option_long n is).joined v, reads.option_by_long n is) refl

  -- a flag
  pub flag_walked : (b : Bool) (n : Text) (h : Held) → Contains t.flags n → walked s.rules [] (at b false h) (45 ∷ 45 ∷ n) ≡ at false false (reacted s.rules (flag_built n) [] h)
  unfolding walked
  flag_walked true n h is = rw ((reads.flag_long n is).more, (reads.flag_long n is).long, reads.flag_by_long n is) refl
  flag_walked false n h is = rw ((reads.flag_long n is).more, (reads.flag_long n is).long, reads.flag_by_long n is) refl

  -- no turn of these fails
  abbrev pub settles : Held → Kinds
  settles h = settle_fault s.rules s.args_override_self h

  pub alone_fault : (b : Bool) (word : Text) (h : Held) → IsBare word → settles h ≡ [] → turn_fault s [] (at b false h) word ≡ []
  alone_fault true word h is sound = rw (is.more, is.no_long, is.no_short, reads.index, and_false (is_pending (other_built t.other) h.pending), sound) refl
  alone_fault false word h is sound = rw (is.more, is.no_long, is.no_short, reads.index, and_false (is_pending (other_built t.other) h.pending), sound) refl

  pub trailing_fault : (b : Bool) (word : Text) (h : Held) → settles h ≡ [] → turn_fault s [] (at b true h) word ≡ []
  trailing_fault true word h sound = rw (reads.index, and_false (is_pending (other_built t.other) h.pending), sound) refl
  trailing_fault false word h sound = rw (reads.index, and_false (is_pending (other_built t.other) h.pending), sound) refl

  pub dashes_fault : (b : Bool) (h : Held) → turn_fault s [] (at b false h) (45 ∷ 45 ∷ []) ≡ []
  dashes_fault true h = refl
  dashes_fault false h = refl

  pub name_fault : (b : Bool) (n : Text) (h : Held) → Contains (options t) n → settles h ≡ [] → turn_fault s [] (at b false h) (45 ∷ 45 ∷ n) ≡ []
  name_fault true n h is sound = rw ((reads.option_long n is).more, (reads.option_long n is).long, reads.option_by_long n is, sound) refl
  name_fault false n h is sound = rw ((reads.option_long n is).more, (reads.option_long n is).long, reads.option_by_long n is, sound) refl

  pub value_fault : (n v : Text) (h : Held) → Contains (options t) n → IsBare v → turn_fault s [] (waiting_for n h) v ≡ []
  value_fault n v h is bare = rw (bare.more, bare.no_long, bare.no_short) refl

  pub joined_fault : (b : Bool) (n v : Text) (h : Held) → Contains (options t) n → settles h ≡ [] → turn_fault s [] (at b false h) (45 ∷ 45 ∷ (n ++ 61 ∷ v)) ≡ []
  joined_fault true n v h is sound = rw ((reads.option_long n is).joined_more v, (reads.option_long n is).joined v, reads.option_by_long n is, sound) refl
  joined_fault false n v h is sound = rw ((reads.option_long n is).joined_more v, (reads.option_long n is).joined v, reads.option_by_long n is, sound) refl

  pub flag_fault : (b : Bool) (n : Text) (h : Held) → Contains t.flags n → settles h ≡ [] → turn_fault s [] (at b false h) (45 ∷ 45 ∷ n) ≡ []
  flag_fault true n h is sound = rw ((reads.flag_long n is).more, (reads.flag_long n is).long, reads.flag_by_long n is, sound) refl
  flag_fault false n h is sound = rw ((reads.flag_long n is).more, (reads.flag_long n is).long, reads.flag_by_long n is, sound) refl

  -- a flag with a value fails
  pub valued_fault : (b : Bool) (n v : Text) (h : Held) → Contains t.flags n → turn_fault s [] (at b false h) (45 ∷ 45 ∷ (n ++ 61 ∷ v)) ≡ TooManyValues ∷ []
  valued_fault true n v h is = rw ((reads.flag_long n is).joined_more v, (reads.flag_long n is).joined v, reads.flag_by_long n is) refl
  valued_fault false n v h is = rw ((reads.flag_long n is).joined_more v, (reads.flag_long n is).joined v, reads.flag_by_long n is) refl

  pub option_settles : (n v : Text) (h : Held) → Contains (options t) n → settles (with_option n v h) ≡ []
  option_settles n v h is = rw (reads.option_by_id n is) refl

  pub alone_settles : (word : Text) (h : Held) → settles (with_alone word h) ≡ []
  alone_settles word h = rw reads.own refl

  -- what the entries hold then
  abbrev pub holds : Text → Held → List Text
  holds k h = values_in k (settled s.rules h).rows

  pub option_holds : (k n v : Text) (h : Held) → Contains (options t) n → holds k (with_option n v h) ≡ holds k h ++ cond (bytes_eq n k) (v ∷ []) []
  option_holds k n v h is = rw (reads.option_by_id n is) (values_more k n (reading_by (option_built n)) (v ∷ []) (settled s.rules h).rows)

  pub alone_holds : (k word : Text) (h : Held) → holds k (with_alone word h) ≡ holds k h ++ cond (bytes_eq t.other k) (word ∷ []) []
  alone_holds k word h = rw reads.own (values_more k t.other (reading_by (other_built t.other)) (word ∷ []) (settled s.rules h).rows)

  pub joined_holds : (k n v : Text) (h : Held) → holds k (reacted s.rules (option_built n) (v ∷ []) h) ≡ holds k h ++ cond (bytes_eq n k) (v ∷ []) []
  joined_holds k n v h = values_more k n (reading_by (option_built n)) (v ∷ []) (settled s.rules h).rows

  pub flag_holds : (k n : Text) (h : Held) → holds k (reacted s.rules (flag_built n) [] h) ≡ holds k h ++ cond (bytes_eq n k) (use_of_flag ∷ []) []
  flag_holds k n h = values_more k n (reading_by (flag_built n)) (use_of_flag ∷ []) (settled s.rules h).rows

-- the values that parts give an entry, where words alone go to one of them
abbrev pub all_values : Text → Text → List Part → List Text
all_values id k [] = []
all_values id k (spaced n v ∷ parts) = cond (bytes_eq n k) (v ∷ []) [] ++ all_values id k parts
all_values id k (joined n v ∷ parts) = cond (bytes_eq n k) (v ∷ []) [] ++ all_values id k parts
all_values id k (flag n ∷ parts) = cond (bytes_eq n k) (use_of_flag ∷ []) [] ++ all_values id k parts
all_values id k (alone word ∷ parts) = cond (bytes_eq id k) (word ∷ []) [] ++ all_values id k parts

module _ (t : Takes) (s : Shape) (reads : Reads t s) where
  -- where a walk over a line comes to, with no fault
  pub record Reached (b is_trailing : Bool) (h : Held) (line : List Text) (more : Text → List Text) (u : Bool) : Type 0 where
    pub waits : Bool
    pub held : Held
    pub faults : (end : List Text) → walk_fault s [] (at b is_trailing h) (line ++ end) ≡ walk_fault s [] (at waits u held) end
    pub walks : (end : List Text) → fold (walked s.rules []) (at b is_trailing h) (line ++ end) ≡ fold (walked s.rules []) (at waits u held) end
    pub sound : settles t s reads held ≡ []
    pub unskipped : held.skip ≡ h.skip
    pub holds_more : (k : Text) → holds t s reads k held ≡ holds t s reads k h ++ more k

  -- one turn with no fault
  pub turn : (w v : Walk) (word : Text) (rest : List Text) → walked s.rules [] w word ≡ v → turn_fault s [] w word ≡ [] → walk_fault s [] w (word ∷ rest) ≡ walk_fault s [] v rest
  unfolding walk_fault
  turn w v word rest goes none = ap₂ (λ (k : Kinds) (x : Walk). or_else k (walk_fault s [] x rest)) none goes

  pub step : (w v : Walk) (word : Text) (rest : List Text) → walked s.rules [] w word ≡ v → fold (walked s.rules []) w (word ∷ rest) ≡ fold (walked s.rules []) v rest
  step w v word rest goes = ap (λ (x : Walk). fold (walked s.rules []) x rest) goes

  -- the walk over parts
  pub walk_parts : (parts : List Part) (b : Bool) (h : Held) → AreParts t parts → settles t s reads h ≡ [] → Reached b false h (line_of parts) (λ k. all_values t.other k parts) false
  walk_parts [] b h are sound = record { waits = b; held = h; faults = λ end. refl; walks = λ end. refl; sound = sound; unskipped = refl; holds_more = λ k. sym (append-nil (holds t s reads k h)) }
  walk_parts (spaced n v ∷ parts) b h are sound =
      let is = bare v are.1 in
      let mid = waiting_for t s reads n h in
      let after = with_option t s reads n v h in
      let one = name_walked t s reads b n h are.0 in
      let two = value_walked t s reads n v h are.0 is in
      let rest = walk_parts parts false after are.2 (option_settles t s reads n v h are.0) in
      record {
        waits = rest.waits;
        held = rest.held;
        faults = λ end. turn (at b false h) mid (45 ∷ 45 ∷ n) (v ∷ line_of parts ++ end) one (name_fault t s reads b n h are.0 sound)
            ∙ turn mid (at false false after) v (line_of parts ++ end) two (value_fault t s reads n v h are.0 is) ∙ rest.faults end;
        walks = λ end. step (at b false h) mid (45 ∷ 45 ∷ n) (v ∷ line_of parts ++ end) one ∙ step mid (at false false after) v (line_of parts ++ end) two ∙ rest.walks end;
        sound = rest.sound;
        unskipped = rest.unskipped;
        holds_more = λ k. rest.holds_more k ∙ ap (λ vs. vs ++ all_values t.other k parts) (option_holds t s reads k n v h are.0) ∙ append_assoc (holds t s reads k h) (cond (bytes_eq n k) (v ∷ []) []) (all_values t.other k parts);
      }
  walk_parts (joined n v ∷ parts) b h are sound =
      let after = reacted s.rules (option_built n) (v ∷ []) h in
      let one = joined_walked t s reads b n v h are.0 in
      let rest = walk_parts parts false after are.1 refl in
      record {
        waits = rest.waits;
        held = rest.held;
        faults = λ end. turn (at b false h) (at false false after) (45 ∷ 45 ∷ (n ++ 61 ∷ v)) (line_of parts ++ end) one (joined_fault t s reads b n v h are.0 sound) ∙ rest.faults end;
        walks = λ end. step (at b false h) (at false false after) (45 ∷ 45 ∷ (n ++ 61 ∷ v)) (line_of parts ++ end) one ∙ rest.walks end;
        sound = rest.sound;
        unskipped = rest.unskipped;
        holds_more = λ k. rest.holds_more k ∙ ap (λ vs. vs ++ all_values t.other k parts) (joined_holds t s reads k n v h) ∙ append_assoc (holds t s reads k h) (cond (bytes_eq n k) (v ∷ []) []) (all_values t.other k parts);
      }
  walk_parts (flag n ∷ parts) b h are sound =
      let after = reacted s.rules (flag_built n) [] h in
      let one = flag_walked t s reads b n h are.0 in
      let rest = walk_parts parts false after are.1 refl in
      record {
        waits = rest.waits;
        held = rest.held;
        faults = λ end. turn (at b false h) (at false false after) (45 ∷ 45 ∷ n) (line_of parts ++ end) one (flag_fault t s reads b n h are.0 sound) ∙ rest.faults end;
        walks = λ end. step (at b false h) (at false false after) (45 ∷ 45 ∷ n) (line_of parts ++ end) one ∙ rest.walks end;
        sound = rest.sound;
        unskipped = rest.unskipped;
        holds_more = λ k. rest.holds_more k ∙ ap (λ vs. vs ++ all_values t.other k parts) (flag_holds t s reads k n h) ∙ append_assoc (holds t s reads k h) (cond (bytes_eq n k) (use_of_flag ∷ []) []) (all_values t.other k parts);
      }
  walk_parts (alone word ∷ parts) b h are sound =
      let is = bare word are.0 in
      let after = with_alone t s reads word h in
      let one = alone_walked t s reads b word h is in
      let rest = walk_parts parts true after are.1 (alone_settles t s reads word h) in
      record {
        waits = rest.waits;
        held = rest.held;
        faults = λ end. turn (at b false h) (at true false after) word (line_of parts ++ end) one (alone_fault t s reads b word h is sound) ∙ rest.faults end;
        walks = λ end. step (at b false h) (at true false after) word (line_of parts ++ end) one ∙ rest.walks end;
        sound = rest.sound;
        unskipped = rest.unskipped;
        holds_more = λ k. rest.holds_more k ∙ ap (λ vs. vs ++ all_values t.other k parts) (alone_holds t s reads k word h) ∙ append_assoc (holds t s reads k h) (cond (bytes_eq t.other k) (word ∷ []) []) (all_values t.other k parts);
      }

  -- the walk over words after `--`
  pub walk_trailing : (words : List Text) (b : Bool) (h : Held) → settles t s reads h ≡ [] → Reached b true h words (λ k. cond (bytes_eq t.other k) words []) true
  walk_trailing [] b h sound = record { waits = b; held = h; faults = λ end. refl; walks = λ end. refl; sound = sound; unskipped = refl; holds_more = λ k. sym (ap (λ vs. holds t s reads k h ++ vs) (same (bytes_eq t.other k)) ∙ append-nil (holds t s reads k h)) }
    where
      same : (c : Bool) → cond {A = List Text} c [] [] ≡ []
      same true = refl
      same false = refl
  walk_trailing (word ∷ words) b h sound =
      let after = with_alone t s reads word h in
      let one = trailing_walked t s reads b word h in
      let rest = walk_trailing words true after (alone_settles t s reads word h) in
      record {
        waits = rest.waits;
        held = rest.held;
        faults = λ end. turn (at b true h) (at true true after) word (words ++ end) one (trailing_fault t s reads b word h sound) ∙ rest.faults end;
        walks = λ end. step (at b true h) (at true true after) word (words ++ end) one ∙ rest.walks end;
        sound = rest.sound;
        unskipped = rest.unskipped;
        holds_more = λ k. rest.holds_more k ∙ ap (λ vs. vs ++ cond (bytes_eq t.other k) words []) (alone_holds t s reads k word h) ∙ append_assoc (holds t s reads k h) (cond (bytes_eq t.other k) (word ∷ []) []) (cond (bytes_eq t.other k) words [])
            ∙ ap (λ vs. holds t s reads k h ++ vs) (join (bytes_eq t.other k));
      }
    where
      join : (c : Bool) → cond c (word ∷ []) [] ++ cond c words [] ≡ cond c (word ∷ words) []
      join true = refl
      join false = refl
