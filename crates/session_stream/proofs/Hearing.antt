-- What a session hears of bytes that were taken.
use Rattle.std.proofs.Common.{◌≡◌, ℕ, ◌≤◌, ◌<◌, ◌+◌, Bool, true, false, cond, List, [], ◌∷◌, ◌++◌, length, take, refl, ap, sym, subst, ◌∙◌, arith, append_assoc, append-nil, length-append}
use Rattle.std.specs.Prelude.{◌==◌, ◌-◌, nat_lt}
use Rattle.std.proofs.lemmas.Bool.{lt-ltb, le-ltb}
use Rattle.std.proofs.lemmas.List.{take_all, take-append-le}
use Rattle.std.proofs.Math.Seq.{take-append-add}
use Rattle.desk_text.specs.Lines.{whole_lines, onto_whole}
use Rattle.desk_outside.specs.Inputs.{Input, Cut, bytes_in}
use Rattle.session_stream.specs.Hearing.{Done, InputTooLong, Hearing, ends, has_quit, before_quit, heard_to_end, ended_lines, hearing_of}
use Rattle.session_stream.specs.declared.stream.TheConstants.{LONGEST_INPUT}

-- one list begins another
abbrev pub Begins : {X : Type 0} → List X → List X → Type 0
Begins {X} first whole = (more : List X) × (whole ≡ first ++ more)

-- the whole lines of a prefix come first
pub whole_lines_first : (xs ys : List ℕ) → Begins (whole_lines xs) (whole_lines (xs ++ ys))
whole_lines_first [] ys = (whole_lines ys, refl)
whole_lines_first (b ∷ bs) ys = at (b == 10) (whole_lines_first bs ys)
  where
    onto : (xs ms zs : List (List ℕ)) → zs ≡ xs ++ ms → Begins (onto_whole b xs) (onto_whole b zs)
    onto [] ms zs e = (onto_whole b ms, ap (onto_whole b) e)
    onto (x ∷ xs) ms zs e = (ms, ap (onto_whole b) e)

    at : (c : Bool) → Begins (whole_lines bs) (whole_lines (bs ++ ys)) → Begins (cond c ([] ∷ whole_lines bs) (onto_whole b (whole_lines bs))) (cond c ([] ∷ whole_lines (bs ++ ys)) (onto_whole b (whole_lines (bs ++ ys))))
    at true first = (first.0, ap (λ ls. [] ∷ ls) first.1)
    at false first = onto (whole_lines bs) first.0 (whole_lines (bs ++ ys)) first.1

-- ---- lines and `quit`
pub none_before : (ls ms : List (List ℕ)) → has_quit ls ≡ false → before_quit (ls ++ ms) ≡ ls ++ before_quit ms
none_before [] ms none = refl
none_before (l ∷ ls) ms none = at (λ rest. none_before ls ms rest) (ends l) refl none
  where
    at : (has_quit ls ≡ false → before_quit (ls ++ ms) ≡ ls ++ before_quit ms) → (c : Bool) → ends l ≡ c → has_quit (l ∷ ls) ≡ false → before_quit (l ∷ (ls ++ ms)) ≡ l ∷ (ls ++ before_quit ms)
    at more true e h = let any : has_quit (l ∷ ls) ≡ true = ap (λ c. cond c true (has_quit ls)) e in absurd (cc)
    at more false e h =
        let rest : has_quit ls ≡ false = sym (ap (λ c. cond c true (has_quit ls)) e) ∙ h in
        ap (λ c. cond c [] (l ∷ before_quit (ls ++ ms))) e ∙ ap (λ r. l ∷ r) (more rest)

pub no_quit_before : (ls : List (List ℕ)) → has_quit ls ≡ false → before_quit ls ≡ ls
no_quit_before ls none = ap before_quit (sym (append-nil ls)) ∙ none_before ls [] none ∙ append-nil ls

pub has_quit-append : (ls ms : List (List ℕ)) → has_quit (ls ++ ms) ≡ cond (has_quit ls) true (has_quit ms)
has_quit-append [] ms = refl
has_quit-append (l ∷ ls) ms = at (ends l) (has_quit-append ls ms)
  where
    at : (c : Bool) → has_quit (ls ++ ms) ≡ cond (has_quit ls) true (has_quit ms) → cond c true (has_quit (ls ++ ms)) ≡ cond (cond c true (has_quit ls)) true (has_quit ms)
    at true e = refl
    at false e = e

-- a line that is `quit` after lines that are none
pub quit_after : (ls : List (List ℕ)) (q : List ℕ) (ms : List (List ℕ)) → has_quit ls ≡ false → ends q ≡ true → (has_quit (ls ++ q ∷ ms) ≡ true) × (before_quit (ls ++ q ∷ ms) ≡ ls)
quit_after ls q ms none quit = (
  has_quit-append ls (q ∷ ms) ∙ ap (λ c. cond c true (has_quit (q ∷ ms))) none ∙ ap (λ c. cond c true (has_quit ms)) quit,
  none_before ls (q ∷ ms) none ∙ ap (λ c. ls ++ cond c [] (q ∷ before_quit ms)) quit ∙ append-nil ls,
)

-- one more line that is not `quit`
pub still_none : (ls : List (List ℕ)) (l : List ℕ) → has_quit ls ≡ false → ends l ≡ false → has_quit (ls ++ l ∷ []) ≡ false
still_none ls l none goes = has_quit-append ls (l ∷ []) ∙ ap (λ c. cond c true (has_quit (l ∷ []))) none ∙ ap (λ c. cond c true false) goes

-- ---- the limit
pub within_limit : (bytes : List ℕ) → length bytes ≤ LONGEST_INPUT → take LONGEST_INPUT bytes ≡ bytes
within_limit bytes le = take_all LONGEST_INPUT bytes le

pub cut_at_limit : (first rest : List ℕ) → length first ≤ LONGEST_INPUT → take LONGEST_INPUT (first ++ rest) ≡ first ++ take (LONGEST_INPUT - length first) rest
cut_at_limit first rest le =
    let long : LONGEST_INPUT ≡ length first + (LONGEST_INPUT - length first) = omega (arith, le) in
    ap (λ k. take k (first ++ rest)) long ∙ take-append-add first rest (LONGEST_INPUT - length first)

abbrev by_case : Bool → Bool → List (List ℕ) → Hearing → Hearing
by_case quits long ls rest = cond quits (record { lines = before_quit ls; end = Done }) (cond long (record { lines = ls; end = InputTooLong }) rest)

-- an input within the limit, none of whose lines that end is `quit`
pub heard_whole : (input : Input) → length (bytes_in input) ≤ LONGEST_INPUT → has_quit (whole_lines (bytes_in input)) ≡ false → hearing_of input ≡ heard_to_end input
heard_whole input le none =
    let own : ended_lines input ≡ whole_lines (bytes_in input) = ap whole_lines (within_limit (bytes_in input) le) in
    ap (λ c. by_case c (nat_lt LONGEST_INPUT (length (bytes_in input))) (ended_lines input) (heard_to_end input)) (ap has_quit own ∙ none)
    ∙ ap (λ c. cond c (record { lines = ended_lines input; end = InputTooLong }) (heard_to_end input)) (le-ltb LONGEST_INPUT (length (bytes_in input)) le)

-- where `quit` is the next line after those of a prefix
pub heard_to_quit : (input : Input) (first rest : List ℕ) (ls : List (List ℕ)) (q : List ℕ) → bytes_in input ≡ first ++ rest → length first ≤ LONGEST_INPUT → whole_lines first ≡ ls ++ q ∷ [] → has_quit ls ≡ false → ends q ≡ true →
    hearing_of input ≡ record { lines = ls; end = Done }
heard_to_quit input first rest ls q is le own none quit =
    let more = whole_lines_first first (take (LONGEST_INPUT - length first) rest) in
    let all : ended_lines input ≡ ls ++ q ∷ more.0 =
    ap (λ b. whole_lines (take LONGEST_INPUT b)) is ∙ ap whole_lines (cut_at_limit first rest le) ∙ more.1 ∙ ap (λ l. l ++ more.0) own ∙ append_assoc ls (q ∷ []) more.0 in
    let both = quit_after ls q more.0 none quit in
    ap (λ l. by_case (has_quit l) (nat_lt LONGEST_INPUT (length (bytes_in input))) l (heard_to_end input)) all
    ∙ ap (λ c. by_case c (nat_lt LONGEST_INPUT (length (bytes_in input))) (ls ++ q ∷ more.0) (heard_to_end input)) both.0
    ∙ ap (λ l. record { lines = l; end = Done }) both.1

-- where more comes than the limit
pub heard_too_long : (input : Input) (first rest : List ℕ) → bytes_in input ≡ first ++ rest → length first ≡ LONGEST_INPUT → 0 < length rest → has_quit (whole_lines first) ≡ false →
    hearing_of input ≡ record { lines = whole_lines first; end = InputTooLong }
heard_too_long input first rest is full some none =
    let own : ended_lines input ≡ whole_lines first =
    ap (λ b. whole_lines (take LONGEST_INPUT b)) is ∙ ap whole_lines (take-append-le LONGEST_INPUT first rest (omega (arith, full)) ∙ take_all LONGEST_INPUT first (omega (arith, full))) in
    let long : LONGEST_INPUT < length (bytes_in input) = subst (λ b. LONGEST_INPUT < length b) (sym is) (omega (arith, length-append first rest, full, some)) in
    ap (λ l. by_case (has_quit l) (nat_lt LONGEST_INPUT (length (bytes_in input))) l (heard_to_end input)) own
    ∙ ap (λ c. by_case c (nat_lt LONGEST_INPUT (length (bytes_in input))) (whole_lines first) (heard_to_end input)) none
    ∙ ap (λ c. cond c (record { lines = whole_lines first; end = InputTooLong }) (heard_to_end input)) (lt-ltb LONGEST_INPUT (length (bytes_in input)) long)

-- the lines of a prefix without `quit` come first among those that are heard
pub heard_first : (first rest : List ℕ) → length first ≤ LONGEST_INPUT → has_quit (whole_lines first) ≡ false → Begins (whole_lines first) (hearing_of (Cut (first ++ rest))).lines
heard_first first rest le none =
    let ended = ended_lines (Cut (first ++ rest)) in
    let more = whole_lines_first first (take (LONGEST_INPUT - length first) rest) in
    let in_ended : Begins (whole_lines first) ended = (more.0, ap whole_lines (cut_at_limit first rest le) ∙ more.1) in
    at (has_quit ended) (nat_lt LONGEST_INPUT (length (first ++ rest))) _ _ _ (in_before ended in_ended) in_ended (whole_lines_first first rest)
  where
    in_before : (all : List (List ℕ)) → Begins (whole_lines first) all → Begins (whole_lines first) (before_quit all)
    in_before all begins = (before_quit begins.0, ap before_quit begins.1 ∙ none_before (whole_lines first) begins.0 none)

    at : (c d : Bool) (x y z : Hearing) → Begins (whole_lines first) x.lines → Begins (whole_lines first) y.lines → Begins (whole_lines first) z.lines → Begins (whole_lines first) (cond c x (cond d y z)).lines
    at true d x y z f g h = f
    at false true x y z f g h = g
    at false false x y z f g h = h
