-- The values of entries.
use Rattle.std.proofs.Common.{◌≡◌, ℕ, zero, suc, ◌+◌, ◌<◌, true, false, Bool, List, [], ◌∷◌, length, get_or, map, refl, ap, sym, subst, ◌∙◌, arith, rules, cond}
use Rattle.std.specs.Prelude.{Option, Some, None, not, Result, Ok, Err, IfSome, IfNone, IsErrAnd}
use Rattle.std.specs.Borrow.{Bor}
use Rattle.std.specs.List.{list_any, position_or_len}
use Rattle.std.proofs.lemmas.List.{get_or-map, length-map}
use Rattle.std.proofs.lemmas.List.Elements.{All-get_or}
use Rattle.clap.specs.Words.{Text}
use Rattle.desk_words.specs.Words.{HaveBytes, run_word_of, is_equals}
use Rattle.desk_words.specs.declared.command.RunWord.{RunWord}
use Rattle.command_line.specs.declared.fault.WordsFault.{WordsFault}
use Rattle.command_line.specs.declared.fault.WordsFault.TheVariants.{Usage, Memory}

-- where no byte passes, none is one that does
pub none_passes : (p : ℕ → Bool) (xs : List ℕ) → position_or_len p xs ≡ length xs → list_any p xs ≡ false
none_passes p [] h = refl
none_passes p (x ∷ xs) h = by_head (p x) refl (none_passes p xs)
  where
    by_head : (b : Bool) → p x ≡ b → (position_or_len p xs ≡ length xs → list_any p xs ≡ false) → list_any p (x ∷ xs) ≡ false
    by_head true e more = let zero_is : 0 ≡ suc (length xs) = ap (λ b. cond (not b) (1 + position_or_len p xs) 0) (sym e) ∙ h in absurd (omega arith)
    by_head false e more =
        let rest : 1 + position_or_len p xs ≡ suc (length xs) = ap (λ b. cond (not b) (1 + position_or_len p xs) 0) (sym e) ∙ h in
        rw e (more (omega arith))

pub run_unnamed : (word path : List ℕ) → list_any is_equals word ≡ false → path ≡ word → 0 < length path → run_word_of word ≡ Some (record { name = None; path = path })
run_unnamed word path none e some = rw (none, ← e) (search rules)

-- a value that is no run
pub no_run : (vs : List (Bor Text)) (i : ℕ) (d : Bor Text) (runs : List RunWord) → i < length vs → run_word_of (get_or vs i d).now ≡ None → map run_word_of (map (λ v. v.now) vs) ≡ map Some runs → ⊥
no_run [] i d runs lt e is = absurd (omega arith)
no_run (x ∷ xs) zero d [] lt e is = cc
no_run (x ∷ xs) zero d (r ∷ rs) lt e is = cc
no_run (x ∷ xs) (suc i) d [] lt e is = cc
no_run (x ∷ xs) (suc i) d (r ∷ rs) lt e is = no_run xs i d rs (omega arith) e (cc)

-- a value of no bytes
pub no_path : (vs : List (Bor Text)) (i : ℕ) (d : Bor Text) → i < length vs → length (get_or vs i d).now ≡ 0 → HaveBytes (map (λ v. v.now) vs) → ⊥
no_path vs i d lt none have =
    let some : 0 < length (get_or (map (λ (v : Bor Text). v.now) vs) i d.now) = All-get_or (λ text. 0 < length text) (map (λ (v : Bor Text). v.now) vs) i d.now (omega (arith, length-map vs (λ (v : Bor Text). v.now))) have in
    let same = ap length (get_or-map (λ (v : Bor Text). v.now) vs i d d.now lt) in
    omega (arith, some, same, none)

-- what holds of a value, and what holds where there is none
pub of_some : {A : Type 0} (r : Option A) (x : A) (P : A → Type 0) → r ≡ Some x → IfSome r P → P x
of_some {A = A} r x P e h = subst (λ (r : Option A). IfSome r P) e h

pub of_none : {A : Type 0} (r : Option A) (P : Type 0) → r ≡ None → IfNone r P → P
of_none {A = A} r P e h = subst (λ (r : Option A). IfNone r P) e h

-- a fault that is handed on
pub handed_on : {A B : Type 0} (r : Result B WordsFault) (x : WordsFault) → IsErrAnd r (λ y. y ≡ x) → r ≡ Err Usage → ◌≡◌ {A = Result A WordsFault} (Err x) (Err Usage)
handed_on (Ok v) x h e = cc
handed_on (Err y) x h e = let same : y ≡ Usage = cc in ap Err (sym h ∙ same)

-- an answer is no fault, and running out of memory is not usage
pub ok_no_fault : {A : Type 0} (x : A) → ◌≡◌ {A = Result A WordsFault} (Ok x) (Err Usage) → ⊥
ok_no_fault x e = cc

pub memory_no_usage : {A : Type 0} → ◌≡◌ {A = Result A WordsFault} (Err Memory) (Err Usage) → ⊥
memory_no_usage e = cc

-- as many runs as RUN words
pub run_count : (values : List Text) (runs : List RunWord) → map run_word_of values ≡ map Some runs → length values ≡ length runs
run_count values runs each = sym (length-map values run_word_of) ∙ ap length each ∙ length-map runs (λ (r : RunWord). Some r)
