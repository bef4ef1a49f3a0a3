-- Counts of changes.
use Rattle.std.proofs.Common.{◌≡◌, ℕ, zero, suc, ◌+◌, ◌<◌, ◌≤◌, List, [], ◌∷◌, ◌++◌, true, false, true≢false, Bool, length, get_or, refl, ap, sym, ◌∙◌, arith, cond}
use Rattle.std.proofs.Math.ListN.{set}
use Rattle.std.specs.Prelude.{not, ◌&&◌, if◌then◌else◌}
use Rattle.judge_session.specs.declared.change.Change.{Change}
use Rattle.judge_session.specs.Session.{is_by, is_live_by, is_undone_by, without_undone}
use Rattle.judge_session.specs.Tally.{count_that}
use Rattle.judge_session.proofs.Names.{same, self_same}
use Rattle.std.proofs.lemmas.Bool.{and_parts}
use Rattle.desk_model.specs.Name.{is_same_name}

abbrev pub one : Bool → ℕ
one b = if b then 1 else 0

pub count-push : (test : Change → Bool) (xs : List Change) (y : Change) → count_that test (xs ++ y ∷ []) ≡ count_that test xs + one (test y)
count-push test [] y = omega arith
count-push test (x ∷ xs) y = omega (arith, count-push test xs y)

pub count-set : (test : Change → Bool) (xs : List Change) (i : ℕ) (y d : Change) → i < length xs → count_that test (set xs i y) + one (test (get_or xs i d)) ≡ count_that test xs + one (test y)
count-set test [] i y d lt = absurd (omega arith)
count-set test (x ∷ xs) zero y d lt = omega arith
count-set test (x ∷ xs) (suc i) y d lt = omega (arith, count-set test xs i y d (omega arith))

pub count-within : (test : Change → Bool) (xs : List Change) → count_that test xs ≤ length xs
count-within test [] = omega arith
count-within test (x ∷ xs) = by (test x) (count-within test xs)
  where
    by : (b : Bool) → count_that test xs ≤ length xs → one b + count_that test xs ≤ length (x ∷ xs)
    by true h = omega (arith, h)
    by false h = omega (arith, h)

pub count-some : (test : Change → Bool) (xs : List Change) (i : ℕ) (d : Change) → i < length xs → test (get_or xs i d) ≡ true → 0 < count_that test xs
count-some test [] i d lt h = absurd (omega arith)
count-some test (x ∷ xs) zero d lt h = let e : one (test x) ≡ 1 = ap one h in omega (arith, e)
count-some test (x ∷ xs) (suc i) d lt h = omega (arith, count-some test xs i d (omega arith) h)

-- dropping a caller's undone changes leaves the live ones
pub live-without : (q who : List ℕ) (xs : List Change) → count_that (is_live_by q) (without_undone who xs) ≡ count_that (is_live_by q) xs
live-without q who [] = refl
live-without q who (x ∷ xs) = by (live-without q who xs) x.live refl (is_by who x)
  where
    by : count_that (is_live_by q) (without_undone who xs) ≡ count_that (is_live_by q) xs → (l : Bool) → x.live ≡ l → (m : Bool) →
        count_that (is_live_by q) (cond (not (not x.live && m)) (x ∷ without_undone who xs) (without_undone who xs)) ≡ count_that (is_live_by q) (x ∷ xs)
    by rest true e m = ap (λ b. count_that (is_live_by q) (cond (not (not b && m)) (x ∷ without_undone who xs) (without_undone who xs))) e ∙ ap (λ n. one (is_live_by q x) + n) rest
    by rest false e true =
        ap (λ b. count_that (is_live_by q) (cond (not (not b && true)) (x ∷ without_undone who xs) (without_undone who xs))) e ∙ rest
        ∙ sym (ap (λ b. one (b && is_by q x) + count_that (is_live_by q) xs) e ∙ omega arith)
    by rest false e false = ap (λ b. count_that (is_live_by q) (cond (not (not b && false)) (x ∷ without_undone who xs) (without_undone who xs))) e ∙ ap (λ n. one (is_live_by q x) + n) rest

-- it drops all undone changes of the caller, and none of another
pub undone-without : (q who : List ℕ) (xs : List Change) → count_that (is_undone_by q) (without_undone who xs) ≡ (if is_same_name who q then 0 else count_that (is_undone_by q) xs)
undone-without q who xs = by (is_same_name who q) refl
  where
    gone : (ys : List Change) → count_that (is_undone_by who) (without_undone who ys) ≡ 0
    gone [] = refl
    gone (y ∷ ys) = at (gone ys) (is_undone_by who y) refl
      where
        at : count_that (is_undone_by who) (without_undone who ys) ≡ 0 → (b : Bool) → is_undone_by who y ≡ b → count_that (is_undone_by who) (cond (not b) (y ∷ without_undone who ys) (without_undone who ys)) ≡ 0
        at rest true e = rest
        at rest false e = ap (λ b. one b + count_that (is_undone_by who) (without_undone who ys)) e ∙ omega (arith, rest)

    stays : is_same_name who q ≡ false → (ys : List Change) → count_that (is_undone_by q) (without_undone who ys) ≡ count_that (is_undone_by q) ys
    stays other [] = refl
    stays other (y ∷ ys) = at (stays other ys) (is_undone_by who y) refl (is_by q y) refl
      where
        at : count_that (is_undone_by q) (without_undone who ys) ≡ count_that (is_undone_by q) ys → (b : Bool) → is_undone_by who y ≡ b → (m : Bool) → is_by q y ≡ m →
            count_that (is_undone_by q) (cond (not b) (y ∷ without_undone who ys) (without_undone who ys)) ≡ count_that (is_undone_by q) (y ∷ ys)
        at rest false e m f = ap (λ n. one (is_undone_by q y) + n) rest
        at rest true e true f =
            absurd (true≢false (sym (self_same q) ∙ ap (λ w. is_same_name w q) (sym (same y.who q f) ∙ same y.who who (and_parts (not y.live) (is_by who y) e).1) ∙ other))
        at rest true e false f = rest ∙ sym (ap (λ b. one (b && is_by q y) + count_that (is_undone_by q) ys) (and_parts (not y.live) (is_by who y) e).0 ∙ ap (λ b. one b + count_that (is_undone_by q) ys) f ∙ omega arith)

    by : (b : Bool) → is_same_name who q ≡ b → count_that (is_undone_by q) (without_undone who xs) ≡ (if b then 0 else count_that (is_undone_by q) xs)
    by true e = ap (λ w. count_that (is_undone_by w) (without_undone who xs)) (sym (same who q e)) ∙ gone xs
    by false e = stays e xs

pub length-without : (who : List ℕ) (xs : List Change) → length (without_undone who xs) + count_that (is_undone_by who) xs ≡ length xs
length-without who [] = omega arith
length-without who (x ∷ xs) = by (is_undone_by who x) (length-without who xs)
  where
    by : (b : Bool) → length (without_undone who xs) + count_that (is_undone_by who) xs ≡ length xs → length (cond (not b) (x ∷ without_undone who xs) (without_undone who xs)) + (one b + count_that (is_undone_by who) xs) ≡ length (x ∷ xs)
    by true h = omega (arith, h)
    by false h = omega (arith, h)
