-- What changes do to the grades in force.
use Rattle.std.proofs.Common.{◌≡◌, ℕ, zero, suc, ◌+◌, ◌<◌, List, [], ◌∷◌, ◌++◌, length, get_or, take, drop, map, true, false, Bool, Option, None, Some, refl, ap, ap₂, sym, ◌∙◌, cond, arith}
use Rattle.std.specs.List.{enumerate_from, list_any}
use Rattle.std.proofs.lemmas.List.{get_or-map}
use Rattle.std.proofs.lemmas.List.Folds.{list_any_none}
use Rattle.small_lemmas.proofs.Tests.{neither}
use Rattle.std.proofs.Math.Seq.{take-append_seam}
use Rattle.std.specs.Prelude.{not, ◌&&◌, if◌then◌else◌, nat_eq, ℤ, pos, negsuc}
use Rattle.judge_session.specs.declared.change.Change.{Change}
use Rattle.std.proofs.lemmas.Bool.{and_parts, eqb-true}
use Rattle.judge_session.specs.Session.{is_by, without_undone, judged}
use Rattle.judge_session.specs.InForce.{grade_after, is_live_on, counted_grade}
use Rattle.judge_session.specs.Marking.{IsLastThat}

pub grade_after-append : (file : Option ℤ) (t d : ℕ) (xs ys : List Change) → grade_after file t d (xs ++ ys) ≡ grade_after (grade_after file t d xs) t d ys
grade_after-append file t d [] ys = refl
grade_after-append file t d (x ∷ xs) ys = grade_after-append (if is_live_on t d x then Some x.grade else file) t d xs ys

-- changes that are none of a document's leave its grade
pub grade_after-none : (file : Option ℤ) (t d : ℕ) (xs : List Change) → list_any (is_live_on t d) xs ≡ false → grade_after file t d xs ≡ file
grade_after-none file t d [] h = refl
grade_after-none file t d (x ∷ xs) h =
    let parts = neither (is_live_on t d x) (list_any (is_live_on t d) xs) h in
    ap (λ b. grade_after (if b then Some x.grade else file) t d xs) parts.0 ∙ grade_after-none file t d xs parts.1

-- the last live change of a document gives its grade
pub grade_after-last : (file : Option ℤ) (t d : ℕ) (xs : List Change) (i : ℕ) (e : Change) → IsLastThat (is_live_on t d) xs i → grade_after file t d xs ≡ Some ((get_or xs i e).grade)
grade_after-last file t d xs i e last = at file xs i last.within (last.here e) last.after
  where
    at : (file : Option ℤ) (xs : List Change) (i : ℕ) → i < length xs → is_live_on t d (get_or xs i e) ≡ true → ((k : ℕ) (c : Change) → i < k → k < length xs → is_live_on t d (get_or xs k c) ≡ false) →
        grade_after file t d xs ≡ Some ((get_or xs i e).grade)
    at file [] i lt here after = absurd (omega arith)
    at file (x ∷ xs) zero lt here after =
        ap (λ b. grade_after (if b then Some x.grade else file) t d xs) here
        ∙ grade_after-none (Some x.grade) t d xs (list_any_none (is_live_on t d) xs (λ k c in_range. after (suc k) c (omega arith) (omega arith)))
    at file (x ∷ xs) (suc i) lt here after =
        at (if is_live_on t d x then Some x.grade else file) xs i (omega arith) here (λ k c above in_range. after (suc k) c (omega arith) (omega arith))

-- undone changes don't matter
pub grade_after-without : (file : Option ℤ) (t d : ℕ) (who : List ℕ) (xs : List Change) → grade_after file t d (without_undone who xs) ≡ grade_after file t d xs
grade_after-without file t d who [] = refl
grade_after-without file t d who (x ∷ xs) = by (λ g. grade_after-without g t d who xs) x.live (is_by who x) refl refl
  where
    by : ((g : Option ℤ) → grade_after g t d (without_undone who xs) ≡ grade_after g t d xs) →
        (b m : Bool) → x.live ≡ b → is_by who x ≡ m → grade_after file t d (cond (not (not x.live && is_by who x)) (x ∷ without_undone who xs) (without_undone who xs)) ≡ grade_after file t d (x ∷ xs)
    by rest true m e f = ap (λ b. grade_after file t d (cond (not (not b && is_by who x)) (x ∷ without_undone who xs) (without_undone who xs))) e ∙ rest (if is_live_on t d x then Some x.grade else file)
    by rest false true e f =
        ap (λ b. grade_after file t d (cond (not (not b && is_by who x)) (x ∷ without_undone who xs) (without_undone who xs))) e
        ∙ ap (λ b. grade_after file t d (cond (not b) (x ∷ without_undone who xs) (without_undone who xs))) f
        ∙ rest file
        ∙ sym (ap (λ b. grade_after (if b && (nat_eq x.topic t && nat_eq x.doc d) then Some x.grade else file) t d xs) e)
    by rest false false e f =
        ap (λ b. grade_after file t d (cond (not (not b && is_by who x)) (x ∷ without_undone who xs) (without_undone who xs))) e
        ∙ ap (λ b. grade_after file t d (cond (not b) (x ∷ without_undone who xs) (without_undone who xs))) f
        ∙ rest (if is_live_on t d x then Some x.grade else file)

-- a judgement gives its document its grade, and leaves each other one's
pub grade_after-judged : (file : Option ℤ) (t d : ℕ) (who : List ℕ) (topic doc : ℕ) (grade : ℤ) (xs : List Change) →
    grade_after file t d (judged who topic doc grade xs) ≡ (if nat_eq topic t && nat_eq doc d then Some grade else grade_after file t d xs)
grade_after-judged file t d who topic doc grade xs =
    grade_after-append file t d (without_undone who xs) ((record { who = who; topic = topic; doc = doc; grade = grade; live = true }) ∷ [])
    ∙ ap (λ g. if nat_eq topic t && nat_eq doc d then Some grade else g) (grade_after-without file t d who xs)

counted_twice : (g : Option ℤ) → counted_grade (counted_grade g) ≡ counted_grade g
counted_twice None = refl
counted_twice (Some (pos n)) = refl
counted_twice (Some (negsuc n)) = refl

-- what a grade counts for in the end may be counted at the start
pub counted-start : (g : Option ℤ) (t d : ℕ) (xs : List Change) → counted_grade (grade_after (counted_grade g) t d xs) ≡ counted_grade (grade_after g t d xs)
counted-start g t d [] = counted_twice g
counted-start g t d (x ∷ xs) = by (is_live_on t d x) (counted-start g t d xs)
  where
    by : (b : Bool) → counted_grade (grade_after (counted_grade g) t d xs) ≡ counted_grade (grade_after g t d xs) →
        counted_grade (grade_after (if b then Some x.grade else counted_grade g) t d xs) ≡ counted_grade (grade_after (if b then Some x.grade else g) t d xs)
    by true rest = refl
    by false rest = rest

-- a grade after one more change, as it counts
pub counted-more : (g : Option ℤ) (t d : ℕ) (xs : List Change) (x : Change) →
    counted_grade (grade_after g t d (xs ++ x ∷ [])) ≡ (if is_live_on t d x then counted_grade (Some x.grade) else counted_grade (grade_after g t d xs))
counted-more g t d xs x = ap counted_grade (grade_after-append g t d xs (x ∷ [])) ∙ by (is_live_on t d x)
  where
    by : (b : Bool) → counted_grade (if b then Some x.grade else grade_after g t d xs) ≡ (if b then counted_grade (Some x.grade) else counted_grade (grade_after g t d xs))
    by true = refl
    by false = refl

-- grades that are counted already
pub all_counted_once : (gs : List (Option ℤ)) (k : ℕ) (e : Option ℤ) → k < length gs → get_or (map counted_grade gs) k e ≡ counted_grade (get_or (map counted_grade gs) k e)
all_counted_once gs k e lt =
    let here = get_or-map counted_grade gs k e e lt in here ∙ sym (ap counted_grade here ∙ counted_twice (get_or gs k e))

-- grades that are those in force, document by document
pub all_forced : (topic n : ℕ) (changes : List Change) (gs hs : List (Option ℤ)) → length hs ≡ length gs →
    ((k : ℕ) (e : Option ℤ) → k < length gs → get_or hs k e ≡ counted_grade (grade_after (get_or gs k e) topic (n + k) changes)) →
    hs ≡ map (λ p. counted_grade (grade_after p.1 topic p.0 changes)) (enumerate_from n gs)
all_forced topic n changes [] [] same each = refl
all_forced topic n changes [] (h ∷ hs) same each = absurd (omega arith)
all_forced topic n changes (g ∷ gs) [] same each = absurd (omega arith)
all_forced topic n changes (g ∷ gs) (h ∷ hs) same each =
    let here : n + 0 ≡ n = omega arith in
    ap₂ (λ x xs. x ∷ xs) (each 0 g (omega arith) ∙ ap (λ m. counted_grade (grade_after g topic m changes)) here)
    (all_forced topic (n + 1) changes gs hs (omega arith) (λ k e lt.
    let there : n + suc k ≡ n + 1 + k = omega arith in
    each (suc k) e (omega arith) ∙ ap (λ m. counted_grade (grade_after (get_or gs k e) topic m changes)) there))

-- what is written back to a vector through its slice
pub written_back : {X : Type 0} (len : ℕ) (ys zs : List X) → length ys ≡ len → take len (ys ++ drop (length ys) zs) ≡ ys
written_back len ys zs e = ap (λ n. take n (ys ++ drop (length ys) zs)) (sym e) ∙ take-append_seam ys (drop (length ys) zs)

-- two judgements of different documents
pub grade_after-commutes : (who other : List ℕ) (topic doc topic' doc' : ℕ) (grade grade' : ℤ) (changes : List Change) → ((topic ≡ topic' → doc ≡ doc' → ⊥)) → (file : Option ℤ) (t d : ℕ) →
    grade_after file t d (judged other topic' doc' grade' (judged who topic doc grade changes)) ≡ grade_after file t d (judged who topic doc grade (judged other topic' doc' grade' changes))
grade_after-commutes who other topic doc topic' doc' grade grade' changes apart file t d =
    grade_after-judged file t d other topic' doc' grade' (judged who topic doc grade changes)
    ∙ ap (λ g. if nat_eq topic' t && nat_eq doc' d then Some grade' else g) (grade_after-judged file t d who topic doc grade changes)
    ∙ by (nat_eq topic t && nat_eq doc d) (nat_eq topic' t && nat_eq doc' d) refl refl
    ∙ sym (grade_after-judged file t d who topic doc grade (judged other topic' doc' grade' changes)
    ∙ ap (λ g. if nat_eq topic t && nat_eq doc d then Some grade else g) (grade_after-judged file t d other topic' doc' grade' changes))
  where
    by : (a b : Bool) → (nat_eq topic t && nat_eq doc d) ≡ a → (nat_eq topic' t && nat_eq doc' d) ≡ b →
        (if b then Some grade' else if a then Some grade else grade_after file t d changes) ≡ (if a then Some grade else if b then Some grade' else grade_after file t d changes)
    by false b e f = refl
    by true false e f = refl
    by true true e f =
        let one = and_parts (nat_eq topic t) (nat_eq doc d) e in
        let two = and_parts (nat_eq topic' t) (nat_eq doc' d) f in
        absurd (apart (eqb-true topic t one.0 ∙ sym (eqb-true topic' t two.0)) (eqb-true doc d one.1 ∙ sym (eqb-true doc' d two.1)))
