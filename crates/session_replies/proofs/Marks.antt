-- The marks by the judgements in force.
use Rattle.std.proofs.Common.{◌≡◌, ℕ, zero, suc, ◌+◌, ◌<◌, ◌≤◌, List, [], ◌∷◌, length, map, get_or, Option, Some, None, ℤ, pos, negsuc, refl, ap, sym, ◌∙◌, arith}
use Rattle.std.proofs.Math.ListN.{set}
use Rattle.std.specs.List.{AllZip, enumerate_from, range_with_len}
use Rattle.std.proofs.lemmas.List.{length-map, get_or-map, ext_get_or}
use Rattle.std.proofs.lemmas.Option.{slice_get-get_or}
use Rattle.desk_model.specs.Book.{Book}
use Rattle.desk_model.specs.Closing.{closed_under, is_within}
use Rattle.desk_model.specs.Desk.{Desk, IsDesk, AreMarksOf, file_marks}
use Rattle.desk_model.specs.Graded.{is_in_pools, mark_within, pools_of}
use Rattle.desk_model.specs.Mark.{mark_of}
use Rattle.desk_model.specs.declared.types.Mark.{Mark}
use Rattle.judge_session.specs.declared.change.Change.{Change}
use Rattle.judge_session.specs.InForce.{grade_after, counted_grade, grade_in_force, grades_in_force}
use Rattle.desk_model.specs.Named.{book_at}
use Rattle.desk_model.proofs.Closing.{length-closed, docs-closed, set-closed}
use Rattle.desk_model.proofs.Judging.{pools_say}
use Rattle.session_replies.specs.Replies.{Setting, graded_marks, marks_after}

-- the marks of documents from one on
abbrev row : ℕ → ℕ → ℕ → List (Option ℤ) → List Change → List Mark
row level t n grades changes = map (λ grade. mark_of grade level) (map (λ p. counted_grade (grade_after p.1 t p.0 changes)) (enumerate_from n grades))

length-row : (level t n : ℕ) (grades : List (Option ℤ)) (changes : List Change) → length (row level t n grades changes) ≡ length grades
length-row level t n [] changes = refl
length-row level t n (g ∷ gs) changes = ap suc (length-row level t (n + 1) gs changes)

row_same : (level t n : ℕ) (grades : List (Option ℤ)) (xs ys : List Change) → ((file : Option ℤ) (d : ℕ) → n ≤ d → grade_after file t d ys ≡ grade_after file t d xs) → row level t n grades xs ≡ row level t n grades ys
row_same level t n [] xs ys same = refl
row_same level t n (g ∷ gs) xs ys same =
    ap (λ z. mark_of (counted_grade z) level ∷ row level t (n + 1) gs xs) (sym (same g n (omega arith)))
    ∙ ap (λ zs. mark_of (counted_grade (grade_after g t n ys)) level ∷ zs) (row_same level t (n + 1) gs xs ys (λ file d after. same file d (omega arith)))

row_set : (level t n : ℕ) (grades : List (Option ℤ)) (xs ys : List Change) (k doc : ℕ) (m : Mark) → k < length grades → n + k ≡ doc → m ≡ mark_of (counted_grade (grade_after (get_or grades k None) t doc ys)) level →
    ((file : Option ℤ) (d : ℕ) → (doc ≡ d → ⊥) → grade_after file t d ys ≡ grade_after file t d xs) → set (row level t n grades xs) k m ≡ row level t n grades ys
row_set level t n [] xs ys k doc m lt here is same = absurd (omega arith)
row_set level t n (g ∷ gs) xs ys zero doc m lt here is same =
    let at : n ≡ doc = omega arith in
    ap (λ z. z ∷ row level t (n + 1) gs xs) (is ∙ ap (λ d. mark_of (counted_grade (grade_after g t d ys)) level) (sym at))
    ∙ ap (λ zs. mark_of (counted_grade (grade_after g t n ys)) level ∷ zs) (row_same level t (n + 1) gs xs ys (λ file d after. same file d (λ e. omega (arith, e, at, after))))
row_set level t n (g ∷ gs) xs ys (suc k) doc m lt here is same =
    ap (λ z. mark_of (counted_grade z) level ∷ set (row level t (n + 1) gs xs) k m) (sym (same g n (λ e. omega (arith, e, here))))
    ∙ ap (λ zs. mark_of (counted_grade (grade_after g t n ys)) level ∷ zs) (row_set level t (n + 1) gs xs ys k doc m (omega arith) (omega arith) is same)

module _ (s : Setting) where
  abbrev row_of : ℕ → List Change → List Mark
  row_of t changes = row s.level t 0 (book_at s.desk t).grades changes

  abbrev rows : ℕ → ℕ → List Change → List (List Mark)
  rows a n changes = map (λ grades. map (λ grade. mark_of grade s.level) grades) (map (λ t. grades_in_force s.desk t changes) (range_with_len a n))

  length-rows : (a n : ℕ) (changes : List Change) → length (rows a n changes) ≡ n
  length-rows a zero changes = refl
  length-rows a (suc n) changes = ap suc (length-rows (a + 1) n changes)

  row_at : (a n k t : ℕ) (changes : List Change) → k < n → a + k ≡ t → get_or (rows a n changes) k [] ≡ row_of t changes
  row_at a zero k t changes lt here = absurd (omega arith)
  row_at a (suc n) zero t changes lt here = let at : a ≡ t = omega arith in ap (λ x. row_of x changes) at
  row_at a (suc n) (suc k) t changes lt here = row_at (a + 1) n k t changes (omega arith) (omega arith)

  rows_same : (a n : ℕ) (xs ys : List Change) → ((t : ℕ) → a ≤ t → row_of t xs ≡ row_of t ys) → rows a n xs ≡ rows a n ys
  rows_same a zero xs ys same = refl
  rows_same a (suc n) xs ys same =
      ap (λ z. z ∷ rows (a + 1) n xs) (same a (omega arith)) ∙ ap (λ zs. row_of a ys ∷ zs) (rows_same (a + 1) n xs ys (λ t after. same t (omega arith)))

  rows_set : (a n k t : ℕ) (xs ys : List Change) (r : List Mark) → k < n → a + k ≡ t → r ≡ row_of t ys → ((u : ℕ) → (t ≡ u → ⊥) → row_of u xs ≡ row_of u ys) → set (rows a n xs) k r ≡ rows a n ys
  rows_set a zero k t xs ys r lt here is same = absurd (omega arith)
  rows_set a (suc n) zero t xs ys r lt here is same =
      let at : a ≡ t = omega arith in
      ap (λ z. z ∷ rows (a + 1) n xs) (is ∙ ap (λ x. row_of x ys) (sym at))
      ∙ ap (λ zs. row_of a ys ∷ zs) (rows_same (a + 1) n xs ys (λ u after. same u (λ e. omega (arith, e, at, after))))
  rows_set a (suc n) (suc k) t xs ys r lt here is same =
      ap (λ z. z ∷ set (rows (a + 1) n xs) k r) (same a (λ e. omega (arith, e, here)))
      ∙ ap (λ zs. row_of a ys ∷ zs) (rows_set (a + 1) n k t xs ys r (omega arith) (omega arith) is same)

  -- ---- how many marks there are
  length-graded : (changes : List Change) → length (graded_marks s changes) ≡ length s.desk.topics
  length-graded changes = length-rows 0 (length s.desk.topics) changes

  pub length-marks : (changes : List Change) → length (marks_after s changes) ≡ length s.desk.topics
  length-marks changes = length-closed s.desk s.depth (graded_marks s changes) ∙ length-graded changes

  graded : IsDesk s.desk → (t : ℕ) → t < length s.desk.topics → length (book_at s.desk t).grades ≡ length (book_at s.desk t).docs
  graded valid t lt = (valid.books t (record { name = []; docs = []; grades = [] }) lt).graded

  pub length-marks_at : IsDesk s.desk → (t : ℕ) (changes : List Change) → t < length s.desk.topics → length (get_or (marks_after s changes) t []) ≡ length (book_at s.desk t).docs
  length-marks_at valid t changes lt =
      docs-closed s.desk s.depth (graded_marks s changes) t ∙ ap length (row_at 0 (length s.desk.topics) t t changes lt (omega arith)) ∙ length-row s.level t 0 (book_at s.desk t).grades changes ∙ graded valid t lt

  -- ---- one mark set
  module _ (valid : IsDesk s.desk) (xs ys : List Change) (topic doc : ℕ) (in_topics : topic < length s.desk.topics) (in_docs : doc < length (book_at s.desk topic).docs)
      (same : (file : Option ℤ) (t d : ℕ) → (topic ≡ t → doc ≡ d → ⊥) → grade_after file t d ys ≡ grade_after file t d xs) where
    graded_set : set (graded_marks s xs) topic (set (get_or (graded_marks s xs) topic []) doc (mark_of (grade_in_force s.desk topic doc ys) s.level)) ≡ graded_marks s ys
    graded_set =
        let n = length s.desk.topics in
        let m = mark_of (grade_in_force s.desk topic doc ys) s.level in
        ap (λ r. set (rows 0 n xs) topic (set r doc m)) (row_at 0 n topic topic xs in_topics (omega arith))
        ∙ rows_set 0 n topic topic xs ys (set (row_of topic xs) doc m) in_topics (omega arith)
        (row_set s.level topic 0 (book_at s.desk topic).grades xs ys doc doc m (omega (arith, in_docs, graded valid topic in_topics)) (omega arith) refl (λ file d other. same file topic d (λ _ e. other e)))
        (λ u other. row_same s.level u 0 (book_at s.desk u).grades xs ys (λ file d _. same file u d (λ e _. other e)))

    pub marks_set : set (marks_after s xs) topic (set (get_or (marks_after s xs) topic []) doc (mark_within (grade_in_force s.desk topic doc ys) s.level (is_within s.desk s.depth topic doc))) ≡ marks_after s ys
    marks_set = sym (set-closed s.desk s.depth (graded_marks s xs) topic doc (mark_of (grade_in_force s.desk topic doc ys) s.level)) ∙ ap (closed_under s.desk s.depth) graded_set

    -- the same by the pools of the desk
    pub pooled_set : set (marks_after s xs) topic (set (get_or (marks_after s xs) topic []) doc (mark_within (grade_in_force s.desk topic doc ys) s.level (is_in_pools (pools_of s.desk s.depth) topic doc))) ≡ marks_after s ys
    pooled_set =
        ap (λ b. set (marks_after s xs) topic (set (get_or (marks_after s xs) topic []) doc (mark_within (grade_in_force s.desk topic doc ys) s.level b)))
        (pools_say s.desk s.depth topic doc (book_at s.desk topic) (slice_get-get_or s.desk.topics topic (record { name = []; docs = []; grades = [] }) in_topics) in_docs) ∙ marks_set

-- ---- the marks of a desk
zip_at : {A B : Type 0} (R : A → B → Type 0) (d : A) (e : B) (xs : List A) (ys : List B) → length ys ≡ length xs → ((i : ℕ) → i < length xs → R (get_or xs i d) (get_or ys i e)) → AllZip R xs ys
zip_at R d e [] [] same each = tt
zip_at R d e [] (y ∷ ys) same each = absurd (omega arith)
zip_at R d e (x ∷ xs) [] same each = absurd (omega arith)
zip_at R d e (x ∷ xs) (y ∷ ys) same each = (each 0 (omega arith), zip_at R d e xs ys (omega arith) (λ i lt. each (suc i) (omega arith)))

pub marks_of_desk : (s : Setting) (changes : List Change) → IsDesk s.desk → AreMarksOf s.desk (marks_after s changes)
marks_of_desk s changes valid =
    zip_at (λ (book : Book) (topic : List Mark). length topic ≡ length book.docs) (record { name = []; docs = []; grades = [] }) [] s.desk.topics (marks_after s changes) (length-marks s changes)
    (λ t lt. length-marks_at s valid t changes lt)

-- ---- no changes
pub mark_counted : (level : ℕ) (grade : Option ℤ) → mark_of (counted_grade grade) level ≡ mark_of grade level
mark_counted level None = refl
mark_counted level (Some (pos n)) = refl
mark_counted level (Some (negsuc n)) = refl

row_none : (level t n : ℕ) (grades : List (Option ℤ)) → row level t n grades [] ≡ map (λ grade. mark_of grade level) grades
row_none level t n [] = refl
row_none level t n (g ∷ gs) = ap (λ z. z ∷ row level t (n + 1) gs []) (mark_counted level g) ∙ ap (λ zs. mark_of g level ∷ zs) (row_none level t (n + 1) gs)

graded_at_start : (s : Setting) → map (file_marks s.level) s.desk.topics ≡ graded_marks s []
graded_at_start s =
    let topics = s.desk.topics in
    let none : Book = record { name = []; docs = []; grades = [] } in
    ext_get_or [] (map (file_marks s.level) topics) (graded_marks s []) (length-map topics (file_marks s.level) ∙ sym (length-graded s []))
    (λ t lt.
    let here : t < length topics = omega (arith, lt, length-map topics (file_marks s.level)) in
    get_or-map (file_marks s.level) topics t none [] here ∙ sym (row_none s.level t 0 (book_at s.desk t).grades) ∙ sym (row_at s 0 (length topics) t t [] here (omega arith)))

pub marks_at_start : (s : Setting) → closed_under s.desk s.depth (map (file_marks s.level) s.desk.topics) ≡ marks_after s []
marks_at_start s = ap (closed_under s.desk s.depth) (graded_at_start s)

-- ---- the grades in force of a topic
length-forced : (t n : ℕ) (grades : List (Option ℤ)) (changes : List Change) → length (map (λ p. counted_grade (grade_after p.1 t p.0 changes)) (enumerate_from n grades)) ≡ length grades
length-forced t n [] changes = refl
length-forced t n (g ∷ gs) changes = ap suc (length-forced t (n + 1) gs changes)

pub length-in_force : (desk : Desk) → IsDesk desk → (t : ℕ) (changes : List Change) → t < length desk.topics → length (grades_in_force desk t changes) ≡ length (book_at desk t).docs
length-in_force desk valid t changes lt = length-forced t 0 (book_at desk t).grades changes ∙ (valid.books t (record { name = []; docs = []; grades = [] }) lt).graded
