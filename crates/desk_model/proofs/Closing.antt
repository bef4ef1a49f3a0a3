-- What a depth closes.
use Rattle.std.proofs.Common.{◌≡◌, ℕ, zero, suc, ◌+◌, Bool, true, false, List, [], ◌∷◌, map, length, get_or, set, take, slice_get, Option, Some, None, refl, ap, sym, subst, ◌∙◌, arith}
use Rattle.std.specs.List.{AllZip, list_any, enumerate_from}
use Rattle.desk_model.specs.Book.{Book}
use Rattle.desk_model.specs.Desk.{Desk, AreMarksOf, is_pooled}
use Rattle.desk_model.specs.Ranking.{is_in}
use Rattle.desk_model.specs.declared.types.Mark.{Mark}
use Rattle.desk_model.specs.declared.types.Mark.TheVariants.{Unjudged, Relevant, Other}
use Rattle.desk_model.specs.Closing.{closed, closed_topic, closed_under, is_within}
use Rattle.desk_model.proofs.Numbered.{length-numbered, from_0-get, from_0-set, numbered-same, zipped-numbered}

-- ---- a topic
pub length-closed_topic : (pooled : ℕ → Bool) (ms : List Mark) → length (closed_topic pooled ms) ≡ length ms
length-closed_topic pooled ms = length-numbered (λ doc mark. closed (pooled doc) mark) 0 ms

pub set-closed_topic : (pooled : ℕ → Bool) (ms : List Mark) (doc : ℕ) (mark : Mark) → closed_topic pooled (set ms doc mark) ≡ set (closed_topic pooled ms) doc (closed (pooled doc) mark)
set-closed_topic pooled ms doc mark = from_0-set (λ d m. closed (pooled d) m) ms doc mark

same-closed_topic : (p q : ℕ → Bool) (ms : List Mark) → ((doc : ℕ) → p doc ≡ q doc) → closed_topic p ms ≡ closed_topic q ms
same-closed_topic p q ms h = numbered-same (λ d m. closed (p d) m) (λ d m. closed (q d) m) 0 ms (λ d m. ap (λ b. closed b m) (h d))

-- ---- all topics
pub length-closed : (desk : Desk) (depth : Option ℕ) (marks : List (List Mark)) → length (closed_under desk depth marks) ≡ length marks
length-closed desk None marks = refl
length-closed desk (Some depth) marks = length-numbered (λ t ms. closed_topic (is_pooled desk t depth) ms) 0 marks

-- the topic's marks under the depth
pub topic-closed : (desk : Desk) (depth : ℕ) (marks : List (List Mark)) (topic : ℕ) → get_or (closed_under desk (Some depth) marks) topic [] ≡ closed_topic (is_pooled desk topic depth) (get_or marks topic [])
topic-closed desk depth marks topic = from_0-get (λ t ms. closed_topic (is_pooled desk t depth) ms) marks topic [] [] (λ t. refl)

pub docs-closed : (desk : Desk) (depth : Option ℕ) (marks : List (List Mark)) (topic : ℕ) → length (get_or (closed_under desk depth marks) topic []) ≡ length (get_or marks topic [])
docs-closed desk None marks topic = refl
docs-closed desk (Some depth) marks topic = ap length (topic-closed desk depth marks topic) ∙ length-closed_topic (is_pooled desk topic depth) (get_or marks topic [])

zipped-lengths : (books : List Book) (xs ys : List (List Mark)) → AllZip (λ (b : Book) (ms : List Mark). length ms ≡ length b.docs) books xs → AllZip (λ (ms ns : List Mark). length ns ≡ length ms) xs ys → AllZip (λ (b : Book) (ms : List Mark). length ms ≡ length b.docs) books ys
zipped-lengths [] [] [] h k = tt
zipped-lengths [] [] (y ∷ ys) h k = absurd k
zipped-lengths [] (x ∷ xs) ys h k = absurd h
zipped-lengths (b ∷ bs) [] ys h k = absurd h
zipped-lengths (b ∷ bs) (x ∷ xs) [] h k = absurd k
zipped-lengths (b ∷ bs) (x ∷ xs) (y ∷ ys) h k = (k.0 ∙ h.0, zipped-lengths bs xs ys h.1 k.1)

pub marks-closed : (desk other : Desk) (depth : Option ℕ) (marks : List (List Mark)) → AreMarksOf desk marks → AreMarksOf desk (closed_under other depth marks)
marks-closed desk other None marks h = h
marks-closed desk other (Some depth) marks h =
    zipped-lengths desk.topics marks (closed_under other (Some depth) marks) h
    (zipped-numbered (λ (ms ns : List Mark). length ns ≡ length ms) (λ t ms. closed_topic (is_pooled other t depth) ms) 0 marks (λ t ms. length-closed_topic (is_pooled other t depth) ms))

-- one mark
pub set-closed : (desk : Desk) (depth : Option ℕ) (marks : List (List Mark)) (topic doc : ℕ) (mark : Mark) →
    closed_under desk depth (set marks topic (set (get_or marks topic []) doc mark))
    ≡ set (closed_under desk depth marks) topic (set (get_or (closed_under desk depth marks) topic []) doc (closed (is_within desk depth topic doc) mark))
set-closed desk None marks topic doc mark = refl
set-closed desk (Some depth) marks topic doc mark =
    let pooled = is_pooled desk topic depth in
    from_0-set (λ t ms. closed_topic (is_pooled desk t depth) ms) marks topic (set (get_or marks topic []) doc mark)
    ∙ ap (set (closed_under desk (Some depth) marks) topic) (set-closed_topic pooled (get_or marks topic []) doc mark ∙ ap (λ ms. set ms doc (closed (pooled doc) mark)) (sym (topic-closed desk depth marks topic)))

-- the rankings alone
pub closed-by_rankings : (desk other : Desk) (depth : Option ℕ) (marks : List (List Mark)) → other.rankings ≡ desk.rankings → closed_under other depth marks ≡ closed_under desk depth marks
closed-by_rankings desk other None marks h = refl
closed-by_rankings desk other (Some depth) marks h =
    numbered-same (λ t ms. closed_topic (is_pooled other t depth) ms) (λ t ms. closed_topic (is_pooled desk t depth) ms) 0 marks (λ t ms.
    same-closed_topic (is_pooled other t depth) (is_pooled desk t depth) ms (λ doc.
    ap (list_any (λ rankings. is_in (take depth (get_or rankings t [])) doc)) h))

-- ---- what stays open
open-closed : (b : Bool) (m : Mark) → closed b m ≡ Unjudged → (b ≡ true) × (m ≡ Unjudged)
open-closed true m h = (refl, h)
open-closed false Unjudged h = absurd (cc)
open-closed false Relevant h = absurd (cc)
open-closed false Other h = absurd (cc)

open-from : (p : ℕ → Bool) (n : ℕ) (ms : List Mark) (doc : ℕ) → slice_get (map (λ q. closed (p q.0) q.1) (enumerate_from n ms)) doc ≡ Some Unjudged → (p (n + doc) ≡ true) × (slice_get ms doc ≡ Some Unjudged)
open-from p n [] doc h = absurd (cc)
open-from p n (m ∷ ms) zero h =
    let here : closed (p n) m ≡ Unjudged = cc in
    let both = open-closed (p n) m here in
    let k : n ≡ n + 0 = omega arith in
    (subst (λ j. p j ≡ true) k both.0, ap Some both.1)
open-from p n (m ∷ ms) (suc doc) h =
    let both = open-from p (n + 1) ms doc h in
    let k : n + 1 + doc ≡ n + suc doc = omega arith in
    (subst (λ j. p j ≡ true) k both.0, both.1)

pub open-pooled : (desk : Desk) (depth : Option ℕ) (marks : List (List Mark)) (topic doc : ℕ) → slice_get (get_or (closed_under desk depth marks) topic []) doc ≡ Some Unjudged →
    (is_within desk depth topic doc ≡ true) × (slice_get (get_or marks topic []) doc ≡ Some Unjudged)
open-pooled desk None marks topic doc h = (refl, h)
open-pooled desk (Some depth) marks topic doc h =
    let both = open-from (is_pooled desk topic depth) 0 (get_or marks topic []) doc (ap (λ ms. slice_get ms doc) (sym (topic-closed desk depth marks topic)) ∙ h) in
    let k : 0 + doc ≡ doc = omega arith in
    (ap (is_pooled desk topic depth) (sym k) ∙ both.0, both.1)
