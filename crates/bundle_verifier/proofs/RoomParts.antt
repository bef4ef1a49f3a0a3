-- What a room holds for each topic, as it is made topic by topic.
use Rattle.std.proofs.Common.{◌≡◌, ℕ, zero, suc, List, [], ◌∷◌, ◌++◌, length, Option, Some, ap, ◌∙◌, sym, subst}
use Rattle.std.specs.Prelude.{slice_get}
use Rattle.desk_model.specs.Book.{Book}
use Rattle.desk_model.specs.Desk.{Desk}
use Rattle.desk_model.specs.declared.types.Mark.{Mark}
use Rattle.order_bundle.specs.declared.bundle.TopicNames.{TopicNames}
use Rattle.topic_ends.specs.Counted.{AreAllCounts, AreCountsOf}
use Rattle.order_verifier.specs.Rows.{numbers_of}
use Rattle.topic_ends.specs.declared.counts.RelevantCounts.{RelevantCounts}
use Rattle.bundle_verifier.specs.Rows.{AreNumbersOf}

one_item : {X : Type 0} {x y : X} → Some x ≡ Some y → x ≡ y
one_item p = cc

-- what holds of each item of a list, and of the next one
pushed : {X : Type 0} (P : ℕ → X → Type 0) (xs : List X) (x : X) → ((i : ℕ) (y : X) → slice_get xs i ≡ Some y → P i y) → P (length xs) x → (i : ℕ) (y : X) → slice_get (xs ++ x ∷ []) i ≡ Some y → P i y
pushed P [] x h k zero y e = subst (P 0) (one_item e) k
pushed P [] x h k (suc i) y e = absurd (cc)
pushed P (z ∷ zs) x h k zero y e = h 0 y e
pushed P (z ∷ zs) x h k (suc i) y e = pushed (λ n. P (suc n)) zs x (λ n w f. h (suc n) w f) k i y e

pub numbers_more : (desk : Desk) (topics : List TopicNames) (numbers : List (List (Option ℕ))) (next : List (Option ℕ)) (book : Book) (names : TopicNames) → AreNumbersOf desk topics numbers → slice_get desk.topics (length numbers) ≡ Some book →
    slice_get topics (length numbers) ≡ Some names → next ≡ numbers_of book.docs names.docs → AreNumbersOf desk topics (numbers ++ next ∷ [])
numbers_more desk topics numbers next book names h eb en e = λ topic b t ns fb ft there.
    pushed (λ i m. (b : Book) (t : TopicNames) → slice_get desk.topics i ≡ Some b → slice_get topics i ≡ Some t → m ≡ numbers_of b.docs t.docs) numbers next (λ i m at b t fb ft. h i b t m fb ft at)
    (λ b t fb ft. e ∙ ap (λ (x : Book). numbers_of x.docs names.docs) (one_item (sym eb ∙ fb)) ∙ ap (λ (x : TopicNames). numbers_of b.docs x.docs) (one_item (sym en ∙ ft))) topic ns there b t fb ft

pub counts_more : (marks : List (List Mark)) (counts : List RelevantCounts) (next : RelevantCounts) (here : List Mark) → AreCountsOf marks counts → slice_get marks (length counts) ≡ Some here → AreAllCounts here next → AreCountsOf marks (counts ++ next ∷ [])
counts_more marks counts next here h em e = λ topic m c fm there.
    pushed (λ i d. (m : List Mark) → slice_get marks i ≡ Some m → AreAllCounts m d) counts next (λ i d at m fm. h i m d fm at) (λ m fm. subst (λ x. AreAllCounts x next) (one_item (sym em ∙ fm)) e) topic c there m fm
