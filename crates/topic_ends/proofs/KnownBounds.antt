-- The bounds of the runs of a desk, as they are made run by run and topic by topic.
use Rattle.std.proofs.Common.{◌≡◌, ℕ, zero, suc, List, [], ◌∷◌, ◌++◌, length, Some, subst, sym, ◌∙◌}
use Rattle.std.specs.Prelude.{slice_get}
use Rattle.desk_model.specs.Desk.{Desk, ranking_of}
use Rattle.desk_model.specs.declared.types.Mark.{Mark}
use Rattle.topic_ends.specs.RunBounds.{AreBoundsOf, AreBoundsOn, AreRunBounds}
use Rattle.topic_ends.specs.declared.run_bound.RunBounds.{RunBounds}

one_item : {X : Type 0} {x y : X} → Some x ≡ Some y → x ≡ y
one_item p = cc

-- what holds of each item of a list, and of the next one
pushed : {X : Type 0} (P : ℕ → X → Type 0) (xs : List X) (x : X) → ((i : ℕ) (y : X) → slice_get xs i ≡ Some y → P i y) → P (length xs) x → (i : ℕ) (y : X) → slice_get (xs ++ x ∷ []) i ≡ Some y → P i y
pushed P [] x h k zero y e = subst (P 0) (one_item e) k
pushed P [] x h k (suc i) y e = absurd (cc)
pushed P (z ∷ zs) x h k zero y e = h 0 y e
pushed P (z ∷ zs) x h k (suc i) y e = pushed (λ n. P (suc n)) zs x (λ n w f. h (suc n) w f) k i y e

pub runs_more : (desk : Desk) (topic : ℕ) (marks : List Mark) (row : List RunBounds) (next : RunBounds) → AreBoundsOn desk topic marks row → AreRunBounds marks (ranking_of desk (length row) topic) next → AreBoundsOn desk topic marks (row ++ next ∷ [])
runs_more desk topic marks row next h k = pushed (λ run bounds. AreRunBounds marks (ranking_of desk run topic) bounds) row next h k

pub topics_more : (desk : Desk) (marks : List (List Mark)) (rows : List (List RunBounds)) (next : List RunBounds) → AreBoundsOf desk marks rows → ((m : List Mark) → slice_get marks (length rows) ≡ Some m → AreBoundsOn desk (length rows) m next) →
    AreBoundsOf desk marks (rows ++ next ∷ [])
topics_more desk marks rows next h k = λ topic m row em there.
    pushed (λ t r. (each : List Mark) → slice_get marks t ≡ Some each → AreBoundsOn desk t each r) rows next (λ t r at each e. h t each r e at) k topic row there m em

-- the marks of a topic are one list
pub same_row : (desk : Desk) (marks : List (List Mark)) (topic : ℕ) (own m : List Mark) (row : List RunBounds) → slice_get marks topic ≡ Some own → slice_get marks topic ≡ Some m → AreBoundsOn desk topic own row → AreBoundsOn desk topic m row
same_row desk marks topic own m row e f h = subst (λ (x : List Mark). AreBoundsOn desk topic x row) (one_item (sym e ∙ f)) h

pub none_known : (desk : Desk) (marks : List (List Mark)) → AreBoundsOf desk marks []
none_known desk marks = λ topic m row e there. absurd (cc)
