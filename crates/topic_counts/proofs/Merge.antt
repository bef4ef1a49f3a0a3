-- One step of the walk over two lists that ascend by document.
use Rattle.std.proofs.Common.{◌≡◌, ℕ, ◌<◌, ◌≤◌, List, [], ◌∷◌, Some, None, arith, refl, ap, ◌∙◌, sym}
use Rattle.std.specs.Prelude.{if◌then◌else◌}
use Rattle.std.specs.List.{AllByRecursion}
use Rattle.std.proofs.lemmas.Bool.{eq-eqb}
use Rattle.small_lemmas.proofs.Tests.{apart_below, apart_over}
use Rattle.desk_model.specs.Placed.{lookup, IsAscending}
use Rattle.topic_counts.specs.Pairs.{after, Taken}
use Rattle.desk_model.specs.declared.placed.Placed.{Placed}

-- a document before all of a list has no rank there
pub absent_below : (d : ℕ) (es : List Placed) → AllByRecursion (λ (e : Placed). d < e.doc) es → lookup es d ≡ None
absent_below d [] h = refl
absent_below d (e ∷ es) h = ap (λ b. if b then Some e.rank else lookup es d) (apart_over e.doc d h.0) ∙ absent_below d es h.1

pub further : (d c : ℕ) (es : List Placed) → d ≤ c → AllByRecursion (λ (e : Placed). c < e.doc) es → AllByRecursion (λ (e : Placed). d < e.doc) es
further d c [] h k = tt
further d c (e ∷ es) h k = (omega (arith, k.0), further d c es h k.1)

pub taken_head : (x : Placed) (xs : List Placed) → IsAscending (x ∷ xs) → Taken (x ∷ xs) x.doc (Some x.rank)
taken_head x xs h =
    let same = eq-eqb x.doc x.doc refl in
    let shorter : after (x ∷ xs) x.doc ≡ xs = ap (λ b. if b then xs else x ∷ xs) same in
    record {
      here = sym (ap (λ b. if b then Some x.rank else lookup xs x.doc) same);
      below = λ d lt. ap (λ b. if b then Some x.rank else lookup xs d) (apart_over x.doc d lt) ∙ absent_below d xs (further d x.doc xs (omega arith) h.0);
      above = λ d lt. ap (λ (es : List Placed). lookup es d) shorter ∙ sym (ap (λ b. if b then Some x.rank else lookup xs d) (apart_below x.doc d lt));
      rest = rw shorter h.0;
      ascending = rw shorter h.1;
    }

-- a list all of which comes later
pub taken_none : (es : List Placed) (doc : ℕ) → AllByRecursion (λ (e : Placed). doc < e.doc) es → IsAscending es → Taken es doc None
taken_none [] doc later h = record { here = refl; below = λ d lt. refl; above = λ d lt. refl; rest = tt; ascending = tt }
taken_none (x ∷ xs) doc later h =
    let whole : after (x ∷ xs) doc ≡ x ∷ xs = ap (λ b. if b then xs else x ∷ xs) (apart_over x.doc doc later.0) in
    record {
      here = sym (absent_below doc (x ∷ xs) later);
      below = λ d lt. absent_below d (x ∷ xs) (further d doc (x ∷ xs) (omega arith) later);
      above = λ d lt. ap (λ (es : List Placed). lookup es d) whole;
      rest = rw whole later;
      ascending = rw whole h;
    }
