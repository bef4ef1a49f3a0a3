-- The calls of a shelf and the reads of a source.
use Rattle.std.proofs.Common.{◌≡◌, ℕ, ◌+◌, ◌<◌, List, [], ◌∷◌, ◌++◌, refl, ap, ◌∙◌, arith, append-nil}
use Rattle.std.specs.List.{AllByRecursion}
use Rattle.std.proofs.lemmas.List.Sums.{sum_by-append}
use Rattle.desk_outside.specs.Calls.{ShelfCall, Opening, Reading, opened_in, given_by, GivesSome, GiveInAll}
use Rattle.desk_outside.specs.declared.log.ReadCall.{ReadCall}
use Rattle.desk_outside.specs.declared.log.ReadCall.TheVariants.{Gave}

-- ---- the names that were opened
pub opened_in-append : (xs ys : List ShelfCall) → opened_in (xs ++ ys) ≡ opened_in xs ++ opened_in ys
opened_in-append [] ys = refl
opened_in-append (Opening name ∷ xs) ys = ap (λ names. name ∷ names) (opened_in-append xs ys)
opened_in-append (Reading read ∷ xs) ys = opened_in-append xs ys

pub opening_is_added : (had has : List ShelfCall) (name : List ℕ) → has ≡ had ++ Opening name ∷ [] → opened_in has ≡ opened_in had ++ name ∷ []
opening_is_added had has name e = ap opened_in e ∙ opened_in-append had (Opening name ∷ [])

pub reading_opens_nothing : (had has : List ShelfCall) (read : ReadCall) → has ≡ had ++ Reading read ∷ [] → opened_in has ≡ opened_in had
reading_opens_nothing had has read e = ap opened_in e ∙ opened_in-append had (Reading read ∷ []) ∙ append-nil (opened_in had)

-- ---- reads that give bytes
pub give_nothing : GiveInAll [] 0
give_nothing = record { each = tt; total_is = refl }

each_more : (reads : List ReadCall) (count : ℕ) → AllByRecursion GivesSome reads → 0 < count → AllByRecursion GivesSome (reads ++ Gave count ∷ [])
each_more [] count each some = (some, tt)
each_more (read ∷ reads) count each some = (each.0, each_more reads count each.1 some)

pub give_more : (reads : List ReadCall) (total count : ℕ) → GiveInAll reads total → 0 < count → GiveInAll (reads ++ Gave count ∷ []) (total + count)
give_more reads total count gives some = record { each = each_more reads count gives.each some; total_is = sum_by-append given_by reads (Gave count ∷ []) ∙ omega (arith, gives.total_is) }
