-- Picks that are written one after another ascend.
use Rattle.std.proofs.Common.{◌≡◌, ℕ, zero, suc, ◌+◌, ◌<◌, ◌≤◌, List, [], ◌∷◌, length, ap, sym, subst, arith, Some}
use Rattle.std.specs.Prelude.{slice_get, slice_index}
use Rattle.std.specs.List.{AllByRecursion, AllZip}
use Rattle.std.specs.List.Sorted.{IsStrictlyIncreasing}
use Rattle.line_forms.specs.Rows.{AllFollow}
use Rattle.order_bundle.specs.Bundle.{ArePicks, ArePicksOn}
use Rattle.order_bundle.specs.Places.{IsPick, doc_count, docs_of}
use Rattle.order_bundle.specs.declared.bundle.Picks.{Picks}
use Rattle.order_bundle.specs.declared.bundle.TopicNames.{TopicNames}

-- each number is at least one more than the one before it
abbrev pub next_pick : ℕ → ℕ → ℕ
next_pick _ k = suc k

rise : (docs least : ℕ) (ks : List ℕ) → AllFollow next_pick (IsPick docs) least ks → IsStrictlyIncreasing ks
rise docs least [] h i lt = absurd (omega arith)
rise docs least (k ∷ []) h i lt = absurd (omega arith)
rise docs least (k ∷ j ∷ js) h zero lt = let from = h.1.0.0 in omega arith
rise docs least (k ∷ j ∷ js) h (suc i) lt =
    let later : slice_index (j ∷ js) i < slice_index (j ∷ js) (i + 1) = rise docs (suc k) (j ∷ js) h.1 i (omega arith) in
    let n : suc (i + 1) ≡ suc i + 1 = omega arith in
    subst (λ z. slice_index (j ∷ js) i < slice_index (k ∷ j ∷ js) z) n later

all_below : (docs least : ℕ) (ks : List ℕ) → AllFollow next_pick (IsPick docs) least ks → AllByRecursion (λ k. k < docs) ks
all_below docs least [] h = tt
all_below docs least (k ∷ ks) h = (h.0.1, all_below docs (suc k) ks h.1)

pub follow_picks : (docs : ℕ) (ks : List ℕ) → AllFollow next_pick (IsPick docs) 0 ks → IsStrictlyIncreasing ks × AllByRecursion (λ k. k < docs) ks
follow_picks docs ks h = (rise docs 0 ks h, all_below docs 0 ks h)

-- the first number is at least this
abbrev pub BeginsFrom : ℕ → List ℕ → Type 0
BeginsFrom least [] = Unit {0}
BeginsFrom least (k ∷ ks) = least ≤ k

pub second : (k : ℕ) (ks : List ℕ) → IsStrictlyIncreasing (k ∷ ks) → BeginsFrom (suc k) ks
second k [] h = tt
second k (j ∷ js) h = let lt : k < j = h 0 (omega arith) in omega arith

pub later_rise : (k : ℕ) (ks : List ℕ) → IsStrictlyIncreasing (k ∷ ks) → IsStrictlyIncreasing ks
later_rise k ks h i lt =
    let n : suc i + 1 ≡ suc (i + 1) = omega arith in
    subst (λ z. slice_index ks i < slice_index (k ∷ ks) z) n (h (suc i) (omega arith))

from_least : (docs least : ℕ) (ks : List ℕ) → BeginsFrom least ks → IsStrictlyIncreasing ks → AllByRecursion (λ k. k < docs) ks → AllFollow next_pick (IsPick docs) least ks
from_least docs least [] from up below = tt
from_least docs least (k ∷ ks) from up below = ((from, below.0), from_least docs (suc k) ks (second k ks up) (later_rise k ks up) below.1)

any_first : (ks : List ℕ) → BeginsFrom 0 ks
any_first [] = tt
any_first (k ∷ ks) = omega arith

pub picks_follow : (docs : ℕ) (ks : List ℕ) → IsStrictlyIncreasing ks → AllByRecursion (λ k. k < docs) ks → AllFollow next_pick (IsPick docs) 0 ks
picks_follow docs ks up below = from_least docs 0 ks (any_first ks) up below

-- ---- topic by topic
abbrev pub next_topic : ℕ → Picks → ℕ
next_topic t _ = suc t

-- both lists pick documents of the topic with a number
abbrev pub ArePicksOf : List TopicNames → ℕ → Picks → Type 0
ArePicksOf topics t p = ArePicks (doc_count topics t) p.low × ArePicks (doc_count topics t) p.high

-- topics are those of a list from a number on
abbrev StandFrom : List TopicNames → ℕ → List TopicNames → Type 0
StandFrom all k ts = (i : ℕ) → slice_get all (k + i) ≡ slice_get ts i

count_at : (all : List TopicNames) (k : ℕ) (t : TopicNames) (ts : List TopicNames) → StandFrom all k (t ∷ ts) → doc_count all k ≡ length t.docs
count_at all k t ts h = let n : k + 0 ≡ k = omega arith in ap docs_of (subst (λ z. slice_get all z ≡ Some t) n (h 0))

stand_later : (all : List TopicNames) (k : ℕ) (t : TopicNames) (ts : List TopicNames) → StandFrom all k (t ∷ ts) → StandFrom all (suc k) ts
stand_later all k t ts h i = let n : k + suc i ≡ suc k + i = omega arith in subst (λ z. slice_get all z ≡ slice_get ts i) n (h (suc i))

zip_from : (all : List TopicNames) (k : ℕ) (ts : List TopicNames) (ps : List Picks) → StandFrom all k ts → length ps ≡ length ts → AllFollow next_topic (ArePicksOf all) k ps → AllZip ArePicksOn ps ts
zip_from all k [] [] h e f = tt
zip_from all k (t ∷ ts) [] h e f = absurd (omega (arith, e))
zip_from all k [] (p ∷ ps) h e f = absurd (omega (arith, e))
zip_from all k (t ∷ ts) (p ∷ ps) h e f =
    (subst (λ n. ArePicks n p.low × ArePicks n p.high) (count_at all k t ts h) f.0, zip_from all (suc k) ts ps (stand_later all k t ts h) (omega (arith, e)) f.1)

follow_from : (all : List TopicNames) (k : ℕ) (ts : List TopicNames) (ps : List Picks) → StandFrom all k ts → AllZip ArePicksOn ps ts → AllFollow next_topic (ArePicksOf all) k ps
follow_from all k [] [] h z = tt
follow_from all k (t ∷ ts) [] h z = absurd z
follow_from all k [] (p ∷ ps) h z = absurd z
follow_from all k (t ∷ ts) (p ∷ ps) h z =
    (subst (λ n. ArePicks n p.low × ArePicks n p.high) (sym (count_at all k t ts h)) z.0, follow_from all (suc k) ts ps (stand_later all k t ts h) z.1)

all_stand : (topics : List TopicNames) → StandFrom topics 0 topics
all_stand topics i = let n : i ≡ 0 + i = omega arith in ap (slice_get topics) (sym n)

pub zip_of_follow : (topics : List TopicNames) (ps : List Picks) → length ps ≡ length topics → AllFollow next_topic (ArePicksOf topics) 0 ps → AllZip ArePicksOn ps topics
zip_of_follow topics ps = zip_from topics 0 topics ps (all_stand topics)

pub follow_of_zip : (topics : List TopicNames) (ps : List Picks) → AllZip ArePicksOn ps topics → AllFollow next_topic (ArePicksOf topics) 0 ps
follow_of_zip topics ps = follow_from topics 0 topics ps (all_stand topics)
