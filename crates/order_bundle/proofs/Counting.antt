-- How long texts are, counted row by row.
use Rattle.std.proofs.Common.{◌≡◌, ℕ, ◌+◌, ◌<◌, ◌≤◌, List, [], ◌∷◌, ◌++◌, length, drop, get_or, map, flat_map, ap, ◌∙◌, arith, length-append}
use Rattle.std.specs.List.{All, AllByRecursion, AllZip}
use Rattle.std.proofs.lemmas.List.{drop_all}
use Rattle.std.proofs.lemmas.List.Elements.{All-from_recursion, recursion_from_All}
use Rattle.std.proofs.lemmas.Slice.Zip.{AllZip-long}
use Rattle.line_forms.specs.Form.{ended, text_of}
use Rattle.line_forms.specs.Rows.{AllFollow}
use Rattle.line_forms.proofs.Joins.{next_and_rest, text_of-append}
use Rattle.order_certificate.specs.Certificate.{AreDocuments}
use Rattle.desk_model.specs.Limits.{TOPIC_LIMIT}
use Rattle.order_bundle.specs.Bundle.{AreClaims, ArePicksOn, AreTopicNames, IsClaimAfter, IsEvidenceOn, last_pair, number_line}
use Rattle.order_bundle.specs.Lengths.{AreFewLists, AreFewRows, HasFewDocuments, HasFewRows, text_length}
use Rattle.order_bundle.specs.declared.bundle.PairClaim.{PairClaim}
use Rattle.order_bundle.specs.declared.bundle.PairEvidence.{PairEvidence}
use Rattle.order_bundle.specs.declared.bundle.PairEvidence.TheVariants.{Above, Equal, Open}
use Rattle.order_bundle.specs.declared.bundle.Picks.{Picks}
use Rattle.order_bundle.specs.declared.bundle.TopicNames.{TopicNames}
use Rattle.order_bundle.specs.declared.places.UnorderedPair.{UnorderedPair}
use Rattle.std.specs.Prelude.{Option, None, decimal}
use Rattle.std.proofs.lemmas.List.{length-map}

pub one_more_line : (l : List ℕ) (ls : List (List ℕ)) → text_length (l ∷ ls) ≡ length l + 1 + text_length ls
one_more_line l ls = omega (arith, length-append (ended l) (text_of ls), length-append l (10 ∷ []))

pub more_lines : (ls ms : List (List ℕ)) → text_length (ls ++ ms) ≡ text_length ls + text_length ms
more_lines ls ms = ap length (text_of-append ls ms) ∙ length-append (text_of ls) (text_of ms)

-- what is counted and what is left to count are all: one more row
pub rows_counted : {V : Type 0} (lines_of : V → List (List ℕ)) (total n whole : ℕ) (vs : List V) (i : ℕ) (v : V) → i < length vs → v ≡ get_or vs i v →
    total + text_length (flat_map lines_of (drop i vs)) ≡ whole → n ≡ text_length (lines_of v) → (total + n) + text_length (flat_map lines_of (drop (i + 1) vs)) ≡ whole
rows_counted lines_of total n whole vs i v lt is all e =
    let rest = flat_map lines_of (drop (i + 1) vs) in
    let here : text_length (flat_map lines_of (drop i vs)) ≡ text_length (lines_of v) + text_length rest = ap (λ ws. text_length (flat_map lines_of ws)) (next_and_rest vs i v lt is) ∙ more_lines (lines_of v) rest in
    omega (arith, all, e, here)

pub lines_counted : {V : Type 0} (line_of : V → List ℕ) (total n whole : ℕ) (vs : List V) (i : ℕ) (v : V) → i < length vs → v ≡ get_or vs i v →
    total + text_length (map line_of (drop i vs)) ≡ whole → n ≡ length (line_of v) + 1 → (total + n) + text_length (map line_of (drop (i + 1) vs)) ≡ whole
lines_counted line_of total n whole vs i v lt is all e =
    let rest = map line_of (drop (i + 1) vs) in
    let here : text_length (map line_of (drop i vs)) ≡ length (line_of v) + 1 + text_length rest = ap (λ ws. text_length (map line_of ws)) (next_and_rest vs i v lt is) ∙ one_more_line (line_of v) rest in
    omega (arith, all, e, here)

-- nothing is left to count
pub all_counted : {V : Type 0} (lines : List V → List (List ℕ)) (total whole : ℕ) (vs : List V) (i : ℕ) → lines [] ≡ [] → length vs ≤ i → total + text_length (lines (drop i vs)) ≡ whole → total ≡ whole
all_counted lines total whole vs i none le all =
    let left : text_length (lines (drop i vs)) ≡ 0 = ap (λ ws. text_length (lines ws)) (drop_all i vs le) ∙ ap text_length none in
    omega (arith, all, left)

-- ---- the parts of a bundle are few enough
few_topics : (ts : List TopicNames) → AllByRecursion (λ (t : TopicNames). AreDocuments t.docs) ts → AllByRecursion HasFewDocuments ts
few_topics [] h = tt
few_topics (t ∷ ts) h = (h.0.count, few_topics ts h.1)

pub topics_have_few : (ts : List TopicNames) → AreTopicNames ts → All HasFewDocuments ts
topics_have_few ts are = All-from_recursion HasFewDocuments ts (few_topics ts (recursion_from_All (λ (t : TopicNames). AreDocuments t.docs) ts are.docs))

pub topics_are_few : (ts : List TopicNames) → AreTopicNames ts → length ts ≤ TOPIC_LIMIT
topics_are_few ts are = omega (arith, length-map ts (λ (t : TopicNames). t.topic), are.names.count)

few_lists : (topics : List TopicNames) (ps : List Picks) → AllZip ArePicksOn ps topics → AllByRecursion AreFewLists ps
few_lists [] [] h = tt
few_lists (t ∷ ts) [] h = tt
few_lists [] (p ∷ ps) h = absurd h
few_lists (t ∷ ts) (p ∷ ps) h = ((h.0.0.count, h.0.1.count), few_lists ts ps h.1)

few_rows : (topics : List TopicNames) (e : PairEvidence) → length topics ≤ TOPIC_LIMIT → IsEvidenceOn topics e → AreFewRows e
few_rows topics (Above bounds) few h = omega (arith, few, h.0)
few_rows topics (Equal bounds) few h = omega (arith, few, h.0)
few_rows topics (Open picks) few h = (omega (arith, few, AllZip-long ArePicksOn picks topics h), All-from_recursion AreFewLists picks (few_lists topics picks h))

few_claims : (runs : ℕ) (topics : List TopicNames) (last : Option UnorderedPair) (cs : List PairClaim) → length topics ≤ TOPIC_LIMIT → AllFollow last_pair (IsClaimAfter runs topics) last cs → AllByRecursion HasFewRows cs
few_claims runs topics last [] few h = tt
few_claims runs topics last (c ∷ cs) few h = (few_rows topics c.evidence few h.0.1, few_claims runs topics (last_pair last c) cs few h.1)

pub claims_have_few : (runs : ℕ) (topics : List TopicNames) (cs : List PairClaim) → AreTopicNames topics → AreClaims runs topics cs → All HasFewRows cs
claims_have_few runs topics cs are h = All-from_recursion HasFewRows cs (few_claims runs topics None cs (topics_are_few topics are) h.ascending)

-- ---- a number, so many rows, and others
pub counted_rows : (word : List ℕ) (n : ℕ) (rows rest : List (List ℕ)) → text_length (number_line word n ∷ rows ++ rest) ≡ (length word + length (decimal n) + 1) + text_length rows + text_length rest
counted_rows word n rows rest = omega (arith, one_more_line (number_line word n) (rows ++ rest), length-append word (decimal n), more_lines rows rest)
