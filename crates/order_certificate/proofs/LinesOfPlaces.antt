-- The lines of a certificate's places.
use Rattle.std.proofs.Common.{◌≡◌, ℕ, zero, suc, ◌+◌, ◌*◌, ◌-◌, ◌<◌, ◌≤◌, List, [], ◌∷◌, ◌++◌, codes, decimal, length, flat_map, map, take, Some, refl, ap, sym, ◌∙◌, arith, inl, inr, append_assoc, length-append}
use Rattle.std.specs.Prelude.{slice_get, unwrap_or}
use Rattle.std.specs.Fmt.{signed_decimal}
use Rattle.std.specs.Option.{option_map}
use Rattle.std.specs.List.{AllByRecursion}
use Rattle.std.proofs.lemmas.List.{length-map, length-take}
use Rattle.std.proofs.lemmas.List.Elements.{recursion_from_All}
use Rattle.std.proofs.lemmas.Option.{slice_get_within}
use Rattle.desk_model.proofs.PairPlace.{there}
use Rattle.line_forms.specs.Places.{count_line}
use Rattle.small_lemmas.proofs.Lists.{slice_get-append, slice_get-append_past, map_there}
use Rattle.order_certificate.specs.Certificate.{AreLists, IsWritable, document_line, low_high_line, low_line, witness_lines, topics_line}
use Rattle.order_certificate.specs.Claim.{topics_of}
use Rattle.order_certificate.specs.PlaceLines.{HasPlace, OfLine, SaysPlace, documents_of, line_of_place, line_of_topic, names_listed}
use Rattle.order_certificate.specs.declared.certificate.Certificate.{Certificate}
use Rattle.order_certificate.specs.declared.certificate.Evidence.{Evidence}
use Rattle.order_certificate.specs.declared.certificate.Evidence.TheVariants.{Above, Equal, Open}
use Rattle.order_certificate.specs.declared.certificate.TopicBound.{TopicBound}
use Rattle.order_certificate.specs.declared.certificate.TopicWitness.{TopicWitness}
use Rattle.order_certificate.specs.declared.place.CertificatePlace.{CertificatePlace}
use Rattle.order_certificate.specs.declared.place.CertificatePlace.TheVariants.{FirstRun, SecondRun, TopicCount, Topic, Document}
use Rattle.order_certificate.specs.declared.place.WitnessList.{WitnessList}
use Rattle.order_certificate.specs.declared.place.WitnessList.TheVariants.{Low, High}

-- ---- lists that are joined, and a list item by item
module _ {X A : Type 0} (f : X → List A) where
  length_next : (xs : List X) (i : ℕ) (x : X) → slice_get xs i ≡ Some x → length (flat_map f (take (suc i) xs)) ≡ length (flat_map f (take i xs)) + length (f x)
  length_next [] i x at = absurd (cc)
  length_next (y ∷ xs) zero x at =
      let here : y ≡ x = cc in
      omega (arith, length-append (f y) [], ap (λ z. length (f z)) here)
  length_next (y ∷ xs) (suc i) x at = omega (arith, length_next xs i x at, length-append (f y) (flat_map f (take (suc i) xs)), length-append (f y) (flat_map f (take i xs)))

  -- one more of the lists that are joined
  pub length_more : (xs : List X) (i : ℕ) (x : X) → slice_get xs i ≡ Some x → length (flat_map f (take (i + 1) xs)) ≡ length (flat_map f (take i xs)) + length (f x)
  length_more xs i x at = let next : i + 1 ≡ suc i = omega arith in ap (λ k. length (flat_map f (take k xs))) next ∙ length_next xs i x at

  -- an item of one of them comes after all those of the lists before
  in_joined : (xs : List X) (i k : ℕ) (x : X) (a : A) → slice_get xs i ≡ Some x → slice_get (f x) k ≡ Some a → slice_get (flat_map f xs) (length (flat_map f (take i xs)) + k) ≡ Some a
  in_joined [] i k x a at is = absurd (cc)
  in_joined (y ∷ xs) zero k x a at is =
      let same : y ≡ x = cc in
      let here : 0 + k ≡ k = omega arith in
      ap (slice_get (f y ++ flat_map f xs)) here ∙ slice_get-append (f y) (flat_map f xs) k a (ap (λ z. slice_get (f z) k) same ∙ is)
  in_joined (y ∷ xs) (suc i) k x a at is =
      let more : length (f y ++ flat_map f (take i xs)) + k ≡ length (f y) + (length (flat_map f (take i xs)) + k) = omega (arith, length-append (f y) (flat_map f (take i xs))) in
      ap (slice_get (f y ++ flat_map f xs)) more ∙ slice_get-append_past (f y) (flat_map f xs) (length (flat_map f (take i xs)) + k) ∙ in_joined xs i k x a at is

-- so many rows of one line come before a row
pub length_before : {X A : Type 0} (f : X → A) (xs : List X) (i : ℕ) → i < length xs → length (map f (take i xs)) ≡ i
length_before f xs i lt = omega (arith, length-map (take i xs) f, length-take i xs, lt)

in_rows : {X A : Type 0} (f : X → A) (xs : List X) (i : ℕ) (x : X) → slice_get xs i ≡ Some x → slice_get (map f xs) (length (map f (take i xs))) ≡ Some (f x)
in_rows f xs i x at = ap (slice_get (map f xs)) (length_before f xs i (slice_get_within xs i x at)) ∙ map_there f xs i x at

-- ---- seven lines come before the evidence on the topics
after_seven : {X : Type 0} (a b c d e f g : X) (xs : List X) (k number : ℕ) (x : X) → number ≡ 8 + k → slice_get xs k ≡ Some x → slice_get (a ∷ b ∷ c ∷ d ∷ e ∷ f ∷ g ∷ xs) (number - 1) ≡ Some x
after_seven a b c d e f g xs k number x is at =
    let place : number - 1 ≡ suc (suc (suc (suc (suc (suc (suc k)))))) = omega (arith, is) in ap (slice_get (a ∷ b ∷ c ∷ d ∷ e ∷ f ∷ g ∷ xs)) place ∙ at

-- a place of a row, and the row there
row_at : {X : Type 0} (name_of : X → List ℕ) (xs : List X) (topic : ℕ) → topic < length (map name_of xs) → (x : X) × (slice_get xs topic ≡ Some x)
row_at name_of xs topic lt = there xs topic (omega (arith, lt, length-map xs name_of))

-- the line of each topic
topic_line : (c : Certificate) (e : Evidence) (topic : ℕ) → topic < length (topics_of e) → OfLine (record c { evidence = e }) (line_of_topic e topic) (SaysPlace (record c { evidence = e }) (Topic topic))
topic_line c (Above bounds) topic lt =
    let b = row_at (λ (b : TopicBound). b.topic) bounds topic lt in
    let at = in_rows low_line bounds topic b.0 b.1 in
    (low_line b.0, after_seven _ _ _ _ _ _ _ _ (length (map low_line (take topic bounds))) _ _ refl (slice_get-append (map low_line bounds) (codes "end" ∷ []) (length (map low_line (take topic bounds))) (low_line b.0) at), (b.0.topic, map_there (λ (b : TopicBound). b.topic) bounds topic b.0 b.1, (signed_decimal b.0.low, inl refl)))
topic_line c (Equal bounds) topic lt =
    let b = row_at (λ (b : TopicBound). b.topic) bounds topic lt in
    let at = in_rows low_high_line bounds topic b.0 b.1 in
    let numbers = signed_decimal b.0.low ++ 32 ∷ signed_decimal b.0.high in
    let split : low_high_line b.0 ≡ codes "topic " ++ b.0.topic ++ 32 ∷ numbers = simp append_assoc in
    (low_high_line b.0, after_seven _ _ _ _ _ _ _ _ (length (map low_high_line (take topic bounds))) _ _ refl (slice_get-append (map low_high_line bounds) (codes "end" ∷ []) (length (map low_high_line (take topic bounds))) (low_high_line b.0) at), (b.0.topic, map_there (λ (b : TopicBound). b.topic) bounds topic b.0 b.1, (numbers, inl split)))
topic_line c (Open ws) topic lt =
    let w = row_at (λ (w : TopicWitness). w.topic) ws topic lt in
    let first = count_line (codes "low ") w.0.topic (length w.0.low) in
    let k = length (flat_map witness_lines (take topic ws)) in
    let at = in_joined witness_lines ws topic 0 w.0 first w.1 refl in
    let here : k + 0 ≡ k = omega arith in
    (first, after_seven _ _ _ _ _ _ _ _ (k + 0) _ _ (ap (λ n. 8 + n) (sym here)) (slice_get-append (flat_map witness_lines ws) (codes "end" ∷ []) (k + 0) _ at), (w.0.topic, map_there (λ (w : TopicWitness). w.topic) ws topic w.0 w.1, (decimal (length w.0.low), inr refl)))

-- the lists of a topic that is there
documents_there : (ws : List TopicWitness) (topic : ℕ) (list : WitnessList) (document : ℕ) → document < length (documents_of (Open ws) topic list) → (w : TopicWitness) × (slice_get ws topic ≡ Some w) × (documents_of (Open ws) topic list ≡ names_listed list w)
documents_there [] topic list document lt = absurd (omega arith)
documents_there (w ∷ ws) zero list document lt = (w, refl, refl)
documents_there (w ∷ ws) (suc topic) list document lt = documents_there ws topic list document lt

-- the line of each document, within the two lists of its topic
within : WitnessList → TopicWitness → ℕ → ℕ
within Low w document = 1 + document
within High w document = 2 + length w.low + document

document_within : (w : TopicWitness) (list : WitnessList) (document : ℕ) (name : List ℕ) → slice_get (names_listed list w) document ≡ Some name → slice_get (witness_lines w) (within list w document) ≡ Some (document_line name)
unfolding within
document_within w Low document name at =
    let k : 1 + document ≡ suc document = omega arith in
    ap (slice_get (witness_lines w)) k ∙ slice_get-append (map document_line w.low) _ document (document_line name) (map_there document_line w.low document name at)
document_within w High document name at =
    let lows = map document_line w.low in
    let highs = map document_line w.high in
    let k : 2 + length w.low + document ≡ suc (length lows + suc document) = omega (arith, length-map w.low document_line) in
    ap (slice_get (witness_lines w)) k ∙ slice_get-append_past lows (count_line (codes "high ") w.topic (length w.high) ∷ highs) (suc document) ∙ map_there document_line w.high document name at

-- the number of a document's line
number_is : (ws : List TopicWitness) (topic : ℕ) (list : WitnessList) (document : ℕ) (w : TopicWitness) → slice_get ws topic ≡ Some w →
    line_of_place (Open ws) (Document topic list document) ≡ 8 + (length (flat_map witness_lines (take topic ws)) + within list w document)
unfolding within
number_is ws topic Low document w at = omega arith
number_is ws topic High document w at =
    let low : documents_of (Open ws) topic Low ≡ w.low = ap (λ o. unwrap_or (option_map (names_listed Low) o) []) at in
    omega (arith, ap length low)

document_line_at : (c : Certificate) (e : Evidence) (topic : ℕ) (list : WitnessList) (document : ℕ) → document < length (documents_of e topic list) →
    OfLine (record c { evidence = e }) (line_of_place e (Document topic list document)) (SaysPlace (record c { evidence = e }) (Document topic list document))
document_line_at c (Above bounds) topic list document lt = absurd (omega arith)
document_line_at c (Equal bounds) topic list document lt = absurd (omega arith)
document_line_at c (Open ws) topic list document lt =
    let (w, at, names) = documents_there ws topic list document lt in
    let name = there (documents_of (Open ws) topic list) document lt in
    let k = length (flat_map witness_lines (take topic ws)) + within list w document in
    let listed = ap (λ zs. slice_get zs document) (sym names) ∙ name.1 in
    let line = in_joined witness_lines ws topic (within list w document) w (document_line name.0) at (document_within w list document name.0 listed) in
    (document_line name.0, after_seven _ _ _ _ _ _ _ _ k _ _ (number_is ws topic list document w at) (slice_get-append (flat_map witness_lines ws) (codes "end" ∷ []) k _ line), (name.0, name.1, refl))

count_at : (c : Certificate) (e : Evidence) → OfLine (record c { evidence = e }) 7 (λ line. line ≡ topics_line (length (topics_of e)))
count_at c (Above bounds) = (topics_line (length bounds), refl, ap topics_line (sym (length-map bounds (λ (b : TopicBound). b.topic))))
count_at c (Equal bounds) = (topics_line (length bounds), refl, ap topics_line (sym (length-map bounds (λ (b : TopicBound). b.topic))))
count_at c (Open ws) = (topics_line (length ws), refl, ap topics_line (sym (length-map ws (λ (w : TopicWitness). w.topic))))

-- the line of each place says what stands there
pub line_says : (c : Certificate) (place : CertificatePlace) → HasPlace c.evidence place → OfLine c (line_of_place c.evidence place) (SaysPlace c place)
line_says c FirstRun h = (codes "first " ++ c.first, refl, refl)
line_says c SecondRun h = (codes "second " ++ c.second, refl, refl)
line_says c TopicCount h = count_at c c.evidence
line_says c (Topic topic) h = topic_line c c.evidence topic h
line_says c (Document topic list document) h = document_line_at c c.evidence topic list document h

-- ---- the code's counts
pub length-witness_lines : (w : TopicWitness) → length (witness_lines w) ≡ length w.low + length w.high + 2
length-witness_lines w =
    omega (
      arith,
      length-append (count_line (codes "low ") w.topic (length w.low) ∷ map document_line w.low) (count_line (codes "high ") w.topic (length w.high) ∷ map document_line w.high),
      length-map w.low document_line,
      length-map w.high document_line,
    )

-- so many lines are on the topics so far
pub record AreCounted (ws : List TopicWitness) (index lines : ℕ) : Type 0 where
  pub counted : lines ≡ length (flat_map witness_lines (take index ws))
  pub small : lines ≤ index * 50000002

-- one more topic
pub one_counted : (ws : List TopicWitness) (i lines : ℕ) (w : TopicWitness) (low high : List (List ℕ)) → AreCounted ws i lines → slice_get ws i ≡ Some w → AreLists w → low ≡ w.low → high ≡ w.high → AreCounted ws (i + 1) (lines + (length low + length high + 2))
one_counted ws i lines w low high h at lists el eh = record {
  counted = omega (arith, h.counted, length_more witness_lines ws i w at, length-witness_lines w, ap length el, ap length eh);
  small = let few = lists.0.count in let few' = lists.1.count in omega (arith, h.small, ap length el, ap length eh);
}

-- the lists of a topic are short
pub few_listed : (e : Evidence) (topic : ℕ) (list : WitnessList) → IsWritable e → length (documents_of e topic list) ≤ 25000000
few_listed (Above bounds) topic list h = omega arith
few_listed (Equal bounds) topic list h = omega arith
few_listed (Open ws) topic list h = few ws topic (recursion_from_All AreLists ws h.1)
  where
    of : (list : WitnessList) (w : TopicWitness) → AreLists w → length (names_listed list w) ≤ 25000000
    of Low w lists = lists.0.count
    of High w lists = lists.1.count

    few : (ws : List TopicWitness) (topic : ℕ) → AllByRecursion AreLists ws → length (documents_of (Open ws) topic list) ≤ 25000000
    few [] topic h = omega arith
    few (w ∷ ws) zero h = of list w h.0
    few (w ∷ ws) (suc topic) h = few ws topic h.1
