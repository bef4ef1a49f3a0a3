-- Claims whose lists are numbered by the picked documents alone name what they named before.
use Rattle.std.proofs.Common.{◌≡◌, ℕ, suc, ◌+◌, ◌<◌, Bool, true, false, nat_eq, List, [], ◌∷◌, length, get_or, map, Some, refl, ap, sym, ◌∙◌, arith}
use Rattle.std.specs.Prelude.{◌||◌, slice_get, slice_index_or}
use Rattle.std.specs.List.{AllZip, AllByRecursion, enumerate_from, list_any, zip}
use Rattle.std.proofs.lemmas.Bool.Decides.{nat_tests}
use Rattle.std.proofs.lemmas.List.{length-map}
use Rattle.std.proofs.lemmas.List.Elements.{recursion_from_All}
use Rattle.std.proofs.lemmas.List.FromFn.{get_or-enumerate_from, length-enumerate_from}
use Rattle.std.proofs.lemmas.Option.{get_or_from_slice_get, slice_get-get_or, slice_get_within}
use Rattle.small_lemmas.proofs.Lists.{map_there}
use Rattle.desk_model.specs.Ranking.{is_in}
use Rattle.order_certificate.specs.declared.certificate.Evidence.TheVariants.{Above as AboveOf, Equal as EqualOf, Open as OpenOf}
use Rattle.order_certificate.specs.declared.certificate.TopicWitness.{TopicWitness}
use Rattle.order_bundle.specs.Bundle.{ArePicksOn, IsEvidenceOn}
use Rattle.order_bundle.specs.Evidence.{name_at, named_bound, named_evidence, named_lists}
use Rattle.order_bundle.specs.declared.bundle.Bound.{Bound}
use Rattle.order_bundle.specs.declared.bundle.PairClaim.{PairClaim}
use Rattle.order_bundle.specs.declared.bundle.PairEvidence.{PairEvidence}
use Rattle.order_bundle.specs.declared.bundle.PairEvidence.TheVariants.{Above, Equal, Open}
use Rattle.order_bundle.specs.declared.bundle.Picks.{Picks}
use Rattle.order_bundle.specs.declared.bundle.TopicNames.{TopicNames}
use Rattle.table_bundle.specs.Drafts.{has_picked, is_picked_by, names_where, no_picks, picked_places, picked_topics, picks_document, places_where, replaced_evidence, replaced_list, replaced_picks}
use Rattle.table_bundle.proofs.Choosing.{names_found, picks_kept}

-- ---- what is in a list passes there
passes_or : (b c : Bool) → b ≡ true → (b || c) ≡ true
passes_or true c h = refl
passes_or false c h = absurd (cc)

or_passes : (b c : Bool) → c ≡ true → (b || c) ≡ true
or_passes true c h = refl
or_passes false c h = h

members : {X : Type 0} (all xs : List X) → ((p : X → Bool) → list_any p xs ≡ true → list_any p all ≡ true) → AllByRecursion (λ x. (p : X → Bool) → p x ≡ true → list_any p all ≡ true) xs
members all [] h = tt
members all (x ∷ xs) h = (λ p passes. h p (passes_or (p x) (list_any p xs) passes), members all xs (λ p any. h p (or_passes (p x) (list_any p xs) any)))

pub all_members : {X : Type 0} (xs : List X) → AllByRecursion (λ x. (p : X → Bool) → p x ≡ true → list_any p xs ≡ true) xs
all_members xs = members xs xs (λ p any. any)

itself : (n : ℕ) → nat_eq n n ≡ true
itself n = grind (arith, nat_tests)

numbered : {X : Type 0} (xs : List X) (i : ℕ) (x : X) → slice_get xs i ≡ Some x → slice_get (enumerate_from 0 xs) i ≡ Some (i, x)
numbered xs i x at =
    let lt : i < length xs = slice_get_within xs i x at in
    let start : 0 + i ≡ i = omega arith in
    slice_get-get_or (enumerate_from 0 xs) i (i, x) (omega (arith, lt, length-enumerate_from 0 xs))
    ∙ ap Some (get_or-enumerate_from 0 xs i (i, x) lt ∙ ap (λ (n : ℕ). (n, get_or xs i x)) start ∙ ap (λ y. (i, y)) (get_or_from_slice_get xs i x x at))

abbrev pub witness : List ℕ → List (List ℕ) → List (List ℕ) → TopicWitness
witness topic low high = record { topic = topic; low = low; high = high }

-- ---- the lists of a claim
module _ (claims : List PairClaim) where
  abbrev test : ℕ → ℕ → Bool
  test t d = is_picked_by claims t d

  -- each document of a list on a topic is picked
  abbrev pub ArePicked : ℕ → List ℕ → Type 0
  ArePicked t picks = AllByRecursion (λ d. is_picked_by claims t d ≡ true) picks

  abbrev pub AllPicked : ℕ → List Picks → Type 0
  AllPicked t [] = Unit {0}
  AllPicked t (p ∷ ps) = ArePicked t p.low × ArePicked t p.high × AllPicked (t + 1) ps

  abbrev pub IsPicked : PairEvidence → Type 0
  IsPicked (Above bounds) = Unit {0}
  IsPicked (Equal bounds) = Unit {0}
  IsPicked (Open picks) = AllPicked 0 picks

  each_picked : (t : ℕ) (all list : List ℕ) → ((d : ℕ) → is_in all d ≡ true → test t d ≡ true) → AllByRecursion (λ d. (p : ℕ → Bool) → p d ≡ true → list_any p all ≡ true) list → ArePicked t list
  each_picked t all [] h member = tt
  each_picked t all (d ∷ list) h member = (h d (member.0 (λ each. nat_eq each d) (itself d)), each_picked t all list h member.1)

  list_picked : (t : ℕ) (list : List ℕ) → ((d : ℕ) → is_in list d ≡ true → test t d ≡ true) → ArePicked t list
  list_picked t list h = each_picked t list list h (all_members list)

  picked_from : (full : List Picks) → ((u d : ℕ) → has_picked (slice_index_or full u no_picks) d ≡ true → test u d ≡ true) →
      (t : ℕ) (suffix : List Picks) → ((i : ℕ) → slice_index_or suffix i no_picks ≡ slice_index_or full (t + i) no_picks) → AllPicked t suffix
  picked_from full h t [] same = tt
  picked_from full h t (p ∷ ps) same =
      let here : t + 0 ≡ t = omega arith in
      let at : p ≡ slice_index_or full t no_picks = same 0 ∙ ap (λ u. slice_index_or full u no_picks) here in
      let both : (d : ℕ) → has_picked p d ≡ true → test t d ≡ true = λ d any. h t d (ap (λ (q : Picks). has_picked q d) (sym at) ∙ any) in (
        list_picked t p.low (λ d any. both d (passes_or (is_in p.low d) (is_in p.high d) any)),
        list_picked t p.high (λ d any. both d (or_passes (is_in p.low d) (is_in p.high d) any)),
        picked_from full h (t + 1) ps (λ i. let later : t + suc i ≡ t + 1 + i = omega arith in same (suc i) ∙ ap (λ u. slice_index_or full u no_picks) later),
      )

  evidence_picked : (e : PairEvidence) → ((t d : ℕ) → picks_document t d e ≡ true → test t d ≡ true) → IsPicked e
  evidence_picked (Above bounds) h = tt
  evidence_picked (Equal bounds) h = tt
  evidence_picked (Open picks) h = picked_from picks h 0 picks (λ i. let at : i ≡ 0 + i = omega arith in ap (λ u. slice_index_or picks u no_picks) at)

  -- each claim of all picks what some claim picks
  pub claims_picked : AllByRecursion (λ (c : PairClaim). IsPicked c.evidence) claims
  claims_picked = each claims (all_members claims)
    where
      each : (cs : List PairClaim) → AllByRecursion (λ (c : PairClaim). (p : PairClaim → Bool) → p c ≡ true → list_any p claims ≡ true) cs → AllByRecursion (λ (c : PairClaim). IsPicked c.evidence) cs
      each [] h = tt
      each (c ∷ cs) h = (evidence_picked c.evidence (λ t d picks. h.0 (λ (x : PairClaim). picks_document t d x.evidence) picks), each cs h.1)

  -- ---- topics from a number on
  abbrev kept_from : ℕ → List TopicNames → List TopicNames
  kept_from t topics = map (λ (p : ℕ × TopicNames). record { topic = p.1.topic; docs = names_where (is_picked_by claims p.0) p.1.docs }) (enumerate_from t topics)

  abbrev places_from : ℕ → List TopicNames → List (List ℕ)
  places_from t topics = map (λ (p : ℕ × TopicNames). places_where (is_picked_by claims p.0) (length p.1.docs)) (enumerate_from t topics)

  lists_kept : (t : ℕ) (topics : List TopicNames) (ps : List Picks) → AllZip ArePicksOn ps topics → AllPicked t ps →
      map named_lists (zip (kept_from t topics) (map replaced_picks (zip ps (places_from t topics)))) ≡ map named_lists (zip topics ps)
  lists_kept t [] [] on picked = refl
  lists_kept t [] (p ∷ ps) on picked = absurd on
  lists_kept t (x ∷ topics) [] on picked = absurd on
  lists_kept t (x ∷ topics) (p ∷ ps) on picked =
      let p_t : ℕ → Bool = is_picked_by claims t in
      let rest : List TopicWitness = map named_lists (zip (kept_from (t + 1) topics) (map replaced_picks (zip ps (places_from (t + 1) topics)))) in
      let low = names_found p_t x.docs p.low (recursion_from_All _ p.low on.0.0.within) picked.0 in
      let high = names_found p_t x.docs p.high (recursion_from_All _ p.high on.0.1.within) picked.1 in
      ap (λ l. witness x.topic l (map (name_at (names_where p_t x.docs)) (replaced_list (places_where p_t (length x.docs)) p.high)) ∷ rest) low
      ∙ ap (λ l. witness x.topic (map (name_at x.docs) p.low) l ∷ rest) high
      ∙ ap (λ ws. named_lists (x, p) ∷ ws) (lists_kept (t + 1) topics ps on.1 picked.2)

  picks_on_kept : (t : ℕ) (topics : List TopicNames) (ps : List Picks) → AllZip ArePicksOn ps topics → AllPicked t ps → AllZip ArePicksOn (map replaced_picks (zip ps (places_from t topics))) (kept_from t topics)
  picks_on_kept t [] [] on picked = tt
  picks_on_kept t [] (p ∷ ps) on picked = absurd on
  picks_on_kept t (x ∷ topics) [] on picked = absurd on
  picks_on_kept t (x ∷ topics) (p ∷ ps) on picked = (
    (picks_kept (is_picked_by claims t) x.docs p.low on.0.0 picked.0, picks_kept (is_picked_by claims t) x.docs p.high on.0.1 picked.1),
    picks_on_kept (t + 1) topics ps on.1 picked.2,
  )

  pub length-picked : (topics : List TopicNames) → length (picked_topics claims topics) ≡ length topics
  length-picked topics = length-map (enumerate_from 0 topics) _ ∙ length-enumerate_from 0 topics

  pub length-places : (topics : List TopicNames) → length (picked_places claims topics) ≡ length topics
  length-places topics = length-map (enumerate_from 0 topics) _ ∙ length-enumerate_from 0 topics

  -- those of one topic
  pub topic_picked : (topics : List TopicNames) (t : ℕ) (x : TopicNames) → slice_get topics t ≡ Some x → slice_get (picked_topics claims topics) t ≡ Some (record { topic = x.topic; docs = names_where (is_picked_by claims t) x.docs })
  topic_picked topics t x at =
      map_there (λ (p : ℕ × TopicNames). record { topic = p.1.topic; docs = names_where (is_picked_by claims p.0) p.1.docs }) (enumerate_from 0 topics) t (t, x) (numbered topics t x at)

  pub places_picked : (topics : List TopicNames) (t : ℕ) (x : TopicNames) → slice_get topics t ≡ Some x → slice_get (picked_places claims topics) t ≡ Some (places_where (is_picked_by claims t) (length x.docs))
  places_picked topics t x at = map_there (λ (p : ℕ × TopicNames). places_where (is_picked_by claims p.0) (length p.1.docs)) (enumerate_from 0 topics) t (t, x) (numbered topics t x at)

  -- bounds have the names of the topics alone
  bounds_kept : (t : ℕ) (topics : List TopicNames) (bounds : List Bound) → map named_bound (zip (kept_from t topics) bounds) ≡ map named_bound (zip topics bounds)
  bounds_kept t [] bounds = refl
  bounds_kept t (x ∷ topics) [] = refl
  bounds_kept t (x ∷ topics) (b ∷ bounds) = ap (λ l. named_bound (x, b) ∷ l) (bounds_kept (t + 1) topics bounds)

  pub evidence_kept : (topics : List TopicNames) (e : PairEvidence) → IsEvidenceOn topics e → IsPicked e → named_evidence (picked_topics claims topics) (replaced_evidence (picked_places claims topics) e) ≡ named_evidence topics e
  evidence_kept topics (Above bounds) on picked = ap AboveOf (bounds_kept 0 topics bounds)
  evidence_kept topics (Equal bounds) on picked = ap EqualOf (bounds_kept 0 topics bounds)
  evidence_kept topics (Open picks) on picked = ap OpenOf (lists_kept 0 topics picks on picked)

  pub evidence_on_kept : (topics : List TopicNames) (e : PairEvidence) → IsEvidenceOn topics e → IsPicked e → IsEvidenceOn (picked_topics claims topics) (replaced_evidence (picked_places claims topics) e)
  evidence_on_kept topics (Above bounds) on picked = (on.0 ∙ sym (length-picked topics), on.1)
  evidence_on_kept topics (Equal bounds) on picked = (on.0 ∙ sym (length-picked topics), on.1)
  evidence_on_kept topics (Open picks) on picked = picks_on_kept 0 topics picks on picked
