-- A claim of a bundle, written out as a certificate of one pair, is within the limits of that form.
use Rattle.std.proofs.Common.{◌≡◌, ℕ, ◌<◌, List, [], ◌∷◌, length, map, refl, ap, sym, subst, ◌∙◌, true, arith}
use Rattle.std.specs.List.{All, AllByRecursion, AllZip, zip}
use Rattle.std.specs.List.Sorted.{IsStrictlyIncreasing, IsStrictlySortedBy}
use Rattle.std.specs.declared.cmp.Ordering.TheVariants.{Less}
use Rattle.std.proofs.lemmas.List.{length-map}
use Rattle.std.proofs.lemmas.List.Elements.{All-from_recursion, All-get_or, recursion_from_All}
use Rattle.std.proofs.lemmas.Map.Keys.{Less-from_sorted}
use Rattle.std.proofs.lemmas.Slice.Zip.{AllZip-long}
use Rattle.desk_model.specs.Desk.{Desk, AreMarksOf, IsDesk}
use Rattle.desk_model.specs.MeasureText.{IsMeasure}
use Rattle.desk_model.specs.Name.{AreAscending, is_name, name_cmp}
use Rattle.desk_model.specs.declared.types.Mark.{Mark}
use Rattle.line_forms.specs.Places.{AreAscendingNames}
use Rattle.order_certificate.specs.Certificate.{AreDocuments, AreLists, AreTopics, IsCertificate, IsDocumentCount, IsLowBound, IsLowHighBound, IsWritable}
use Rattle.order_certificate.specs.Claim.{ClaimHolds}
use Rattle.order_certificate.specs.Evidence.{IsEvidence}
use Rattle.order_certificate.specs.declared.certificate.TopicBound.{TopicBound}
use Rattle.order_certificate.specs.declared.certificate.TopicWitness.{TopicWitness}
use Rattle.order_certificate.proofs.Holds.{evidence_claims}
use Rattle.order_bundle.specs.Bundle.{ArePicks, ArePicksOn, AreBothBounds, AreTopicNames, Bundle, IsBundle, IsClaimAfter, IsEvidenceOn, IsLowerBound, last_pair}
use Rattle.order_bundle.specs.Evidence.{ClaimsHold, IsBundleEvidence, name_at, named_bound, named_evidence, named_lists, written_out}
use Rattle.order_bundle.specs.declared.bundle.PairClaim.{PairClaim}
use Rattle.order_bundle.specs.declared.bundle.PairEvidence.{PairEvidence}
use Rattle.order_bundle.specs.declared.bundle.PairEvidence.TheVariants.{Above, Equal, Open}
use Rattle.order_bundle.specs.declared.bundle.Picks.{Picks}
use Rattle.order_bundle.specs.declared.bundle.TopicNames.{TopicNames}
use Rattle.order_bundle.specs.declared.places.UnorderedPair.{UnorderedPair}
use Rattle.std.specs.Prelude.{Option, None}
use Rattle.line_forms.specs.Rows.{AllFollow}
use Rattle.order_bundle.proofs.PickOrder.{later_rise, second}
use Rattle.order_bundle.proofs.TopicRows.{HasDocuments, topic_name}

-- ---- names by ascending numbers of ascending names ascend
after_too : (x y : ℕ) (zs : List ℕ) → x < y → AllByRecursion (λ z. y < z) zs → AllByRecursion (λ z. x < z) zs
after_too x y [] lt h = tt
after_too x y (z ∷ zs) lt h = (omega (arith, lt, h.0), after_too x y zs lt h.1)

later_greater : (x : ℕ) (xs : List ℕ) → IsStrictlyIncreasing (x ∷ xs) → AllByRecursion (λ z. x < z) xs
later_greater x [] up = tt
later_greater x (y ∷ ys) up =
    let lt : x < y = omega (arith, second x (y ∷ ys) up) in
    (lt, after_too x y ys lt (later_greater y ys (later_rise x (y ∷ ys) up)))

module _ (names : List (List ℕ)) (are : AreAscendingNames names) where
  name_named : (k : ℕ) → k < length names → is_name (name_at names k) ≡ true
  name_named k lt = All-get_or (λ name. is_name name ≡ true) names k [] lt are.named

  later_names : (k : ℕ) (ks : List ℕ) → AllByRecursion (λ j. k < j) ks → AllByRecursion (λ j. j < length names) ks → AllByRecursion (λ name. name_cmp (name_at names k) name ≡ Less) (map (name_at names) ks)
  later_names k [] up below = tt
  later_names k (j ∷ js) up below = (Less-from_sorted name_cmp names k j [] are.ascending up.0 below.0, later_names k js up.1 below.1)

  names_rise : (ks : List ℕ) → IsStrictlyIncreasing ks → AllByRecursion (λ j. j < length names) ks → AreAscending (map (name_at names) ks)
  unfolding IsStrictlySortedBy
  names_rise [] up below = tt
  names_rise (k ∷ ks) up below = (later_names k ks (later_greater k ks up) below.1, names_rise ks (later_rise k ks up) below.1)

  all_named : (ks : List ℕ) → AllByRecursion (λ j. j < length names) ks → AllByRecursion (λ name. is_name name ≡ true) (map (name_at names) ks)
  all_named [] below = tt
  all_named (k ∷ ks) below = (name_named k below.0, all_named ks below.1)

  picked : (ks : List ℕ) → ArePicks (length names) ks → AreDocuments (map (name_at names) ks)
  picked ks h =
      let below = recursion_from_All (λ j. j < length names) ks h.within in
      record {
        count = subst IsDocumentCount (sym (length-map ks (name_at names))) h.count;
        ascending = record { named = All-from_recursion (λ name. is_name name ≡ true) (map (name_at names) ks) (all_named ks below); ascending = names_rise ks h.ascending below };
      }

-- ---- rows with the names of their topics
module _ {V W : Type 0} (make : TopicNames × V → W) where
  pub names_of_rows : (name_of : W → List ℕ) → ((p : TopicNames × V) → name_of (make p) ≡ p.0.topic) → (ts : List TopicNames) (vs : List V) → length vs ≡ length ts → map name_of (map make (zip ts vs)) ≡ map topic_name ts
  names_of_rows name_of is [] [] e = refl
  names_of_rows name_of is [] (v ∷ vs) e = absurd (omega (arith, e))
  names_of_rows name_of is (t ∷ ts) [] e = absurd (omega (arith, e))
  names_of_rows name_of is (t ∷ ts) (v ∷ vs) e = ap (λ n. n ∷ map name_of (map make (zip ts vs))) (is (t, v)) ∙ ap (λ ns. t.topic ∷ ns) (names_of_rows name_of is ts vs (omega (arith, e)))

  rows_fit : (Fits : W → Type 0) (P : V → Type 0) → ((p : TopicNames × V) → P p.1 → Fits (make p)) → (ts : List TopicNames) (vs : List V) → AllByRecursion P vs → AllByRecursion Fits (map make (zip ts vs))
  rows_fit Fits P fit [] vs h = tt
  rows_fit Fits P fit (t ∷ ts) [] h = tt
  rows_fit Fits P fit (t ∷ ts) (v ∷ vs) h = (fit (t, v) h.0, rows_fit Fits P fit ts vs h.1)

lists_fit : (ts : List TopicNames) (ps : List Picks) → AllByRecursion HasDocuments ts → AllZip ArePicksOn ps ts → AllByRecursion AreLists (map named_lists (zip ts ps))
lists_fit [] ps docs h = tt
lists_fit (t ∷ ts) [] docs h = tt
lists_fit (t ∷ ts) (p ∷ ps) docs h = ((picked t.docs docs.0.ascending p.low h.0.0, picked t.docs docs.0.ascending p.high h.0.1), lists_fit ts ps docs.1 h.1)

evidence_writable : (topics : List TopicNames) (e : PairEvidence) → AreTopicNames topics → IsEvidenceOn topics e → IsWritable (named_evidence topics e)
evidence_writable topics (Above bounds) are h = (
  subst AreTopics (sym (names_of_rows named_bound (λ (b : TopicBound). b.topic) (λ p. refl) topics bounds h.0)) are.names,
  All-from_recursion IsLowBound (map named_bound (zip topics bounds)) (rows_fit named_bound IsLowBound IsLowerBound (λ p fits. fits) topics bounds (recursion_from_All IsLowerBound bounds h.1)),
)
evidence_writable topics (Equal bounds) are h = (
  subst AreTopics (sym (names_of_rows named_bound (λ (b : TopicBound). b.topic) (λ p. refl) topics bounds h.0)) are.names,
  All-from_recursion IsLowHighBound (map named_bound (zip topics bounds)) (rows_fit named_bound IsLowHighBound AreBothBounds (λ p fits. fits) topics bounds (recursion_from_All AreBothBounds bounds h.1)),
)
evidence_writable topics (Open picks) are h = (
  subst AreTopics (sym (names_of_rows named_lists (λ (w : TopicWitness). w.topic) (λ p. refl) topics picks (sym (AllZip-long ArePicksOn picks topics h)))) are.names,
  All-from_recursion AreLists (map named_lists (zip topics picks)) (lists_fit topics picks (recursion_from_All HasDocuments topics are.docs) h),
)

-- ---- whole claims
claim_fits : (b : Bundle) → IsBundle b → (last : Option UnorderedPair) (c : PairClaim) → IsClaimAfter (length b.runs) b.topics last c → IsCertificate (written_out b c)
claim_fits b h last c fits = record {
  measure = h.measure;
  level = h.level;
  first = name_named b.runs h.runs.ascending c.first fits.0.first_known;
  second = name_named b.runs h.runs.ascending c.second fits.0.second_known;
  evidence = evidence_writable b.topics c.evidence h.topics fits.1;
}

claims_fit : (b : Bundle) → IsBundle b → (last : Option UnorderedPair) (cs : List PairClaim) → AllFollow last_pair (IsClaimAfter (length b.runs) b.topics) last cs → AllByRecursion (λ c. IsCertificate (written_out b c)) cs
claims_fit b h last [] follow = tt
claims_fit b h last (c ∷ cs) follow = (claim_fits b h last c follow.0, claims_fit b h (last_pair last c) cs follow.1)

pub written_within : (b : Bundle) → IsBundle b → All (λ c. IsCertificate (written_out b c)) b.claims
written_within b h = All-from_recursion (λ c. IsCertificate (written_out b c)) b.claims (claims_fit b h None b.claims h.claims.ascending)

-- evidence of a claim implies it, and so for all claims
pub evidence_holds : (b : Bundle) (desk : Desk) (marks : List (List Mark)) → IsMeasure b.measure → IsDesk desk → AreMarksOf desk marks → IsBundleEvidence b desk marks → ClaimsHold b desk marks
evidence_holds b desk marks valid is_desk known h =
    All-from_recursion (λ c. ClaimHolds (written_out b c) desk marks) b.claims (each b.claims (recursion_from_All (λ c. IsEvidence (written_out b c) desk marks) b.claims h.claims))
  where
    each : (cs : List PairClaim) → AllByRecursion (λ c. IsEvidence (written_out b c) desk marks) cs → AllByRecursion (λ c. ClaimHolds (written_out b c) desk marks) cs
    each [] h = tt
    each (c ∷ cs) h = (evidence_claims (written_out b c) desk marks valid is_desk known h.0, each cs h.1)
