-- Runs and topics of a bundle that are a desk's.
use Rattle.std.proofs.Common.{◌≡◌, ◌≢◌, ℕ, suc, ◌+◌, ◌<◌, Bool, true, false, cond, List, [], ◌∷◌, length, Some, refl, ap, sym, ◌∙◌, arith}
use Rattle.std.specs.Prelude.{slice_get, Option, None}
use Rattle.std.specs.List.{AllByRecursion, position_from}
use Rattle.std.specs.declared.cmp.Ordering.TheVariants.{Less}
use Rattle.std.proofs.lemmas.List.Elements.{recursion_from_All}
use Rattle.std.proofs.lemmas.Map.Keys.{Less-from_sorted}
use Rattle.std.proofs.lemmas.Slice.Zip.{AllZip-long}
use Rattle.desk_model.specs.Name.{AreAscending, is_same_name, name_cmp, number_of}
use Rattle.desk_model.proofs.Names.{same_name, two_ways}
use Rattle.line_forms.specs.Rows.{AllFollow}
use Rattle.order_certificate.specs.Certificate.{IsCertificate}
use Rattle.order_certificate.specs.Claim.{topics_of}
use Rattle.order_certificate.specs.declared.certificate.TopicBound.{TopicBound}
use Rattle.order_certificate.specs.declared.certificate.TopicWitness.{TopicWitness}
use Rattle.order_bundle.specs.Bundle.{ArePicksOn, Bundle, IsBundle, IsClaimAfter, IsEvidenceOn, last_pair}
use Rattle.order_bundle.specs.Evidence.{name_at, named_bound, named_evidence, named_lists, written_out}
use Rattle.order_bundle.specs.declared.bundle.PairClaim.{PairClaim}
use Rattle.order_bundle.specs.declared.bundle.PairEvidence.{PairEvidence}
use Rattle.order_bundle.specs.declared.bundle.PairEvidence.TheVariants.{Above, Equal, Open}
use Rattle.order_bundle.specs.declared.bundle.TopicNames.{TopicNames}
use Rattle.order_bundle.specs.declared.places.UnorderedPair.{UnorderedPair}
use Rattle.order_bundle.proofs.WrittenOut.{names_of_rows, written_within}
use Rattle.bundle_verifier.specs.Refusal.{HasRows, IsClaimOf, names_of_topics}

-- ---- runs
-- the name with a number stands there
there_from : (n : ℕ) (names : List (List ℕ)) (name : List ℕ) (i : ℕ) → position_from (λ each. is_same_name each name) n names ≡ Some i → (k : ℕ) × (i ≡ n + k) × (slice_get names k ≡ Some name)
there_from n [] name i e = absurd (cc)
there_from n (x ∷ names) name i e = go (is_same_name x name) refl (λ h. there_from (n + 1) names name i h) e
  where
    go : (b : Bool) → is_same_name x name ≡ b → (position_from (λ each. is_same_name each name) (n + 1) names ≡ Some i → (k : ℕ) × (i ≡ n + 1 + k) × (slice_get names k ≡ Some name)) →
        cond b (Some n) (position_from (λ each. is_same_name each name) (n + 1) names) ≡ Some i → (k : ℕ) × (i ≡ n + k) × (slice_get (x ∷ names) k ≡ Some name)
    go true here rest h =
        let at : n ≡ i = cc in
        (0, omega (arith, at), ap Some (same_name x name here))
    go false here rest h = let later = rest h in (suc later.0, omega (arith, later.1), later.2)

there_by_number : (names : List (List ℕ)) (name : List ℕ) (i : ℕ) → number_of names name ≡ Some i → slice_get names i ≡ Some name
there_by_number names name i e =
    let found = there_from 0 names name i e in
    let at : found.0 ≡ i = omega (arith, found.1) in
    ap (slice_get names) (sym at) ∙ found.2

-- a name has one number, so two names with one number are one
one_name : (own : List (List ℕ)) (x y : List ℕ) (a : ℕ) → number_of own x ≡ Some a → number_of own y ≡ Some a → x ≡ y
one_name own x y a p q = let here = there_by_number own x a p in let there = there_by_number own y a q in cc

-- of ascending names two at different places differ
apart : (names : List (List ℕ)) → AreAscending names → (i j : ℕ) → i < j → j < length names → name_at names i ≡ name_at names j → ⊥
apart names up i j lt within same =
    let less : name_cmp (name_at names i) (name_at names j) ≡ Less = Less-from_sorted name_cmp names i j [] up lt within in
    let self : name_cmp (name_at names i) (name_at names i) ≡ Less = ap (name_cmp (name_at names i)) same ∙ less in
    two_ways (name_at names i) (name_at names i) self self

-- so two different runs of a bundle have different numbers on a desk
pub different_numbers : (own names : List (List ℕ)) → AreAscending names → (i j a b : ℕ) → i < length names → j < length names → i ≢ j → number_of own (name_at names i) ≡ Some a → number_of own (name_at names j) ≡ Some b → a ≢ b
different_numbers own names up i j a b i_in j_in different p q same =
    let q' : number_of own (name_at names j) ≡ Some a = q ∙ ap Some (sym same) in
    let one = one_name own (name_at names i) (name_at names j) a p q' in
    let above : i < j → ⊥ = λ lt. apart names up i j lt j_in one in
    let below : j < i → ⊥ = λ lt. apart names up j i lt i_in (sym one) in
    grind (arith, above, below, different)

-- ---- topics
-- evidence that is written out names the bundle's topics
pub topics_named : (topics : List TopicNames) (e : PairEvidence) → IsEvidenceOn topics e → topics_of (named_evidence topics e) ≡ names_of_topics topics
topics_named topics (Above bounds) h = names_of_rows named_bound (λ (b : TopicBound). b.topic) (λ p. refl) topics bounds h.0
topics_named topics (Equal bounds) h = names_of_rows named_bound (λ (b : TopicBound). b.topic) (λ p. refl) topics bounds h.0
topics_named topics (Open picks) h = names_of_rows named_lists (λ (w : TopicWitness). w.topic) (λ p. refl) topics picks (sym (AllZip-long ArePicksOn picks topics h))

-- ---- claims
each_claim : (b : Bundle) (last : Option UnorderedPair) (cs : List PairClaim) → AllFollow last_pair (IsClaimAfter (length b.runs) b.topics) last cs → AllByRecursion (λ c. IsCertificate (written_out b c)) cs → AllByRecursion (IsClaimOf b) cs
each_claim b last [] follow written = tt
each_claim b last (c ∷ cs) follow written = (
  record { first_known = follow.0.0.first_known; second_known = follow.0.0.second_known; different = follow.0.0.different; rows = follow.0.1; certificate = written.0 },
  each_claim b (last_pair last c) cs follow.1 written.1,
)

pub claims_of : (b : Bundle) → IsBundle b → AllByRecursion (IsClaimOf b) b.claims
claims_of b h = each_claim b None b.claims h.claims.ascending (recursion_from_All (λ c. IsCertificate (written_out b c)) b.claims (written_within b h))

-- one row for each topic
pub rows_of : (topics : List TopicNames) (e : PairEvidence) → IsEvidenceOn topics e → HasRows topics e
rows_of topics (Above bounds) h = h.0
rows_of topics (Equal bounds) h = h.0
rows_of topics (Open picks) h = sym (AllZip-long ArePicksOn picks topics h)
