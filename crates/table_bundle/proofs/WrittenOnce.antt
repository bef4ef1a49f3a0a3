-- No two claims of a bundle are written out alike.
use Rattle.std.proofs.Common.{◌≡◌, ℕ, ◌<◌, List, [], ◌∷◌, length, map, Option, refl, ap, ◌∙◌, ℤ, arith}
use Rattle.std.specs.List.{AllZip, AllByRecursion, zip}
use Rattle.std.proofs.lemmas.List.Elements.{recursion_from_All}
use Rattle.line_forms.specs.Rows.{AllFollow}
use Rattle.order_certificate.specs.declared.certificate.Certificate.{Certificate}
use Rattle.order_certificate.specs.declared.certificate.TopicBound.{TopicBound}
use Rattle.order_certificate.specs.declared.certificate.TopicWitness.{TopicWitness}
use Rattle.order_bundle.specs.Bundle.{ArePicksOn, Bundle, IsBundle, IsClaimAfter, IsEvidenceOn, last_pair}
use Rattle.order_bundle.specs.Evidence.{named_bound, named_evidence, named_lists, written_out}
use Rattle.order_bundle.specs.declared.bundle.Bound.{Bound}
use Rattle.order_bundle.specs.declared.bundle.PairClaim.{PairClaim}
use Rattle.order_bundle.specs.declared.bundle.PairEvidence.{PairEvidence}
use Rattle.order_bundle.specs.declared.bundle.PairEvidence.TheVariants.{Above, Equal, Open}
use Rattle.order_bundle.specs.declared.bundle.Picks.{Picks}
use Rattle.order_bundle.specs.declared.bundle.TopicNames.{TopicNames}
use Rattle.order_bundle.specs.declared.places.UnorderedPair.{UnorderedPair}
use Rattle.order_bundle.proofs.TopicRows.{HasDocuments}
use Rattle.table_bundle.proofs.Ascending.{one_number, one_list}

abbrev bound : ℤ → ℤ → Bound
bound low high = record { low = low; high = high }

same_bounds : (ts : List TopicNames) (bs cs : List Bound) → length bs ≡ length ts → length cs ≡ length ts → map named_bound (zip ts bs) ≡ map named_bound (zip ts cs) → bs ≡ cs
same_bounds [] [] [] m n e = refl
same_bounds [] [] (c ∷ cs) m n e = absurd (omega (arith, n))
same_bounds [] (b ∷ bs) cs m n e = absurd (omega (arith, m))
same_bounds (t ∷ ts) [] cs m n e = absurd (omega (arith, m))
same_bounds (t ∷ ts) (b ∷ bs) [] m n e = absurd (omega (arith, n))
same_bounds (t ∷ ts) (b ∷ bs) (c ∷ cs) m n e =
    let first : named_bound (t, b) ≡ named_bound (t, c) = cc in
    let rest : map named_bound (zip ts bs) ≡ map named_bound (zip ts cs) = cc in
    let low : b.low ≡ c.low = ap (λ (x : TopicBound). x.low) first in
    let high : b.high ≡ c.high = ap (λ (x : TopicBound). x.high) first in
    ap (λ l. bound l b.high ∷ bs) low ∙ ap (λ h. bound c.low h ∷ bs) high ∙ ap (λ xs. c ∷ xs) (same_bounds ts bs cs (omega (arith, m)) (omega (arith, n)) rest)

abbrev lists : List ℕ → List ℕ → Picks
lists low high = record { low = low; high = high }

same_picks : (ts : List TopicNames) (ps qs : List Picks) → AllByRecursion HasDocuments ts → AllZip ArePicksOn ps ts → AllZip ArePicksOn qs ts → map named_lists (zip ts ps) ≡ map named_lists (zip ts qs) → ps ≡ qs
same_picks [] [] [] docs h k e = refl
same_picks [] [] (q ∷ qs) docs h k e = absurd k
same_picks [] (p ∷ ps) qs docs h k e = absurd h
same_picks (t ∷ ts) [] qs docs h k e = absurd h
same_picks (t ∷ ts) (p ∷ ps) [] docs h k e = absurd k
same_picks (t ∷ ts) (p ∷ ps) (q ∷ qs) docs h k e =
    let first : named_lists (t, p) ≡ named_lists (t, q) = cc in
    let rest : map named_lists (zip ts ps) ≡ map named_lists (zip ts qs) = cc in
    let up = docs.0.ascending.ascending in
    let below : (picks : List ℕ) → Type 0 = λ picks. AllByRecursion (λ n. n < length t.docs) picks in
    let low : p.low ≡ q.low = one_list t.docs up p.low q.low (recursion_from_All _ p.low h.0.0.within) (recursion_from_All _ q.low k.0.0.within) (ap (λ (w : TopicWitness). w.low) first) in
    let high : p.high ≡ q.high = one_list t.docs up p.high q.high (recursion_from_All _ p.high h.0.1.within) (recursion_from_All _ q.high k.0.1.within) (ap (λ (w : TopicWitness). w.high) first) in
    ap (λ l. lists l p.high ∷ ps) low ∙ ap (λ l. lists q.low l ∷ ps) high ∙ ap (λ xs. q ∷ xs) (same_picks ts ps qs docs.1 h.1 k.1 rest)

same_evidence : (ts : List TopicNames) (e f : PairEvidence) → AllByRecursion HasDocuments ts → IsEvidenceOn ts e → IsEvidenceOn ts f → named_evidence ts e ≡ named_evidence ts f → e ≡ f
same_evidence ts (Above bs) (Above cs) docs h k e = ap Above (same_bounds ts bs cs h.0 k.0 (cc))
same_evidence ts (Equal bs) (Equal cs) docs h k e = ap Equal (same_bounds ts bs cs h.0 k.0 (cc))
same_evidence ts (Open ps) (Open qs) docs h k e = ap Open (same_picks ts ps qs docs h k (cc))
same_evidence ts (Above bs) (Equal cs) docs h k e = absurd (cc)
same_evidence ts (Above bs) (Open qs) docs h k e = absurd (cc)
same_evidence ts (Equal bs) (Above cs) docs h k e = absurd (cc)
same_evidence ts (Equal bs) (Open qs) docs h k e = absurd (cc)
same_evidence ts (Open ps) (Above cs) docs h k e = absurd (cc)
same_evidence ts (Open ps) (Equal cs) docs h k e = absurd (cc)

-- a claim on runs and topics
pub record Fits (n : ℕ) (ts : List TopicNames) (c : PairClaim) : Type 0 where
  pub first : c.first < n
  pub second : c.second < n
  pub evidence : IsEvidenceOn ts c.evidence

pub all_fit : (n : ℕ) (ts : List TopicNames) (last : Option UnorderedPair) (cs : List PairClaim) → AllFollow last_pair (IsClaimAfter n ts) last cs → AllByRecursion (Fits n ts) cs
all_fit n ts last [] h = tt
all_fit n ts last (c ∷ cs) h = (record { first = h.0.0.first_known; second = h.0.0.second_known; evidence = h.0.1 }, all_fit n ts (last_pair last c) cs h.1)

abbrev claim : ℕ → ℕ → PairEvidence → PairClaim
claim first second evidence = record { first = first; second = second; evidence = evidence }

module _ (b : Bundle) (form : IsBundle b) where
  same_claim : (c d : PairClaim) → Fits (length b.runs) b.topics c → Fits (length b.runs) b.topics d → written_out b c ≡ written_out b d → c ≡ d
  same_claim c d h k e =
      let up = form.runs.ascending.ascending in
      let first : c.first ≡ d.first = one_number b.runs up c.first d.first h.first k.first (ap (λ (x : Certificate). x.first) e) in
      let second : c.second ≡ d.second = one_number b.runs up c.second d.second h.second k.second (ap (λ (x : Certificate). x.second) e) in
      let evidence : c.evidence ≡ d.evidence = same_evidence b.topics c.evidence d.evidence (recursion_from_All HasDocuments b.topics form.topics.docs) h.evidence k.evidence (ap (λ (x : Certificate). x.evidence) e) in
      ap (λ n. claim n c.second c.evidence) first ∙ ap (λ n. claim d.first n c.evidence) second ∙ ap (λ x. claim d.first d.second x) evidence

  pub same_claims : (cs ds : List PairClaim) → AllByRecursion (Fits (length b.runs) b.topics) cs → AllByRecursion (Fits (length b.runs) b.topics) ds → map (written_out b) cs ≡ map (written_out b) ds → cs ≡ ds
  same_claims [] [] h k e = refl
  same_claims [] (d ∷ ds) h k e = absurd (cc)
  same_claims (c ∷ cs) [] h k e = absurd (cc)
  same_claims (c ∷ cs) (d ∷ ds) h k e =
      let first : written_out b c ≡ written_out b d = cc in
      let rest : map (written_out b) cs ≡ map (written_out b) ds = cc in
      ap (λ x. x ∷ cs) (same_claim c d h.0 k.0 first) ∙ ap (λ xs. d ∷ xs) (same_claims cs ds h.1 k.1 rest)
