-- The claims of a bundle, as they are written line by line.
use Rattle.std.proofs.Common.{◌≡◌, ℕ, ◌^◌, ◌<◌, ◌≤◌, List, [], ◌∷◌, ◌++◌, length, refl, ap, sym, subst, ◌∙◌, arith, rules, map, flat_map, Option, None}
use Rattle.std.specs.Prelude.{codes, decimal}
use Rattle.std.specs.List.{All, AllByRecursion}
use Rattle.std.proofs.lemmas.Fmt.{decimal_injective}
use Rattle.std.proofs.lemmas.List.{append_cancel_left}
use Rattle.std.proofs.lemmas.List.Elements.{All-from_recursion, recursion_from_All}
use Rattle.std.proofs.lemmas.Slice.Zip.{AllZip-long}
use Rattle.desk_model.specs.Limits.{RUN_LIMIT}
use Rattle.line_forms.specs.Form.{Form, Whole, Spells}
use Rattle.line_forms.specs.Places.{number_place}
use Rattle.line_forms.specs.Rows.{rows, AllFollow}
use Rattle.line_forms.proofs.Cuts.{above-append, above_less, same_parts}
use Rattle.line_forms.proofs.Forms.{IsPlain, bind_plain}
use Rattle.line_forms.proofs.Plain.{decimal_in_line, number_plain}
use Rattle.line_forms.proofs.Rows.{Kind, rows_forth, rows_back, rows_plain}
use Rattle.line_forms.proofs.Shown.{decimal_above}
use Rattle.line_forms.proofs.Spelling.{line_forth, made_forth, made_back, flat_single}
use Rattle.order_certificate.specs.Places.{claim_line}
use Rattle.order_certificate.specs.declared.places.Claim.{Claim}
use Rattle.order_certificate.specs.declared.places.Claim.TheVariants as claimed
use Rattle.order_certificate.proofs.Whole.{claim_plain}
use Rattle.order_bundle.specs.Bundle.{AreClaims, ArePicksOn, AreRunsOfClaim, AreTopicNames, IsClaimAfter, IsClaimCount, IsEvidenceOn, IsLowerBound, AreBothBounds, both_bounds_line, bound_line, claim_lines, evidence_lines, last_pair, number_line, picks_lines, runs_text}
use Rattle.order_bundle.specs.Places.{after_head, both_bounds_place, both_bounds_places, bound_place, bound_places, claim_places, claims_places, evidence_places, head_line, head_place, topic_picks_places}
use Rattle.order_bundle.specs.declared.bundle.PairClaim.{PairClaim}
use Rattle.order_bundle.specs.declared.bundle.PairEvidence.{PairEvidence}
use Rattle.order_bundle.specs.declared.bundle.PairEvidence.TheVariants.{Above, Equal, Open}
use Rattle.order_bundle.specs.declared.bundle.TopicNames.{TopicNames}
use Rattle.order_bundle.specs.declared.places.ClaimHead.{ClaimHead}
use Rattle.order_bundle.specs.declared.places.UnorderedPair.{UnorderedPair}
use Rattle.order_bundle.proofs.PickRows.{bound_kind, both_bounds_kind, picks_in, picks_kind, same_key}
use Rattle.order_bundle.proofs.PickOrder.{ArePicksOf, follow_of_zip, next_topic, zip_of_follow}

-- rows that follow no key
keyless : {V : Type 0} (Fits : V → Type 0) (vs : List V) → AllFollow same_key (λ _ v. Fits v) tt vs → AllByRecursion Fits vs
keyless Fits [] h = tt
keyless Fits (v ∷ vs) h = (h.0, keyless Fits vs h.1)

keyed : {V : Type 0} (Fits : V → Type 0) (vs : List V) → AllByRecursion Fits vs → AllFollow same_key (λ _ v. Fits v) tt vs
keyed Fits [] h = tt
keyed Fits (v ∷ vs) h = (h.0, keyed Fits vs h.1)

module _ {V : Type 0} (one : Unit {0} → Form V) (show : V → List ℕ) (Fits : V → Type 0) (kind : Kind one (λ v. show v ∷ []) (λ _ v. Fits v)) where
  each_forth : (n : ℕ) (ls : List (List ℕ)) (vs : List V) → Spells (rows one same_key n tt) ls vs → (length vs ≡ n) × All Fits vs × (ls ≡ map show vs)
  each_forth n ls vs s =
      let h = rows_forth one same_key (λ v. show v ∷ []) (λ _ v. Fits v) kind n tt ls vs s in
      (h.0, All-from_recursion Fits vs (keyless Fits vs h.1), h.2 ∙ flat_single show vs)

  each_back : (n : ℕ) (vs : List V) → length vs ≡ n → All Fits vs → Spells (rows one same_key n tt) (map show vs) vs
  each_back n vs size fits =
      subst (λ zs. Spells (rows one same_key n tt) zs vs) (flat_single show vs)
      (subst (λ k. Spells (rows one same_key k tt) (flat_map (λ v. show v ∷ []) vs) vs) size
      (rows_back one same_key (λ v. show v ∷ []) (λ _ v. Fits v) kind vs tt (keyed Fits vs (recursion_from_All Fits vs fits))))

  each_plain : (n : ℕ) → IsPlain (rows one same_key n tt)
  each_plain n = rows_plain one same_key (λ v. show v ∷ []) (λ _ v. Fits v) kind n tt

pub bounds_plain : (n : ℕ) → IsPlain (bound_places n)
bounds_plain = each_plain bound_place bound_line IsLowerBound bound_kind

pub both_bounds_plain : (n : ℕ) → IsPlain (both_bounds_places n)
both_bounds_plain = each_plain both_bounds_place both_bounds_line AreBothBounds both_bounds_kind

-- ---- the evidence of a claim
-- the lines after that of the claim, and what is claimed
abbrev rest_lines : PairEvidence → List (List ℕ)
rest_lines (Above bounds) = map bound_line bounds
rest_lines (Equal bounds) = map both_bounds_line bounds
rest_lines (Open picks) = flat_map picks_lines picks

abbrev claim_in : PairEvidence → Claim
claim_in (Above bounds) = claimed.Above
claim_in (Equal bounds) = claimed.Equal
claim_in (Open picks) = claimed.Open

abbrev SpellsEvidence : List TopicNames → Claim → List (List ℕ) → PairEvidence → Type 0
SpellsEvidence topics claim ls e = IsEvidenceOn topics e × (ls ≡ rest_lines e) × (claim ≡ claim_in e)

module _ (topics : List TopicNames) (are : AreTopicNames topics) where
  evidence_forth : (claim : Claim) (ls : List (List ℕ)) (e : PairEvidence) → Spells (evidence_places topics claim) ls e → SpellsEvidence topics claim ls e
  evidence_forth claimed.Above ls e s =
      let m = made_forth (bound_places (length topics)) Above ls e s in
      let h = each_forth bound_place bound_line IsLowerBound bound_kind (length topics) ls m.0 m.2 in
      subst (SpellsEvidence topics claimed.Above ls) m.1 ((h.0, h.1), h.2, refl)
  evidence_forth claimed.Equal ls e s =
      let m = made_forth (both_bounds_places (length topics)) Equal ls e s in
      let h = each_forth both_bounds_place both_bounds_line AreBothBounds both_bounds_kind (length topics) ls m.0 m.2 in
      subst (SpellsEvidence topics claimed.Equal ls) m.1 ((h.0, h.1), h.2, refl)
  evidence_forth claimed.Open ls e s =
      let m = made_forth (topic_picks_places topics) Open ls e s in
      let h = rows_forth (picks_in topics) next_topic picks_lines (ArePicksOf topics) (picks_kind topics are) (length topics) 0 ls m.0 m.2 in
      subst (SpellsEvidence topics claimed.Open ls) m.1 (zip_of_follow topics m.0 h.0 h.1, h.2, refl)

  evidence_back : (e : PairEvidence) → IsEvidenceOn topics e → Spells (evidence_places topics (claim_in e)) (rest_lines e) e
  evidence_back (Above bounds) h =
      made_back (bound_places (length topics)) Above (map bound_line bounds) bounds (each_back bound_place bound_line IsLowerBound bound_kind (length topics) bounds h.0 h.1)
  evidence_back (Equal bounds) h =
      made_back (both_bounds_places (length topics)) Equal (map both_bounds_line bounds) bounds (each_back both_bounds_place both_bounds_line AreBothBounds both_bounds_kind (length topics) bounds h.0 h.1)
  evidence_back (Open picks) h =
      made_back (topic_picks_places topics) Open (flat_map picks_lines picks) picks
      (subst (λ n. Spells (rows (picks_in topics) next_topic n 0) (flat_map picks_lines picks) picks) (sym (AllZip-long ArePicksOn picks topics h))
      (rows_back (picks_in topics) next_topic picks_lines (ArePicksOf topics) (picks_kind topics are) picks 0 (follow_of_zip topics picks h)))

  pub topic_picks_plain : IsPlain (topic_picks_places topics)
  topic_picks_plain = rows_plain (picks_in topics) next_topic picks_lines (ArePicksOf topics) (picks_kind topics are) (length topics) 0

  pub evidence_plain : (claim : Claim) → IsPlain (evidence_places topics claim)
  evidence_plain claimed.Above = bind_plain (bound_places (length topics)) (λ bounds. Whole (Above bounds)) (bounds_plain (length topics)) (λ _. tt)
  evidence_plain claimed.Equal = bind_plain (both_bounds_places (length topics)) (λ bounds. Whole (Equal bounds)) (both_bounds_plain (length topics)) (λ _. tt)
  evidence_plain claimed.Open = bind_plain (topic_picks_places topics) (λ picks. Whole (Open picks)) topic_picks_plain (λ _. tt)

-- ---- the line of a claim
claim_line_of : (e : PairEvidence) (runs : List ℕ) → (claim_line (claim_in e) ++ 32 ∷ runs) ∷ rest_lines e ≡ evidence_lines e runs
claim_line_of (Above bounds) runs = refl
claim_line_of (Equal bounds) runs = refl
claim_line_of (Open picks) runs = refl

-- the words of claims differ in their seventh byte
abbrev seventh : List ℕ → ℕ
seventh (a ∷ b ∷ c ∷ d ∷ e ∷ f ∷ g ∷ rest) = g
seventh _ = 0

pub one_claim : (p q : Claim) (x y : List ℕ) → claim_line p ++ 32 ∷ x ≡ claim_line q ++ 32 ∷ y → (p ≡ q) × (x ≡ y)
one_claim claimed.Above claimed.Above x y e = (refl, append_cancel_left (codes "claim above ") x y e)
one_claim claimed.Equal claimed.Equal x y e = (refl, append_cancel_left (codes "claim equal ") x y e)
one_claim claimed.Open claimed.Open x y e = (refl, append_cancel_left (codes "claim open ") x y e)
one_claim claimed.Above claimed.Equal x y e = let n = ap seventh e in absurd (omega arith)
one_claim claimed.Above claimed.Open x y e = let n = ap seventh e in absurd (omega arith)
one_claim claimed.Equal claimed.Above x y e = let n = ap seventh e in absurd (omega arith)
one_claim claimed.Equal claimed.Open x y e = let n = ap seventh e in absurd (omega arith)
one_claim claimed.Open claimed.Above x y e = let n = ap seventh e in absurd (omega arith)
one_claim claimed.Open claimed.Equal x y e = let n = ap seventh e in absurd (omega arith)

-- two numbers are cut at one place
pub one_pair : (a b c d : ℕ) → a < 2 ^ 64 → b < 2 ^ 64 → c < 2 ^ 64 → d < 2 ^ 64 → runs_text a b ≡ runs_text c d → (a ≡ c) × (b ≡ d)
one_pair a b c d ha hb hc hd e =
    let parts = same_parts 32 (decimal a) (decimal c) (decimal b) (decimal d) (above_less 32 47 (decimal a) (omega arith) (decimal_above a)) (above_less 32 47 (decimal c) (omega arith) (decimal_above c)) e in
    (decimal_injective a c ha hc parts.0, decimal_injective b d hb hd parts.1)

same_head : (h k : ClaimHead) → h.claim ≡ k.claim → h.first ≡ k.first → h.second ≡ k.second → h ≡ k
same_head h k c f s = ap (λ z. record { claim = z; first = h.first; second = h.second }) c ∙ ap (λ z. record { claim = k.claim; first = z; second = h.second }) f ∙ ap (λ z. record { claim = k.claim; first = k.first; second = z }) s

abbrev pub FitsHead : ℕ → Option UnorderedPair → ClaimHead → Type 0
FitsHead runs last h = AreRunsOfClaim runs last h.first h.second

pub head_plain : (runs : ℕ) (last : Option UnorderedPair) → runs ≤ RUN_LIMIT → IsPlain (head_place runs last)
head_plain runs last few = (
  (λ h k fh fk e.
      let parts = one_claim h.claim k.claim (runs_text h.first h.second) (runs_text k.first k.second) e in
      let a = fh.first_known in
      let b = fh.second_known in
      let c = fk.first_known in
      let d = fk.second_known in
      let both = one_pair h.first h.second k.first k.second (omega arith) (omega arith) (omega arith) (omega arith) parts.1 in
      same_head h k parts.0 both.0 both.1),
  (λ h fh. above-append 10 (claim_line h.claim) (32 ∷ runs_text h.first h.second) (claim_plain.1 h.claim tt) (omega arith, above-append 10 (decimal h.first) (32 ∷ decimal h.second) (decimal_in_line h.first) (omega arith, decimal_in_line h.second))),
  (λ h fh. tt),
)

-- ---- claims
abbrev pub claim_of : ClaimHead → PairEvidence → PairClaim
claim_of h e = record { first = h.first; second = h.second; evidence = e }

pub claim_count_plain : IsPlain (number_place (codes "claims ") IsClaimCount)
claim_count_plain = number_plain (codes "claims ") (search rules) IsClaimCount (λ n le. omega arith)

module _ (runs : ℕ) (topics : List TopicNames) (known : runs ≤ RUN_LIMIT) (are : AreTopicNames topics) where
  claim_forth : (last : Option UnorderedPair) (ls : List (List ℕ)) (c : PairClaim) → Spells (claim_places runs topics last) ls c → IsClaimAfter runs topics last c × (ls ≡ claim_lines c)
  claim_forth last ls c s =
      let head = line_forth head_line (FitsHead runs last) (after_head topics) ls c s in
      let h = head.0 in
      let made = made_forth (evidence_places topics h.claim) (claim_of h) head.1 c head.4 in
      let e = evidence_forth topics are h.claim head.1 made.0 made.2 in
      let text = runs_text h.first h.second in
      let lines : ls ≡ claim_lines (claim_of h made.0) = head.3 ∙ ap (λ zs. head_line h ∷ zs) e.1 ∙ ap (λ z. (claim_line z ++ 32 ∷ text) ∷ rest_lines made.0) e.2 ∙ claim_line_of made.0 text in
      subst (λ z. IsClaimAfter runs topics last z × (ls ≡ claim_lines z)) made.1 ((head.2, e.0), lines)

  claim_back : (last : Option UnorderedPair) (c : PairClaim) → IsClaimAfter runs topics last c → Spells (claim_places runs topics last) (claim_lines c) c
  claim_back last c fits =
      let h : ClaimHead = record { claim = claim_in c.evidence; first = c.first; second = c.second } in
      let spelled : Spells (claim_places runs topics last) (head_line h ∷ rest_lines c.evidence) c =
      (h, fits.0, refl, made_back (evidence_places topics h.claim) (claim_of h) (rest_lines c.evidence) c.evidence (evidence_back topics are c.evidence fits.1)) in
      subst (λ zs. Spells (claim_places runs topics last) zs c) (claim_line_of c.evidence (runs_text c.first c.second)) spelled

  pub after_head_plain : (h : ClaimHead) → IsPlain (after_head topics h)
  after_head_plain h = bind_plain (evidence_places topics h.claim) (λ e. Whole (claim_of h e)) (evidence_plain topics are h.claim) (λ e. tt)

  one_claim_plain : (last : Option UnorderedPair) → IsPlain (claim_places runs topics last)
  one_claim_plain last = bind_plain (head_place runs last) (after_head topics) (head_plain runs last known) after_head_plain

  pub claim_kind : Kind (claim_places runs topics) claim_lines (IsClaimAfter runs topics)
  claim_kind = record { forth = claim_forth; back = claim_back; plain = one_claim_plain }

  pub each_claim_plain : (n : ℕ) → IsPlain (rows (claim_places runs topics) last_pair n None)
  each_claim_plain n = rows_plain (claim_places runs topics) last_pair claim_lines (IsClaimAfter runs topics) claim_kind n None

  pub claims_plain : IsPlain (claims_places runs topics)
  claims_plain = bind_plain (number_place (codes "claims ") IsClaimCount) (λ n. rows (claim_places runs topics) last_pair n None) claim_count_plain each_claim_plain

  pub claims_forth : (ls : List (List ℕ)) (claims : List PairClaim) → Spells (claims_places runs topics) ls claims → AreClaims runs topics claims × (ls ≡ number_line (codes "claims ") (length claims) ∷ flat_map claim_lines claims)
  claims_forth ls claims s =
      let head = line_forth (number_line (codes "claims ")) IsClaimCount (λ n. rows (claim_places runs topics) last_pair n None) ls claims s in
      let h = rows_forth (claim_places runs topics) last_pair claim_lines (IsClaimAfter runs topics) claim_kind head.0 None head.1 claims head.4 in (
        record { count = subst IsClaimCount (sym h.0) head.2; ascending = h.1 },
        head.3 ∙ ap (λ zs. number_line (codes "claims ") head.0 ∷ zs) h.2 ∙ ap (λ n. number_line (codes "claims ") n ∷ flat_map claim_lines claims) (sym h.0),
      )

  pub claims_back : (claims : List PairClaim) → AreClaims runs topics claims → Spells (claims_places runs topics) (number_line (codes "claims ") (length claims) ∷ flat_map claim_lines claims) claims
  claims_back claims are_claims = (length claims, are_claims.count, refl, rows_back (claim_places runs topics) last_pair claim_lines (IsClaimAfter runs topics) claim_kind claims None are_claims.ascending)
