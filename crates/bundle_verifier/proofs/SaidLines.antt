-- The line that is told says what is wrong.
use Rattle.std.proofs.Common.{◌≡◌, ℕ, zero, suc, ◌+◌, ◌-◌, ◌<◌, List, [], ◌∷◌, ◌++◌, codes, length, flat_map, map, take, Some, refl, ap, sym, ◌∙◌, arith, append_assoc, append-nil, length-append}
use Rattle.std.specs.Prelude.{slice_get}
use Rattle.std.specs.List.{zip}
use Rattle.std.proofs.lemmas.List.{length-map}
use Rattle.std.proofs.lemmas.Option.{slice_get_within}
use Rattle.std.proofs.lemmas.Slice.Zip.{length-zip}
use Rattle.small_lemmas.proofs.Lists.{map_there, slice_get-append, slice_get-append_past}
use Rattle.desk_model.proofs.PairPlace.{there}
use Rattle.desk_model.specs.Desk.{Desk}
use Rattle.desk_model.specs.declared.types.Mark.{Mark}
use Rattle.line_forms.specs.Places.{count_line}
use Rattle.order_certificate.specs.Certificate.{topics_line}
use Rattle.order_certificate.specs.Claim.{NamedTopic}
use Rattle.order_certificate.specs.declared.certificate.TopicWitness.{TopicWitness}
use Rattle.order_certificate.specs.declared.place.CertificatePlace.{CertificatePlace}
use Rattle.order_certificate.specs.declared.place.CertificatePlace.TheVariants as place
use Rattle.order_certificate.specs.declared.place.WitnessList.{WitnessList}
use Rattle.order_certificate.specs.declared.place.WitnessList.TheVariants.{Low, High}
use Rattle.order_bundle.specs.Bundle.{Bundle, bundle_lines, claim_lines, claims_lines, list_lines, pick_line, picks_lines, run_line, topic_lines, topics_lines}
use Rattle.order_bundle.specs.Evidence.{name_at, named_evidence, named_lists}
use Rattle.order_bundle.specs.declared.bundle.PairClaim.{PairClaim}
use Rattle.order_bundle.specs.declared.bundle.PairEvidence.{PairEvidence}
use Rattle.order_bundle.specs.declared.bundle.PairEvidence.TheVariants.{Above, Equal, Open}
use Rattle.order_bundle.specs.declared.bundle.Picks.{Picks}
use Rattle.order_bundle.specs.declared.bundle.TopicNames.{TopicNames}
use Rattle.order_verifier.specs.Refusal.{Compared, HasOther, HasWrongDocument, topic_names, topics_in}
use Rattle.order_verifier.specs.declared.failure.Failure.TheVariants.{NotCompletion}
use Rattle.bundle_verifier.specs.Lines.{line_of_claim, line_of_name, line_of_place, line_on_lists, lists_in, lists_of, low_length}
use Rattle.bundle_verifier.specs.Refusal.{names_of_topics}
use Rattle.bundle_verifier.specs.Says.{OfBundleLine, SaysName, SaysPick, picks_on}
use Rattle.bundle_verifier.specs.Verified.{IsReason}
use Rattle.bundle_verifier.specs.declared.reason.BundleName.{BundleName}
use Rattle.bundle_verifier.specs.declared.reason.BundleName.TheVariants.{Run, TopicCount, Topic}
use Rattle.bundle_verifier.specs.declared.reason.BundleReason.TheVariants.{WrongName, ClaimFails}

-- ---- the parts of a text, one after the other
-- an item of one of some lists that are joined comes after all those of the lists before
joined_at : {X A : Type 0} (f : X → List A) (xs : List X) (more : List A) (i k : ℕ) (x : X) (a : A) → slice_get xs i ≡ Some x → slice_get (f x) k ≡ Some a → slice_get (flat_map f xs ++ more) (length (flat_map f (take i xs)) + k) ≡ Some a
joined_at f [] more i k x a at is = absurd (cc)
joined_at f (y ∷ xs) more zero k x a at is =
    let same : y ≡ x = cc in
    let own = slice_get-append (f y) (flat_map f xs) k a (ap (λ z. slice_get (f z) k) same ∙ is) in
    let here : 0 + k ≡ k = omega arith in
    ap (slice_get ((f y ++ flat_map f xs) ++ more)) here ∙ slice_get-append (f y ++ flat_map f xs) more k a own
joined_at f (y ∷ xs) more (suc i) k x a at is =
    let past : length (f y ++ flat_map f (take i xs)) + k ≡ length (f y) + (length (flat_map f (take i xs)) + k) = omega (arith, length-append (f y) (flat_map f (take i xs))) in
    ap (slice_get ((f y ++ flat_map f xs) ++ more)) past
    ∙ ap (λ zs. slice_get zs (length (f y) + (length (flat_map f (take i xs)) + k))) (append_assoc (f y) (flat_map f xs) more)
    ∙ slice_get-append_past (f y) (flat_map f xs ++ more) (length (flat_map f (take i xs)) + k)
    ∙ joined_at f xs more i k x a at is

-- four lines come before the runs
after_four : {X : Type 0} (a b c d : X) (xs : List X) (k number : ℕ) (x : X) → number ≡ 5 + k → slice_get xs k ≡ Some x → slice_get (a ∷ b ∷ c ∷ d ∷ xs) (number - 1) ≡ Some x
after_four a b c d xs k number x is at =
    let index : number - 1 ≡ suc (suc (suc (suc k))) = omega (arith, is) in ap (slice_get (a ∷ b ∷ c ∷ d ∷ xs)) index ∙ at

-- lines after those of the runs
after_runs : (b : Bundle) (k number : ℕ) (line : List ℕ) → number ≡ 5 + (length b.runs + k) → slice_get (topics_lines b.topics b.claims) k ≡ Some line → slice_get (bundle_lines b) (number - 1) ≡ Some line
after_runs b k number line is at =
    let runs = map run_line b.runs in
    let index : length b.runs + k ≡ length runs + k = omega (arith, length-map b.runs run_line) in
    after_four _ _ _ _ (runs ++ topics_lines b.topics b.claims) (length b.runs + k) number line is
    (ap (slice_get (runs ++ topics_lines b.topics b.claims)) index ∙ slice_get-append_past runs (topics_lines b.topics b.claims) k ∙ at)

-- lines after those of the topics
after_topics : (b : Bundle) (k number : ℕ) (line : List ℕ) → number ≡ 6 + length b.runs + (length (flat_map topic_lines b.topics) + k) → slice_get (claims_lines b.claims) k ≡ Some line → slice_get (bundle_lines b) (number - 1) ≡ Some line
after_topics b k number line is at =
    let topics = flat_map topic_lines b.topics in
    after_runs b (suc (length topics + k)) number line (omega (arith, is)) (slice_get-append_past topics (claims_lines b.claims) k ∙ at)

-- ---- names
run_said : (b : Bundle) (run : ℕ) (name : List ℕ) → slice_get b.runs run ≡ Some name → OfBundleLine b (line_of_name b (Run run)) (SaysName b (Run run))
run_said b run name at =
    let runs = map run_line b.runs in (
      run_line name,
      after_four _ _ _ _ (runs ++ topics_lines b.topics b.claims) run (5 + run) (run_line name) refl
          (slice_get-append runs (topics_lines b.topics b.claims) run (run_line name) (map_there run_line b.runs run name at)),
      (name, at, refl),
    )

count_said : (b : Bundle) → OfBundleLine b (line_of_name b TopicCount) (SaysName b TopicCount)
count_said b = (topics_line (length b.topics), after_runs b 0 (5 + length b.runs) (topics_line (length b.topics)) (omega arith) refl, refl)

topic_said : (b : Bundle) (topic : ℕ) (t : TopicNames) → slice_get b.topics topic ≡ Some t → OfBundleLine b (line_of_name b (Topic topic)) (SaysName b (Topic topic))
topic_said b topic t at =
    let first = count_line (codes "topic ") t.topic (length t.docs) in
    let k = length (flat_map topic_lines (take topic b.topics)) in
    let placed = joined_at topic_lines b.topics (claims_lines b.claims) topic 0 t first at refl in
    (first, after_runs b (suc (k + 0)) (6 + length b.runs + k) first (omega arith) placed, (t, at, refl))

pub name_said : (b : Bundle) (desk : Desk) (marks : List (List Mark)) (name : BundleName) → IsReason b desk marks (WrongName name) → OfBundleLine b (line_of_name b name) (SaysName b name)
name_said b desk marks (Run run) h = run_said b run h.item h.there
name_said b desk marks TopicCount h = count_said b
name_said b desk marks (Topic topic) h =
    let first = h.1.1 in
    let within = slice_get_within (zip (names_of_topics b.topics) (topic_names desk)) topic first.item first.there in
    let t = there b.topics topic (omega (arith, within, length-zip (names_of_topics b.topics) (topic_names desk), length-map b.topics (λ (t : TopicNames). t.topic))) in
    topic_said b topic t.0 t.1

-- ---- picks
-- the place of a pick among the lines of its topic
within : WitnessList → Picks → ℕ → ℕ
within Low p document = 1 + document
within High p document = 2 + length p.low + document

pick_within : (p : Picks) (list : WitnessList) (document k : ℕ) → slice_get (picks_on list p) document ≡ Some k → slice_get (picks_lines p) (within list p document) ≡ Some (pick_line k)
unfolding within
pick_within p Low document k at =
    let index : 1 + document ≡ suc document = omega arith in
    ap (slice_get (picks_lines p)) index ∙ slice_get-append (map pick_line p.low) (list_lines (codes "high ") p.high) document (pick_line k) (map_there pick_line p.low document k at)
pick_within p High document k at =
    let lows = map pick_line p.low in
    let index : 2 + length p.low + document ≡ suc (length lows + suc document) = omega (arith, length-map p.low pick_line) in
    ap (slice_get (picks_lines p)) index ∙ slice_get-append_past lows (list_lines (codes "high ") p.high) (suc document) ∙ map_there pick_line p.high document k at

-- the place of a pick among the lines of its claim
number_within : (lists : List Picks) (topic : ℕ) (list : WitnessList) (document : ℕ) (p : Picks) → slice_get lists topic ≡ Some p →
    line_on_lists lists (place.Document topic list document) ≡ suc (length (flat_map picks_lines (take topic lists)) + within list p document)
unfolding within
number_within lists topic Low document p at = omega arith
number_within lists topic High document p at = omega (arith, ap low_length at)

-- a pick of the lists of a claim
pub record IsPickOf (b : Bundle) (claim topic : ℕ) (list : WitnessList) (document : ℕ) : Type 0 where
  pub c : PairClaim
  pub claimed : slice_get b.claims claim ≡ Some c
  pub picks : List Picks
  pub evidence : c.evidence ≡ Open picks
  pub p : Picks
  pub listed : slice_get picks topic ≡ Some p
  pub k : ℕ
  pub picked : slice_get (picks_on list p) document ≡ Some k

pick_said : (b : Bundle) (claim topic : ℕ) (list : WitnessList) (document : ℕ) → IsPickOf b claim topic list document →
    OfBundleLine b (line_of_place b claim (place.Document topic list document)) (SaysPick b claim (place.Document topic list document))
pick_said b claim topic list document h =
    let lists = h.picks in
    let p = h.p in
    let line = pick_line h.k in
    let own : lists_of (slice_get b.claims claim) ≡ lists = ap lists_of h.claimed ∙ ap lists_in h.evidence in
    let before = length (flat_map picks_lines (take topic lists)) in
    let own_line = pick_within p list document h.k h.picked in
    let in_lists = ap (λ zs. slice_get zs (before + within list p document)) (sym (append-nil (flat_map picks_lines lists))) ∙ joined_at picks_lines lists [] topic (within list p document) p line h.listed own_line in
    let in_claim : slice_get (claim_lines h.c) (suc (before + within list p document)) ≡ Some line =
    ap (λ e. slice_get (claim_lines (record h.c { evidence = e })) (suc (before + within list p document))) h.evidence ∙ in_lists in
    let claims = length (flat_map claim_lines (take claim b.claims)) in
    let j = suc (before + within list p document) in
    let placed = joined_at claim_lines b.claims (codes "end" ∷ []) claim j h.c line h.claimed in_claim in
    let same : line_on_lists (lists_of (slice_get b.claims claim)) (place.Document topic list document) ≡ j =
    ap (λ ls. line_on_lists ls (place.Document topic list document)) own ∙ number_within lists topic list document p h.listed in (
      line,
      after_topics b (suc (claims + j)) (line_of_place b claim (place.Document topic list document)) line (omega (arith, same)) placed,
      (p, ap (λ ls. slice_get ls topic) own ∙ h.listed, h.k, h.picked, refl),
    )

-- ---- the wrong pick
-- an item of a list that is mapped, or of two that are paired
mapped_there : {X Y : Type 0} (f : X → Y) (xs : List X) (i : ℕ) (y : Y) → slice_get (map f xs) i ≡ Some y → (x : X) × (slice_get xs i ≡ Some x) × (y ≡ f x)
mapped_there f [] i y e = absurd (cc)
mapped_there f (x ∷ xs) zero y e = (x, refl, cc)
mapped_there f (x ∷ xs) (suc i) y e = mapped_there f xs i y e

pair_there : {A B : Type 0} (xs : List A) (ys : List B) (i : ℕ) (p : A × B) → slice_get (zip xs ys) i ≡ Some p → (slice_get xs i ≡ Some p.0) × (slice_get ys i ≡ Some p.1)
pair_there [] ys i p e = absurd (cc)
pair_there (x ∷ xs) [] i p e = absurd (cc)
pair_there (x ∷ xs) (y ∷ ys) zero p e = let same : (x, y) ≡ p = cc in (ap (λ q. Some q.0) same, ap (λ q. Some q.1) same)
pair_there (x ∷ xs) (y ∷ ys) (suc i) p e = pair_there xs ys i p e

-- the lists of a topic, by those written out
lists_there : (topics : List TopicNames) (picks : List Picks) (own : List NamedTopic) (topic : ℕ) (w : TopicWitness × NamedTopic) → slice_get (zip (map named_lists (zip topics picks)) own) topic ≡ Some w →
    (t : TopicNames) × (p : Picks) × (slice_get picks topic ≡ Some p) × (w.0 ≡ named_lists (t, p))
lists_there topics picks own topic w e =
    let named = mapped_there named_lists (zip topics picks) topic w.0 (pair_there (map named_lists (zip topics picks)) own topic w e).0 in
    (named.0.0, named.0.1, (pair_there topics picks topic named.0 named.1).1, named.2)

-- a pick by the name for which it stands
pick_there : (name_of : ℕ → List ℕ) (picks : List ℕ) (names : List (List ℕ)) (document : ℕ) (name : List ℕ) → names ≡ map name_of picks → slice_get names document ≡ Some name → (k : ℕ) × (slice_get picks document ≡ Some k)
pick_there name_of picks names document name same at =
    let found = mapped_there name_of picks document name (sym (ap (λ ns. slice_get ns document) same) ∙ at) in (found.0, found.1)

other_pick : (t : TopicNames) (p : Picks) (item : TopicWitness × NamedTopic) (topic other : ℕ) (list : WitnessList) (document : ℕ) → item.0 ≡ named_lists (t, p) → HasOther topic item (place.Document other list document) →
    (other ≡ topic) × ((k : ℕ) × (slice_get (picks_on list p) document ≡ Some k))
other_pick t p item topic other Low document same h = (h.0, pick_there (name_at t.docs) p.low item.0.low document h.1.item (ap (λ (w : TopicWitness). w.low) same) h.1.there)
other_pick t p item topic other High document same h = (h.0, pick_there (name_at t.docs) p.high item.0.high document h.2.item (ap (λ (w : TopicWitness). w.high) same) h.2.there)

-- a claim on the order with its lists
pub record HasLists (b : Bundle) (claim : ℕ) (c : PairClaim) (picks : List Picks) : Type 0 where
  pub claimed : slice_get b.claims claim ≡ Some c
  pub evidence : c.evidence ≡ Open picks

from_other : (b : Bundle) (claim : ℕ) (c : PairClaim) (picks : List Picks) → HasLists b claim c picks → (own : List NamedTopic) (topic : ℕ) (item : TopicWitness × NamedTopic) → slice_get (zip (map named_lists (zip b.topics picks)) own) topic ≡ Some item →
    (at : CertificatePlace) → HasOther topic item at → OfBundleLine b (line_of_place b claim at) (SaysPick b claim at)
from_other b claim c picks has own topic item is place.FirstRun h = absurd h
from_other b claim c picks has own topic item is place.SecondRun h = absurd h
from_other b claim c picks has own topic item is place.TopicCount h = absurd h
from_other b claim c picks has own topic item is (place.Topic other) h = absurd h
from_other b claim c picks has own topic item is (place.Document other list document) h =
    let (t, p, listed, same) = lists_there b.topics picks own topic item is in
    let found = other_pick t p item topic other list document same h in
    pick_said b claim other list document
    (record { c = c; claimed = has.claimed; picks = picks; evidence = has.evidence; p = p; listed = ap (slice_get picks) found.0 ∙ listed; k = found.1.0; picked = found.1.1 })

wrong_pick : (b : Bundle) (claim : ℕ) (c : PairClaim) → slice_get b.claims claim ≡ Some c → (k : Compared) (e : PairEvidence) → c.evidence ≡ e → (at : CertificatePlace) → HasWrongDocument k (named_evidence b.topics e) at →
    OfBundleLine b (line_of_place b claim at) (SaysPick b claim at)
wrong_pick b claim c is k (Above bounds) e at h = absurd h
wrong_pick b claim c is k (Equal bounds) e at h = absurd h
wrong_pick b claim c is k (Open picks) e at (topic, h) = from_other b claim c picks (record { claimed = is; evidence = e }) (topics_in k) topic h.item h.there at h.fails

pub wrong_pick_said : (b : Bundle) (desk : Desk) (marks : List (List Mark)) (claim : ℕ) (at : CertificatePlace) → IsReason b desk marks (ClaimFails claim (NotCompletion at)) → OfBundleLine b (line_of_place b claim at) (SaysPick b claim at)
wrong_pick_said b desk marks claim at h =
    let first = h.1 in
    let c : PairClaim = first.item in
    let (x, y, runs, topics, fails) = first.fails in
    wrong_pick b claim c first.there (record { measure = b.measure; desk = desk; marks = marks; first = x; second = y }) c.evidence refl at fails
