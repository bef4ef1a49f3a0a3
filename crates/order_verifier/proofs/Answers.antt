-- A certificate has one answer, and a rejected one is no evidence.
use Rattle.std.proofs.Common.{◌≡◌, ◌≢◌, ℕ, List, [], ◌∷◌, length, Ok, Err, refl, ap, sym, subst, ◌∙◌, arith, ◌⊎◌, inl, inr, true, false, ℤ, pos, ◌≤ℤ◌, ◌<ℤ◌}
use Rattle.std.specs.Prelude.{Result}
use Rattle.std.specs.List.{AllByRecursion, zip}
use Rattle.std.proofs.lemmas.Int.{ints}
use Rattle.std.proofs.lemmas.List.Elements.{recursion_from_All}
use Rattle.desk_model.specs.Desk.{Desk}
use Rattle.desk_model.specs.Extremes.{Ends}
use Rattle.desk_model.specs.Verdict.{differs}
use Rattle.desk_model.specs.declared.types.Mark.{Mark}
use Rattle.order_certificate.specs.Claim.{NamedTopic, named_topics, topics_of}
use Rattle.order_certificate.specs.Evidence.{AreUnjudged, IsEvidence, Shows}
use Rattle.order_certificate.specs.PlaceLines.{line_of_place}
use Rattle.order_certificate.specs.declared.certificate.Certificate.{Certificate}
use Rattle.order_certificate.specs.declared.certificate.Evidence.{Evidence}
use Rattle.order_certificate.specs.declared.certificate.Evidence.TheVariants.{Above, Equal, Open}
use Rattle.order_certificate.specs.declared.certificate.TopicBound.{TopicBound}
use Rattle.order_certificate.specs.declared.certificate.TopicWitness.{TopicWitness}
use Rattle.order_certificate.specs.declared.place.CertificatePlace.{CertificatePlace}
use Rattle.order_certificate.specs.declared.place.CertificatePlace.TheVariants.{FirstRun, SecondRun, TopicCount, Topic, Document}
use Rattle.order_certificate.specs.declared.place.WitnessList.TheVariants.{Low, High}
use Rattle.order_verifier.specs.Refusal.{AreCompletions, Bounded, BoundsHold, Compared, HasBoundTooGreat, HasCompletions, HasGreaterLow, HasHigh, HasLow, HasOther, HasSameOrder, HasSmallerHigh, HasWrongDocument, HasWrongRun, HaveWrongTopic, IsFirstOther, IsWrongName, NamesRuns, ShowsOf, topic_names, topics_in}
use Rattle.order_verifier.specs.Verified.{FailsBy, IsRejected, IsVerified, OnDesk, rejection}
use Rattle.order_verifier.specs.declared.failure.Failure.{Failure}
use Rattle.order_verifier.specs.declared.failure.Failure.TheVariants as failed
use Rattle.order_verifier.specs.declared.rejected.Rejected.{Rejected}
use Rattle.order_verifier.specs.declared.rejected.Rejected.TheVariants.{WrongNames, BoundTooGreat, NoSum, NotCompletion, NoDifference}
use Rattle.measure_laws.proofs.Unique.{named_ends_unique}
use Rattle.order_certificate.proofs.Determined.{one_low_sum, one_high_sum}
use Rattle.order_verifier.proofs.FirstFailing.{pairs_all, both, none_fails, not_held, one_first}
use Rattle.order_verifier.proofs.ListNames.{completions_zip}
use Rattle.order_verifier.proofs.SameNames.{same_zip}
use Rattle.order_verifier.proofs.Unjudged.{IsUnjudgedName, unjudged_one}

-- ---- numbers
-- a number cannot be at most the lower end and greater than it
low_apart : (c : Compared) (p : Bounded) → HasLow c p → HasGreaterLow c p → ⊥
low_apart c p h k =
    let same = named_ends_unique c.measure p.1.topic.marks (p.1.topic.ranking c.first) (p.1.topic.ranking c.second) h.0.0 k.0 h.0.1 k.1 in
    let least : h.0.0.least_lo ≡ k.0.least_lo = ap (λ (e : Ends). e.least_lo) same in
    omega (arith, ints, least, h.0.2, k.2)

high_apart : (c : Compared) (p : Bounded) → HasHigh c p → HasSmallerHigh c p → ⊥
high_apart c p h k =
    let same = named_ends_unique c.measure p.1.topic.marks (p.1.topic.ranking c.first) (p.1.topic.ranking c.second) h.0.0 k.0 h.0.1 k.1 in
    let most : h.0.0.most_hi ≡ k.0.most_hi = ap (λ (e : Ends). e.most_hi) same in
    omega (arith, ints, most, h.0.2, k.2)

either_apart : (c : Compared) (p : Bounded) → HasLow c p × HasHigh c p → HasGreaterLow c p ⊎ HasSmallerHigh c p → ⊥
either_apart c p h (inl k) = low_apart c p h.0 k
either_apart c p h (inr k) = high_apart c p h.1 k

bounds_apart : (c : Compared) (e : Evidence) (topic : ℕ) → BoundsHold c e → HasBoundTooGreat c e topic → ⊥
bounds_apart c (Above bounds) topic h k = none_fails (HasLow c) (HasGreaterLow c) (low_apart c) (zip bounds (topics_in c)) topic (pairs_all _ (λ (b : TopicBound). b.low) bounds (topics_in c) h) k
bounds_apart c (Equal bounds) topic h k =
    let pairs = zip bounds (topics_in c) in
    none_fails (λ p. HasLow c p × HasHigh c p) (λ p. HasGreaterLow c p ⊎ HasSmallerHigh c p) (either_apart c) pairs topic
    (both (HasLow c) (HasHigh c) pairs (pairs_all _ (λ (b : TopicBound). b.low) bounds (topics_in c) h.0) (pairs_all _ (λ (b : TopicBound). b.high) bounds (topics_in c) h.1)) k
bounds_apart c (Open witnesses) topic h k = absurd h

one_too_great : (c : Compared) (e : Evidence) (t u : ℕ) → HasBoundTooGreat c e t → HasBoundTooGreat c e u → t ≡ u
one_too_great c (Above bounds) t u h k = one_first (HasLow c) (HasGreaterLow c) (low_apart c) (zip bounds (topics_in c)) t u h k
one_too_great c (Equal bounds) t u h k = one_first (λ p. HasLow c p × HasHigh c p) (λ p. HasGreaterLow c p ⊎ HasSmallerHigh c p) (either_apart c) (zip bounds (topics_in c)) t u h k
one_too_great c (Open witnesses) t u h k = absurd h

-- ---- lists
-- a list of unjudged documents has no other name
none_other : (t : NamedTopic) (names : List (List ℕ)) (i : ℕ) → AreUnjudged t names → IsFirstOther t names i → ⊥
none_other t names i h k =
    none_fails (λ name. AreUnjudged t (name ∷ [])) (λ name. AreUnjudged t (name ∷ []) → ⊥) (λ name p q. q p) names i (each names (recursion_from_All (IsUnjudgedName t) names h)) k
  where
    each : (ns : List (List ℕ)) → AllByRecursion (IsUnjudgedName t) ns → AllByRecursion (λ name. AreUnjudged t (name ∷ [])) ns
    each [] h = tt
    each (n ∷ ns) h = (unjudged_one t n h.0, each ns h.1)

one_other : (t : NamedTopic) (names : List (List ℕ)) (i j : ℕ) → IsFirstOther t names i → IsFirstOther t names j → i ≡ j
one_other t names i j h k = one_first (λ name. AreUnjudged t (name ∷ [])) (λ name. AreUnjudged t (name ∷ []) → ⊥) (λ name p q. q p) names i j h k

other_apart : (topic : ℕ) (p : TopicWitness × NamedTopic) (place : CertificatePlace) → AreCompletions p → HasOther topic p place → ⊥
other_apart topic p FirstRun h k = k
other_apart topic p SecondRun h k = k
other_apart topic p TopicCount h k = k
other_apart topic p (Topic at) h k = k
other_apart topic p (Document at Low document) h k = none_other p.1 p.0.low document h.0 k.1
other_apart topic p (Document at High document) h k = none_other p.1 p.0.high document h.1 k.2

one_place : (topic : ℕ) (p : TopicWitness × NamedTopic) (x y : CertificatePlace) → HasOther topic p x → HasOther topic p y → x ≡ y
one_place topic p FirstRun y h k = absurd h
one_place topic p SecondRun y h k = absurd h
one_place topic p TopicCount y h k = absurd h
one_place topic p (Topic at) y h k = absurd h
one_place topic p (Document at list document) FirstRun h k = absurd k
one_place topic p (Document at list document) SecondRun h k = absurd k
one_place topic p (Document at list document) TopicCount h k = absurd k
one_place topic p (Document at list document) (Topic other) h k = absurd k
one_place topic p (Document at Low d) (Document at' Low d') h k = let topics : at ≡ at' = h.0 ∙ sym k.0 in ap (λ t. Document t Low d) topics ∙ ap (λ n. Document at' Low n) (one_other p.1 p.0.low d d' h.1 k.1)
one_place topic p (Document at Low d) (Document at' High d') h k = absurd (none_other p.1 p.0.low d k.1 h.1)
one_place topic p (Document at High d) (Document at' Low d') h k = absurd (none_other p.1 p.0.low d' h.1 k.1)
one_place topic p (Document at High d) (Document at' High d') h k = let topics : at ≡ at' = h.0 ∙ sym k.0 in ap (λ t. Document t High d) topics ∙ ap (λ n. Document at' High n) (one_other p.1 p.0.high d d' h.2 k.2)

completions_apart : (c : Compared) (e : Evidence) (place : CertificatePlace) → HasCompletions c e → HasWrongDocument c e place → ⊥
completions_apart c (Above bounds) place h k = absurd h
completions_apart c (Equal bounds) place h k = absurd h
completions_apart c (Open ws) place h (topic, first) = none_fails AreCompletions (λ p. HasOther topic p place) (λ p. other_apart topic p place) (zip ws (topics_in c)) topic (completions_zip ws (topics_in c) h) first

one_wrong_document : (c : Compared) (e : Evidence) (x y : CertificatePlace) → HasWrongDocument c e x → HasWrongDocument c e y → x ≡ y
one_wrong_document c (Above bounds) x y h k = absurd h
one_wrong_document c (Equal bounds) x y h k = absurd h
one_wrong_document c (Open ws) x y (t, h) (u, k) =
    let pairs = zip ws (topics_in c) in
    let same : t ≡ u = one_first AreCompletions (λ p. AreCompletions p → ⊥) (λ p held fails. fails held) pairs t u
    (not_held AreCompletions (λ p. HasOther t p x) (λ p. other_apart t p x) pairs t h) (not_held AreCompletions (λ p. HasOther u p y) (λ p. other_apart u p y) pairs u k) in
    let at = h.there in
    let at' = k.there in
    let item : h.item ≡ k.item = cc in
    one_place u k.item x y (subst (λ i. HasOther i k.item x) same (subst (λ p. HasOther t p x) item h.fails)) k.fails

-- ---- evidence has numbers or lists
abbrev HasNumbers : Evidence → Type 0
HasNumbers (Above bounds) = Unit {0}
HasNumbers (Equal bounds) = Unit {0}
HasNumbers (Open witnesses) = ⊥

abbrev HasLists : Evidence → Type 0
HasLists (Above bounds) = ⊥
HasLists (Equal bounds) = ⊥
HasLists (Open witnesses) = Unit {0}

numbers_or_lists : (e : Evidence) → HasNumbers e → HasLists e → ⊥
numbers_or_lists (Above bounds) h k = k
numbers_or_lists (Equal bounds) h k = k
numbers_or_lists (Open witnesses) h k = h

too_great_numbers : (c : Compared) (e : Evidence) (t : ℕ) → HasBoundTooGreat c e t → HasNumbers e
too_great_numbers c (Above bounds) t h = tt
too_great_numbers c (Equal bounds) t h = tt
too_great_numbers c (Open witnesses) t h = h

bounds_numbers : (c : Compared) (e : Evidence) → BoundsHold c e → HasNumbers e
bounds_numbers c (Above bounds) h = tt
bounds_numbers c (Equal bounds) h = tt
bounds_numbers c (Open witnesses) h = h

wrong_lists : (c : Compared) (e : Evidence) (l : CertificatePlace) → HasWrongDocument c e l → HasLists e
wrong_lists c (Above bounds) l h = h
wrong_lists c (Equal bounds) l h = h
wrong_lists c (Open witnesses) l h = tt

completions_lists : (c : Compared) (e : Evidence) → HasCompletions c e → HasLists e
completions_lists c (Above bounds) h = h
completions_lists c (Equal bounds) h = h
completions_lists c (Open witnesses) h = tt

-- ---- why evidence fails is one, and evidence that fails does not show the claim
one_reason : (c : Compared) (e : Evidence) (r s : Failure) → FailsBy c e r → FailsBy c e s → r ≡ s
one_reason c e (failed.BoundTooGreat t) (failed.BoundTooGreat u) h k = ap failed.BoundTooGreat (one_too_great c e t u h k)
one_reason c e (failed.BoundTooGreat t) failed.NoSum h k = absurd (bounds_apart c e t k.0 h)
one_reason c e (failed.BoundTooGreat t) (failed.NotCompletion l) h k = absurd (numbers_or_lists e (too_great_numbers c e t h) (wrong_lists c e l k))
one_reason c e (failed.BoundTooGreat t) failed.NoDifference h k = absurd (numbers_or_lists e (too_great_numbers c e t h) (completions_lists c e k.0))
one_reason c e failed.NoSum (failed.BoundTooGreat t) h k = absurd (bounds_apart c e t h.0 k)
one_reason c e failed.NoSum failed.NoSum h k = refl
one_reason c e failed.NoSum (failed.NotCompletion l) h k = absurd (numbers_or_lists e (bounds_numbers c e h.0) (wrong_lists c e l k))
one_reason c e failed.NoSum failed.NoDifference h k = absurd (numbers_or_lists e (bounds_numbers c e h.0) (completions_lists c e k.0))
one_reason c e (failed.NotCompletion l) (failed.BoundTooGreat t) h k = absurd (numbers_or_lists e (too_great_numbers c e t k) (wrong_lists c e l h))
one_reason c e (failed.NotCompletion l) failed.NoSum h k = absurd (numbers_or_lists e (bounds_numbers c e k.0) (wrong_lists c e l h))
one_reason c e (failed.NotCompletion l) (failed.NotCompletion m) h k = ap failed.NotCompletion (one_wrong_document c e l m h k)
one_reason c e (failed.NotCompletion l) failed.NoDifference h k = absurd (completions_apart c e l k.0 h)
one_reason c e failed.NoDifference (failed.BoundTooGreat t) h k = absurd (numbers_or_lists e (too_great_numbers c e t k) (completions_lists c e h.0))
one_reason c e failed.NoDifference failed.NoSum h k = absurd (numbers_or_lists e (bounds_numbers c e k.0) (completions_lists c e h.0))
one_reason c e failed.NoDifference (failed.NotCompletion m) h k = absurd (completions_apart c e m h.0 k)
one_reason c e failed.NoDifference failed.NoDifference h k = refl

sums_apart : (c : Compared) (ws : List TopicWitness) → ShowsOf c (Open ws) → HasSameOrder c (Open ws) → ⊥
sums_apart c ws h k =
    let low = one_low_sum c.measure c.first c.second ws (topics_in c) h.1 k.0 h.3 k.2 in
    let high = one_high_sum c.measure c.first c.second ws (topics_in c) h.2 k.1 h.4 k.3 in
    let does : differs h.1 h.2 ≡ true = h.5 in
    let does_not : differs k.0 k.1 ≡ false = k.4 in
    let same : differs h.1 h.2 ≡ differs k.0 k.1 = ap (λ x. differs x h.2) low ∙ ap (λ y. differs k.0 y) high in cc

wrong_sum : (z w : ℤ) → pos 0 ≤ℤ z → w ≤ℤ pos 0 → (z <ℤ pos 0) ⊎ (pos 0 <ℤ w) → ⊥
wrong_sum z w p q (inl h) = omega (arith, ints)
wrong_sum z w p q (inr h) = omega (arith, ints)

shown_or_failed : (c : Compared) (e : Evidence) (r : Failure) → ShowsOf c e → FailsBy c e r → ⊥
shown_or_failed c (Above bounds) (failed.BoundTooGreat t) h k = bounds_apart c (Above bounds) t h.0 k
shown_or_failed c (Equal bounds) (failed.BoundTooGreat t) h k = bounds_apart c (Equal bounds) t (h.0, h.1) k
shown_or_failed c (Open ws) (failed.BoundTooGreat t) h k = k
shown_or_failed c (Above bounds) failed.NoSum h k = let p = h.1 in let q = k.1 in omega (arith, ints, p, q)
shown_or_failed c (Equal bounds) failed.NoSum h k = wrong_sum _ _ h.2 h.3 k.1
shown_or_failed c (Open ws) failed.NoSum h k = k.0
shown_or_failed c (Above bounds) (failed.NotCompletion l) h k = k
shown_or_failed c (Equal bounds) (failed.NotCompletion l) h k = k
shown_or_failed c (Open ws) (failed.NotCompletion l) h k = completions_apart c (Open ws) l h.0 k
shown_or_failed c (Above bounds) failed.NoDifference h k = k.0
shown_or_failed c (Equal bounds) failed.NoDifference h k = k.0
shown_or_failed c (Open ws) failed.NoDifference h k = sums_apart c ws h k.1

-- ---- names
run_apart : (c : Certificate) (desk : Desk) (place : CertificatePlace) (a b : ℕ) → HasWrongRun c desk place → NamesRuns c desk a b → ⊥
run_apart c desk FirstRun a b none ((first, second), apart) = cc
run_apart c desk SecondRun a b (a', at, inl none) ((first, second), apart) = cc
run_apart c desk SecondRun a b (a', at, inr same) ((first, second), apart) = let one : a ≡ b = cc in apart one
run_apart c desk TopicCount a b h runs = h
run_apart c desk (Topic topic) a b h runs = h
run_apart c desk (Document topic list document) a b h runs = h

one_wrong_run : (c : Certificate) (desk : Desk) (x y : CertificatePlace) → HasWrongRun c desk x → HasWrongRun c desk y → x ≡ y
one_wrong_run c desk FirstRun FirstRun h k = refl
one_wrong_run c desk FirstRun SecondRun none (a, at, no_second) = absurd (cc)
one_wrong_run c desk FirstRun TopicCount h k = absurd k
one_wrong_run c desk FirstRun (Topic topic) h k = absurd k
one_wrong_run c desk FirstRun (Document topic list document) h k = absurd k
one_wrong_run c desk SecondRun FirstRun (a, at, no_second) none = absurd (cc)
one_wrong_run c desk SecondRun SecondRun h k = refl
one_wrong_run c desk SecondRun TopicCount h k = absurd k
one_wrong_run c desk SecondRun (Topic topic) h k = absurd k
one_wrong_run c desk SecondRun (Document topic list document) h k = absurd k
one_wrong_run c desk TopicCount y h k = absurd h
one_wrong_run c desk (Topic topic) y h k = absurd h
one_wrong_run c desk (Document topic list document) y h k = absurd h

topic_apart : (names own : List (List ℕ)) (place : CertificatePlace) → names ≡ own → HaveWrongTopic names own place → ⊥
topic_apart names own FirstRun same h = h
topic_apart names own SecondRun same h = h
topic_apart names own TopicCount same h = h (ap length same)
topic_apart names own (Topic topic) same h = none_fails (λ (p : List ℕ × List ℕ). p.0 ≡ p.1) (λ p. p.0 ≢ p.1) (λ p h k. k h) (zip names own) topic (same_zip names own same) h.1
topic_apart names own (Document topic list document) same h = h

one_wrong_topic : (names own : List (List ℕ)) (x y : CertificatePlace) → HaveWrongTopic names own x → HaveWrongTopic names own y → x ≡ y
one_wrong_topic names own FirstRun y h k = absurd h
one_wrong_topic names own SecondRun y h k = absurd h
one_wrong_topic names own (Document topic list document) y h k = absurd h
one_wrong_topic names own TopicCount FirstRun h k = absurd k
one_wrong_topic names own TopicCount SecondRun h k = absurd k
one_wrong_topic names own TopicCount TopicCount h k = refl
one_wrong_topic names own TopicCount (Topic topic) h k = absurd (h k.0)
one_wrong_topic names own TopicCount (Document topic list document) h k = absurd k
one_wrong_topic names own (Topic topic) FirstRun h k = absurd k
one_wrong_topic names own (Topic topic) SecondRun h k = absurd k
one_wrong_topic names own (Topic topic) TopicCount h k = absurd (k h.0)
one_wrong_topic names own (Topic topic) (Topic other) h k = ap Topic (one_first (λ (p : List ℕ × List ℕ). p.0 ≡ p.1) (λ p. p.0 ≢ p.1) (λ p x y. y x) (zip names own) topic other h.1 k.1)
one_wrong_topic names own (Topic topic) (Document other list document) h k = absurd k

one_wrong_name : (c : Certificate) (desk : Desk) (x y : CertificatePlace) → IsWrongName c desk x → IsWrongName c desk y → x ≡ y
one_wrong_name c desk x y (inl h) (inl k) = one_wrong_run c desk x y h k
one_wrong_name c desk x y (inl h) (inr (a, b, runs, k)) = absurd (run_apart c desk x a b h runs)
one_wrong_name c desk x y (inr (a, b, runs, h)) (inl k) = absurd (run_apart c desk y a b k runs)
one_wrong_name c desk x y (inr (_, _, _, h)) (inr (_, _, _, k)) = one_wrong_topic (topics_of c.evidence) (topic_names desk) x y h k

name_apart : (c : Certificate) (desk : Desk) (place : CertificatePlace) (a b : ℕ) → NamesRuns c desk a b → topics_of c.evidence ≡ topic_names desk → IsWrongName c desk place → ⊥
name_apart c desk place a b runs topics (inl h) = run_apart c desk place a b h runs
name_apart c desk place a b runs topics (inr (_, _, _, h)) = topic_apart (topics_of c.evidence) (topic_names desk) place topics h

-- ---- answers
-- the two runs as they are compared
abbrev pub compared : Certificate → Desk → List (List Mark) → ℕ → ℕ → Compared
compared c desk marks a b = record { measure = c.measure; desk = desk; marks = marks; first = a; second = b }

-- the runs of a certificate are two of the desk's, whatever is said of them
one_pair : (c : Certificate) (desk : Desk) (a b a' b' : ℕ) → NamesRuns c desk a b → NamesRuns c desk a' b' → (a ≡ a') × (b ≡ b')
one_pair c desk a b a' b' ((p, q), _) ((p', q'), _) = ((cc), (cc))

-- a wrong name, or evidence that fails on the desk
abbrev pub Fails : Certificate → Desk → List (List Mark) → Failure → Type 0
Fails c desk marks failure = OnDesk c desk marks (λ k. FailsBy k c.evidence failure)

by_stage : (c : Certificate) (desk : Desk) (marks : List (List Mark)) (r : Rejected) → IsRejected c desk marks r →
    ((place : CertificatePlace) × (r ≡ WrongNames (line_of_place c.evidence place)) × IsWrongName c desk place) ⊎ ((failure : Failure) × (r ≡ rejection c.evidence failure) × Fails c desk marks failure)
by_stage c desk marks (WrongNames line) (place, h, is) = inl (place, ap WrongNames is, h)
by_stage c desk marks (BoundTooGreat topic) h = inr (failed.BoundTooGreat topic, refl, h)
by_stage c desk marks NoSum h = inr (failed.NoSum, refl, h)
by_stage c desk marks (NotCompletion line) (place, h, is) = inr (failed.NotCompletion place, ap NotCompletion is, h)
by_stage c desk marks NoDifference h = inr (failed.NoDifference, refl, h)

pub rejected_no_evidence : (c : Certificate) (desk : Desk) (marks : List (List Mark)) (why : Rejected) → IsRejected c desk marks why → IsEvidence c desk marks → ⊥
rejected_no_evidence c desk marks why h e = elim (by_stage c desk marks why h) [
  | inl k ↦ name_apart c desk k.0 e.first e.second (e.runs, e.two_runs) e.topics k.2
  | inr f ↦
      let k = f.2 in
      let pair = one_pair c desk k.0 k.1 e.first e.second k.2 (e.runs, e.two_runs) in
      let shows : ShowsOf (compared c desk marks k.0 k.1) c.evidence =
      subst (λ a. Shows c.measure (named_topics desk marks) a k.1 c.evidence) (sym pair.0) (subst (λ b. Shows c.measure (named_topics desk marks) e.first b c.evidence) (sym pair.1) e.shows) in
      shown_or_failed (compared c desk marks k.0 k.1) c.evidence f.0 shows k.4
]

-- it fails in one way
pub one_failure : (c : Certificate) (desk : Desk) (marks : List (List Mark)) (r s : Failure) → Fails c desk marks r → Fails c desk marks s → r ≡ s
one_failure c desk marks r s x y =
    let pair = one_pair c desk x.0 x.1 y.0 y.1 x.2 y.2 in
    one_reason (compared c desk marks y.0 y.1) c.evidence r s
    (subst (λ a. FailsBy (compared c desk marks a y.1) c.evidence r) pair.0 (subst (λ b. FailsBy (compared c desk marks x.0 b) c.evidence r) pair.1 x.4)) y.4

one_refusal : (c : Certificate) (desk : Desk) (marks : List (List Mark)) (r s : Rejected) → IsRejected c desk marks r → IsRejected c desk marks s → r ≡ s
one_refusal c desk marks r s h k = elim (by_stage c desk marks r h) [
  | inl x ↦ elim (by_stage c desk marks s k) [
    | inl y ↦ x.1 ∙ ap (λ p. WrongNames (line_of_place c.evidence p)) (one_wrong_name c desk x.0 y.0 x.2 y.2) ∙ sym y.1
    | inr f ↦ let y = f.2 in absurd (name_apart c desk x.0 y.0 y.1 y.2 y.3 x.2)
  ]
  | inr f ↦
      let x = f.2 in
      elim (by_stage c desk marks s k) [
        | inl y ↦ absurd (name_apart c desk y.0 x.0 x.1 x.2 x.3 y.2)
        | inr g ↦ f.1 ∙ ap (rejection c.evidence) (one_failure c desk marks f.0 g.0 f.2 g.2) ∙ sym g.1
      ]
]

pub one_answer : (c : Certificate) (desk : Desk) (marks : List (List Mark)) (r s : Result (Unit {0}) Rejected) → IsVerified c desk marks r → IsVerified c desk marks s → r ≡ s
one_answer c desk marks (Ok x) (Ok y) h k = refl
one_answer c desk marks (Ok x) (Err why) h k = absurd (rejected_no_evidence c desk marks why k h)
one_answer c desk marks (Err why) (Ok y) h k = absurd (rejected_no_evidence c desk marks why h k)
one_answer c desk marks (Err why) (Err other) h k = ap Err (one_refusal c desk marks why other h k)
