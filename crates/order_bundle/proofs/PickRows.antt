-- The rows of evidence in a bundle, as they are written line by line.
use Rattle.std.proofs.Common.{◌≡◌, ℕ, zero, suc, ◌+◌, ◌<◌, get_or, List, [], ◌∷◌, ◌++◌, length, refl, ap, sym, subst, ◌∙◌, arith, rules, map}
use Rattle.std.specs.Prelude.{codes}
use Rattle.std.specs.Fmt.{signed_decimal}
use Rattle.std.specs.List.{AllByRecursion}
use Rattle.std.proofs.lemmas.List.{append_cancel_left}
use Rattle.std.proofs.lemmas.List.Elements.{All-from_recursion, recursion_from_All}
use Rattle.line_forms.specs.Form.{Form, Whole, Spells}
use Rattle.line_forms.specs.Places.{number_place}
use Rattle.line_forms.specs.Rows.{key_after}
use Rattle.line_forms.proofs.Cuts.{AreAbove, above-append, same_parts}
use Rattle.line_forms.proofs.Forms.{IsPlain, bind_forth, bind_back, bind_plain}
use Rattle.line_forms.proofs.Plain.{number_plain, signed_in_line}
use Rattle.line_forms.proofs.Rows.{Kind, line_kind, rows_forth, rows_back, rows_plain}
use Rattle.line_forms.proofs.Shown.{signed_above, signed_one}
use Rattle.line_forms.proofs.Spelling.{line_forth, made_forth, made_back, flat_single}
use Rattle.order_certificate.specs.Certificate.{AreDocuments, IsDocumentCount}
use Rattle.order_bundle.specs.Bundle.{ArePicks, AreTopicNames, IsLowerBound, AreBothBounds, both_bounds_line, bound_line, list_lines, number_line, pick_line, picks_lines}
use Rattle.order_bundle.specs.Places.{IsPick, doc_count}
use Rattle.order_bundle.proofs.PickOrder.{ArePicksOf, follow_picks, next_pick, next_topic, picks_follow}
use Rattle.order_bundle.specs.Places.{both_bounds_place, bound_place, high_places, list_places, pick_place, pick_places, picks_places}
use Rattle.order_bundle.specs.declared.bundle.Bound.{Bound}
use Rattle.order_bundle.specs.declared.bundle.Picks.{Picks}
use Rattle.order_bundle.specs.declared.bundle.TopicNames.{TopicNames}

-- ---- bounds
same_bound : (b c : Bound) → b.low ≡ c.low → b.high ≡ c.high → b ≡ c
same_bound b c l h = ap (λ z. record { low = z; high = b.high }) l ∙ ap (λ z. record { low = c.low; high = z }) h

abbrev pub same_key : {V : Type 0} → Unit {0} → V → Unit {0}
same_key key _ = key

pub bound_kind : Kind bound_place (λ b. bound_line b ∷ []) (λ _ b. IsLowerBound b)
bound_kind = line_kind bound_line (λ _ b. IsLowerBound b) (λ key. (
  (λ p q fp fq e. same_bound p q (signed_one p.low q.low fp.0 fq.0 (append_cancel_left (codes "bound ") (signed_decimal p.low) (signed_decimal q.low) e)) (fp.1 ∙ sym fq.1)),
  (λ p fp. above-append 10 (codes "bound ") (signed_decimal p.low) (search rules) (signed_in_line p.low)),
  (λ p fp. tt),
))

pub both_bounds_kind : Kind both_bounds_place (λ b. both_bounds_line b ∷ []) (λ _ b. AreBothBounds b)
both_bounds_kind = line_kind both_bounds_line (λ _ b. AreBothBounds b) (λ key. (
  (λ p q fp fq e.
      let parts = same_parts 32 (signed_decimal p.low) (signed_decimal q.low) (signed_decimal p.high) (signed_decimal q.high) (signed_above p.low) (signed_above q.low) (append_cancel_left (codes "bound ") (signed_decimal p.low ++ 32 ∷ signed_decimal p.high) (signed_decimal q.low ++ 32 ∷ signed_decimal q.high) e) in
      same_bound p q (signed_one p.low q.low fp.0 fq.0 parts.0) (signed_one p.high q.high fp.1 fq.1 parts.1)),
  (λ p fp. above-append 10 (codes "bound ") (signed_decimal p.low ++ 32 ∷ signed_decimal p.high) (search rules) (above-append 10 (signed_decimal p.low) (32 ∷ signed_decimal p.high) (signed_in_line p.low) (omega arith, signed_in_line p.high))),
  (λ p fp. tt),
))

-- ---- picks
pub pick_kind : (docs : ℕ) → IsDocumentCount docs → Kind (pick_place docs) (λ k. pick_line k ∷ []) (IsPick docs)
pick_kind docs few = line_kind pick_line (IsPick docs) (λ least. number_plain (codes "pick ") (search rules) (IsPick docs least) (λ k fits. let lt = fits.1 in omega arith))

pub list_count_plain : (word : List ℕ) → AreAbove 10 word → IsPlain (number_place word IsDocumentCount)
list_count_plain word above = number_plain word above IsDocumentCount (λ n le. omega arith)

module _ (docs : ℕ) (few : IsDocumentCount docs) where
  pub picks_plain : (n : ℕ) → IsPlain (pick_places docs n)
  picks_plain n = rows_plain (pick_place docs) next_pick (λ k. pick_line k ∷ []) (IsPick docs) (pick_kind docs few) n 0

  module _ (word : List ℕ) (above : AreAbove 10 word) where
    list_forth : (ls : List (List ℕ)) (picks : List ℕ) → Spells (list_places word docs) ls picks → ArePicks docs picks × (ls ≡ list_lines word picks)
    list_forth ls picks s =
        let head = line_forth (number_line word) IsDocumentCount (pick_places docs) ls picks s in
        let h = rows_forth (pick_place docs) next_pick (λ k. pick_line k ∷ []) (IsPick docs) (pick_kind docs few) head.0 0 head.1 picks head.4 in
        let up = follow_picks docs picks h.1 in (
          record { count = subst IsDocumentCount (sym h.0) head.2; ascending = up.0; within = All-from_recursion (λ k. k < docs) picks up.1 },
          head.3 ∙ ap (λ zs. number_line word head.0 ∷ zs) (h.2 ∙ flat_single pick_line picks) ∙ ap (λ n. number_line word n ∷ map pick_line picks) (sym h.0),
        )

    list_back : (picks : List ℕ) → ArePicks docs picks → Spells (list_places word docs) (list_lines word picks) picks
    list_back picks are =
        (length picks, are.count, refl, subst (λ zs. Spells (pick_places docs (length picks)) zs picks) (flat_single pick_line picks) (rows_back (pick_place docs) next_pick (λ k. pick_line k ∷ []) (IsPick docs) (pick_kind docs few) picks 0 (picks_follow docs picks are.ascending (recursion_from_All (λ k. k < docs) picks are.within))))

    pub list_plain : IsPlain (list_places word docs)
    list_plain = bind_plain (number_place word IsDocumentCount) (pick_places docs) (list_count_plain word above) picks_plain

pub low_above : AreAbove 10 (codes "low ")
low_above = search rules

pub high_above : AreAbove 10 (codes "high ")
high_above = search rules

abbrev pub lists_of : List ℕ → List ℕ → Picks
lists_of low high = record { low = low; high = high }

module _ (docs : ℕ) (few : IsDocumentCount docs) where
  both_forth : (ls : List (List ℕ)) (p : Picks) → Spells (picks_places docs) ls p → (ArePicks docs p.low × ArePicks docs p.high) × (ls ≡ picks_lines p)
  both_forth ls p s =
      let b = bind_forth (list_places (codes "low ") docs) (high_places docs) ls p s in
      let made = made_forth (list_places (codes "high ") docs) (lists_of b.0) b.2 p b.5 in
      let low = list_forth docs few (codes "low ") low_above b.1 b.0 b.4 in
      let high = list_forth docs few (codes "high ") high_above b.2 made.0 made.2 in
      let lines : ls ≡ picks_lines (lists_of b.0 made.0) = b.3 ∙ ap (λ zs. zs ++ b.2) low.1 ∙ ap (λ zs. list_lines (codes "low ") b.0 ++ zs) high.1 in
      subst (λ (z : Picks). (ArePicks docs z.low × ArePicks docs z.high) × (ls ≡ picks_lines z)) made.1 ((low.0, high.0), lines)

  both_back : (p : Picks) → ArePicks docs p.low × ArePicks docs p.high → Spells (picks_places docs) (picks_lines p) p
  both_back p are =
      bind_back (list_places (codes "low ") docs) (high_places docs) (list_lines (codes "low ") p.low) (list_lines (codes "high ") p.high) p.low p
      (list_back docs few (codes "low ") low_above p.low are.0)
      (made_back (list_places (codes "high ") docs) (lists_of p.low) (list_lines (codes "high ") p.high) p.high (list_back docs few (codes "high ") high_above p.high are.1))

  pub high_list_plain : (low : List ℕ) → IsPlain (high_places docs low)
  high_list_plain low = bind_plain (list_places (codes "high ") docs) (λ high. Whole (lists_of low high)) (list_plain docs few (codes "high ") high_above) (λ high. tt)

  both_plain : IsPlain (picks_places docs)
  both_plain = bind_plain (list_places (codes "low ") docs) (high_places docs) (list_plain docs few (codes "low ") low_above) high_list_plain

-- ---- the lists of each topic
-- no topic has more documents than a topic may have
pub few_documents : (topics : List TopicNames) → AreTopicNames topics → (t : ℕ) → IsDocumentCount (doc_count topics t)
few_documents topics are t = by topics (recursion_from_All (λ (t : TopicNames). AreDocuments t.docs) topics are.docs) t
  where
    by : (ts : List TopicNames) → AllByRecursion (λ (t : TopicNames). AreDocuments t.docs) ts → (t : ℕ) → IsDocumentCount (doc_count ts t)
    by [] h t = omega arith
    by (u ∷ us) h zero = h.0.count
    by (u ∷ us) h (suc t) = by us h.1 t

abbrev pub picks_in : List TopicNames → ℕ → Form Picks
picks_in topics t = picks_places (doc_count topics t)

pub picks_kind : (topics : List TopicNames) → AreTopicNames topics → Kind (picks_in topics) picks_lines (ArePicksOf topics)
picks_kind topics are = record {
  forth = λ t ls p s. both_forth (doc_count topics t) (few_documents topics are t) ls p s;
  back = λ t p fits. both_back (doc_count topics t) (few_documents topics are t) p fits;
  plain = λ t. both_plain (doc_count topics t) (few_documents topics are t);
}

-- the topic whose lists come next is the one with the number of those before
doc_count_here : (ts : List TopicNames) (i : ℕ) (t : TopicNames) → i < length ts → t ≡ get_or ts i t → doc_count ts i ≡ length t.docs
doc_count_here [] i t lt is = absurd (omega arith)
doc_count_here (u ∷ us) zero t lt is = ap (λ (z : TopicNames). length z.docs) (sym is)
doc_count_here (u ∷ us) (suc i) t lt is = doc_count_here us i t (omega arith) is

topics_read : (k : ℕ) (ps : List Picks) → key_after next_topic k ps ≡ k + length ps
topics_read k [] = omega arith
topics_read k (p ∷ ps) = let later = topics_read (suc k) ps in omega arith

pub doc_count_next : (ts : List TopicNames) (ps : List Picks) (i : ℕ) (t : TopicNames) → i < length ts → t ≡ get_or ts i t → length ps ≡ i → length t.docs ≡ doc_count ts (key_after next_topic 0 ps)
doc_count_next ts ps i t lt is e =
    let key : key_after next_topic 0 ps ≡ i = omega (arith, topics_read 0 ps) in
    sym (ap (doc_count ts) key ∙ doc_count_here ts i t lt is)
