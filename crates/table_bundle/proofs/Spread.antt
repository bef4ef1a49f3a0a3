-- The lines of claims are those without the lists of open pairs, and these lists, claim by claim or topic by topic.
use Rattle.std.proofs.Common.{◌≡◌, ℕ, suc, ◌+◌, ◌<◌, Bool, false, List, [], ◌∷◌, ◌++◌, length, map, Some, refl, ap, ap₂, sym, ◌∙◌, arith}
use Rattle.std.specs.Prelude.{◌||◌, codes, flat_map, slice_get}
use Rattle.std.specs.List.{AllZip, enumerate_from, sum_by, zip}
use Rattle.std.proofs.lemmas.Grind.{flat_map-append}
use Rattle.std.proofs.lemmas.List.{append-nil, map-append}
use Rattle.std.proofs.lemmas.List.Folds.{list_any-append}
use Rattle.std.proofs.lemmas.List.Sums.{sum_by-append, sum_by-cons}
use Rattle.small_lemmas.proofs.Lists.{map_there}
use Rattle.desk_model.specs.Book.{Book}
use Rattle.desk_model.specs.Order.{Topic}
use Rattle.desk_model.specs.Verdict.{verdict}
use Rattle.desk_model.specs.declared.types.Mark.{Mark}
use Rattle.desk_model.specs.declared.types.MeasureName.{MeasureName}
use Rattle.desk_model.specs.declared.types.Verdict.{Verdict}
use Rattle.desk_model.specs.declared.types.Verdict.TheVariants as of_pair
use Rattle.desk_model.proofs.Nested.{get_or-there}
use Rattle.measure_core.specs.declared.cell.Cell.{Cell}
use Rattle.order_bundle.specs.Bundle.{claim_lines, picks_lines, runs_text, topic_lines}
use Rattle.order_bundle.specs.Lengths.{text_length}
use Rattle.order_bundle.specs.declared.bundle.PairClaim.{PairClaim}
use Rattle.order_bundle.specs.declared.bundle.PairEvidence.TheVariants.{Equal}
use Rattle.order_bundle.specs.declared.bundle.Picks.{Picks}
use Rattle.order_bundle.specs.declared.bundle.TopicNames.{TopicNames}
use Rattle.order_bundle.proofs.Counting.{more_lines, one_more_line}
use Rattle.pair_table.specs.Sums.{cell_ends, pair_sums}
use Rattle.pair_table.proofs.Evident.{Sized}
use Rattle.table_bundle.specs.Bundles.{if_held}
use Rattle.table_bundle.specs.Drafts.{bounds_by, claim_above, draft_by, draft_on, drafts_on, has_picked, is_picked_by, names_where, no_picks, picked_places, picked_topics, picks_document, picks_on, places_where, replaced, replaced_picks}
use Rattle.table_bundle.specs.Lengths.{if_open, is_on, length_but_lists, lists_on, open_on, open_pairs, topic_length}
use Rattle.table_bundle.specs.declared.pairs.NamedPair.{NamedPair}
use Rattle.table_bundle.proofs.Choosing.{names_agree, places_agree}
use Rattle.table_bundle.proofs.Exchange.{sum_by-none}
use Rattle.table_bundle.proofs.Listed.{whole}

-- ---- the lists of one topic, and of all topics
-- the bytes of the lists of a topic, by the places of its documents
abbrev pub lists_length : List ℕ → List Picks → ℕ
lists_length places lists = text_length (flat_map picks_lines (map (λ (p : Picks). replaced_picks (p, places)) lists))

module _ (measure : MeasureName) where
  -- the bytes of the lists of a pair on all topics
  abbrev pub spread : List Topic → List (List ℕ) → NamedPair → ℕ
  spread topics places p = text_length (flat_map picks_lines (map replaced_picks (zip (map (picks_on measure p.first p.second) topics) places)))

  abbrev here : Topic → List ℕ → NamedPair → ℕ
  here t q p = text_length (picks_lines (replaced_picks (picks_on measure p.first p.second t, q)))

  one_topic : (t : Topic) (q : List ℕ) (pairs : List NamedPair) → sum_by (here t q) pairs ≡ lists_length q (lists_on measure pairs t)
  one_topic t q [] = refl
  one_topic t q (p ∷ pairs) =
      omega (arith, sum_by-cons (here t q) p pairs, one_topic t q pairs, more_lines (picks_lines (replaced_picks (picks_on measure p.first p.second t, q))) (flat_map picks_lines (map (λ (x : Picks). replaced_picks (x, q)) (lists_on measure pairs t))))

  -- the bytes of all lists on each topic
  abbrev pub topic_by_topic : List NamedPair → List (Topic × List ℕ) → ℕ
  topic_by_topic pairs zipped = sum_by (λ (r : Topic × List ℕ). lists_length r.1 (lists_on measure pairs r.0)) zipped

  next_topic : (t : Topic) (ts : List Topic) (q : List ℕ) (places : List (List ℕ)) (pairs : List NamedPair) → sum_by (spread (t ∷ ts) (q ∷ places)) pairs ≡ sum_by (here t q) pairs + sum_by (spread ts places) pairs
  next_topic t ts q places [] = refl
  next_topic t ts q places (p ∷ pairs) =
      omega (
        arith,
        sum_by-cons (spread (t ∷ ts) (q ∷ places)) p pairs,
        sum_by-cons (here t q) p pairs,
        sum_by-cons (spread ts places) p pairs,
        next_topic t ts q places pairs,
        more_lines (picks_lines (replaced_picks (picks_on measure p.first p.second t, q))) (flat_map picks_lines (map replaced_picks (zip (map (picks_on measure p.first p.second) ts) places))),
      )

  -- lists are as long pair by pair as topic by topic
  pub by_topic : (ts : List Topic) (places : List (List ℕ)) (pairs : List NamedPair) → sum_by (spread ts places) pairs ≡ topic_by_topic pairs (zip ts places)
  by_topic [] places pairs = sum_by-none (spread [] places) pairs (λ p. refl)
  by_topic (t ∷ ts) [] pairs = sum_by-none (spread (t ∷ ts) []) pairs (λ p. refl)
  by_topic (t ∷ ts) (q ∷ places) pairs =
      omega (arith, next_topic t ts q places pairs, one_topic t q pairs, by_topic ts places pairs, sum_by-cons (λ (r : Topic × List ℕ). lists_length r.1 (lists_on measure pairs r.0)) (t, q) (zip ts places))

module _ (cell : List Mark → List ℕ → List ℕ → Cell) (measure : MeasureName) (topics : List Topic) where
  -- ---- claims
  module _ (places : List (List ℕ)) where
    abbrev claims_length : List PairClaim → ℕ
    claims_length claims = text_length (flat_map claim_lines (map (replaced places) claims))

    abbrev lists : NamedPair → ℕ
    lists = spread measure topics places

    alone : (ls : List (List ℕ)) → text_length (ls ++ []) ≡ 0 + text_length ls + 0
    alone ls = ap text_length (append-nil ls) ∙ omega arith

    pair_length : (p : NamedPair) (v : Verdict) → claims_length (if_held (draft_by cell measure topics (p.at.first, p.at.second) p.first p.second v))
        ≡ sum_by length_but_lists (if_held (draft_by cell measure topics (p.at.first, p.at.second) p.first p.second v)) + sum_by lists (if_open v p)
    pair_length p of_pair.Above = alone (claim_lines (replaced places (claim_above cell topics p.at.first p.at.second p.first p.second)))
    pair_length p of_pair.Below = alone (claim_lines (replaced places (claim_above cell topics p.at.second p.at.first p.second p.first)))
    pair_length p of_pair.Equal =
        alone (claim_lines (replaced places (record { first = p.at.first; second = p.at.second; evidence = Equal (bounds_by (λ e. e.most_hi) (cell_ends cell topics p.first p.second)) })))
    pair_length p of_pair.Open =
        let head = codes "claim open " ++ runs_text p.at.first p.at.second in
        let rows = flat_map picks_lines (map replaced_picks (zip (map (picks_on measure p.first p.second) topics) places)) in
        ap text_length (append-nil (head ∷ rows)) ∙ omega (arith, one_more_line head rows, one_more_line head [])
    pair_length p of_pair.Close = refl

    pub claims_spread : (pairs : List NamedPair) → claims_length (drafts_on cell measure topics pairs) ≡ sum_by length_but_lists (drafts_on cell measure topics pairs) + sum_by lists (open_pairs cell topics pairs)
    claims_spread [] = refl
    claims_spread (p ∷ pairs) =
        let now = if_held (draft_on cell measure topics p) in
        let later = drafts_on cell measure topics pairs in
        let split : claims_length (now ++ later) ≡ claims_length now + claims_length later =
        ap (λ cs. text_length (flat_map claim_lines cs)) (map-append (replaced places) now later) ∙ ap text_length (flat_map-append claim_lines (map (replaced places) now) (map (replaced places) later)) ∙ more_lines (flat_map claim_lines (map (replaced places) now)) (flat_map claim_lines (map (replaced places) later)) in
        omega (arith, split, pair_length p (verdict (pair_sums cell topics p.first p.second)), claims_spread pairs, sum_by-append length_but_lists now later, sum_by-append lists (open_on cell topics p) (open_pairs cell topics pairs))

  -- ---- a document is picked by some claim exactly where some list of an open pair picks it
  module _ (t d : ℕ) (topic : Topic) (at : slice_get topics t ≡ Some topic) where
    picked_of : (p : NamedPair) (v : Verdict) → is_picked_by (if_held (draft_by cell measure topics (p.at.first, p.at.second) p.first p.second v)) t d ≡ is_on (lists_on measure (if_open v p) topic) d
    picked_of p of_pair.Above = refl
    picked_of p of_pair.Below = refl
    picked_of p of_pair.Equal = refl
    picked_of p of_pair.Open =
        ap (λ (q : Picks). has_picked q d || false) (get_or-there (map (picks_on measure p.first p.second) topics) t (picks_on measure p.first p.second topic) no_picks (map_there (picks_on measure p.first p.second) topics t topic at))
    picked_of p of_pair.Close = refl

    pub picked_alike : (pairs : List NamedPair) → is_picked_by (drafts_on cell measure topics pairs) t d ≡ is_on (lists_on measure (open_pairs cell topics pairs) topic) d
    picked_alike [] = refl
    picked_alike (p ∷ pairs) =
        let now = if_held (draft_on cell measure topics p) in
        list_any-append (λ (c : PairClaim). picks_document t d c.evidence) now (drafts_on cell measure topics pairs)
        ∙ ap₂ (λ (a b : Bool). a || b) (picked_of p (verdict (pair_sums cell topics p.first p.second))) (picked_alike pairs)
        ∙ sym (list_any-append (λ (q : Picks). has_picked q d) (lists_on measure (open_on cell topics p) topic) (lists_on measure (open_pairs cell topics pairs) topic))
        ∙ ap (λ ls. is_on ls d) (sym (map-append (λ (x : NamedPair). picks_on measure x.first x.second topic) (open_on cell topics p) (open_pairs cell topics pairs)))

-- ---- the documents and the lists of all topics
module _ (measure : MeasureName) (claims : List PairClaim) (pairs : List NamedPair) where
  abbrev picked_one : ℕ × TopicNames → TopicNames
  picked_one p = record { topic = p.1.topic; docs = names_where (is_picked_by claims p.0) p.1.docs }

  abbrev placed_one : ℕ × TopicNames → List ℕ
  placed_one p = places_where (is_picked_by claims p.0) (length p.1.docs)

  abbrev length_one : Book × Topic → ℕ
  length_one p = topic_length p.0 (lists_on measure pairs p.1)

  topics_from : (t : ℕ) (books : List Book) (ts : List Topic) → AllZip Sized books ts → ((i : ℕ) (topic : Topic) → slice_get ts i ≡ Some topic → (d : ℕ) → is_picked_by claims (t + i) d ≡ is_on (lists_on measure pairs topic) d) →
      text_length (flat_map topic_lines (map picked_one (enumerate_from t (map whole books)))) + topic_by_topic measure pairs (zip ts (map placed_one (enumerate_from t (map whole books)))) ≡ sum_by length_one (zip books ts)
  topics_from t [] [] sized alike = refl
  topics_from t [] (x ∷ ts) sized alike = absurd sized
  topics_from t (b ∷ books) [] sized alike = absurd sized
  topics_from t (b ∷ books) (x ∷ ts) sized alike =
      let start : t + 0 ≡ t = omega arith in
      let same : (d : ℕ) → d < length b.docs → is_picked_by claims t d ≡ is_on (lists_on measure pairs x) d = λ d lt. ap (λ n. is_picked_by claims n d) (sym start) ∙ alike 0 x refl d in
      let docs : names_where (is_picked_by claims t) b.docs ≡ names_where (is_on (lists_on measure pairs x)) b.docs = names_agree (is_picked_by claims t) (is_on (lists_on measure pairs x)) b.docs same in
      let places : places_where (is_picked_by claims t) (length b.docs) ≡ places_where (is_on (lists_on measure pairs x)) (length b.docs) = places_agree (is_picked_by claims t) (is_on (lists_on measure pairs x)) (length b.docs) same in
      let lines : text_length (topic_lines (record { topic = b.name; docs = names_where (is_picked_by claims t) b.docs })) ≡ text_length (topic_lines (record { topic = b.name; docs = names_where (is_on (lists_on measure pairs x)) b.docs })) =
      ap (λ ds. text_length (topic_lines (record { topic = b.name; docs = ds }))) docs in
      let listed : lists_length (places_where (is_picked_by claims t) (length b.docs)) (lists_on measure pairs x) ≡ lists_length (places_where (is_on (lists_on measure pairs x)) (length b.docs)) (lists_on measure pairs x) = ap (λ ps. lists_length ps (lists_on measure pairs x)) places in
      let rest = topics_from (t + 1) books ts sized.1 (λ i topic e d. let later : t + 1 + i ≡ t + suc i = omega arith in ap (λ n. is_picked_by claims n d) later ∙ alike (suc i) topic e d) in
      omega (
        arith,
        lines,
        listed,
        rest,
        more_lines (topic_lines (picked_one (t, whole b))) (flat_map topic_lines (map picked_one (enumerate_from (t + 1) (map whole books)))),
        sum_by-cons (λ (r : Topic × List ℕ). lists_length r.1 (lists_on measure pairs r.0)) (x, placed_one (t, whole b)) (zip ts (map placed_one (enumerate_from (t + 1) (map whole books)))),
        sum_by-cons length_one (b, x) (zip books ts),
      )

  pub topics_spread : (books : List Book) (ts : List Topic) → AllZip Sized books ts → ((i : ℕ) (topic : Topic) → slice_get ts i ≡ Some topic → (d : ℕ) → is_picked_by claims i d ≡ is_on (lists_on measure pairs topic) d) →
      text_length (flat_map topic_lines (picked_topics claims (map whole books))) + topic_by_topic measure pairs (zip ts (picked_places claims (map whole books))) ≡ sum_by length_one (zip books ts)
  topics_spread books ts sized alike = topics_from 0 books ts sized (λ i topic e d. let at : 0 + i ≡ i = omega arith in ap (λ n. is_picked_by claims n d) at ∙ alike i topic e d)
