-- How long the text of the bundle of a table is.
use Rattle.std.proofs.Common.{◌≡◌, ℕ, ◌+◌, ◌≤◌, List, [], ◌∷◌, length, map, ap, sym, subst, ◌∙◌, arith}
use Rattle.std.specs.Prelude.{codes, decimal, flat_map}
use Rattle.std.specs.List.{sum, sum_by, zip}
use Rattle.std.proofs.lemmas.List.{length-map}
use Rattle.std.proofs.lemmas.List.Sums.{sum-map}
use Rattle.desk_model.specs.Book.{Book}
use Rattle.desk_model.specs.Desk.{Desk, IsDesk, AreMarksOf, topics_under}
use Rattle.desk_model.specs.MeasureText.{IsMeasure}
use Rattle.desk_model.specs.Order.{Topic}
use Rattle.desk_model.specs.declared.types.Mark.{Mark}
use Rattle.desk_model.specs.declared.types.MeasureName.{MeasureName}
use Rattle.topic_counts.specs.declared.span.Span.{Span}
use Rattle.measure_core.specs.Laws.{MeetsLaws}
use Rattle.measure_core.specs.declared.cell.Cell.{Cell}
use Rattle.order_certificate.specs.Certificate.{IsLevel}
use Rattle.order_bundle.specs.Bundle.{Bundle, bundle_text, claim_lines, claims_lines, opening_lines, run_line, runs_lines, topic_lines, topics_lines}
use Rattle.order_bundle.specs.Evidence.{name_at}
use Rattle.order_bundle.specs.Lengths.{text_length}
use Rattle.order_bundle.specs.declared.bundle.PairClaim.{PairClaim}
use Rattle.order_bundle.specs.declared.bundle.TopicNames.{TopicNames}
use Rattle.order_bundle.proofs.Counting.{counted_rows, more_lines, one_more_line}
use Rattle.pair_table.specs.Numbers.{HasCellEnds}
use Rattle.table_bundle.specs.Bundles.{IsBundleOf}
use Rattle.table_bundle.specs.Drafts.{all_documents, drafts, drafts_on, over_picked, pairs_in, picked_places, replaced, IsNameOrder}
use Rattle.table_bundle.specs.Lengths.{length_but_lists, lists_on, open_pairs, topic_length, topic_lengths, IsBundleLength, IsCountOf}
use Rattle.table_bundle.specs.declared.claim_count.ClaimCount.{ClaimCount}
use Rattle.table_bundle.specs.declared.pairs.NamedPair.{NamedPair}
use Rattle.table_bundle.proofs.Drafted.{sized}
use Rattle.table_bundle.proofs.Listed.{whole}
use Rattle.table_bundle.proofs.Made.{made_bundle}
use Rattle.table_bundle.proofs.Pairing.{drafts_in}
use Rattle.table_bundle.proofs.Replacing.{length-picked}
use Rattle.table_bundle.proofs.Single.{one_bundle_by_cells}
use Rattle.table_bundle.proofs.Spread.{by_topic, claims_spread, picked_alike, topics_spread}

-- the lines of a bundle: the first ones, those that count, the runs, the topics and the claims
bundle_parts : (b : Bundle) → length (bundle_text b) ≡ text_length (opening_lines b.measure b.level) + text_length (map run_line b.runs)
    + (length (decimal (length b.runs)) + length (decimal (length b.topics)) + length (decimal (length b.claims)) + 26) + text_length (flat_map topic_lines b.topics) + text_length (flat_map claim_lines b.claims)
unfolding bundle_text
bundle_parts b =
    omega (
      arith,
      more_lines (opening_lines b.measure b.level) (runs_lines b.runs b.topics b.claims),
      counted_rows (codes "runs ") (length b.runs) (map run_line b.runs) (topics_lines b.topics b.claims),
      counted_rows (codes "topics ") (length b.topics) (flat_map topic_lines b.topics) (claims_lines b.claims),
      counted_rows (codes "claims ") (length b.claims) (flat_map claim_lines b.claims) (codes "end" ∷ []),
      one_more_line (codes "end") [],
    )

module _ (name : MeasureName) (cell : List Mark → List ℕ → List ℕ → Cell) (bounds : List Mark → List ℕ → Span) (valid : IsMeasure name) (laws : MeetsLaws name cell bounds)
    (desk : Desk) (marks : List (List Mark)) (is_desk : IsDesk desk) (known : AreMarksOf desk marks) (level : ℕ) (is_level : IsLevel level) (order : List ℕ) (ordered : IsNameOrder desk order) (two : 2 ≤ length desk.runs) where
  abbrev topics : List Topic
  topics = topics_under desk marks

  abbrev claims : List PairClaim
  claims = drafts_on cell name topics (pairs_in order)

  abbrev undecided : List NamedPair
  undecided = open_pairs cell topics (pairs_in order)

  abbrev books : List TopicNames
  books = all_documents desk

  abbrev places : List (List ℕ)
  places = picked_places claims books

  abbrev made : Bundle
  made = over_picked name level desk order claims

  is_made : over_picked name level desk order (drafts cell name topics order) ≡ made
  is_made = ap (over_picked name level desk order) (sym (drafts_in cell name topics order))

  -- its topics and claims
  topics_and_claims : text_length (flat_map topic_lines made.topics) + text_length (flat_map claim_lines made.claims) ≡ sum (topic_lengths name desk marks undecided) + sum_by length_but_lists claims
  topics_and_claims =
      let length_one : Book × Topic → ℕ = λ p. topic_length p.0 (lists_on name undecided p.1) in
      omega (
        arith,
        claims_spread cell name topics places (pairs_in order),
        by_topic name topics places undecided,
        topics_spread name claims undecided desk.topics topics (sized name cell bounds laws desk marks is_desk known) (λ i topic at d. picked_alike cell name topics i d topic at (pairs_in order)),
        sum-map length_one (zip desk.topics topics),
      )

  pub bundle_length_is : (opening runs counting lists : ℕ) (count : ClaimCount) → opening ≡ text_length (opening_lines name level) → runs ≡ text_length (map run_line (map (name_at desk.runs) order)) →
      counting ≡ length (decimal (length order)) + length (decimal (length desk.topics)) + length (decimal count.claims) + 26 → lists ≡ sum (topic_lengths name desk marks undecided) → IsCountOf claims count →
      IsBundleLength (HasCellEnds cell) name desk marks level (opening + runs + counting + lists + count.bytes)
  bundle_length_is opening runs counting lists count first named counted listed is =
      let whole_bundle = made_bundle name cell bounds valid laws desk marks is_desk known level is_level order ordered two in
      let of_table = subst (IsBundleOf (HasCellEnds cell) name desk marks level) is_made whole_bundle in
      let run_count : length (decimal (length made.runs)) ≡ length (decimal (length order)) = ap (λ n. length (decimal n)) (length-map order (name_at desk.runs)) in
      let topic_count : length (decimal (length made.topics)) ≡ length (decimal (length desk.topics)) = ap (λ n. length (decimal n)) (length-picked claims books ∙ length-map desk.topics whole) in
      let claim_count : length (decimal (length made.claims)) ≡ length (decimal count.claims) = ap (λ n. length (decimal n)) (length-map claims (replaced places) ∙ sym is.claims) in
      let total : length (bundle_text made) ≡ opening + runs + counting + lists + count.bytes = omega (arith, bundle_parts made, first, named, counted, listed, is.bytes, run_count, topic_count, claim_count, topics_and_claims) in
      record {
        bundle = made;
        of_table = of_table;
        each = λ b other. ap (λ x. length (bundle_text x)) (one_bundle_by_cells cell name desk marks level b made other of_table) ∙ total;
      }
