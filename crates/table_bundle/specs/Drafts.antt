-- How a bundle is made: first claims that pick documents by their numbers in the topic, then the documents that some claim picks, numbered anew.
use Rattle.std.specs.Prelude.{◌≢◌, ℕ, ◌<◌, Bool, false, ◌||◌, List, [], All, length, map, filter, flat_map, slice_index, slice_index_or, Option, Some, None, ℤ, pos, IsPermutation}
use Rattle.std.specs.List.{enumerate_from, list_any, range_with_len, zip}
use Rattle.desk_model.specs.Book.{Book}
use Rattle.desk_model.specs.Desk.{Desk}
use Rattle.desk_model.specs.Extremes.{Ends}
use Rattle.desk_model.specs.Name.{AreAscending}
use Rattle.desk_model.specs.Order.{Topic}
use Rattle.desk_model.specs.Pairs.{pairs_of}
use Rattle.desk_model.specs.Ranking.{is_in}
use Rattle.desk_model.specs.Verdict.{verdict}
use Rattle.desk_model.specs.declared.types.Mark.{Mark}
use Rattle.desk_model.specs.declared.types.MeasureName.{MeasureName}
use Rattle.desk_model.specs.declared.types.Verdict.{Verdict}
use Rattle.desk_model.specs.declared.types.Verdict.TheVariants as of_pair
use Rattle.measure_laws.specs.Cases.{least_truth}
use Rattle.measure_core.specs.Lists.{added_documents}
use Rattle.measure_core.specs.Pairs.{run_numbers}
use Rattle.measure_core.specs.declared.cell.Cell.{Cell}
use Rattle.measure_core.specs.declared.run_pair.RunPair.{RunPair}
use Rattle.order_bundle.specs.Bundle.{Bundle}
use Rattle.order_bundle.specs.Evidence.{name_at}
use Rattle.order_bundle.specs.declared.bundle.Bound.{Bound}
use Rattle.order_bundle.specs.declared.bundle.PairClaim.{PairClaim}
use Rattle.order_bundle.specs.declared.bundle.PairEvidence.{PairEvidence}
use Rattle.order_bundle.specs.declared.bundle.PairEvidence.TheVariants.{Above, Equal, Open}
use Rattle.order_bundle.specs.declared.bundle.Picks.{Picks}
use Rattle.order_bundle.specs.declared.bundle.TopicNames.{TopicNames}
use Rattle.pair_table.specs.Sums.{cell_ends, pair_sums}
use Rattle.table_bundle.specs.Bundles.{if_held}
use Rattle.table_bundle.specs.declared.pairs.NamedPair.{NamedPair}

-- ---- runs
-- numbers of all runs of a desk, ascending by name
pub record IsNameOrder (desk : Desk) (order : List ℕ) : Type 0 where
  pub moved : IsPermutation (run_numbers (length desk.runs)) order
  pub ascending : AreAscending (map (name_at desk.runs) order)

-- the runs at two places of an order
abbrev pub named_pair : List ℕ → ℕ × ℕ → NamedPair
named_pair order pair = record { at = record { first = pair.0; second = pair.1 }; first = slice_index order pair.0; second = slice_index order pair.1 }

-- all pairs of runs in an order
abbrev pub pairs_in : List ℕ → List NamedPair
pairs_in order = map (named_pair order) (pairs_of (run_numbers (length order)))

-- two different runs of so many
pub record IsRunPair (runs : ℕ) (p : NamedPair) : Type 0 where
  pub different : p.first ≢ p.second
  pub first : p.first < runs
  pub second : p.second < runs

abbrev pub runs_of : NamedPair → RunPair
runs_of p = record { first = p.first; second = p.second }

-- ---- claims that pick documents by their numbers in the topic
-- the unjudged documents that the least and the most case of two rankings make relevant, ascending
abbrev pub case_picks : MeasureName → List Mark → List ℕ → List ℕ → Picks
case_picks measure marks a b = record { low = added_documents marks (least_truth measure marks a b); high = added_documents marks (least_truth measure marks b a) }

-- those of two runs on a topic
abbrev pub picks_on : MeasureName → ℕ → ℕ → Topic → Picks
picks_on measure a b topic = case_picks measure topic.marks (topic.ranking a) (topic.ranking b)

-- the lower end of each least difference, and beside it a number that its ends give
abbrev pub bounds_by : (Ends → ℤ) → List Ends → List Bound
bounds_by high ends = map (λ (e : Ends). record { low = e.least_lo; high = high e }) ends

abbrev pub claim_above : (List Mark → List ℕ → List ℕ → Cell) → List Topic → ℕ → ℕ → ℕ → ℕ → PairClaim
claim_above cell topics first second a b = record { first = first; second = second; evidence = Above (bounds_by (λ _. pos 0) (cell_ends cell topics a b)) }

-- the claim by the verdict of the runs a and b of a desk, of which a stands at the first place among the names, and b at the second
abbrev pub draft_by : (List Mark → List ℕ → List ℕ → Cell) → MeasureName → List Topic → ℕ × ℕ → ℕ → ℕ → Verdict → Option PairClaim
draft_by cell measure topics pair a b of_pair.Above = Some (claim_above cell topics pair.0 pair.1 a b)
draft_by cell measure topics pair a b of_pair.Below = Some (claim_above cell topics pair.1 pair.0 b a)
draft_by cell measure topics pair a b of_pair.Equal = Some (record { first = pair.0; second = pair.1; evidence = Equal (bounds_by (λ e. e.most_hi) (cell_ends cell topics a b)) })
draft_by cell measure topics pair a b of_pair.Open = Some (record { first = pair.0; second = pair.1; evidence = Open (map (picks_on measure a b) topics) })
draft_by cell measure topics pair a b of_pair.Close = None

abbrev pub draft_of : (List Mark → List ℕ → List ℕ → Cell) → MeasureName → List Topic → ℕ × ℕ → ℕ → ℕ → Option PairClaim
draft_of cell measure topics pair a b = draft_by cell measure topics pair a b (verdict (pair_sums cell topics a b))

-- that of two runs at their places
abbrev pub draft_on : (List Mark → List ℕ → List ℕ → Cell) → MeasureName → List Topic → NamedPair → Option PairClaim
draft_on cell measure topics p = draft_of cell measure topics (p.at.first, p.at.second) p.first p.second

-- the claims on some pairs
abbrev pub drafts_on : (List Mark → List ℕ → List ℕ → Cell) → MeasureName → List Topic → List NamedPair → List PairClaim
drafts_on cell measure topics pairs = flat_map if_held (map (draft_on cell measure topics) pairs)

-- that of each pair of runs in an order
abbrev pub drafts_held : (List Mark → List ℕ → List ℕ → Cell) → MeasureName → List Topic → List ℕ → List (Option PairClaim)
drafts_held cell measure topics order = map (λ (pair : ℕ × ℕ). draft_of cell measure topics pair (slice_index order pair.0) (slice_index order pair.1)) (pairs_of (run_numbers (length order)))

abbrev pub drafts : (List Mark → List ℕ → List ℕ → Cell) → MeasureName → List Topic → List ℕ → List PairClaim
drafts cell measure topics order = flat_map if_held (drafts_held cell measure topics order)

-- the topics of a desk with all their documents
abbrev pub all_documents : Desk → List TopicNames
all_documents desk = map (λ (book : Book). record { topic = book.name; docs = book.docs }) desk.topics

-- ---- the documents that claims pick
abbrev pub no_picks : Picks
no_picks = record { low = []; high = [] }

-- whether one of two lists picks a document
abbrev pub has_picked : Picks → ℕ → Bool
has_picked picks doc = is_in picks.low doc || is_in picks.high doc

-- whether evidence picks a document of a topic, by the topic's number
abbrev pub picks_document : ℕ → ℕ → PairEvidence → Bool
picks_document t doc (Above bounds) = false
picks_document t doc (Equal bounds) = false
picks_document t doc (Open picks) = has_picked (slice_index_or picks t no_picks) doc

-- whether some claim does
abbrev pub is_picked_by : List PairClaim → ℕ → ℕ → Bool
is_picked_by claims t doc = list_any (λ (c : PairClaim). picks_document t doc c.evidence) claims

-- the lists of evidence on a topic pick documents below a number alone
abbrev pub PicksBelow : ℕ → ℕ → PairEvidence → Type 0
PicksBelow t n (Above bounds) = Unit {0}
PicksBelow t n (Equal bounds) = Unit {0}
PicksBelow t n (Open picks) = (t < length picks) × All (λ doc. doc < n) (slice_index_or picks t no_picks).low × All (λ doc. doc < n) (slice_index_or picks t no_picks).high

-- ---- only the picked documents
-- the names of the documents that pass a test
abbrev pub names_where : (ℕ → Bool) → List (List ℕ) → List (List ℕ)
names_where test docs = map (name_at docs) (filter test (range_with_len 0 (length docs)))

-- how many documents before each pass a test
abbrev pub places_where : (ℕ → Bool) → ℕ → List ℕ
places_where test n = map (λ doc. length (filter test (range_with_len 0 doc))) (range_with_len 0 n)

-- each topic with those of its documents alone that some claim picks
abbrev pub picked_topics : List PairClaim → List TopicNames → List TopicNames
picked_topics claims topics = map (λ (p : ℕ × TopicNames). record { topic = p.1.topic; docs = names_where (is_picked_by claims p.0) p.1.docs }) (enumerate_from 0 topics)

-- and the place of each document among these
abbrev pub picked_places : List PairClaim → List TopicNames → List (List ℕ)
picked_places claims topics = map (λ (p : ℕ × TopicNames). places_where (is_picked_by claims p.0) (length p.1.docs)) (enumerate_from 0 topics)

-- lists with each number changed to its place
abbrev pub replaced_list : List ℕ → List ℕ → List ℕ
replaced_list places picks = map (λ doc. slice_index places doc) picks

abbrev pub replaced_picks : Picks × List ℕ → Picks
replaced_picks p = record { low = replaced_list p.1 p.0.low; high = replaced_list p.1 p.0.high }

abbrev pub replaced_evidence : List (List ℕ) → PairEvidence → PairEvidence
replaced_evidence places (Above bounds) = Above bounds
replaced_evidence places (Equal bounds) = Equal bounds
replaced_evidence places (Open picks) = Open (map replaced_picks (zip picks places))

abbrev pub replaced : List (List ℕ) → PairClaim → PairClaim
replaced places c = record { first = c.first; second = c.second; evidence = replaced_evidence places c.evidence }

-- ---- the bundle
-- claims on all documents of a desk, and on the picked ones alone
abbrev pub over_all : MeasureName → ℕ → Desk → List ℕ → List PairClaim → Bundle
over_all measure level desk order claims = record { measure = measure; level = level; runs = map (name_at desk.runs) order; topics = all_documents desk; claims = claims }

abbrev pub over_picked : MeasureName → ℕ → Desk → List ℕ → List PairClaim → Bundle
over_picked measure level desk order claims = record {
  measure = measure;
  level = level;
  runs = map (name_at desk.runs) order;
  topics = picked_topics claims (all_documents desk);
  claims = map (replaced (picked_places claims (all_documents desk))) claims;
}
