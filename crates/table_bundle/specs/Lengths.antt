-- How long the text of the bundle of a table is: claim by claim without the lists of open pairs, and these topic by topic.
use Rattle.std.specs.Prelude.{◌≡◌, ℕ, ◌+◌, ◌*◌, nat_lt, Bool, List, [], ◌∷◌, ◌++◌, length, map, filter, flat_map, slice_index, decimal, codes}
use Rattle.std.specs.List.{list_any, range_with_len, sum_by, zip}
use Rattle.desk_model.specs.Book.{Book}
use Rattle.desk_model.specs.Desk.{Desk, ranking_of, topics_under}
use Rattle.desk_model.specs.Order.{Topic}
use Rattle.desk_model.specs.Verdict.{verdict}
use Rattle.desk_model.specs.declared.types.Mark.{Mark}
use Rattle.desk_model.specs.declared.types.MeasureName.{MeasureName}
use Rattle.desk_model.specs.declared.types.Verdict.{Verdict}
use Rattle.desk_model.specs.declared.types.Verdict.TheVariants as of_pair
use Rattle.measure_core.specs.declared.cell.Cell.{Cell}
use Rattle.measure_core.specs.declared.counting.ListSizes.{ListSizes}
use Rattle.order_bundle.specs.Bundle.{Bundle, bundle_text, claim_lines, picks_lines, runs_text, topic_lines}
use Rattle.order_bundle.specs.Lengths.{text_length}
use Rattle.order_bundle.specs.declared.bundle.PairClaim.{PairClaim}
use Rattle.order_bundle.specs.declared.bundle.PairEvidence.{PairEvidence}
use Rattle.order_bundle.specs.declared.bundle.PairEvidence.TheVariants.{Above, Equal, Open}
use Rattle.order_bundle.specs.declared.bundle.Picks.{Picks}
use Rattle.pair_table.specs.Numbers.{HaveEnds}
use Rattle.pair_table.specs.Sums.{pair_sums}
use Rattle.table_bundle.specs.Bundles.{IsBundleOf}
use Rattle.table_bundle.specs.Drafts.{has_picked, names_where, picks_on, places_where, replaced_picks}
use Rattle.table_bundle.specs.declared.claim_count.ClaimCount.{ClaimCount}
use Rattle.table_bundle.specs.declared.pairs.NamedPair.{NamedPair}

-- ---- the length
-- there is a bundle of the table, and the text of each has so many bytes
pub record IsBundleLength (Has : HaveEnds) (measure : MeasureName) (desk : Desk) (marks : List (List Mark)) (level n : ℕ) : Type 0 where
  pub bundle : Bundle
  pub of_table : IsBundleOf Has measure desk marks level bundle
  pub each : (b : Bundle) → IsBundleOf Has measure desk marks level b → length (bundle_text b) ≡ n

-- ---- claims without the lists of open pairs
-- the lines of a claim, of which an open one keeps the first alone
abbrev pub lines_but_lists : PairEvidence → PairClaim → List (List ℕ)
lines_but_lists (Above bounds) c = claim_lines c
lines_but_lists (Equal bounds) c = claim_lines c
lines_but_lists (Open picks) c = (codes "claim open " ++ runs_text c.first c.second) ∷ []

abbrev pub length_but_lists : PairClaim → ℕ
length_but_lists c = text_length (lines_but_lists c.evidence c)

-- how many claims there are, and how many bytes without those lists
pub record IsCountOf (counted : List PairClaim) (count : ClaimCount) : Type 0 where
  pub claims : count.claims ≡ length counted
  pub bytes : count.bytes ≡ sum_by length_but_lists counted

-- a pair by its verdict: those whose order is open
abbrev pub if_open : Verdict → NamedPair → List NamedPair
if_open of_pair.Above p = []
if_open of_pair.Below p = []
if_open of_pair.Equal p = []
if_open of_pair.Open p = p ∷ []
if_open of_pair.Close p = []

abbrev pub open_on : (List Mark → List ℕ → List ℕ → Cell) → List Topic → NamedPair → List NamedPair
open_on cell topics p = if_open (verdict (pair_sums cell topics p.first p.second)) p

abbrev pub open_pairs : (List Mark → List ℕ → List ℕ → Cell) → List Topic → List NamedPair → List NamedPair
open_pairs cell topics pairs = flat_map (open_on cell topics) pairs

-- ---- the lists of a topic
-- the topic of a desk with a number, under these marks
abbrev pub topic_with : Desk → ℕ → List Mark → Topic
topic_with desk t marks = record { marks = marks; ranking = λ run. ranking_of desk run t }

-- those of some pairs
abbrev pub lists_on : MeasureName → List NamedPair → Topic → List Picks
lists_on measure pairs topic = map (λ (p : NamedPair). picks_on measure p.first p.second topic) pairs

abbrev pub both_lists : Picks → List ℕ
both_lists p = p.low ++ p.high

-- all documents that lists pick, as often as they do
abbrev pub all_picks : List Picks → List ℕ
all_picks lists = flat_map both_lists lists

-- the digits of two counts, with the words before them and the ends of their lines
abbrev pub heads_length : Picks → ℕ
heads_length p = length (decimal (length p.low)) + length (decimal (length p.high)) + 11

-- the same by how many documents each list has
abbrev pub sizes_length : ListSizes → ℕ
sizes_length sizes = length (decimal sizes.least) + length (decimal sizes.most) + 11

-- whether a document has a count
abbrev pub is_counted : List ℕ → ℕ → Bool
is_counted counts doc = nat_lt 0 (slice_index counts doc)

-- the bytes of the lines that pick a document as often as its count says, by its place among those that have one
abbrev pub pick_share : List ℕ → ℕ → ℕ
pick_share counts doc = slice_index counts doc * (length (decimal (length (filter (is_counted counts) (range_with_len 0 doc)))) + 6)

abbrev pub picks_length_by : List ℕ → ℕ
picks_length_by counts = sum_by (pick_share counts) (range_with_len 0 (length counts))

-- the most lists of a topic: two of each pair of runs
abbrev pub LIST_LIMIT : ℕ
LIST_LIMIT = 65280

-- ---- the lines of a topic
-- whether some list picks a document
abbrev pub is_on : List Picks → ℕ → Bool
is_on lists doc = list_any (λ (p : Picks). has_picked p doc) lists

-- the bytes of the lines of a topic with the documents that its lists pick, and of these lists
abbrev pub topic_length : Book → List Picks → ℕ
topic_length book lists =
    text_length (topic_lines (record { topic = book.name; docs = names_where (is_on lists) book.docs }))
    + text_length (flat_map picks_lines (map (λ (p : Picks). replaced_picks (p, places_where (is_on lists) (length book.docs))) lists))

-- those of each topic of a desk
abbrev pub topic_lengths : MeasureName → Desk → List (List Mark) → List NamedPair → List ℕ
topic_lengths measure desk marks pairs = map (λ (p : Book × Topic). topic_length p.0 (lists_on measure pairs p.1)) (zip desk.topics (topics_under desk marks))
