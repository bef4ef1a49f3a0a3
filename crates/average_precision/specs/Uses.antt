-- The lists of many pairs of runs on a topic, by how many of them are those of each run's candidates.
use Rattle.std.specs.Prelude.{◌≡◌, ℕ, ◌+◌, ◌*◌, ◌<◌, ◌≤◌, ◌^◌, List, length, slice_index, slice_index_or}
use Rattle.std.specs.List.{range_with_len, sum_by}
use Rattle.desk_model.specs.declared.types.Mark.{Mark}
use Rattle.measure_laws.specs.AverageEnds.{high_case, low_case}
use Rattle.measure_core.specs.Lists.{added_documents, times}
use Rattle.measure_core.specs.Pairs.{DeskTopic, ranking_on}
use Rattle.average_precision.specs.declared.uses.Uses.{Uses}

abbrev pub no_uses : Uses
no_uses = record { high = 0; low = 0 }

-- how often a document stands in lists that are those of a run's candidates, each so many times
abbrev pub share : List Mark → List ℕ → Uses → ℕ → ℕ
share marks run uses doc = uses.high * times (added_documents marks (high_case marks run)) doc + uses.low * times (added_documents marks (low_case marks run)) doc

-- the same of the first so many runs, and of all
abbrev pub shares : List Mark → DeskTopic → List Uses → ℕ → ℕ → ℕ
shares marks t uses runs doc = sum_by (λ run. share marks (ranking_on t run) (slice_index_or uses run no_uses) doc) (range_with_len 0 runs)

abbrev pub all_shares : List Mark → DeskTopic → List Uses → ℕ → ℕ
all_shares marks t uses doc = shares marks t uses (length uses) doc

-- no list is used more often
abbrev pub AreUsesUpTo : ℕ → List Uses → Type 0
AreUsesUpTo most uses = (run : ℕ) → run < length uses → ((slice_index_or uses run no_uses).high ≤ most) × ((slice_index_or uses run no_uses).low ≤ most)

-- counts, document by document, have room for more, and are greater by it than others
abbrev pub HaveRoomFor : List ℕ → (ℕ → ℕ) → Type 0
HaveRoomFor counts more = (doc : ℕ) → doc < length counts → slice_index counts doc + more doc < 2 ^ 32

abbrev pub AreRaised : List ℕ → (ℕ → ℕ) → List ℕ → Type 0
AreRaised before more after = (doc : ℕ) → doc < length before → slice_index after doc ≡ slice_index before doc + more doc
