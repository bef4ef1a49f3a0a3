-- The counts of two runs at the ends of blocks of 10 documents.
pub use Rattle.rprec.specs.Blocks.{counts_of, AreBlockSums, AreSharedSums, AreSharedBelow, IsPairOf, swapped_is}
use Rattle.std.specs.Prelude.{ℕ, ◌+◌, ◌-◌, min}
use Rattle.rprec.specs.declared.greedy.DepthCandidate.{DepthCandidate}
use Rattle.rprec.specs.declared.pair.RunPair.{RunPair}
use Rattle.rprec.specs.declared.prefixes.Prefixes.{Prefixes}
use Rattle.rprec.specs.Greedy.{candidate, prefixes_of}

-- what is told of two runs is theirs
abbrev pub IsPair : RunPair → Type 0
IsPair pair = IsPairOf pair.marks.now pair.a.now pair.b.now pair.first.now.numbers pair.second.now.numbers pair.both.now pair.shared.now pair.longest pair.all

-- the counts of their first documents
abbrev pub prefixes : RunPair → ℕ → Prefixes
prefixes pair depth = prefixes_of pair.marks.now pair.a.now pair.b.now depth

-- how many depths beyond the number of documents judged relevant are to be looked at
abbrev pub steps_of : RunPair → ℕ
steps_of pair = min (pair.longest - pair.all.relevant) pair.all.unjudged

-- the greedy choice at each of them
abbrev pub choice_at : RunPair → ℕ → DepthCandidate
choice_at pair place = candidate (prefixes pair (pair.all.relevant + (place + 1))) pair.all (place + 1)

-- the same with the runs swapped
abbrev pub swapped_pair : RunPair → RunPair
swapped_pair pair = record { a = pair.b; b = pair.a; first = pair.second; second = pair.first; both = pair.both; shared = pair.shared; marks = pair.marks; all = pair.all; longest = pair.longest; is = swapped_is pair.is }
