-- Two counts in one number.
use Rattle.std.specs.Prelude.{◌≡◌, ℕ, ◌+◌, ◌*◌, ◌/◌, ◌%◌, List}
use Rattle.desk_model.specs.declared.types.Mark.{Mark}
use Rattle.desk_model.specs.declared.types.Mark.TheVariants.{Unjudged, Relevant, Other}
use Rattle.topic_counts.specs.declared.counts.Counts.{Counts}
use Rattle.rprec.specs.declared.prefixes.Packed.{Packed}
use Rattle.rprec.specs.declared.prefixes.Prefixes.{Prefixes}
use Rattle.rprec.specs.Greedy.{AreNext}

-- the number that holds two counts, and the counts that a number holds
abbrev pub pack : Counts → ℕ
pack counts = counts.relevant * 65536 + counts.unjudged

abbrev pub unpack : ℕ → Counts
unpack number = record { relevant = number / 65536; unjudged = number % 65536 }

-- the same for the counts of two runs
abbrev pub packed_of : Prefixes → Packed
packed_of prefixes = record { first = pack prefixes.first; second = pack prefixes.second }

abbrev pub unpacked_of : Packed → Prefixes
unpacked_of packed = record { first = unpack packed.first; second = unpack packed.second }

-- the counts of one document of a mark
abbrev pub counts_for : Mark → Counts
counts_for Relevant = record { relevant = 1; unjudged = 0 }
counts_for Unjudged = record { relevant = 0; unjudged = 1 }
counts_for Other = record { relevant = 0; unjudged = 0 }

-- the number that holds those of the document at a place of a list
pub record IsPackedNext (marks : List Mark) (docs : List ℕ) (place number : ℕ) : Type 0 where
  pub counts : Counts
  pub next : AreNext marks docs place counts
  pub same : number ≡ pack counts
