-- The greedy choice of unjudged documents, by how many of each class are made relevant.
use Rattle.std.specs.Prelude.{◌≡◌, ℕ, ◌-◌, Bool, ◌||◌, List, ◌++◌, length, take}
use Rattle.desk_model.specs.declared.types.Mark.{Mark}
use Rattle.measure_laws.specs.Classes.{open_in, is_among_first, judged_count, size_of}
use Rattle.measure_laws.specs.Prefixes.{only_second, neutral}
use Rattle.measure_laws.specs.RprecCase.{rprec_count}
use Rattle.measure_core.specs.Lists.{first_neutral, own_documents}
use Rattle.rprec.specs.declared.values.LeastCase.{LeastCase}
use Rattle.rprec.specs.declared.values.Wanted.{Wanted}

-- the first ones of each class, as many as are wanted
abbrev pub picks : Wanted → List Mark → List ℕ → List ℕ → ℕ → ℕ → Bool
picks wanted marks a b r doc =
    is_among_first wanted.second (open_in marks (only_second r a b)) doc || (is_among_first wanted.both (open_in marks (neutral r a b)) doc || is_among_first wanted.first (open_in marks (only_second r b a)) doc)

-- the first unjudged documents beside the second run's own ones: those that both or neither have, and then the first run's own
abbrev pub others : ℕ → ℕ → List Mark → List ℕ → List ℕ → List ℕ
others k wanted marks a b = let both = first_neutral k wanted marks a b in both ++ take (wanted - length both) (own_documents k marks b a)

-- as many of each class as the greedy choice takes where a topic is to have so many relevant documents
pub record AreWanted (marks : List Mark) (a b : List ℕ) (count : ℕ) (wanted : Wanted) : Type 0 where
  pub second : wanted.second ≡ count - judged_count marks
  pub both : wanted.both ≡ count - judged_count marks - size_of (length marks) (open_in marks (only_second count a b))
  pub first : wanted.first ≡ count - judged_count marks - size_of (length marks) (open_in marks (only_second count a b)) - size_of (length marks) (open_in marks (neutral count a b))

-- the least case of two runs
pub record IsLeastCase (marks : List Mark) (a b : List ℕ) (case : LeastCase) : Type 0 where
  pub count : case.count ≡ rprec_count marks a b
  pub wanted : AreWanted marks a b case.count case.wanted
