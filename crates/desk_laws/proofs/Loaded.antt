-- What the files of a desk come to: the runs `a` and `b` on the judgements `q`.
use Rattle.std.proofs.Common.{◌≡◌, ◌^◌, List, [], ◌∷◌, ◌++◌, refl, Option, Some, None, pos, cond}
use Rattle.std.specs.Prelude.{ℕ, codes, Ok, Err}
use Rattle.std.specs.Str.{bytes_eq}
use Rattle.desk_text.specs.Reading.{score_of, zeros_of}
use Rattle.desk_outside.specs.Outside.{Files}
use Rattle.file_rows.specs.declared.fault.LineFault.TheVariants.{RepeatedDocument}
use Rattle.desk_files.specs.Files.{Outside, Refused, Line, NoTopics, NoTag, SameName, TooManyCells}
use Rattle.desk_files.specs.Load.{Sources, sources, loaded}

abbrev from : Sources
from = sources (codes "q") (record { name = None; path = codes "a" } ∷ record { name = None; path = codes "b" } ∷ [])

-- what is held under these three paths; nothing else is held
abbrev holding : Option (List ℕ) → Option (List ℕ) → Option (List ℕ) → Files
holding q a b path = cond (bytes_eq path (codes "q")) q (cond (bytes_eq path (codes "a")) a (cond (bytes_eq path (codes "b")) b None))

abbrev judgements : Option (List ℕ)
judgements = Some (codes "401 0 d1 1")

abbrev run_A : Option (List ℕ)
run_A = Some (codes "401 Q0 d1 1 1 A")

abbrev run_B : Option (List ℕ)
run_B = Some (codes "401 Q0 d2 1 1 B")

-- both runs count what the files before them used
pub files_without_a_fault : loaded (holding judgements run_A run_B) from ≡ Ok (record {
  qrels = record { name = codes "401"; rows = record { document = codes "d1"; value = pos 1 } ∷ [] } ∷ [];
  runs = record {
    name = codes "A";
    topics = record { name = codes "401"; rows = record { document = codes "d1"; value = pos (10 ^ 999) } ∷ [] } ∷ [];
    used = record { rows = 1; name_bytes = 4 };
  } ∷ record {
    name = codes "B";
    topics = record { name = codes "401"; rows = record { document = codes "d2"; value = pos (10 ^ 999) } ∷ [] } ∷ [];
    used = record { rows = 2; name_bytes = 6 };
  } ∷ [];
})
unfolding loaded score_of zeros_of
files_without_a_fault = refl

pub nothing_is_held : loaded (holding None None None) from ≡ Err Outside
unfolding loaded
nothing_is_held = refl

pub second_run_is_not_held : loaded (holding judgements run_A None) from ≡ Err Outside
unfolding loaded score_of zeros_of
second_run_is_not_held = refl

-- what comes first is told: a fault of the first run, where the second is not held
pub fault_before_a_path_that_is_not_held : loaded (holding judgements (Some (codes "401 Q0 d1 1 2 A" ++ 10 ∷ codes "401 Q0 d1 2 1 A")) None) from ≡ Err (Refused (Line (codes "a") 2 RepeatedDocument))
unfolding loaded score_of zeros_of
fault_before_a_path_that_is_not_held = refl

-- and a first run that is not held, where the second has a fault
pub path_that_is_not_held_before_a_fault : loaded (holding judgements None (Some [])) from ≡ Err Outside
unfolding loaded score_of zeros_of
path_that_is_not_held_before_a_fault = refl

pub judgements_without_a_row : loaded (holding (Some []) None None) from ≡ Err (Refused (NoTopics (codes "q")))
unfolding loaded
judgements_without_a_row = refl

pub empty_second_run : loaded (holding judgements run_A (Some [])) from ≡ Err (Refused (NoTag (codes "b")))
unfolding loaded score_of zeros_of
empty_second_run = refl

-- names are compared when all files were read
pub two_runs_of_one_name : loaded (holding judgements run_A run_A) from ≡ Err (Refused (SameName (codes "A")))
unfolding loaded score_of zeros_of
two_runs_of_one_name = refl

-- two runs have one pair, which has a cell in each table
pub more_tables_than_cells : loaded (holding judgements run_A run_B) (record from { tables = 10000001 }) ≡ Err (Refused (TooManyCells 10000001))
unfolding loaded score_of zeros_of
more_tables_than_cells = refl

pub one_name_before_too_many_cells : loaded (holding judgements run_A run_A) (record from { tables = 10000001 }) ≡ Err (Refused (SameName (codes "A")))
unfolding loaded score_of zeros_of
one_name_before_too_many_cells = refl
