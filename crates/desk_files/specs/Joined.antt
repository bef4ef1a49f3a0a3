-- What the rows of files come to together.
use Rattle.std.specs.Prelude.{◌≡◌, ℕ, List, Option, Result, Ok, Err}
use Rattle.desk_outside.specs.Outside.{Files}
use Rattle.file_rows.specs.Grouped.{TopicRows}
use Rattle.run_reader.specs.Run.{Run}
use Rattle.desk_model.specs.Desk.{Desk}
use Rattle.topics_pool.specs.Rows.{IsDeskOf, first_repeated, run_names}
use Rattle.desk_files.specs.declared.stop.Stop.{Stop as KeptStop}
use Rattle.desk_files.specs.declared.stop.Stop.TheVariants as kept
use Rattle.desk_files.specs.Files.{Stop, Refused}
use Rattle.desk_files.specs.Load.{Sources, Loaded, within, loaded, Reads}
use Rattle.desk_files.specs.Outcome.{Stops}
use Rattle.desk_files.specs.Views.{refusal_of}

-- what the rows come to where they stand together, for so many tables
abbrev pub joined : ℕ → List TopicRows → List Run → Result Loaded Stop
joined tables qrels runs = within tables qrels runs (first_repeated (run_names runs))

-- a desk is that of the rows, and a refusal is the rows'; memory may run out in the place of either
abbrev pub Joins : ℕ → List TopicRows → List Run → Result Desk KeptStop → Type 0
Joins tables qrels runs (Ok desk) = (joined tables qrels runs ≡ Ok (record { qrels = qrels; runs = runs })) × IsDeskOf qrels runs desk
Joins tables qrels runs (Err (kept.Refused refusal)) = joined tables qrels runs ≡ Err (Refused (refusal_of refusal))
Joins tables qrels runs (Err kept.Outside) = ⊥
Joins tables qrels runs (Err kept.Memory) = Unit {0}

-- a desk is that of the files
abbrev pub Makes : Option Files → ℕ → ℕ → Sources → Result Desk KeptStop → Type 0
Makes known before now sources (Ok desk) = (rows : Loaded) × Reads known sources rows × IsDeskOf rows.qrels rows.runs desk
Makes known before now sources (Err stop) = Stops known before now stop (λ held. loaded held sources)
