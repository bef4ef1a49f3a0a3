-- What the demo's texts say, read as files are.
use Rattle.std.specs.Prelude.{◌≡◌, ℕ, ◌+◌, ◌*◌, ◌<◌, ◌≤◌, true, List, [], ◌∷◌, map, None, Ok}
use Rattle.std.specs.List.{range_with_len}
use Rattle.desk_model.specs.Desk.{Desk}
use Rattle.file_rows.specs.Grouped.{TopicRows, is_topic, name_bytes_in}
use Rattle.qrels_reader.specs.Grouped.{qrels_of}
use Rattle.run_reader.specs.Run.{Run, run_of}
use Rattle.run_reader.specs.declared.used.Used.{Used}
use Rattle.topics_pool.specs.Rows.{IsDeskOf, total_rows}
use Rattle.demo_desk.specs.Draws.{state_after}
use Rattle.demo_desk.specs.Texts.{topic_text, run_after, demo_qrels, demo_run}
use Rattle.demo_desk.specs.declared.sizes.TheConstants.{TOPICS, PLACES, RUNS}

-- the texts of the eight runs
abbrev pub demo_runs : ℕ → List (List ℕ)
demo_runs seed = map (demo_run seed) (range_with_len 0 RUNS)

-- the texts of the first so many runs, one after the other, after a state
abbrev pub runs_after : ℕ → ℕ → List (List ℕ)
runs_after x count = map (λ run. run_after (state_after x ((1 + PLACES) * TOPICS * run)) run) (range_with_len 0 count)

-- what was used before the first run
abbrev pub used_before_runs : List TopicRows → Used
used_before_runs qrels = record { rows = 0; name_bytes = name_bytes_in qrels }

-- texts of runs say these runs, each beside the judgements and what the texts before it used
abbrev pub SayRuns : List TopicRows → Used → List (List ℕ) → List Run → Type 0
SayRuns qrels used [] [] = Unit {0}
SayRuns qrels used [] (run ∷ runs) = ⊥
SayRuns qrels used (text ∷ texts) [] = ⊥
SayRuns qrels used (text ∷ texts) (run ∷ runs) = (run_of None qrels used text ≡ Ok run) × SayRuns qrels run.used texts runs

-- judgements that have the first so many topics, and at most 500,000 bytes of document names
pub record HaveTopics (topics : ℕ) (qrels : List TopicRows) : Type 0 where
  pub known : (t : ℕ) → t < topics → is_topic (topic_text t) qrels ≡ true
  pub name_bytes : name_bytes_in qrels ≤ 500000

-- what the texts of a seed say
pub record AreDemoRows (seed : ℕ) (qrels : List TopicRows) (runs : List Run) : Type 0 where
  pub judged : qrels_of (demo_qrels seed) ≡ Ok qrels
  pub ranked : SayRuns qrels (used_before_runs qrels) (demo_runs seed) runs

-- a desk is that of the texts of a seed, and so many rows of runs were kept
pub record IsDemoDesk (seed : ℕ) (desk : Desk) (rows : ℕ) : Type 0 where
  pub qrels : List TopicRows
  pub runs : List Run
  pub said : AreDemoRows seed qrels runs
  pub ranked : IsDeskOf qrels runs desk
  pub kept : rows ≡ total_rows runs

-- the texts of each seed are read without a refusal
abbrev pub TextsAreRead : Type 0
TextsAreRead = (seed : ℕ) → (qrels : List TopicRows) × (runs : List Run) × AreDemoRows seed qrels runs
