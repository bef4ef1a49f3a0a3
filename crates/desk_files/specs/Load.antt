-- What the files of a desk say.
use Rattle.std.specs.Prelude.{◌≡◌, ℕ, ◌*◌, nat_lt, List, [], ◌∷◌, ◌++◌, map, if◌then◌else◌, Option, Some, None, slice_index_or, Result, Ok, Err, IfSome}
use Rattle.desk_outside.specs.Outside.{Files}
use Rattle.desk_words.specs.declared.command.RunWord.{RunWord}
use Rattle.file_rows.specs.Grouped.{TopicRows, name_bytes_in}
use Rattle.qrels_reader.specs.Grouped.{qrels_of}
use Rattle.run_reader.specs.Run.{Run, run_of}
use Rattle.run_reader.specs.declared.used.Used.{Used}
use Rattle.desk_model.specs.Desk.{Desk}
use Rattle.topics_pool.specs.Rows.{IsDeskOf, first_repeated, run_names, cells_of}
use Rattle.topics_pool.specs.declared.limits.TheConstants.{MOST_CELLS}
use Rattle.desk_files.specs.Files.{Stop, Refused, SameName, TooManyCells, ◌>>=◌, file_as}

-- what a desk is read from: the path of the judgements, and RUN words; and how many tables of the desk are to be made, which have a cell each for each pair and topic
pub record Sources : Type 0 where
  pub qrels : List ℕ
  pub runs : List RunWord
  pub tables : ℕ

-- for so many tables, and for one
abbrev pub sources_for : ℕ → List ℕ → List RunWord → Sources
sources_for tables qrels runs = record { qrels = qrels; runs = runs; tables = tables }

abbrev pub sources : List ℕ → List RunWord → Sources
sources qrels runs = sources_for 1 qrels runs

-- what the files of a desk say
pub record Loaded : Type 0 where
  pub qrels : List TopicRows
  pub runs : List Run

-- the runs of RUN words in order, beside the qrels and what the files before them used
abbrev pub runs_of : Files → List TopicRows → Used → List RunWord → Result (List Run) Stop
runs_of files qrels used [] = Ok []
runs_of files qrels used (word ∷ words) =
    file_as (run_of word.name qrels used) files word.path >>= (λ run. runs_of files qrels run.used words >>= (λ runs. Ok (run ∷ runs)))

-- nothing but the qrels was read
abbrev pub used_by : List TopicRows → Used
used_by qrels = record { rows = 0; name_bytes = name_bytes_in qrels }

-- pairs times topics times tables
abbrev pub cells_in_all : ℕ → List TopicRows → List Run → ℕ
cells_in_all tables qrels runs = cells_of qrels runs * tables

-- the rows, unless a name comes twice, or so many tables have too many cells
abbrev pub within : ℕ → List TopicRows → List Run → Option ℕ → Result Loaded Stop
within tables qrels runs (Some r) = Err (Refused (SameName (slice_index_or (run_names runs) r [])))
within tables qrels runs None =
    if nat_lt MOST_CELLS (cells_in_all tables qrels runs) then Err (Refused (TooManyCells (cells_in_all tables qrels runs))) else Ok (record { qrels = qrels; runs = runs })

-- what the files of a desk say, or the first refusal: the qrels first, then the runs in order, then all together
unfoldable pub loaded : Files → Sources → Result Loaded Stop
loaded files sources =
    file_as qrels_of files sources.qrels >>= (λ qrels. runs_of files qrels (used_by qrels) sources.runs >>= (λ runs. within sources.tables qrels runs (first_repeated (run_names runs))))

-- one list begins with another
abbrev pub StartsWith : List (List ℕ) → List (List ℕ) → Type 0
StartsWith names first = (rest : List (List ℕ)) × (names ≡ first ++ rest)

-- the names after a file: none, where the file is missing or refused
abbrev pub if_read : {X : Type 0} → Result X Stop → (X → List (List ℕ)) → List (List ℕ)
if_read (Ok x) next = next x
if_read (Err why) next = []

-- files that are read one after the other: the path of a word, what its file comes to beside what the files before it left, and what it leaves
pub record Turns (Word State Found : Type 0) : Type 0 where
  pub path : Word → List ℕ
  pub read : Files → State → Word → Result Found Stop
  pub left : Found → State

-- the paths of words, up to the first whose file is missing or refused
abbrev pub to_open : {Word State Found : Type 0} → Turns Word State Found → Files → State → List Word → List (List ℕ)
to_open turns files had [] = []
to_open turns files had (word ∷ words) = turns.path word ∷ if_read (turns.read files had word) (λ found. to_open turns files (turns.left found) words)

-- those of RUN words, where each run is read beside the qrels and what the files before it used
abbrev pub runs_in_turn : List TopicRows → Turns RunWord Used Run
runs_in_turn qrels = record {
  path = λ word. word.path;
  read = λ files used word. file_as (run_of word.name qrels used) files word.path;
  left = λ run. run.used;
}

abbrev pub runs_to_open : Files → List TopicRows → Used → List RunWord → List (List ℕ)
runs_to_open files qrels used words = to_open (runs_in_turn qrels) files used words

-- the path of the qrels and those of the runs, up to the first whose file is missing or refused
abbrev pub paths_to_open : Files → List ℕ → List RunWord → List (List ℕ)
paths_to_open files path words = path ∷ if_read (file_as qrels_of files path) (λ qrels. runs_to_open files qrels (used_by qrels) words)

-- the paths of RUN words
abbrev pub paths_of : List RunWord → List (List ℕ)
paths_of words = map (λ (word : RunWord). word.path) words

-- the names that may be opened one after the other: the paths in order, and where the files are known none after the first
-- that is missing or refused
abbrev pub MayOpen : Option Files → (Files → List (List ℕ)) → List (List ℕ) → List (List ℕ) → Type 0
MayOpen None readable paths names = StartsWith paths names
MayOpen (Some files) readable paths names = StartsWith (readable files) names

-- the names that may be opened for a desk
abbrev pub DeskMayOpen : Option Files → Sources → List (List ℕ) → Type 0
DeskMayOpen known sources names = MayOpen known (λ files. paths_to_open files sources.qrels sources.runs) (sources.qrels ∷ paths_of sources.runs) names

-- the names that were opened in a call
pub record Opens (may : List (List ℕ) → Type 0) (had has : List (List ℕ)) : Type 0 where
  pub names : List (List ℕ)
  pub allowed : may names
  pub added : has ≡ had ++ names

-- where the files of a desk are known, they say these rows
abbrev pub Reads : Option Files → Sources → Loaded → Type 0
Reads known sources rows = IfSome known (λ files. loaded files sources ≡ Ok rows)

-- rows that the files say make a desk, of which something holds
pub record HasDesk (known : Option Files) (sources : Sources) (fact : Desk → Type 0) : Type 0 where
  pub rows : Loaded
  pub read : Reads known sources rows
  pub desk : Desk
  pub ranked : IsDeskOf rows.qrels rows.runs desk
  pub holds : fact desk
