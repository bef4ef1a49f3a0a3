-- The verbs of commands, what each takes, and the command of the words.
use Rattle.std.specs.Prelude.{◌≡◌, ℕ, ◌<◌, ◌≤◌, ◌^◌, ◌==◌, ◌&&◌, Bool, nat_lt, List, [], ◌∷◌, Option, Some, None, find, if◌then◌else◌, ◌⊎◌, codes, decimal, length, map}
use Rattle.std.specs.Str.{bytes_eq}
use Rattle.std.specs.List.{All, before_first, after_first, list_any}
use Rattle.clap.specs.Words.{Text}
use Rattle.command_line.specs.Given.{Values, AreGiven}
use Rattle.command_line.specs.Takes.{Takes}
use Rattle.desk_model.specs.Limits.{RUN_LIMIT}
use Rattle.desk_model.specs.Name.{is_name}
use Rattle.desk_model.specs.MeasureText.{IsMeasure, IsTextOf}
use Rattle.desk_model.specs.declared.types.MeasureName.{MeasureName}
use Rattle.desk_model.specs.declared.types.MeasureName.TheVariants.{Biased}
use Rattle.desk_words.specs.declared.read.Verb.{Verb}
use Rattle.desk_words.specs.declared.read.Verb.TheVariants as verb
use Rattle.desk_words.specs.declared.command.RunWord.{RunWord}
use Rattle.desk_words.specs.declared.command.Job.{Job}
use Rattle.desk_words.specs.declared.command.Check.{Check}
use Rattle.desk_words.specs.declared.command.Placing.{Placing}
use Rattle.desk_words.specs.declared.command.Command.{Command}
use Rattle.desk_words.specs.declared.command.Command.TheVariants.{Table, Certify, CertifyAll, Session, Verify, Demo, Graded, Tiers, Merge, Apply}

-- the word of each verb
abbrev pub word_of : Verb → Text
word_of verb.Table = codes "table"
word_of verb.Certify = codes "certify"
word_of verb.Session = codes "session"
word_of verb.Verify = codes "verify"
word_of verb.Demo = codes "demo"
word_of verb.Graded = codes "graded"
word_of verb.Tiers = codes "tiers"
word_of verb.Merge = codes "merge"
word_of verb.Apply = codes "apply"

abbrev pub all_verbs : List Verb
all_verbs = verb.Table ∷ verb.Certify ∷ verb.Session ∷ verb.Verify ∷ verb.Demo ∷ verb.Graded ∷ verb.Tiers ∷ verb.Merge ∷ verb.Apply ∷ []

-- the verb of a word
abbrev pub verb_of : Text → Option Verb
verb_of word = find (λ v. bytes_eq (word_of v) word) all_verbs

-- runs under a measure, as many as the least number or more
abbrev pub takes_runs : ℕ → Takes
takes_runs least =
    record { needed = codes "qrels" ∷ codes "measure" ∷ []; optional = codes "level" ∷ codes "depth" ∷ []; flags = []; other = codes "RUN"; least = least; most = RUN_LIMIT }

-- the same, and a flag that asks for all their pairs
abbrev pub takes_pairs : ℕ → Takes
takes_pairs least = record (takes_runs least) { flags = codes "all" ∷ [] }

-- a certificate and the runs that it may speak of
abbrev pub takes_certificate : Takes
takes_certificate = record { needed = codes "qrels" ∷ codes "cert" ∷ []; optional = []; flags = []; other = codes "RUN"; least = 2; most = RUN_LIMIT }

-- runs under a measure by grades
abbrev pub takes_grades : Takes
takes_grades = record { needed = codes "qrels" ∷ codes "measure" ∷ codes "greatest" ∷ []; optional = []; flags = []; other = codes "RUN"; least = 1; most = RUN_LIMIT }

-- other words alone, one at least
abbrev pub takes_alone : Text → ℕ → Takes
takes_alone other most = record { needed = []; optional = []; flags = []; other = other; least = 1; most = most }

abbrev pub takes_seed : Takes
takes_seed = takes_alone (codes "SEED") 1

abbrev pub takes_sheets : Takes
takes_sheets = takes_alone (codes "SHEET") RUN_LIMIT

-- a sheet and the runs of the desk in which its entries have their places
abbrev pub takes_placing : Takes
takes_placing = record { needed = codes "qrels" ∷ codes "sheet" ∷ []; optional = []; flags = []; other = codes "RUN"; least = 1; most = RUN_LIMIT }

-- what the command of each verb takes
abbrev pub takes : Verb → Takes
takes verb.Table = takes_runs 1
takes verb.Certify = takes_pairs 2
takes verb.Session = takes_runs 1
takes verb.Verify = takes_certificate
takes verb.Demo = takes_seed
takes verb.Graded = takes_grades
takes verb.Tiers = takes_runs 1
takes verb.Merge = takes_sheets
takes verb.Apply = takes_placing

-- an equals sign
abbrev pub is_equals : ℕ → Bool
is_equals b = b == 61

-- a run by its path alone, where that is not empty
abbrev pub unnamed : Text → Option RunWord
unnamed path = if nat_lt 0 (length path) then Some (record { name = None; path = path }) else None

-- a run by its name and its path, where the name is one and the path is not empty
abbrev pub named : Text → Text → Option RunWord
named name path = if is_name name && nat_lt 0 (length path) then Some (record { name = Some name; path = path }) else None

-- the run of a RUN word, which is PATH, or NAME=PATH cut at the first `=`
abbrev pub run_word_of : Text → Option RunWord
run_word_of word = if list_any is_equals word then named (before_first is_equals word) (after_first is_equals word) else unnamed word

-- one value, a path that is not empty
abbrev pub IsPathOf : List Text → Text → Type 0
IsPathOf values path = (values ≡ path ∷ []) × (0 < length path)

-- one value, a text of the measure
abbrev pub IsMeasureOf : List Text → MeasureName → Type 0
IsMeasureOf values measure = (text : Text) × (values ≡ text ∷ []) × IsMeasure measure × IsTextOf measure text

-- one value, a number in digits from 1 to 1,000; with no value the level is 1
abbrev pub IsLevelOf : List Text → ℕ → Type 0
IsLevelOf values level = ((values ≡ []) × (level ≡ 1)) ⊎ ((values ≡ decimal level ∷ []) × (1 ≤ level) × (level ≤ 1000))

-- one value, a number in digits from 1 to 10,000; with no value there is no depth
abbrev pub IsDepthOf : List Text → Option ℕ → Type 0
IsDepthOf values None = values ≡ []
IsDepthOf values (Some depth) = (values ≡ decimal depth ∷ []) × (1 ≤ depth) × (depth ≤ 10000)

-- one value, a number in digits from 1 to 10
abbrev pub IsGreatestOf : List Text → ℕ → Type 0
IsGreatestOf values greatest = (values ≡ decimal greatest ∷ []) × (1 ≤ greatest) × (greatest ≤ 10)

-- one value, a number of 32 bits in digits
abbrev pub IsSeedOf : List Text → ℕ → Type 0
IsSeedOf values seed = (values ≡ decimal seed ∷ []) × (seed < 2 ^ 32)

-- the runs of RUN words, from 1 to 256
pub record AreRunsOf (values : List Text) (runs : List RunWord) : Type 0 where
  pub each : map run_word_of values ≡ map Some runs
  pub some : 0 < length runs
  pub few : length runs ≤ RUN_LIMIT

-- each text has a byte at least
abbrev pub HaveBytes : List Text → Type 0
HaveBytes texts = All (λ text. 0 < length text) texts

-- the values are the paths of sheets, from 1 to 256, none of them empty
pub record AreSheetsOf (values sheets : List Text) : Type 0 where
  pub each : values ≡ sheets
  pub filled : HaveBytes sheets
  pub some : 0 < length sheets
  pub few : length sheets ≤ RUN_LIMIT

-- the values say this job
pub record SaysJob (values : Values) (job : Job) : Type 0 where
  pub qrels : IsPathOf (values (codes "qrels")) job.qrels
  pub measure : IsMeasureOf (values (codes "measure")) job.measure
  pub level : IsLevelOf (values (codes "level")) job.level
  pub depth : IsDepthOf (values (codes "depth")) job.depth
  pub runs : AreRunsOf (values (codes "RUN")) job.runs

-- a measure has a persistence: it is rank-biased precision
abbrev pub HasPersistence : MeasureName → Type 0
HasPersistence measure = (top : ℕ) × (bottom : ℕ) × (measure ≡ Biased top bottom)

-- the values say this check
pub record SaysCheck (values : Values) (check : Check) : Type 0 where
  pub qrels : IsPathOf (values (codes "qrels")) check.qrels
  pub cert : IsPathOf (values (codes "cert")) check.cert
  pub runs : AreRunsOf (values (codes "RUN")) check.runs

-- the values say this placing
pub record SaysPlacing (values : Values) (placing : Placing) : Type 0 where
  pub qrels : IsPathOf (values (codes "qrels")) placing.qrels
  pub sheet : IsPathOf (values (codes "sheet")) placing.sheet
  pub runs : AreRunsOf (values (codes "RUN")) placing.runs

-- the flag for all pairs is given, or not: then the first two runs are the pair
abbrev pub AsksForAll : Values → Type 0
AsksForAll values = 0 < length (values (codes "all"))

abbrev pub AsksForTwo : Values → Type 0
AsksForTwo values = values (codes "all") ≡ []

-- the verb of a command
abbrev pub verb_for : Command → Verb
verb_for (Table job) = verb.Table
verb_for (Certify job) = verb.Certify
verb_for (CertifyAll job) = verb.Certify
verb_for (Session job) = verb.Session
verb_for (Verify check) = verb.Verify
verb_for (Demo seed) = verb.Demo
verb_for (Graded job greatest) = verb.Graded
verb_for (Tiers job) = verb.Tiers
verb_for (Merge sheets) = verb.Merge
verb_for (Apply placing) = verb.Apply

-- the values say what the command has beside its verb
abbrev pub Says : Values → Command → Type 0
Says values (Table job) = SaysJob values job
Says values (Certify job) = SaysJob values job × AsksForTwo values
Says values (CertifyAll job) = SaysJob values job × AsksForAll values
Says values (Session job) = SaysJob values job
Says values (Verify check) = SaysCheck values check
Says values (Demo seed) = IsSeedOf (values (codes "SEED")) seed
Says values (Graded job greatest) = SaysJob values job × HasPersistence job.measure × IsGreatestOf (values (codes "greatest")) greatest
Says values (Tiers job) = SaysJob values job
Says values (Merge sheets) = AreSheetsOf (values (codes "SHEET")) sheets
Says values (Apply placing) = SaysPlacing values placing

-- a command of the verb that the values say
pub record IsSaid (v : Verb) (values : Values) (command : Command) : Type 0 where
  pub of_verb : verb_for command ≡ v
  pub says : Says values command

-- the words after that of the verb give values that say the command
pub record IsCommandAfter (v : Verb) (words : List Text) (command : Command) : Type 0 where
  pub values : Values
  pub given : AreGiven (takes v) words values
  pub said : IsSaid v values command

-- the command of the words: the first is the word of its verb, and the others say it
abbrev pub IsCommandOf : List Text → Command → Type 0
IsCommandOf [] command = ⊥
IsCommandOf (word ∷ rest) command = (verb_of word ≡ Some (verb_for command)) × IsCommandAfter (verb_for command) rest command
