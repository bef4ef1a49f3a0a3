-- The rows of files together.
use Rattle.std.proofs.Common.{◌≡◌, ℕ, zero, suc, ◌+◌, ◌*◌, ◌<◌, ◌≤◌, Bool, true, false, List, [], ◌∷◌, length, cond, slice_index_or, refl, ap, ap₂, sym, subst, ◌∙◌, arith}
use Rattle.std.specs.List.{find, range_with_len, AllByRecursion, IsDistinct}
use Rattle.std.specs.List.Sorted.{IsStrictlySortedBy}
use Rattle.std.specs.Str.{bytes_eq}
use Rattle.std.specs.declared.cmp.Ordering.TheVariants.{Less}
use Rattle.std.proofs.Math.Nat.{le-mul_of_pos_right}
use Rattle.std.proofs.lemmas.Bool.{le-leb, lt-leb}
use Rattle.std.proofs.lemmas.List.{length-map}
use Rattle.std.proofs.lemmas.Map.Made.{length-from_same_keys}
use Rattle.std.specs.Prelude.{Option, Some, None, Result, Ok, Err, IfSome, IsErrAnd}
use Rattle.desk_outside.specs.Outside.{Files}
use Rattle.file_rows.specs.Grouped.{TopicRows, names_of}
use Rattle.file_rows.proofs.Seen.{laws}
use Rattle.qrels_reader.specs.Grouped.{qrels_of}
use Rattle.run_reader.specs.Run.{Run}
use Rattle.desk_model.specs.Book.{Book}
use Rattle.desk_model.specs.Desk.{Desk, pair_count}
use Rattle.desk_model.specs.Name.{name_cmp, AreAscending}
use Rattle.desk_model.proofs.Names.{same_name, two_ways}
use Rattle.topics_pool.specs.Rows.{IsDeskOf, IsNoFault, IsFaultOf, run_names, topic_names, first_repeated, is_repeated, cells_of}
use Rattle.topics_pool.specs.declared.fault.DeskFault.TheVariants.{TooManyCells}
use Rattle.topics_pool.specs.declared.limits.TheConstants.{MOST_CELLS}
use Rattle.desk_files.specs.declared.stop.Stop.{Stop as KeptStop}
use Rattle.desk_files.specs.declared.stop.Stop.TheVariants as kept
use Rattle.desk_files.specs.Files.{Stop, ◌>>=◌, file_as, Refused, SameName, TooManyCells}
use Rattle.desk_files.specs.Load.{Sources, Loaded, loaded, runs_of, used_by, within, cells_in_all}
use Rattle.desk_files.specs.Joined.{joined, Joins, Makes}
use Rattle.desk_files.specs.Outcome.{Stops}
use Rattle.desk_files.proofs.Stopping.{stops_too, handed_on}

-- what is found among the numbers from a on is one of them
found_in_range : (p : ℕ → Bool) (a n r : ℕ) → find p (range_with_len a n) ≡ Some r → r < a + n
found_in_range p a zero r e = absurd (cc)
found_in_range p a (suc n) r e = at (p a) (found_in_range p (a + 1) n r) e
  where
    at : (b : Bool) → (find p (range_with_len (a + 1) n) ≡ Some r → r < (a + 1) + n) → cond b (Some a) (find p (range_with_len (a + 1) n)) ≡ Some r → r < a + suc n
    at true more e = let same : a ≡ r = cc in omega (arith, same)
    at false more e = omega (arith, more e)

-- the number of a repeated name is that of a run
pub repeated_in : (names : List (List ℕ)) (r : ℕ) → first_repeated names ≡ Some r → r < length names
repeated_in names r e = omega (arith, found_in_range (is_repeated names) 0 (length names) r e)

-- the rows of a desk whose tables have few enough cells
pub is_within : (tables : ℕ) (qrels : List TopicRows) (runs : List Run) → IsNoFault qrels runs → cells_in_all tables qrels runs ≤ MOST_CELLS → joined tables qrels runs ≡ Ok (record { qrels = qrels; runs = runs })
is_within tables qrels runs none few =
    let loaded : Loaded = record { qrels = qrels; runs = runs } in
    let cells = cells_in_all tables qrels runs in
    let refused : Result Loaded Stop = Err (Refused (TooManyCells cells)) in
    ap (within tables qrels runs) none.names ∙ ap (λ b. cond b refused (Ok loaded)) (lt-leb (suc MOST_CELLS) cells (omega (arith, few)))

-- names that ascend are different
each_apart : (x : List ℕ) (ys : List (List ℕ)) → AllByRecursion (λ y. name_cmp x y ≡ Less) ys → AllByRecursion (λ y. bytes_eq x y ≡ false) ys
each_apart x [] h = tt
each_apart x (y ∷ ys) h = (apart (bytes_eq x y) refl, each_apart x ys h.1)
  where
    apart : (b : Bool) → bytes_eq x y ≡ b → bytes_eq x y ≡ false
    apart true e = let self : name_cmp x x ≡ Less = ap (name_cmp x) (same_name x y e) ∙ h.0 in absurd (two_ways x x self self)
    apart false e = e

ascending_distinct : (names : List (List ℕ)) → AreAscending names → IsDistinct bytes_eq names
unfolding IsDistinct IsStrictlySortedBy
ascending_distinct [] up = tt
ascending_distinct (name ∷ names) up = (each_apart name names up.0, ascending_distinct names up.1)

-- the topics of a desk are as many as those of its rows, and so are the cells
pub desk_cells : (tables : ℕ) (qrels : List TopicRows) (runs : List Run) (desk : Desk) → IsDeskOf qrels runs desk → IsDistinct bytes_eq (names_of qrels) → pair_count (length desk.runs) * length desk.topics * tables ≡ cells_in_all tables qrels runs
desk_cells tables qrels runs desk is distinct =
    let name : Book → List ℕ = λ book. book.name in
    let many : length desk.runs ≡ length runs = ap length is.run_names ∙ length-map runs (λ (run : Run). run.name) in
    let topics : length desk.topics ≡ length qrels =
    sym (length-map desk.topics name)
    ∙ length-from_same_keys laws (topic_names desk.topics) (names_of qrels) (ascending_distinct (topic_names desk.topics) is.valid.ascending) distinct is.topics
    ∙ length-map qrels (λ topic. topic.name) in
    ap₂ (λ r t. pair_count r * t * tables) many topics

pub is_repeated_at : (tables : ℕ) (qrels : List TopicRows) (runs : List Run) (r : ℕ) (name : List ℕ) → first_repeated (run_names runs) ≡ Some r → name ≡ slice_index_or (run_names runs) r [] → joined tables qrels runs ≡ Err (Refused (SameName name))
is_repeated_at tables qrels runs r name e is = ap (within tables qrels runs) e ∙ ap (λ n. Err (Refused (SameName n))) (sym is)

-- what the files come to where the qrels and the runs are read
loads : (held : Files) (sources : Sources) (qrels : List TopicRows) (runs : List Run) → file_as qrels_of held sources.qrels ≡ Ok qrels → runs_of held qrels (used_by qrels) sources.runs ≡ Ok runs → loaded held sources ≡ joined sources.tables qrels runs
unfolding loaded
loads held sources qrels runs e f =
    ap (λ q. q >>= (λ qrels. runs_of held qrels (used_by qrels) sources.runs >>= (λ runs. joined sources.tables qrels runs))) e ∙ ap (λ r. r >>= (λ runs. joined sources.tables qrels runs)) f

module _ (sources : Sources) (qrels : List TopicRows) (runs : List Run) where
  -- a desk of the rows is one of the files
  pub makes_joined : (told : Option Files) (before now : ℕ) (result : Result Desk KeptStop) → IfSome told (λ held. file_as qrels_of held sources.qrels ≡ Ok qrels) → IfSome told (λ held. runs_of held qrels (used_by qrels) sources.runs ≡ Ok runs) → Joins sources.tables qrels runs result → Makes told before now sources result
  makes_joined None before now (Ok desk) e f joins = (record { qrels = qrels; runs = runs }, tt, joins.1)
  makes_joined (Some held) before now (Ok desk) e f joins = (record { qrels = qrels; runs = runs }, loads held sources qrels runs e f ∙ joins.0, joins.1)
  makes_joined None before now (Err (kept.Refused refusal)) e f joins = tt
  makes_joined (Some held) before now (Err (kept.Refused refusal)) e f joins = loads held sources qrels runs e f ∙ joins
  makes_joined told before now (Err kept.Outside) e f joins = absurd joins
  makes_joined told before now (Err kept.Memory) e f joins = tt

-- what stops at the qrels
pub stops_at_qrels : (held : Files) (sources : Sources) (why : Stop) → file_as qrels_of held sources.qrels ≡ Err why → loaded held sources ≡ Err why
unfolding loaded
stops_at_qrels held sources why e = ap (λ q. q >>= (λ qrels. runs_of held qrels (used_by qrels) sources.runs >>= (λ runs. joined sources.tables qrels runs))) e

-- what stops at a run
pub stops_at_runs : (held : Files) (sources : Sources) (qrels : List TopicRows) (why : Stop) → file_as qrels_of held sources.qrels ≡ Ok qrels → runs_of held qrels (used_by qrels) sources.runs ≡ Err why → loaded held sources ≡ Err why
unfolding loaded
stops_at_runs held sources qrels why e f =
    ap (λ q. q >>= (λ qrels. runs_of held qrels (used_by qrels) sources.runs >>= (λ runs. joined sources.tables qrels runs))) e ∙ ap (λ r. r >>= (λ runs. joined sources.tables qrels runs)) f

pub makes_err : {Y : Type 0} (told : Option Files) (first before now : ℕ) (sources : Sources) (r : Result Desk KeptStop) (stop : KeptStop) (g : Files → Result Y Stop) → r ≡ Err stop → first ≤ before → Stops told before now stop g → ((files : Files) (why : Stop) → told ≡ Some files → g files ≡ Err why → loaded files sources ≡ Err why) → Makes told first now sources r
makes_err told first before now sources r stop g is le s f =
    let P : Result Desk KeptStop → Type 0 = λ r. Makes told first now sources r in
    subst P (sym is) (stops_too told first before now stop g (λ held. loaded held sources) le s f)

-- memory ran out
pub joins_memory : (tables : ℕ) (qrels : List TopicRows) (runs : List Run) (r : Result Desk KeptStop) → IsErrAnd r (λ stop. stop ≡ kept.Memory) → Joins tables qrels runs r
joins_memory tables qrels runs r is = handed_on (λ r. Joins tables qrels runs r) r kept.Memory is tt

-- there are too many cells
pub is_excessive : (tables : ℕ) (qrels : List TopicRows) (runs : List Run) (cells : ℕ) → first_repeated (run_names runs) ≡ None → cells ≡ cells_in_all tables qrels runs → MOST_CELLS < cells → joined tables qrels runs ≡ Err (Refused (TooManyCells cells))
is_excessive tables qrels runs cells none is more =
    let fits : Result Loaded Stop = Ok (record { qrels = qrels; runs = runs }) in
    let refused : ℕ → Result Loaded Stop = λ n. Err (Refused (TooManyCells n)) in
    ap (within tables qrels runs) none ∙ ap (λ b. cond b (refused (cells_in_all tables qrels runs)) fits) (le-leb (suc MOST_CELLS) (cells_in_all tables qrels runs) (omega (arith, is, more))) ∙ ap refused (sym is)

-- one table has too many already
pub more_in_all : (tables : ℕ) (qrels : List TopicRows) (runs : List Run) (cells : ℕ) → IsFaultOf qrels runs (TooManyCells cells) → 1 ≤ tables → MOST_CELLS < cells_in_all tables qrels runs
more_in_all tables qrels runs cells (none, is, more) some =
    let grown : cells_of qrels runs ≤ cells_in_all tables qrels runs = le-mul_of_pos_right (cells_of qrels runs) (omega (arith, some)) in
    omega (arith, is, more, grown)
