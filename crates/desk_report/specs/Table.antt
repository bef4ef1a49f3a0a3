-- The printed table.
use Rattle.std.specs.Prelude.{ℕ, List, [], ◌∷◌, ◌++◌, length, map, codes, decimal, ◌*◌, ℤ, unsigned_abs, flat_map, Option}
use Rattle.std.specs.List.{zip}
use Rattle.desk_model.specs.MeasureText.{measure_text}
use Rattle.desk_model.specs.Verdict.{verdict}
use Rattle.desk_model.specs.Pairs.{pairs_of}
use Rattle.desk_model.specs.Desk.{Desk}
use Rattle.desk_model.specs.declared.types.MeasureName.{MeasureName}
use Rattle.desk_model.specs.declared.types.Totals.{Totals}
use Rattle.desk_model.specs.declared.types.Verdict.{Verdict}
use Rattle.desk_model.specs.declared.types.Verdict.TheVariants.{Above, Below, Equal, Open, Close}
use Rattle.topic_counts.specs.Ends.{IsNear}
use Rattle.topic_counts.specs.declared.span.Span.{Span}
use Rattle.order_bundle.specs.Scoped.{depth_lines}
use Rattle.desk_report.specs.Means.{ends_text}

-- how a verdict is printed
abbrev pub word_of : Verdict → List ℕ
word_of Above = codes "above"
word_of Below = codes "below"
word_of Equal = codes "equal"
word_of Open = codes "open"
word_of Close = codes "close"

-- `run NAME LOW HIGH`
abbrev pub run_line : ℕ → List ℕ → Span → List ℕ
run_line parts name bounds = codes "run " ++ name ++ 32 ∷ ends_text parts bounds.lo bounds.hi

-- `pair FIRST WORD SECOND LOW HIGH`
abbrev pub pair_line : ℕ → List ℕ → List ℕ → Totals → List ℕ
pair_line parts first second totals =
    codes "pair " ++ first ++ 32 ∷ word_of (verdict totals) ++ 32 ∷ second ++ 32 ∷ ends_text parts totals.least_lo totals.most_hi

-- the lines before the runs; that of the depth stands where there is one
abbrev pub head_lines : MeasureName → ℕ → Option ℕ → ℕ → ℕ → List (List ℕ)
head_lines measure level depth topics runs =
    (codes "measure " ++ measure_text measure) ∷ (codes "level " ++ decimal level) ∷ depth_lines depth ++ (codes "topics " ++ decimal topics) ∷ (codes "runs " ++ decimal runs) ∷ []

-- one line for each run
abbrev pub run_lines : ℕ → List (List ℕ) → List Span → List (List ℕ)
run_lines parts runs bounds = map (λ run. run_line parts run.0 run.1) (zip runs bounds)

-- one line for each pair of runs
abbrev pub pair_lines : ℕ → List (List ℕ) → List Totals → List (List ℕ)
pair_lines parts runs totals = map (λ pair. pair_line parts pair.0.0 pair.0.1 pair.1) (zip (pairs_of runs) totals)

-- a line with its line feed
abbrev pub ended : List ℕ → List ℕ
ended line = line ++ 10 ∷ []

-- the lines of the table
unfoldable pub table_lines : Desk → MeasureName → ℕ → Option ℕ → ℤ → List Span → List Totals → List (List ℕ)
table_lines desk measure level depth unit bounds totals =
    let parts = unsigned_abs unit * length desk.topics in
    head_lines measure level depth (length desk.topics) (length desk.runs)
    ++ run_lines parts desk.runs bounds
    ++ pair_lines parts desk.runs totals

-- the table
unfoldable pub table_text : Desk → MeasureName → ℕ → Option ℕ → ℤ → List Span → List Totals → List ℕ
table_text desk measure level depth unit bounds totals = flat_map ended (table_lines desk measure level depth unit bounds totals)

-- sums whose printed ends are from -10^30 to 10^30
abbrev pub AreNearTotals : Totals → Type 0
AreNearTotals totals = IsNear totals.least_lo × IsNear totals.most_hi
