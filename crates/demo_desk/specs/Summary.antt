-- The summary of a demo.
use Rattle.std.specs.Prelude.{ℕ, Bool, true, false, not, List, [], ◌∷◌, ◌++◌, flat_map, sum_by, codes, decimal}
use Rattle.std.specs.List.{count_by}
use Rattle.desk_model.specs.Mark.{is_unjudged}
use Rattle.desk_model.specs.declared.types.Mark.{Mark}
use Rattle.desk_model.specs.declared.types.Verdict.{Verdict}
use Rattle.desk_model.specs.declared.types.Verdict.TheVariants.{Above, Below, Equal, Open, Close}
use Rattle.desk_report.specs.Table.{ended, word_of}

-- whether two verdicts are one
abbrev pub is_verdict : Verdict → Verdict → Bool
is_verdict Above Above = true
is_verdict Below Below = true
is_verdict Equal Equal = true
is_verdict Open Open = true
is_verdict Close Close = true
is_verdict one other = false

-- the judged documents of all topics
abbrev pub judged_in : List (List Mark) → ℕ
judged_in marks = sum_by (λ topic. count_by (λ mark. not (is_unjudged mark)) topic) marks

-- a word and a number
abbrev pub number_line : List ℕ → ℕ → List ℕ
number_line word number = word ++ 32 ∷ decimal number

-- how many pairs have a verdict
abbrev pub verdict_line : List Verdict → Verdict → List ℕ
verdict_line verdicts verdict = number_line (word_of verdict) (count_by (is_verdict verdict) verdicts)

-- the seed, the rows of runs that were kept, and the judged documents
abbrev pub head_lines : ℕ → ℕ → ℕ → List (List ℕ)
head_lines seed rows judged = number_line (codes "demo") seed ∷ number_line (codes "rows") rows ∷ number_line (codes "judged") judged ∷ []

-- how many pairs have each verdict
abbrev pub verdict_lines : List Verdict → List (List ℕ)
verdict_lines verdicts =
    verdict_line verdicts Above ∷ verdict_line verdicts Below ∷ verdict_line verdicts Equal ∷ verdict_line verdicts Open ∷ verdict_line verdicts Close ∷ []

abbrev pub summary_lines : ℕ → ℕ → List (List Mark) → List Verdict → List (List ℕ)
summary_lines seed rows marks verdicts = head_lines seed rows (judged_in marks) ++ verdict_lines verdicts

-- the lines with their line feeds
abbrev pub summary_text : ℕ → ℕ → List (List Mark) → List Verdict → List ℕ
summary_text seed rows marks verdicts = flat_map ended (summary_lines seed rows marks verdicts)
