-- Runs that are read one after another.
use Rattle.std.proofs.Common.{◌≡◌, ◌+◌, List, [], ◌∷◌, ◌++◌, refl, ap, sym, ◌∙◌, append_assoc, append-nil, zero-add}
use Rattle.std.proofs.lemmas.List.Sums.{sum_by-append}
use Rattle.std.specs.Prelude.{Option, Some, None, Result, Ok, Err, IfSome}
use Rattle.desk_outside.specs.Outside.{Files}
use Rattle.desk_words.specs.declared.command.RunWord.{RunWord}
use Rattle.file_rows.specs.Grouped.{TopicRows, row_count}
use Rattle.run_reader.specs.Run.{Run, run_of}
use Rattle.topics_pool.specs.Rows.{total_rows}
use Rattle.run_reader.specs.declared.used.Used.{Used}
use Rattle.desk_files.specs.Files.{Stop, ◌>>=◌, file_as}
use Rattle.desk_files.specs.Load.{runs_of}

-- the runs that were read, and then those of the words that are left
abbrev pub with_rest : Files → List TopicRows → Used → List Run → List RunWord → Result (List Run) Stop
with_rest held qrels used done words = runs_of held qrels used words >>= (λ rest. Ok (done ++ rest))

-- all runs come of these
abbrev pub Reaches : Option Files → List TopicRows → Used → List RunWord → Used → List Run → List RunWord → Type 0
Reaches told qrels first all used done words = IfSome told (λ held. runs_of held qrels first all ≡ with_rest held qrels used done words)

regrouped : (done : List Run) (run : Run) (r : Result (List Run) Stop) → ((r >>= (λ runs. Ok (run ∷ runs))) >>= (λ rest. Ok (done ++ rest))) ≡ (r >>= (λ rest. Ok ((done ++ run ∷ []) ++ rest)))
regrouped done run (Ok runs) = ap (λ rs. Ok rs) (sym (append_assoc done (run ∷ []) runs))
regrouped done run (Err why) = refl

nothing_done : (r : Result (List Run) Stop) → r ≡ (r >>= (λ rest. Ok ([] ++ rest)))
nothing_done (Ok runs) = refl
nothing_done (Err why) = refl

pub reaches_first : (told : Option Files) (qrels : List TopicRows) (used : Used) (words : List RunWord) → Reaches told qrels used words used [] words
reaches_first None qrels used words = tt
reaches_first (Some held) qrels used words = nothing_done (runs_of held qrels used words)

module _ (qrels : List TopicRows) (first : Used) (all : List RunWord) (used : Used) (done : List Run) (word : RunWord) (words : List RunWord) where
  -- one more run
  pub reaches_more : (told : Option Files) (run : Run) → Reaches told qrels first all used done (word ∷ words) → IfSome told (λ held. file_as (run_of word.name qrels used) held word.path ≡ Ok run) → Reaches told qrels first all run.used (done ++ run ∷ []) words
  reaches_more None run h k = tt
  reaches_more (Some held) run h k =
      h ∙ ap (λ (r : Result Run Stop). (r >>= (λ run. runs_of held qrels run.used words >>= (λ runs. Ok (run ∷ runs)))) >>= (λ rest. Ok (done ++ rest))) k
      ∙ regrouped done run (runs_of held qrels run.used words)

  -- a file that stops the reading
  pub stops_all : (held : Files) (why : Stop) → runs_of held qrels first all ≡ with_rest held qrels used done (word ∷ words) → file_as (run_of word.name qrels used) held word.path ≡ Err why → runs_of held qrels first all ≡ Err why
  stops_all held why h k =
      h ∙ ap (λ (r : Result Run Stop). (r >>= (λ run. runs_of held qrels run.used words >>= (λ runs. Ok (run ∷ runs)))) >>= (λ rest. Ok (done ++ rest))) k

-- no word is left
pub reaches_all : (told : Option Files) (qrels : List TopicRows) (first : Used) (all : List RunWord) (used : Used) (done : List Run) → Reaches told qrels first all used done [] → IfSome told (λ held. runs_of held qrels first all ≡ Ok done)
reaches_all None qrels first all used done h = tt
reaches_all (Some held) qrels first all used done h = h ∙ ap (λ rs. Ok rs) (append-nil done)

pub total_rows-push : (runs : List Run) (run : Run) → total_rows (runs ++ run ∷ []) ≡ total_rows runs + row_count run.topics
total_rows-push runs run = sum_by-append (λ (r : Run). row_count r.topics) runs (run ∷ []) ∙ ap (λ n. total_rows runs + n) (zero-add (row_count run.topics))
