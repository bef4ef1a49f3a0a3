-- The names that are opened, one after the other.
use Rattle.std.proofs.Common.{◌≡◌, ℕ, List, [], ◌∷◌, ◌++◌, map, refl, ap, sym, ◌∙◌, append_assoc, append-nil}
use Rattle.std.specs.Prelude.{Option, Some, None, Result, Ok, Err, IfSome}
use Rattle.desk_outside.specs.Outside.{Files}
use Rattle.desk_words.specs.declared.command.RunWord.{RunWord}
use Rattle.file_rows.specs.Grouped.{TopicRows}
use Rattle.qrels_reader.specs.Grouped.{qrels_of}
use Rattle.run_reader.specs.Run.{Run, run_of}
use Rattle.run_reader.specs.declared.used.Used.{Used}
use Rattle.topics_pool.specs.Rows.{first_repeated, run_names}
use Rattle.desk_files.specs.Files.{Stop, ◌>>=◌, file_as}
use Rattle.desk_files.specs.Load.{Sources, Loaded, loaded, runs_of, within, Turns, to_open, paths_to_open, used_by, if_read, runs_to_open, paths_of, MayOpen, DeskMayOpen, Opens}

-- the names that words may open are these, and then those of the words that are left
pub record Continues {Word State Found : Type 0} (turns : Turns Word State Found) (told : Option Files) (first : State) (all : List Word) (had : State) (names : List (List ℕ)) (words : List Word) : Type 0 where
  pub paths : map turns.path all ≡ names ++ map turns.path words
  pub readable : IfSome told (λ held. to_open turns held first all ≡ names ++ to_open turns held had words)

-- the names that were opened so far
pub record OpensSoFar {Word State Found : Type 0} (turns : Turns Word State Found) (told : Option Files) (first : State) (all : List Word) (left : State) (words : List Word) (had has : List (List ℕ)) : Type 0 where
  pub names : List (List ℕ)
  pub continues : Continues turns told first all left names words
  pub added : has ≡ had ++ names

module _ {Word State Found : Type 0} (turns : Turns Word State Found) (first : State) (all : List Word) where
  if_any : (told : Option Files) → IfSome told (λ held. to_open turns held first all ≡ [] ++ to_open turns held first all)
  if_any None = tt
  if_any (Some held) = refl

  pub opens_none : (told : Option Files) (had : List (List ℕ)) → OpensSoFar turns told first all first all had had
  opens_none told had = record { names = []; continues = record { paths = refl; readable = if_any told }; added = sym (append-nil had) }

  -- those that may be opened
  abbrev pub Opened : Option Files → List (List ℕ) → List (List ℕ) → Type 0
  Opened told had has = Opens (MayOpen told (λ held. to_open turns held first all) (map turns.path all)) had has

  module _ (left : State) (word : Word) (words : List Word) (had before now : List (List ℕ)) where
    one_more : (names : List (List ℕ)) → before ≡ had ++ names → now ≡ before ++ turns.path word ∷ [] → now ≡ had ++ (names ++ turns.path word ∷ [])
    one_more names e f = f ∙ ap (λ xs. xs ++ turns.path word ∷ []) e ∙ append_assoc had names (turns.path word ∷ [])

    readable_more : (told : Option Files) (found : Found) (names : List (List ℕ)) → IfSome told (λ held. to_open turns held first all ≡ names ++ to_open turns held left (word ∷ words)) →
        IfSome told (λ held. turns.read held left word ≡ Ok found) → IfSome told (λ held. to_open turns held first all ≡ (names ++ turns.path word ∷ []) ++ to_open turns held (turns.left found) words)
    readable_more None found names h k = tt
    readable_more (Some held) found names h k =
        h ∙ ap (λ r. names ++ turns.path word ∷ if_read r (λ found. to_open turns held (turns.left found) words)) k ∙ sym (append_assoc names (turns.path word ∷ []) (to_open turns held (turns.left found) words))

    -- one more file was read
    pub opens_more : (told : Option Files) (found : Found) → OpensSoFar turns told first all left (word ∷ words) had before → now ≡ before ++ turns.path word ∷ [] → IfSome told (λ held. turns.read held left word ≡ Ok found) →
        OpensSoFar turns told first all (turns.left found) words had now
    opens_more told found so_far e k = record {
      names = so_far.names ++ turns.path word ∷ [];
      continues = record {
        paths = so_far.continues.paths ∙ sym (append_assoc so_far.names (turns.path word ∷ []) (map turns.path words));
        readable = readable_more told found so_far.names so_far.continues.readable k;
      };
      added = one_more so_far.names so_far.added e;
    }

    may_open : (told : Option Files) (names : List (List ℕ)) → Continues turns told first all left names (word ∷ words) → MayOpen told (λ held. to_open turns held first all) (map turns.path all) (names ++ turns.path word ∷ [])
    may_open None names h = (map turns.path words, h.paths ∙ sym (append_assoc names (turns.path word ∷ []) (map turns.path words)))
    may_open (Some held) names h =
        let rest = if_read (turns.read held left word) (λ found. to_open turns held (turns.left found) words) in
        (rest, h.readable ∙ sym (append_assoc names (turns.path word ∷ []) rest))

    -- the reading stopped at a file
    pub opens_last : (told : Option Files) → OpensSoFar turns told first all left (word ∷ words) had before → now ≡ before ++ turns.path word ∷ [] → Opened told had now
    opens_last told so_far e = record { names = so_far.names ++ turns.path word ∷ []; allowed = may_open told so_far.names so_far.continues; added = one_more so_far.names so_far.added e }

  may_open_all : (told : Option Files) (left : State) (names : List (List ℕ)) → Continues turns told first all left names [] → MayOpen told (λ held. to_open turns held first all) (map turns.path all) names
  may_open_all None left names h = ([], h.paths)
  may_open_all (Some held) left names h = ([], h.readable)

  -- all files were read
  pub opens_all : (told : Option Files) (left : State) (had now : List (List ℕ)) → OpensSoFar turns told first all left [] had now → Opened told had now
  opens_all told left had now so_far = record { names = so_far.names; allowed = may_open_all told left so_far.names so_far.continues; added = so_far.added }

  -- each of the words' paths was opened
  pub opened_all : (told : Option Files) (left : State) (had now : List (List ℕ)) → OpensSoFar turns told first all left [] had now → now ≡ had ++ map turns.path all
  opened_all told left had now so_far = so_far.added ∙ ap (λ xs. had ++ xs) (sym (append-nil so_far.names) ∙ sym so_far.continues.paths)

-- the qrels may be opened
pub may_open_qrels : (told : Option Files) (sources : Sources) → DeskMayOpen told sources (sources.qrels ∷ [])
may_open_qrels None sources = (paths_of sources.runs, refl)
may_open_qrels (Some held) sources = (if_read (file_as qrels_of held sources.qrels) (λ qrels. runs_to_open held qrels (used_by qrels) sources.runs), refl)

-- where all runs are read, none of their paths is left out
all_readable : (held : Files) (qrels : List TopicRows) (used : Used) (words : List RunWord) (runs : List Run) → runs_of held qrels used words ≡ Ok runs → runs_to_open held qrels used words ≡ paths_of words
all_readable held qrels used [] runs e = refl
all_readable held qrels used (word ∷ words) runs e = at (file_as (run_of word.name qrels used) held word.path) (λ run runs. all_readable held qrels run.used words runs) e
  where
    IsReadable : Run → Type 0
    IsReadable run = (runs : List Run) → runs_of held qrels run.used words ≡ Ok runs → runs_to_open held qrels run.used words ≡ paths_of words

    next : (run : Run) (r : Result (List Run) Stop) → runs_of held qrels run.used words ≡ r → IsReadable run → (r >>= (λ runs. Ok (run ∷ runs))) ≡ Ok runs → runs_to_open held qrels run.used words ≡ paths_of words
    next run (Err why) is more e = absurd (cc)
    next run (Ok others) is more e = more others is

    at : (r : Result Run Stop) → ((run : Run) → IsReadable run) → (r >>= (λ run. runs_of held qrels run.used words >>= (λ runs. Ok (run ∷ runs)))) ≡ Ok runs → (word.path ∷ if_read r (λ run. runs_to_open held qrels run.used words)) ≡ word.path ∷ paths_of words
    at (Err why) more e = absurd (cc)
    at (Ok run) more e = ap (λ xs. word.path ∷ xs) (next run (runs_of held qrels run.used words) refl (more run) e)

-- where the files make a desk, all their paths are opened
pub loaded_opens_all : (held : Files) (sources : Sources) (rows : Loaded) → loaded held sources ≡ Ok rows → paths_to_open held sources.qrels sources.runs ≡ sources.qrels ∷ paths_of sources.runs
unfolding loaded
loaded_opens_all held sources rows e = at (file_as qrels_of held sources.qrels) e
  where
    next : (qrels : List TopicRows) (r : Result (List Run) Stop) → runs_of held qrels (used_by qrels) sources.runs ≡ r → (r >>= (λ runs. within sources.tables qrels runs (first_repeated (run_names runs)))) ≡ Ok rows →
        runs_to_open held qrels (used_by qrels) sources.runs ≡ paths_of sources.runs
    next qrels (Err why) is e = absurd (cc)
    next qrels (Ok runs) is e = all_readable held qrels (used_by qrels) sources.runs runs is

    at : (q : Result (List TopicRows) Stop) → (q >>= (λ qrels. runs_of held qrels (used_by qrels) sources.runs >>= (λ runs. within sources.tables qrels runs (first_repeated (run_names runs))))) ≡ Ok rows →
        (sources.qrels ∷ if_read q (λ qrels. runs_to_open held qrels (used_by qrels) sources.runs)) ≡ sources.qrels ∷ paths_of sources.runs
    at (Err why) e = absurd (cc)
    at (Ok qrels) e = ap (λ xs. sources.qrels ∷ xs) (next qrels (runs_of held qrels (used_by qrels) sources.runs) refl e)

-- the qrels alone were opened
pub opens_qrels : (told : Option Files) (sources : Sources) (had has : List (List ℕ)) → has ≡ had ++ sources.qrels ∷ [] → Opens (DeskMayOpen told sources) had has
opens_qrels told sources had has e = record { names = sources.qrels ∷ []; allowed = may_open_qrels told sources; added = e }

-- where the qrels were read, the runs may be opened after them
may_open_runs : (told : Option Files) (sources : Sources) (qrels : List TopicRows) (names : List (List ℕ)) → IfSome told (λ held. file_as qrels_of held sources.qrels ≡ Ok qrels) →
    MayOpen told (λ held. runs_to_open held qrels (used_by qrels) sources.runs) (paths_of sources.runs) names → DeskMayOpen told sources (sources.qrels ∷ names)
may_open_runs None sources qrels names read may = (may.0, ap (λ xs. sources.qrels ∷ xs) may.1)
may_open_runs (Some held) sources qrels names read may =
    (may.0, ap (λ r. sources.qrels ∷ if_read r (λ qrels. runs_to_open held qrels (used_by qrels) sources.runs)) read ∙ ap (λ xs. sources.qrels ∷ xs) may.1)

-- the qrels were opened, and then runs
pub opens_desk : (told : Option Files) (sources : Sources) (qrels : List TopicRows) (had between has : List (List ℕ)) → between ≡ had ++ sources.qrels ∷ [] → IfSome told (λ held. file_as qrels_of held sources.qrels ≡ Ok qrels) →
    Opens (MayOpen told (λ held. runs_to_open held qrels (used_by qrels) sources.runs) (paths_of sources.runs)) between has → Opens (DeskMayOpen told sources) had has
opens_desk told sources qrels had between has e read opens = record {
  names = sources.qrels ∷ opens.names;
  allowed = may_open_runs told sources qrels opens.names read opens.allowed;
  added = opens.added ∙ ap (λ xs. xs ++ opens.names) e ∙ append_assoc had (sources.qrels ∷ []) opens.names;
}

-- the qrels were opened, and then each of the RUN words' paths
pub opened_desk : (path : List ℕ) (words : List RunWord) (had between has : List (List ℕ)) → between ≡ had ++ path ∷ [] → has ≡ between ++ paths_of words → has ≡ had ++ path ∷ paths_of words
opened_desk path words had between has first all = all ∙ ap (λ xs. xs ++ paths_of words) first ∙ append_assoc had (path ∷ []) (paths_of words)
