-- The files of a desk again, with the judgements in force as their judgements file.
use Rattle.std.proofs.Common.{◌≡◌, ℕ, suc, ◌+◌, ◌*◌, ◌≤◌, List, [], ◌∷◌, Bool, true, false, length, map, Option, Result, Ok, Err, ℤ, inl, inr, refl, ap, ap₂, sym, subst, ◌∙◌, arith}
use Rattle.std.specs.Prelude.{nat_le, nat_lt}
use Rattle.std.specs.List.{AllByRecursion, IsDistinct}
use Rattle.std.specs.Str.{bytes_eq}
use Rattle.std.proofs.lemmas.Bool.{leb-false}
use Rattle.std.proofs.lemmas.List.{length-map}
use Rattle.std.proofs.lemmas.Map.Made.{length-from_same_keys}
use Rattle.desk_outside.specs.Outside.{Files}
use Rattle.desk_words.specs.declared.command.RunWord.{RunWord}
use Rattle.desk_model.specs.Book.{Book}
use Rattle.desk_model.specs.Closing.{closed_under}
use Rattle.desk_model.specs.Desk.{Desk, file_marks, pair_count}
use Rattle.desk_model.proofs.Closing.{closed-by_rankings}
use Rattle.desk_model.specs.Mark.{mark_of}
use Rattle.judge_session.specs.InForce.{counted_grade}
use Rattle.desk_report.specs.Judging.{qrels_text}
use Rattle.file_rows.specs.Rows.{topics_of}
use Rattle.file_rows.specs.Grouped.{TopicRows, names_of, row_count}
use Rattle.qrels_reader.specs.Grouped.{qrels_of}
use Rattle.file_rows.specs.declared.fault.FileFault.{FileFault}
use Rattle.file_rows.proofs.Seen.{laws, all_differ, IsDistinct-first_seen}
use Rattle.file_rows.proofs.Mapped.{map-map}
use Rattle.file_rows.proofs.Grouping.{names-grouped}
use Rattle.run_reader.specs.Run.{Run, run_of}
use Rattle.run_reader.specs.declared.used.Used.{Used}
use Rattle.topic_universe.specs.Names.{HaveSameNames}
use Rattle.topics_pool.specs.Rows.{run_names, first_repeated}
use Rattle.topics_pool.specs.declared.limits.TheConstants.{MOST_CELLS}
use Rattle.qrels_round_trip.specs.RoundTrip.{IsJudged, HasJudgements, said_by, IsSameRun}
use Rattle.qrels_round_trip.proofs.Again.{limits_refuse, are_kept}
use Rattle.qrels_round_trip.proofs.Listed.{read_grouped}
use Rattle.qrels_round_trip.proofs.Runs.{runs_kept}
use Rattle.desk_files.specs.Files.{Stop, ◌>>=◌, stop_at, or_faulty, file_as, whole_file}
use Rattle.desk_files.specs.Load.{Sources, Loaded, loaded, runs_of, used_by, cells_in_all, within}
use Rattle.desk_files.specs.declared.limits.TheConstants.{LONGEST_FILE}
use Rattle.topics_pool.proofs.AddedUp.{added_up}
use Rattle.session_replies.proofs.Marks.{mark_counted}
use Rattle.desk_laws.specs.Replaced.{marks_by, IsDeskAgain, IsRunRefused, ComesAgain, FilesComeAgain}
use Rattle.desk_laws.proofs.Loading.{if_short, steps, file_read, file_again, AreWithin, within_again, AreLoaded, taken_apart}

-- ---- the runs
-- the same runs, or one is refused
abbrev ComeAgain : List RunWord → List Run → Result (List Run) Stop → Type 0
ComeAgain words runs (Ok others) = map said_by others ≡ map said_by runs
ComeAgain words runs (Err why) = IsRunRefused words why

module _ (files again : Files) (qrels said : List TopicRows) (same : HaveSameNames (names_of said) (names_of qrels)) where
  run_then : (word : RunWord) (words : List RunWord) (run : Run) (rest : List Run) (others : Used) (r : Result Run FileFault) → IsSameRun run r → ((later : Run) → r ≡ Ok later → later.used.rows ≡ others.rows + row_count later.topics) →
      others.rows + row_count run.topics ≤ run.used.rows → ((used : Used) → used.rows ≤ run.used.rows → ComeAgain words rest (runs_of again said used words)) →
      ComeAgain (word ∷ words) (run ∷ rest) (or_faulty word.path r >>= (λ run. runs_of again said run.used words >>= (λ runs. Ok (run ∷ runs))))
  run_then word words run rest others (Err fault) is counted fewer next = (word, 0, is.0, refl, ap (stop_at word.path) is.1)
  run_then word words run rest others (Ok later) is counted fewer next =
      let rows : row_count later.topics ≡ row_count run.topics = ap (λ (p : List ℕ × List TopicRows). row_count p.1) is in
      all (runs_of again said later.used words) (next later.used (omega (arith, counted later refl, rows, fewer)))
    where
      all : (q : Result (List Run) Stop) → ComeAgain words rest q → ComeAgain (word ∷ words) (run ∷ rest) (q >>= (λ runs. Ok (later ∷ runs)))
      all (Ok runs) h = ap₂ (λ x xs. x ∷ xs) is h
      all (Err why) h = (h.0, suc h.1, h.2, h.3, h.4)

  runs_again : (words : List RunWord) (used others : Used) (runs : List Run) → others.rows ≤ used.rows → AllByRecursion (λ (word : RunWord). again word.path ≡ files word.path) words → runs_of files qrels used words ≡ Ok runs →
      ComeAgain words runs (runs_of again said others words)
  runs_again [] used others runs fewer at e = let own : [] ≡ runs = cc in ap (map said_by) own
  runs_again (word ∷ words) used others runs fewer at e =
      let first = steps (file_as (run_of word.name qrels used) files word.path) (λ run. runs_of files qrels run.used words >>= (λ runs. Ok (run ∷ runs))) runs e in
      let run = first.value in
      let rest = steps (runs_of files qrels run.used words) (λ runs. Ok (run ∷ runs)) runs first.made in
      let read = file_read (run_of word.name qrels used) files word.path run first.found in
      let made = rest.made in
      let own : run ∷ rest.value ≡ runs = cc in
      let counted = added_up word.name qrels used read.bytes run read.says in
      let moved = file_again (run_of word.name qrels used) (run_of word.name said others) files again word.path run read at.0 in
      subst (λ runs. ComeAgain (word ∷ words) runs (runs_of again said others (word ∷ words))) own
      (subst (λ r. ComeAgain (word ∷ words) (run ∷ rest.value) (r >>= (λ run. runs_of again said run.used words >>= (λ runs. Ok (run ∷ runs))))) (sym moved)
      (run_then word words run rest.value others (run_of word.name said others read.bytes) (runs_kept word.name qrels said used others read.bytes run same fewer read.says)
      (λ later is. added_up word.name said others read.bytes later is) (omega (arith, counted, fewer)) (λ now below. runs_again words run.used now rest.value below at.1 rest.found)))

-- ---- all together
distinct_names : (bytes : List ℕ) (qrels : List TopicRows) → qrels_of bytes ≡ Ok qrels → IsDistinct bytes_eq (names_of qrels)
distinct_names bytes qrels e =
    let g = read_grouped bytes qrels e in
    subst (λ topics. IsDistinct bytes_eq (names_of topics)) (sym g.are)
    (subst (IsDistinct bytes_eq) (sym (names-grouped g.rows)) (all_differ (topics_of g.rows) (IsDistinct-first_seen (map (λ row. row.topic) g.rows))))

within_kept : (tables : ℕ) (bytes text : List ℕ) (qrels said : List TopicRows) (runs others : List Run) → qrels_of bytes ≡ Ok qrels → qrels_of text ≡ Ok said → HaveSameNames (names_of said) (names_of qrels) → map said_by others ≡ map said_by runs →
    AreWithin tables qrels runs → AreWithin tables said others
within_kept tables bytes text qrels said runs others read read_text same kept h =
    let name : List ℕ × List TopicRows → List ℕ = λ p. p.0 in
    let names : run_names others ≡ run_names runs =
    sym (map-map name said_by (λ (run : Run). run.name) (λ run. refl) others) ∙ ap (map name) kept ∙ map-map name said_by (λ (run : Run). run.name) (λ run. refl) runs in
    let many : length others ≡ length runs = sym (length-map others said_by) ∙ ap length kept ∙ length-map runs said_by in
    let topics : length said ≡ length qrels =
    sym (length-map said (λ topic. topic.name)) ∙ length-from_same_keys laws (names_of said) (names_of qrels) (distinct_names text said read_text) (distinct_names bytes qrels read) same ∙ length-map qrels (λ topic. topic.name) in
    let cells : cells_in_all tables said others ≡ cells_in_all tables qrels runs = ap₂ (λ r t. pair_count r * t * tables) many topics in
    record { names = ap first_repeated names ∙ h.names; cells = ap (nat_lt MOST_CELLS) cells ∙ h.cells }

-- ---- the marks
marks_counted : (level : ℕ) (books : List Book) → map (file_marks level) books ≡ marks_by level (map (λ (book : Book). map counted_grade book.grades) books)
marks_counted level [] = refl
marks_counted level (book ∷ books) =
    ap₂ (λ x xs. x ∷ xs) (sym (map-map (λ grade. mark_of grade level) counted_grade (λ grade. mark_of grade level) (mark_counted level) book.grades)) (marks_counted level books)

desk_again : (desk again : Desk) (grades : List (List (Option ℤ))) → HasJudgements desk grades again → IsDeskAgain desk grades again
desk_again desk again grades h = record {
  same = h;
  marks = λ level depth. closed-by_rankings desk again depth (map (file_marks level) again.topics) h.rankings ∙ ap (closed_under desk depth) (marks_counted level again.topics ∙ ap (marks_by level) h.judgements);
}

-- ---- the law
module _ (files again : Files) (from : Sources) (path : List ℕ) (rows : Loaded) (desk : Desk) (grades : List (List (Option ℤ))) (apart : AreLoaded files from rows) (judged : IsJudged apart.judgements.bytes rows.qrels rows.runs desk grades)
    (at : AllByRecursion (λ (word : RunWord). again word.path ≡ files word.path) from.runs)
  where
    abbrev Comes : Result Loaded Stop → Type 0
    Comes = ComesAgain (record from { qrels = path }) (qrels_text desk grades) desk grades

    abbrev with_judgements : List TopicRows → Result Loaded Stop
    with_judgements said = runs_of again said (used_by said) from.runs >>= (λ runs. within from.tables said runs (first_repeated (run_names runs)))

    by_runs : (said : List TopicRows) → qrels_of (qrels_text desk grades) ≡ Ok said → (q : Result (List Run) Stop) → ComeAgain from.runs rows.runs q → Comes (q >>= (λ runs. within from.tables said runs (first_repeated (run_names runs))))
    by_runs said e (Err why) h = inr h
    by_runs said e (Ok others) h =
        let kept = are_kept apart.judgements.bytes rows.qrels said rows.runs desk grades judged e in
        subst Comes (sym (within_again from.tables said others (within_kept from.tables apart.judgements.bytes (qrels_text desk grades) rows.qrels said rows.runs others apart.judgements.says e kept.0 h apart.together)))
        (λ later is. desk_again desk later grades (kept.1 others later h is))

    by_text : (r : Result (List TopicRows) FileFault) → qrels_of (qrels_text desk grades) ≡ r → Comes (or_faulty path r >>= with_judgements)
    by_text (Err fault) e = inl (inr (fault, refl, limits_refuse apart.judgements.bytes rows.qrels rows.runs desk grades fault judged e))
    by_text (Ok said) e =
        let kept = are_kept apart.judgements.bytes rows.qrels said rows.runs desk grades judged e in
        by_runs said e (runs_of again said (used_by said) from.runs) (runs_again files again rows.qrels said kept.0 from.runs (used_by rows.qrels) (used_by said) rows.runs (omega arith) at apart.runs)

    by_size : (b : Bool) → nat_le (length (qrels_text desk grades)) LONGEST_FILE ≡ b → Comes ((if_short path (qrels_text desk grades) b >>= (λ bytes. or_faulty path (qrels_of bytes))) >>= with_judgements)
    by_size true is = by_text (qrels_of (qrels_text desk grades)) refl
    by_size false is = inl (inl (refl, leb-false (length (qrels_text desk grades)) LONGEST_FILE is))

pub come_again : FilesComeAgain
unfolding loaded
come_again files again from path rows desk grades judged with_text =
    let apart = taken_apart files from rows judged.loads in
    let own : IsJudged apart.judgements.bytes rows.qrels rows.runs desk grades = record { read = apart.judgements.says; of_rows = judged.of_rows; in_force = judged.in_force } in
    subst (λ o. ComesAgain (record from { qrels = path }) (qrels_text desk grades) desk grades ((whole_file path o >>= (λ bytes. or_faulty path (qrels_of bytes))) >>= (λ said. runs_of again said (used_by said) from.runs >>= (λ runs. within from.tables said runs (first_repeated (run_names runs))))))
    (sym with_text.judgements) (by_size files again from path rows desk grades apart own with_text.others (nat_le (length (qrels_text desk grades)) LONGEST_FILE) refl)
