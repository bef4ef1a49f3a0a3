-- The texts of a seed are read, one after the other.
use Rattle.std.proofs.Common.{◌≡◌, ℕ, zero, suc, ◌+◌, ◌*◌, ◌<◌, ◌≤◌, List, [], ◌∷◌, ◌++◌, length, refl, ap, ap₂, sym, subst, ◌∙◌, arith, length-append}
use Rattle.std.specs.Prelude.{map, None, Result, Ok, is_ok}
use Rattle.std.specs.Result.{IsOk}
use Rattle.std.specs.List.{range_with_len}
use Rattle.std.proofs.lemmas.List.{map-append}
use Rattle.std.proofs.lemmas.List.FromFn.{map-range_with_len_more}
use Rattle.std.proofs.lemmas.List.Sums.{sum_by-append}
use Rattle.file_rows.specs.Grouped.{TopicRows, row_count}
use Rattle.qrels_reader.specs.Grouped.{qrels_of}
use Rattle.file_rows.specs.declared.fault.FileFault.{FileFault}
use Rattle.run_reader.specs.Run.{Run, run_of}
use Rattle.run_reader.specs.declared.used.Used.{Used}
use Rattle.topics_pool.specs.Rows.{total_rows, run_names}
use Rattle.demo_desk.specs.Draws.{state_after}
use Rattle.demo_desk.specs.Texts.{tag_text, qrels_after, run_after, demo_run}
use Rattle.demo_desk.proofs.TextLines.{state_after-add}
use Rattle.demo_desk.specs.Demo.{HaveTopics, SayRuns, runs_after, demo_runs, used_before_runs, TextsAreRead}
use Rattle.demo_desk.proofs.Faults.{is_ok-from}
use Rattle.demo_desk.proofs.Judgements.{judgements_are_read}
use Rattle.demo_desk.proofs.RunReading as one
use Rattle.demo_desk.proofs.RunReading.{HasRoom, run_is_read}

-- ---- one more run
-- what was used after runs
abbrev pub used_after : Used → List Run → Used
used_after used [] = used
used_after used (run ∷ runs) = used_after run.used runs

says_more : (qrels : List TopicRows) (used : Used) (texts : List (List ℕ)) (runs : List Run) (text : List ℕ) (run : Run) → SayRuns qrels used texts runs → run_of None qrels (used_after used runs) text ≡ Ok run →
    SayRuns qrels used (texts ++ text ∷ []) (runs ++ run ∷ [])
says_more qrels used [] [] text run h e = (e, tt)
says_more qrels used [] (r ∷ runs) text run h e = absurd h
says_more qrels used (t ∷ texts) [] text run h e = absurd h
says_more qrels used (t ∷ texts) (r ∷ runs) text run h e = (h.0, says_more qrels r.used texts runs text run h.1 e)

used_more : (used : Used) (runs : List Run) (run : Run) → used_after used (runs ++ run ∷ []) ≡ run.used
used_more used [] run = refl
used_more used (r ∷ runs) run = used_more r.used runs run

-- the runs of the first so many texts after a state
pub record AreSaid (x count : ℕ) (qrels : List TopicRows) (used : Used) (runs : List Run) : Type 0 where
  pub said : SayRuns qrels (used_before_runs qrels) (runs_after x count) runs
  pub last : used ≡ used_after (used_before_runs qrels) runs
  pub rows : used.rows ≡ 25000 * count
  pub name_bytes : used.name_bytes ≤ 500000 + 125000 * count
  pub total : total_rows runs ≡ 25000 * count
  pub names : run_names runs ≡ map tag_text (range_with_len 0 count)
  pub many : length runs ≡ count

pub none_said : (x : ℕ) (qrels : List TopicRows) → HaveTopics 50 qrels → AreSaid x 0 qrels (used_before_runs qrels) []
none_said x qrels have = record { said = tt; last = refl; rows = refl; name_bytes = omega (arith, have.name_bytes); total = refl; names = refl; many = refl }

-- there is room for one more, and its text is read
pub room_left : (x count : ℕ) (qrels : List TopicRows) (used : Used) (runs : List Run) → count ≤ 8 → AreSaid x count qrels used runs → HasRoom used 25000
room_left x count qrels used runs few h = record { rows = omega (arith, h.rows); name_bytes = omega (arith, h.name_bytes) }

abbrev pub text_at : ℕ → ℕ → List ℕ
text_at x count = run_after (state_after x (25050 * count)) count

pub next_read : (x count : ℕ) (qrels : List TopicRows) (used : Used) (runs : List Run) → count < 8 → HaveTopics 50 qrels → AreSaid x count qrels used runs → one.IsRead (state_after x (25050 * count)) count 500 50 qrels used
next_read x count qrels used runs few have h =
    run_is_read (state_after x (25050 * count)) count 500 50 qrels used few (omega arith) (omega arith) (omega arith) (omega arith) have (room_left x count qrels used runs (omega arith) h)

-- the run that is read is the next one
pub said_more : (x count : ℕ) (qrels : List TopicRows) (used : Used) (runs : List Run) (run : Run) → count < 8 → HaveTopics 50 qrels → AreSaid x count qrels used runs → run_of None qrels used (text_at x count) ≡ Ok run →
    AreSaid x (count + 1) qrels run.used (runs ++ run ∷ [])
said_more x count qrels used runs run few have h e =
    let is = next_read x count qrels used runs few have h in
    let same : run ≡ is.run = value run is.run (run_of None qrels used (text_at x count)) e is.read in
    let more : runs_after x (count + 1) ≡ runs_after x count ++ text_at x count ∷ [] = map-range_with_len_more (text_at x) 0 count count (omega arith) in
    let names : map tag_text (range_with_len 0 (count + 1)) ≡ map tag_text (range_with_len 0 count) ++ tag_text count ∷ [] = map-range_with_len_more tag_text 0 count count (omega arith) in
    let rows : run.used.rows ≡ used.rows + 25000 = ap (λ (r : Run). r.used.rows) same ∙ is.rows_used in
    let bytes : run.used.name_bytes ≡ used.name_bytes + 125000 = ap (λ (r : Run). r.used.name_bytes) same ∙ is.bytes_used in
    let kept : row_count run.topics ≡ 25000 = ap (λ (r : Run). row_count r.topics) same ∙ is.rows_kept in
    record {
      said = subst (λ texts. SayRuns qrels (used_before_runs qrels) texts (runs ++ run ∷ [])) (sym more)
          (says_more qrels (used_before_runs qrels) (runs_after x count) runs (text_at x count) run h.said (ap (λ u. run_of None qrels u (text_at x count)) (sym h.last) ∙ e));
      last = sym (used_more (used_before_runs qrels) runs run);
      rows = omega (arith, rows, h.rows);
      name_bytes = omega (arith, bytes, h.name_bytes);
      total = omega (arith, sum_by-append (λ (r : Run). row_count r.topics) runs (run ∷ []), kept, h.total);
      names = map-append (λ (r : Run). r.name) runs (run ∷ []) ∙ ap₂ (λ ns n. ns ++ n ∷ []) h.names (ap (λ (r : Run). r.name) same ∙ is.name) ∙ sym names;
      many = omega (arith, length-append runs (run ∷ []), h.many);
    }
  where
    value : (a b : Run) (r : Result Run FileFault) → r ≡ Ok a → r ≡ Ok b → a ≡ b
    value a b r e f = cc

-- ---- all texts
-- the texts after the judgements are those of the seed
pub seed_runs : (seed : ℕ) → runs_after (state_after seed 100000) 8 ≡ demo_runs seed
seed_runs seed = by (range_with_len 0 8)
  where
    by : (ks : List ℕ) → map (text_at (state_after seed 100000)) ks ≡ map (demo_run seed) ks
    by [] = refl
    by (k ∷ ks) = ap₂ (λ t ts. t ∷ ts) (ap (λ x. run_after x k) (state_after-add seed 100000 (25050 * k))) (by ks)

some_said : (x count : ℕ) (qrels : List TopicRows) → count ≤ 8 → HaveTopics 50 qrels → (runs : List Run) × (used : Used) × AreSaid x count qrels used runs
some_said x zero qrels few have = ([], used_before_runs qrels, none_said x qrels have)
some_said x (suc count) qrels few have =
    let before = some_said x count qrels (omega arith) have in
    let is = next_read x count qrels before.1 before.0 (omega arith) have before.2 in
    let one_more : count + 1 ≡ suc count = omega arith in
    (before.0 ++ is.run ∷ [], is.run.used, subst (λ n. AreSaid x n qrels is.run.used (before.0 ++ is.run ∷ [])) one_more (said_more x count qrels before.1 before.0 is.run (omega arith) have before.2 is.read))

pub texts_read : TextsAreRead
texts_read seed =
    let judged = judgements_are_read seed 2000 50 (omega arith) (omega arith) (omega arith) (omega arith) in
    let ranked = some_said (state_after seed 100000) 8 judged.qrels (omega arith) judged.topics_there in (
      judged.qrels,
      ranked.0,
      record {
        judged = judged.read;
        ranked = subst (λ texts. SayRuns judged.qrels (used_before_runs judged.qrels) texts ranked.0) (seed_runs seed) ranked.2.said;
      },
    )

-- ---- what is read of a text that was made
-- the judgements after a state
pub judged_ok : (x : ℕ) → IsOk (qrels_of (qrels_after x))
judged_ok x = let is = judgements_are_read x 2000 50 (omega arith) (omega arith) (omega arith) (omega arith) in is_ok-from (qrels_of (qrels_after x)) is.qrels is.read

pub judged_topics : (x : ℕ) (qrels : List TopicRows) → qrels_of (qrels_after x) ≡ Ok qrels → HaveTopics 50 qrels
judged_topics x qrels e =
    let is = judgements_are_read x 2000 50 (omega arith) (omega arith) (omega arith) (omega arith) in
    subst (HaveTopics 50) (same is.qrels qrels (qrels_of (qrels_after x)) is.read e) is.topics_there
  where
    same : (a b : List TopicRows) (r : Result (List TopicRows) FileFault) → r ≡ Ok a → r ≡ Ok b → a ≡ b
    same a b r e f = cc

-- the next run
pub next_ok : (x count g : ℕ) (qrels : List TopicRows) (used : Used) (runs : List Run) → g ≡ state_after x (25050 * count) → count < 8 → HaveTopics 50 qrels → AreSaid x count qrels used runs → IsOk (run_of None qrels used (run_after g count))
next_ok x count g qrels used runs e few have h =
    let is = next_read x count qrels used runs few have h in
    ap (λ s. is_ok (run_of None qrels used (run_after s count))) e ∙ is_ok-from (run_of None qrels used (text_at x count)) is.run is.read

-- the runs after the judgements of a seed
pub seed_said : (seed start after : ℕ) (qrels : List TopicRows) (runs : List Run) → start ≡ seed → after ≡ state_after start 100000 → SayRuns qrels (used_before_runs qrels) (runs_after after 8) runs → SayRuns qrels (used_before_runs qrels) (demo_runs seed) runs
seed_said seed start after qrels runs e f h =
    subst (λ texts. SayRuns qrels (used_before_runs qrels) texts runs) (ap (λ x. runs_after x 8) (f ∙ ap (λ s. state_after s 100000) e) ∙ seed_runs seed) h
