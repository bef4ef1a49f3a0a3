use Rattle.std.proofs.Common.{◌≡◌, ℕ, ◌+◌, ◌<◌, ◌≤◌, List, [], ◌∷◌, ◌++◌, length, get_or, take, map, ap, ap₂, sym, ◌∙◌, arith}
use Rattle.std.specs.Borrow.{Bor}
use Rattle.std.specs.Prelude.{Vec, Option, Some}
use Rattle.std.specs.declared.alloc.Global.{Global}
use Rattle.std.proofs.lemmas.List.{map_more, map-append, take_all}
use Rattle.std.proofs.lemmas.Result.{IfOk-from_err}
use Rattle.clap.specs.Words.{Text}
use Rattle.desk_words.specs.Words.{run_word_of}
use Rattle.desk_words.specs.declared.command.RunWord.{RunWord}
use Rattle.desk_words.proofs.Values.{no_run, handed_on, ok_no_fault}
use Rattle.desk_words.proofs.value.run_words.Goals as goal

abbrev runs_of : List (Bor Text) → List (Option RunWord)
runs_of values = map run_word_of (map (λ (v : Bor Text). v.now) values)

pub loop-value-init : goal.loop-value-init
loop-value-init c = sym (ap (map (λ (run : RunWord). Some run)) c.new-words.ensures.items)

pub returns-in_err-word-clause-ok : goal.returns-in_err-word-clause-ok
returns-in_err-word-clause-ok c = IfOk-from_err c.from_residual.result (λ (runs : Vec RunWord Global). runs_of c.args.values.now ≡ map Some runs.items) c.from_residual.ensures.0

pub returns-in_err-word-clause-usage : goal.returns-in_err-word-clause-usage
returns-in_err-word-clause-usage c e runs is =
    no_run c.args.values.now c.loop-value.value-index _ runs (omega arith) (c.in_err-word.ensures.usage (handed_on c.from_residual.result c.in_err-word.field-0.0 c.from_residual.ensures.1 e)) is

-- one run more
one_more : (values : List (Bor Text)) (i : ℕ) (d : Bor Text) (before now : List RunWord) (run : RunWord) → i < length values → runs_of (take i values) ≡ map Some before → run_word_of (get_or values i d).now ≡ Some run → now ≡ before ++ run ∷ [] →
    runs_of (take (i + 1) values) ≡ map Some now
one_more values i d before now run lt so_far is all =
    ap (map run_word_of) (map_more (λ (v : Bor Text). v.now) values i d lt)
    ∙ map-append run_word_of (map (λ (v : Bor Text). v.now) (take i values)) ((get_or values i d).now ∷ [])
    ∙ ap₂ (λ (rs : List (Option RunWord)) (r : Option RunWord). rs ++ r ∷ []) so_far is
    ∙ sym (map-append (λ (r : RunWord). Some r) before (run ∷ []))
    ∙ sym (ap (map (λ (r : RunWord). Some r)) all)

pub loop-value-preserved : goal.loop-value-preserved
loop-value-preserved c =
    one_more c.args.values.now c.loop-value.value-index _ c.loop-value.words.items c.push.new.self.items c.in_ok-word.word c.loop-value-test.true c.loop-value.invariant c.in_ok-word.ensures.ok c.in_ok-push.ensures.items

all_runs : (values : List (Bor Text)) (i : ℕ) (runs : List RunWord) → length values ≤ i → runs_of (take i values) ≡ map Some runs → runs_of values ≡ map Some runs
all_runs values i runs le is = sym (ap runs_of (take_all i values le)) ∙ is

pub returns-clause-ok : goal.returns-clause-ok
returns-clause-ok c = all_runs c.args.values.now c.loop-value.value-index c.loop-value.words.items c.loop-value-test.false c.loop-value.invariant

pub returns-clause-usage : goal.returns-clause-usage
returns-clause-usage c e = absurd (ok_no_fault c.loop-value.words e)
