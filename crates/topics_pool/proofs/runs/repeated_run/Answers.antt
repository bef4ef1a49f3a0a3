use Rattle.std.proofs.Common.{sym, ◌∙◌, arith}
use Rattle.std.proofs.lemmas.List.{length-map}
use Rattle.run_reader.specs.Run.{Run}
use Rattle.topics_pool.specs.Rows.{run_names}
use Rattle.topics_pool.proofs.Finding.{repeated_first, repeated_none}
use Rattle.topics_pool.proofs.runs.repeated_run.Goals as goal

pub returns-then-has_earlier_name-clause-first : goal.returns-then-has_earlier_name-clause-first
returns-then-has_earlier_name-clause-first c =
    let long = length-map c.args.runs.now (λ (run : Run). run.name) in
    sym (repeated_first (run_names c.args.runs.now) c.loop-r.r (omega (arith, long, c.loop-r-test.true)) (sym c.has_earlier_name.ensures ∙ c.if-has_earlier_name.true) c.loop-r.invariant)

pub returns-clause-first : goal.returns-clause-first
returns-clause-first c =
    let long = length-map c.args.runs.now (λ (run : Run). run.name) in
    sym (repeated_none (run_names c.args.runs.now) (λ k lt. c.loop-r.invariant k (omega (arith, long, c.loop-r-test.false))))
