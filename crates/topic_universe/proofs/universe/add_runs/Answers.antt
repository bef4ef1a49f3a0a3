use Rattle.std.proofs.Common.{ℕ, List, [], ◌∷◌, map, take, ap, sym, ◌∙◌, subst}
use Rattle.std.specs.Prelude.{Vec}
use Rattle.std.specs.List.{AllZip}
use Rattle.std.specs.declared.alloc.Global.{Global}
use Rattle.std.proofs.lemmas.List.{map-append}
use Rattle.run_reader.specs.Run.{Run, rows_on_topic}
use Rattle.topic_universe.specs.Names.{AddsNames}
use Rattle.topic_universe.specs.Universe.{retrieved, AreRankedNumbers}
use Rattle.topic_universe.proofs.Sets.{Gathers-none, Gathers-then, flat_more}
use Rattle.topic_universe.proofs.Zips.{zip_step, zip-weaker}
use Rattle.topic_universe.proofs.Numbers.{still_numbers}
use Rattle.topic_universe.proofs.universe.add_runs.Goals as goal

pub loop-run-init : goal.loop-run-init
loop-run-init c = record {
  names = Gathers-none c.args.names.now c.requires;
  numbers = subst (λ (each : List (Vec ℕ Global)). AllZip (λ (run : Run) (each : List ℕ). AreRankedNumbers c.args.names.now (rows_on_topic run c.args.topic.now) each) [] (map (λ each. each.items) each)) (sym c.in_ok-numbers.ensures.items) tt;
}

pub loop-run-preserved : goal.loop-run-preserved
loop-run-preserved c =
    let items = λ (each : Vec ℕ Global). each.items in
    let topic = c.args.topic.now in
    let old = c.loop-run.names in
    let new = c.add_run.new.names in
    let each = c.in_ok-add_run.field-0 in
    let run = c.run-item.result in
    let before = take c.loop-run.run-index c.args.runs.now in
    let pushed = ap (map items) c.in_ok-push.ensures.items ∙ map-append items c.loop-run.numbers.items (each ∷ []) in
    let still = zip-weaker (λ (run : Run) (each : List ℕ). AreRankedNumbers old (rows_on_topic run topic) each) (λ run each. AreRankedNumbers new (rows_on_topic run topic) each) before (map items c.loop-run.numbers.items)
    (λ run each are. still_numbers old _ new (rows_on_topic run topic) each c.in_ok-add_run.ensures.names are) c.loop-run.invariant.numbers in
    record {
      names = subst (λ flat. AddsNames c.args.names.now flat new) (sym (flat_more (retrieved topic) c.args.runs.now c.loop-run.run-index run c.loop-run-test.true c.run-item.is))
          (Gathers-then c.args.names.now old new _ (retrieved topic run) c.loop-run.invariant.names c.in_ok-add_run.ensures.names);
      numbers = zip_step (λ (run : Run) (each : List ℕ). AreRankedNumbers new (rows_on_topic run topic) each) c.args.runs.now (map items c.loop-run.numbers.items) _ c.loop-run.run-index run each.items c.loop-run-test.true c.run-item.is still c.in_ok-add_run.ensures.numbers pushed;
    }
