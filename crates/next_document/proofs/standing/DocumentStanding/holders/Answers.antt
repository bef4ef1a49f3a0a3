use Rattle.std.proofs.Common.{◌≡◌, ◌≢◌, ℕ, ◌<◌, false, below_more, ap, ◌∙◌, arith}
use Rattle.std.specs.Prelude.{is_some}
use Rattle.std.proofs.lemmas.List.{length-set, get_or-set_same, get_or-set_other}
use Rattle.desk_model.specs.Desk.{ranking_of}
use Rattle.desk_model.specs.Ranking.{rank}
use Rattle.next_document.proofs.standing.DocumentStanding.holders.Goals as goal

pub loop-run-preserved : goal.loop-run-preserved
loop-run-preserved g c =
    let holders = c.loop-run.holders in
    let run = c.loop-run.run in
    let found = c.is_some.result in
    let within : run < 256 = omega (arith, c.loop-run-test.true, c.run_count-run-end.ensures.count, c.run_count-run-end.ensures.desk.runs) in
    let has : found ≡ is_some (rank (ranking_of c.args.self.now.topic.standing.on.desk.now run c.args.self.now.topic.number) c.args.self.now.number) =
    c.is_some.ensures ∙ ap is_some c.rank_of.ensures ∙ ap (λ docs. is_some (rank docs c.args.self.now.number)) c.ranking.ensures.ranking in
    record {
      size = omega (arith, length-set holders run found, c.loop-run.invariant.size);
      each = below_more _ _
          (λ (k : ℕ) (lt : k < run). let apart : k ≢ run = omega arith in get_or-set_other holders run k found false apart ∙ c.loop-run.invariant.each k lt)
          (get_or-set_same holders run found false (omega (arith, within, c.loop-run.invariant.size)) ∙ has);
    }
