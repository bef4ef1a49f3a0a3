use Rattle.std.proofs.Common.{◌<◌, ◌≤◌, List, sym, subst}
use Rattle.std.specs.Prelude.{IfOk, IfErr}
use Rattle.run_reader.specs.Run.{Run}
use Rattle.run_reader.specs.declared.limits.TheConstants.{MOST_RUN_ROWS}
use Rattle.topics_pool.specs.Rows.{IsDeskOf, IsNoFault, IsFaultOf, total_rows}
use Rattle.topics_pool.proofs.build.build_desk.Goals as goal

pub desk_of_ranked-requires-clause-some : goal.desk_of_ranked-requires-clause-some
desk_of_ranked-requires-clause-some c = subst (λ n. 0 < n) (sym c.in_ok-ranked.ensures.count) c.requires.some

pub desk_of_ranked-requires-clause-few : goal.desk_of_ranked-requires-clause-few
desk_of_ranked-requires-clause-few c = subst (λ n. n ≤ 256) (sym c.in_ok-ranked.ensures.count) c.requires.few

pub desk_of_ranked-requires-clause-rows : goal.desk_of_ranked-requires-clause-rows
desk_of_ranked-requires-clause-rows c = subst (λ (runs : List Run). total_rows runs ≤ MOST_RUN_ROWS) (sym c.in_ok-ranked.ensures.runs) c.requires.rows

pub returns-clause-desk : goal.returns-clause-desk
returns-clause-desk c = subst (λ (runs : List Run). IfOk c.desk_of_ranked.result (IsDeskOf c.args.qrels runs)) c.in_ok-ranked.ensures.runs c.desk_of_ranked.ensures.desk

pub returns-clause-right : goal.returns-clause-right
returns-clause-right c = subst (λ (runs : List Run). IfOk c.desk_of_ranked.result (λ _. IsNoFault c.args.qrels runs)) c.in_ok-ranked.ensures.runs c.desk_of_ranked.ensures.right

pub returns-clause-fault : goal.returns-clause-fault
returns-clause-fault c = subst (λ (runs : List Run). IfErr c.desk_of_ranked.result (IsFaultOf c.args.qrels runs)) c.in_ok-ranked.ensures.runs c.desk_of_ranked.ensures.fault
