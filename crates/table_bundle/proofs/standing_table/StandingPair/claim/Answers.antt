use Rattle.std.proofs.Common.{◌≡◌, Option, Some, ap, sym, subst, ◌∙◌}
use Rattle.desk_model.specs.Desk.{topics_under}
use Rattle.desk_model.specs.MeasureText.{IsMeasure}
use Rattle.desk_model.specs.Verdict.{verdict}
use Rattle.desk_model.specs.declared.types.Verdict.{Verdict}
use Rattle.order_bundle.specs.declared.bundle.PairClaim.{PairClaim}
use Rattle.pair_table.specs.Kept.{table_sums}
use Rattle.pair_table.specs.Sums.{pair_sums}
use Rattle.pair_table.proofs.Saying.{standing_sums}
use Rattle.table_bundle.specs.Drafts.{draft_by}
use Rattle.table_bundle.proofs.standing_table.StandingPair.claim.Goals as goal
use Rattle.table_bundle.proofs.standing_table.StandingPair.claim.Goals.{in-Above+in_ok-claim-in-Above, in-Below+in_ok-claim-in-Below, in-Equal+in_ok-claim-in-Equal, in-Open+in_ok-claim-in-Open}

pub returns-in-Close : goal.returns-in-Close
returns-in-Close g c =
    let table = c.args.self.now.standing.now.table.now in
    let name = g.M.Measure.measured table.measure in
    let cell = g.M.Measure.cell_of table.measure in
    let bounds = g.M.Measure.bounds_of table.measure in
    let topics = topics_under c.args.self.now.standing.now.desk.now c.args.self.now.standing.now.marks.now in
    let valid : IsMeasure name = subst IsMeasure (c.name-name.ensures.name ∙ ap g.M.Measure.measured c.measure-measure.ensures) c.name-name.ensures.built in
    let laws = g.met.M.Measure.laws table.measure valid in
    let told = standing_sums name cell bounds c.args.self.now.standing.now.desk.now c.args.self.now.standing.now.marks.now c.args.self.now.pair.first c.args.self.now.pair.second c.verdict.ensures.0 (table_sums table) laws c.valid.ensures c.args.self.now.standing.now.marked c.args.self.now.standing.now.stands.sums c.verdict.ensures.1 in
    let close = sym (ap verdict told) ∙ sym c.verdict.ensures.2 ∙ c.in-Close.is in
    sym (ap (draft_by cell name topics (c.args.self.now.pair.at.first, c.args.self.now.pair.at.second) c.args.self.now.pair.first c.args.self.now.pair.second) close)

pub returns : goal.returns
returns g c =
    let table = c.args.self.now.standing.now.table.now in
    let name = g.M.Measure.measured table.measure in
    let cell = g.M.Measure.cell_of table.measure in
    let bounds = g.M.Measure.bounds_of table.measure in
    let desk = c.args.self.now.standing.now.desk.now in
    let marks = c.args.self.now.standing.now.marks.now in
    let a = c.args.self.now.pair.first in
    let b = c.args.self.now.pair.second in
    let i = c.args.self.now.pair.at.first in
    let j = c.args.self.now.pair.at.second in
    let topics = topics_under desk marks in
    let valid : IsMeasure name = subst IsMeasure (c.name-name.ensures.name ∙ ap g.M.Measure.measured c.measure-measure.ensures) c.name-name.ensures.built in
    let laws = g.met.M.Measure.laws table.measure valid in
    let told = standing_sums name cell bounds desk marks a b c.verdict.ensures.0 (table_sums table) laws c.valid.ensures c.args.self.now.standing.now.marked c.args.self.now.standing.now.stands.sums c.verdict.ensures.1 in
    let judged : verdict (pair_sums cell topics a b) ≡ c.verdict.result = sym (ap verdict told) ∙ sym c.verdict.ensures.2 in
    let draft : Verdict → Option PairClaim = draft_by cell name topics (i, j) a b in
    elim c.match-verdict.branch [
      | in-Above+in_ok-claim-in-Above w ↦ ap Some w.claim-is ∙ w.in_ok-claim-in-Above.ensures ∙ sym (ap draft (judged ∙ w.in-Above.is))
      | in-Below+in_ok-claim-in-Below w ↦ ap Some w.claim-is ∙ w.in_ok-claim-in-Below.ensures ∙ sym (ap draft (judged ∙ w.in-Below.is))
      | in-Equal+in_ok-claim-in-Equal w ↦ ap Some w.claim-is ∙ w.in_ok-claim-in-Equal.ensures ∙ sym (ap draft (judged ∙ w.in-Equal.is))
      | in-Open+in_ok-claim-in-Open w ↦ ap Some w.claim-is ∙ w.in_ok-claim-in-Open.ensures ∙ sym (ap draft (judged ∙ w.in-Open.is))
    ]
