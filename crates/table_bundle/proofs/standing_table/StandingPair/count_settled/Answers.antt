use Rattle.std.proofs.Common.{◌≡◌, ◌≤◌, List, length, Option, Some, refl, sym, subst, ◌∙◌, arith}
use Rattle.desk_model.specs.Desk.{topics_under}
use Rattle.desk_model.specs.Order.{Topic}
use Rattle.desk_model.specs.Verdict.{verdict}
use Rattle.desk_model.proofs.DeskTopics.{length-topics_under}
use Rattle.order_bundle.specs.declared.bundle.PairClaim.{PairClaim}
use Rattle.pair_table.specs.Sums.{pair_sums}
use Rattle.table_bundle.specs.Bundles.{if_held}
use Rattle.table_bundle.specs.Drafts.{draft_on}
use Rattle.table_bundle.specs.Lengths.{IsCountOf}
use Rattle.table_bundle.specs.declared.claim_count.ClaimCount.{ClaimCount}
use Rattle.table_bundle.proofs.Settled.{settled}
use Rattle.table_bundle.proofs.standing_table.StandingPair.count_settled.Goals as goal

pub claim_length-requires : goal.claim_length-requires
claim_length-requires g c =
    let cell = g.M.Measure.cell_of c.args.self.now.standing.now.table.now.measure in
    let measure = g.M.Measure.measured c.args.self.now.standing.now.table.now.measure in
    let topics : List Topic = topics_under c.args.self.now.standing.now.desk.now c.args.self.now.standing.now.marks.now in
    let p = c.args.self.now.pair in
    let few : length topics ≤ 10000 = omega (arith, length-topics_under c.args.self.now.standing.now.desk.now c.args.self.now.standing.now.marks.now c.args.self.now.standing.now.marked, c.valid.ensures.topics) in
    (settled cell measure topics (p.at.first, p.at.second) p.first p.second (verdict (pair_sums cell topics p.first p.second)) c.in-Some.claim few c.requires.settled (sym c.in_ok-claim.ensures ∙ c.in-Some.is)).0

pub returns-in-Some-clause-count : goal.returns-in-Some-clause-count
returns-in-Some-clause-count g c =
    let cell = g.M.Measure.cell_of c.args.self.now.standing.now.table.now.measure in
    let measure = g.M.Measure.measured c.args.self.now.standing.now.table.now.measure in
    let topics : List Topic = topics_under c.args.self.now.standing.now.desk.now c.args.self.now.standing.now.marks.now in
    let p = c.args.self.now.pair in
    let few : length topics ≤ 10000 = omega (arith, length-topics_under c.args.self.now.standing.now.desk.now c.args.self.now.standing.now.marks.now c.args.self.now.standing.now.marked, c.valid.ensures.topics) in
    let is : draft_on cell measure topics p ≡ Some c.in-Some.claim = sym c.in_ok-claim.ensures ∙ c.in-Some.is in
    let whole = settled cell measure topics (p.at.first, p.at.second) p.first p.second (verdict (pair_sums cell topics p.first p.second)) c.in-Some.claim few c.requires.settled is in
    let count : ClaimCount = record { claims = 1; bytes = c.claim_length.result } in
    subst (λ (o : Option PairClaim). IsCountOf (if_held o) count) (sym is) (record { claims = refl; bytes = omega (arith, c.claim_length.ensures.count, whole.1) })
