use Rattle.std.proofs.Common.{◌≡◌, ◌≢◌, ℕ, ◌+◌, List, [], ◌++◌, length, refl, ap, sym, subst, ◌∙◌, arith, length-append}
use Rattle.std.specs.Prelude.{codes}
use Rattle.std.proofs.lemmas.List.{append-nil}
use Rattle.desk_model.specs.Desk.{topics_under}
use Rattle.desk_model.specs.MeasureText.{IsMeasure}
use Rattle.desk_model.specs.Order.{Topic}
use Rattle.desk_model.specs.Verdict.{verdict}
use Rattle.desk_model.specs.declared.types.Mark.{Mark}
use Rattle.desk_model.specs.declared.types.MeasureName.{MeasureName}
use Rattle.desk_model.specs.declared.types.Verdict.{Verdict}
use Rattle.desk_model.specs.declared.types.Verdict.TheVariants.{Open}
use Rattle.measure_core.specs.declared.cell.Cell.{Cell}
use Rattle.order_bundle.specs.Bundle.{runs_text}
use Rattle.order_bundle.proofs.Counting.{one_more_line}
use Rattle.pair_table.specs.Kept.{table_sums}
use Rattle.pair_table.specs.Sums.{pair_sums}
use Rattle.pair_table.proofs.Saying.{standing_sums}
use Rattle.table_bundle.specs.Bundles.{if_held}
use Rattle.table_bundle.specs.Drafts.{draft_by}
use Rattle.table_bundle.specs.Lengths.{if_open, IsCountOf}
use Rattle.table_bundle.specs.declared.claim_count.ClaimCount.{ClaimCount}
use Rattle.table_bundle.specs.declared.pairs.NamedPair.{NamedPair}
use Rattle.table_bundle.proofs.Settled.{none_open}
use Rattle.table_bundle.proofs.standing_table.StandingPair.count.Goals as goal

-- an open pair's claim is counted by its first line
open_count : (cell : List Mark → List ℕ → List ℕ → Cell) (measure : MeasureName) (topics : List Topic) (p : NamedPair) (v : Verdict) (runs : ℕ) → v ≡ Open → runs ≡ length (runs_text p.at.first p.at.second) →
    IsCountOf (if_held (draft_by cell measure topics (p.at.first, p.at.second) p.first p.second v)) (record { claims = 1; bytes = runs + 12 })
open_count cell measure topics p v runs is count =
    let runs_are = runs_text p.at.first p.at.second in
    let counted : ClaimCount = record { claims = 1; bytes = runs + 12 } in
    subst (λ (w : Verdict). IsCountOf (if_held (draft_by cell measure topics (p.at.first, p.at.second) p.first p.second w)) counted) (sym is)
    (record { claims = refl; bytes = omega (arith, count, one_more_line (codes "claim open " ++ runs_are) [], length-append (codes "claim open ") runs_are) })

pub count_settled-requires : goal.count_settled-requires
count_settled-requires g c =
    let table = c.args.self.now.standing.now.table.now in
    let name = g.M.Measure.measured table.measure in
    let cell = g.M.Measure.cell_of table.measure in
    let p = c.args.self.now.pair in
    let valid : IsMeasure name = subst IsMeasure (c.name-name.ensures.name ∙ ap g.M.Measure.measured c.measure.ensures) c.name-name.ensures.built in
    let laws = g.met.M.Measure.laws table.measure valid in
    let told = standing_sums name cell (g.M.Measure.bounds_of table.measure) c.args.self.now.standing.now.desk.now c.args.self.now.standing.now.marks.now p.first p.second c.verdict.ensures.0 (table_sums table) laws c.valid.ensures c.args.self.now.standing.now.marked c.args.self.now.standing.now.stands.sums c.verdict.ensures.1 in
    record { settled = λ e. c.in_default.not-Open (c.verdict.ensures.2 ∙ ap verdict told ∙ e) }

pub returns-in_ok-push-in-Open-clause-count : goal.returns-in_ok-push-in-Open-clause-count
returns-in_ok-push-in-Open-clause-count g c =
    let table = c.args.self.now.standing.now.table.now in
    let name = g.M.Measure.measured table.measure in
    let cell = g.M.Measure.cell_of table.measure in
    let topics : List Topic = topics_under c.args.self.now.standing.now.desk.now c.args.self.now.standing.now.marks.now in
    let p = c.args.self.now.pair in
    let valid : IsMeasure name = subst IsMeasure (c.name-name.ensures.name ∙ ap g.M.Measure.measured c.measure.ensures) c.name-name.ensures.built in
    let laws = g.met.M.Measure.laws table.measure valid in
    let told = standing_sums name cell (g.M.Measure.bounds_of table.measure) c.args.self.now.standing.now.desk.now c.args.self.now.standing.now.marks.now p.first p.second c.verdict.ensures.0 (table_sums table) laws c.valid.ensures c.args.self.now.standing.now.marked c.args.self.now.standing.now.stands.sums c.verdict.ensures.1 in
    let is : verdict (pair_sums cell topics p.first p.second) ≡ Open = sym (ap verdict told) ∙ sym c.verdict.ensures.2 ∙ c.in-Open.is in
    open_count cell name topics p (verdict (pair_sums cell topics p.first p.second)) c.runs_text_length-bytes.result is c.runs_text_length-bytes.ensures.count

pub returns-in_ok-push-in-Open-clause-undecided : goal.returns-in_ok-push-in-Open-clause-undecided
returns-in_ok-push-in-Open-clause-undecided g c =
    let table = c.args.self.now.standing.now.table.now in
    let name = g.M.Measure.measured table.measure in
    let cell = g.M.Measure.cell_of table.measure in
    let topics : List Topic = topics_under c.args.self.now.standing.now.desk.now c.args.self.now.standing.now.marks.now in
    let p = c.args.self.now.pair in
    let valid : IsMeasure name = subst IsMeasure (c.name-name.ensures.name ∙ ap g.M.Measure.measured c.measure.ensures) c.name-name.ensures.built in
    let laws = g.met.M.Measure.laws table.measure valid in
    let told = standing_sums name cell (g.M.Measure.bounds_of table.measure) c.args.self.now.standing.now.desk.now c.args.self.now.standing.now.marks.now p.first p.second c.verdict.ensures.0 (table_sums table) laws c.valid.ensures c.args.self.now.standing.now.marked c.args.self.now.standing.now.stands.sums c.verdict.ensures.1 in
    let is : verdict (pair_sums cell topics p.first p.second) ≡ Open = sym (ap verdict told) ∙ sym c.verdict.ensures.2 ∙ c.in-Open.is in
    c.in_ok-push-in-Open.ensures.items ∙ ap (λ (v : Verdict). c.args.undecided.now.items ++ if_open v p) (sym is)

pub returns-in_ok-count-in_default-clause-undecided : goal.returns-in_ok-count-in_default-clause-undecided
returns-in_ok-count-in_default-clause-undecided g c =
    let table = c.args.self.now.standing.now.table.now in
    let name = g.M.Measure.measured table.measure in
    let cell = g.M.Measure.cell_of table.measure in
    let topics : List Topic = topics_under c.args.self.now.standing.now.desk.now c.args.self.now.standing.now.marks.now in
    let p = c.args.self.now.pair in
    let valid : IsMeasure name = subst IsMeasure (c.name-name.ensures.name ∙ ap g.M.Measure.measured c.measure.ensures) c.name-name.ensures.built in
    let laws = g.met.M.Measure.laws table.measure valid in
    let told = standing_sums name cell (g.M.Measure.bounds_of table.measure) c.args.self.now.standing.now.desk.now c.args.self.now.standing.now.marks.now p.first p.second c.verdict.ensures.0 (table_sums table) laws c.valid.ensures c.args.self.now.standing.now.marked c.args.self.now.standing.now.stands.sums c.verdict.ensures.1 in
    let other : verdict (pair_sums cell topics p.first p.second) ≢ Open = λ e. c.in_default.not-Open (c.verdict.ensures.2 ∙ ap verdict told ∙ e) in
    let items : List NamedPair = c.args.undecided.now.items in
    sym (append-nil items) ∙ ap (λ (l : List NamedPair). items ++ l) (sym (none_open cell name topics p (verdict (pair_sums cell topics p.first p.second)) other))
