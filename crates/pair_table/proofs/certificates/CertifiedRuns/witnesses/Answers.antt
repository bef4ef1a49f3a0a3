use Rattle.std.proofs.Common.{◌≤◌, length, Some, ap, sym, ◌∙◌, arith}
use Rattle.std.proofs.lemmas.List.{take_all}
use Rattle.pair_table.specs.Evidence.{witnesses_of, witness_of}
use Rattle.pair_table.specs.TopicUnder.{TopicUnder}
use Rattle.pair_table.proofs.Listing.{grown, witness_known, length-witnesses}
use Rattle.pair_table.proofs.certificates.CertifiedRuns.witnesses.Goals as goal

pub loop-number-preserved : goal.loop-number-preserved
loop-number-preserved g c =
    let runs = c.args.self.now in
    let t = c.loop-number.number in
    let name = g.M.Measure.measured runs.table.now.measure in
    let topic : TopicUnder = record { desk = runs.desk.now; marks = c.args.marks.now; number = t } in
    let made = c.in_ok-witness.ensures ∙ ap (λ m. witness_of (g.M.Measure.measured m) c.of.result runs.first runs.second) c.measure-measure.ensures
    ∙ ap (λ (at : TopicUnder). witness_of name at runs.first runs.second) c.of.ensures in
    let there = witness_known name topic runs.first runs.second (record { marked = c.requires; known = omega (arith, c.topic_count-number-end.ensures.count) }) ∙ ap Some (sym made) in
    record { made = c.in_ok-push.ensures.items ∙ grown _ _ t _ there c.loop-number.invariant.made }

pub returns : goal.returns
returns g c =
    let runs = c.args.self.now in
    let name = g.M.Measure.measured runs.table.now.measure in
    let all = witnesses_of name runs.desk.now c.args.marks.now runs.first runs.second in
    let end : length all ≤ c.loop-number.number = omega (arith, length-witnesses name runs.desk.now c.args.marks.now runs.first runs.second c.requires, c.topic_count-number-end.ensures.count) in
    c.new.ensures ∙ c.loop-number.invariant.made ∙ take_all c.loop-number.number all end
