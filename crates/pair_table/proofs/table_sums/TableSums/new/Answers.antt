use Rattle.std.proofs.Common.{ℕ, ◌+◌, ◌*◌, length, ap, sym, subst, ◌∙◌}
use Rattle.std.proofs.lemmas.List.{length-map}
use Rattle.desk_model.specs.Desk.{topics_under}
use Rattle.desk_model.specs.Pairs.{pairs_of}
use Rattle.pair_table.specs.Kept.{AllSums, AreSumsFor, SumsStandFor, all_numbers, kept_sums}
use Rattle.pair_table.specs.Sums.{run_numbers, pair_sums}
use Rattle.pair_table.proofs.Changing.{sums_stand}
use Rattle.pair_table.proofs.PairNumbers.{length-pairs, length-pairs_of}
use Rattle.pair_table.proofs.table_sums.TableSums.new.Goals as goal

pub topic_sums-requires : goal.topic_sums-requires
topic_sums-requires g c = rw c.rows.ensures c.requires

pub of_sums-requires-clause-sums : goal.of_sums-requires-clause-sums
of_sums-requires-clause-sums g c = subst (λ n. AreSumsFor n c.in_ok-sums.sums) (sym c.run_count.ensures.count) c.in_ok-sums.ensures.size

pub of_sums-requires-clause-room : goal.of_sums-requires-clause-room
of_sums-requires-clause-room g c = c.in_ok-room.ensures ∙ sym c.in_ok-sums.ensures.size.each_pair

pub returns-clause-stands : goal.returns-clause-stands
returns-clause-stands g c =
    let desk = c.args.desk.now in
    let marks = c.args.marks.now.rows in
    let cell = g.M.Measure.cell_of c.args.measure in
    let bounds = g.M.Measure.bounds_of c.args.measure in
    let summed = c.in_ok-sums.ensures.sums ∙ ap (λ ms. kept_sums (length desk.runs) (all_numbers cell bounds desk ms)) c.rows.ensures in
    subst (SumsStandFor cell bounds desk marks) (sym c.of_sums.ensures)
    (sums_stand cell bounds desk marks _ c.run_count.ensures.count (ap (λ (s : AllSums). s.totals) summed) (ap (λ (s : AllSums). s.bounds) summed))

pub returns-clause-totals : goal.returns-clause-totals
returns-clause-totals g c = (returns-clause-stands g c).totals

pub returns-clause-bounds : goal.returns-clause-bounds
returns-clause-bounds g c = (returns-clause-stands g c).bounds

pub returns-clause-pairs : goal.returns-clause-pairs
returns-clause-pairs g c =
    let runs = c.args.desk.now.runs in
    let topics = topics_under c.args.desk.now c.args.marks.now.rows in
    let f = λ (pair : ℕ × ℕ). pair_sums (g.M.Measure.cell_of c.args.measure) topics pair.0 pair.1 in
    ap length (returns-clause-stands g c).totals ∙ length-map (pairs_of (run_numbers (length runs))) f ∙ length-pairs_of runs 0

pub returns-clause-steps : goal.returns-clause-steps
returns-clause-steps g c = c.in_ok-sums.ensures.steps ∙ ap (λ p. c.args.steps.now + p * length c.args.desk.now.topics) (length-pairs (length c.args.desk.now.runs))
