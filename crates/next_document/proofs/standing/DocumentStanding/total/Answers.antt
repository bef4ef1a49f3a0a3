use Rattle.std.proofs.Common.{◌≡◌, ℕ, ◌+◌, ◌*◌, ◌≤◌, [], length, get_or, cond, ap, sym, subst, ◌∙◌, arith}
use Rattle.std.proofs.lemmas.Option.{slice_get-get_or}
use Rattle.desk_model.specs.Limits.{PARTS_OF_ONE}
use Rattle.desk_model.specs.MeasureText.{IsMeasure}
use Rattle.desk_model.specs.declared.types.Verdict.TheVariants.{Above}
use Rattle.measure_laws.proofs.Weights.{weight-most}
use Rattle.next_document.specs.Proposal.{is_unsettled, pair_weight}
use Rattle.next_document.specs.Shown.{shown_at}
use Rattle.next_document.proofs.Pairs.{at_within, at_next, length-number_pairs}
use Rattle.next_document.proofs.Summing.{total_to, total_more, total_whole}
use Rattle.next_document.proofs.standing.DocumentStanding.total.Goals as goal
use Rattle.next_document.proofs.standing.DocumentStanding.total.Goals.{then-is_unsettled, else-is_unsettled}

pub invariant_of-here : goal.invariant_of-here
invariant_of-here g c =
    let second = at_within (length c.args.self.now.topic.standing.on.desk.now.runs) c.loop-verdict.verdict-index c.loop-verdict.pair c.loop-verdict.invariant.at_pair (omega (arith, c.loop-verdict-test.true, c.args.self.now.topic.standing.each, length-number_pairs c.args.self.now.topic.standing.on.desk.now.runs)) in
    record { first = omega (arith, second, c.loop-verdict.invariant.at_pair.placed.order); second = second }

pub next-pair-requires-clause-within : goal.next-pair-requires-clause-within
next-pair-requires-clause-within g c =
    let within = at_within (length c.args.self.now.topic.standing.on.desk.now.runs) c.loop-verdict.verdict-index c.loop-verdict.pair c.loop-verdict.invariant.at_pair (omega (arith, c.loop-verdict-test.true, c.args.self.now.topic.standing.each, length-number_pairs c.args.self.now.topic.standing.on.desk.now.runs)) in
    omega (arith, within, c.run_count-runs.ensures.count)

pub loop-verdict-preserved : goal.loop-verdict-preserved
loop-verdict-preserved g c =
    let s = shown_at g.M.Measure.measured c.args.self.now.topic in
    let n = length c.args.self.now.topic.standing.on.desk.now.runs in
    let i = c.loop-verdict.verdict-index in
    let pair = c.loop-verdict.pair in
    let verdict = get_or c.args.self.now.topic.standing.verdicts.now i Above in
    let weight : ℕ = pair_weight s c.args.self.now.topic.number c.args.self.now.number (pair.first, pair.second) in
    let next = at_next n i pair c.loop-verdict.invariant.at_pair (omega (arith, c.loop-verdict-test.true, c.args.self.now.topic.standing.each, length-number_pairs c.args.self.now.topic.standing.on.desk.now.runs)) in
    let more : total_to s c.args.self.now.topic.number c.args.self.now.number (i + 1) ≡ total_to s c.args.self.now.topic.number c.args.self.now.number i + cond (is_unsettled verdict) weight 0 =
    total_more s c.args.self.now.topic.number c.args.self.now.number i (pair.first, pair.second) verdict next.0 (slice_get-get_or c.args.self.now.topic.standing.verdicts.now i Above c.loop-verdict-test.true) in
    let both : (c.if-is_unsettled.total ≡ total_to s c.args.self.now.topic.number c.args.self.now.number (i + 1)) × (c.if-is_unsettled.total ≤ (i + 1) * PARTS_OF_ONE) = elim c.if-is_unsettled.branch [
      | then-is_unsettled w ↦
          let counted : cond (is_unsettled verdict) weight 0 ≡ weight = ap (λ b. cond b weight 0) (sym c.is_unsettled.ensures ∙ w.if-is_unsettled.true) in
          let is : w.weight_of-total.result ≡ weight = w.weight_of-total.ensures in
          let modest : weight ≤ PARTS_OF_ONE = weight-most s.measure (get_or s.marks c.args.self.now.topic.number []) _ _ c.args.self.now.number (subst IsMeasure c.name-name.ensures.name c.name-name.ensures.built) in
          (omega (arith, more, counted, is, w.total-is, c.loop-verdict.invariant.sum), omega (arith, w.total-is, is, modest, c.loop-verdict.invariant.size))
      | else-is_unsettled w ↦
          let counted : cond (is_unsettled verdict) weight 0 ≡ 0 = ap (λ b. cond b weight 0) (sym c.is_unsettled.ensures ∙ w.if-is_unsettled.false) in
          (omega (arith, more, counted, w.total-is, c.loop-verdict.invariant.sum), omega (arith, w.total-is, c.loop-verdict.invariant.size))
    ] in
    record {
      sum = both.0;
      size = both.1;
      at_pair = rw (c.next-pair.ensures, c.run_count-runs.ensures.count) next.1;
    }

pub returns : goal.returns
returns g c =
    let s = shown_at g.M.Measure.measured c.args.self.now.topic in
    let long = length-number_pairs c.args.self.now.topic.standing.on.desk.now.runs in
    total_whole s c.args.self.now.topic.number c.args.self.now.number c.loop-verdict.verdict-index c.loop-verdict.total (omega (arith, long, c.args.self.now.topic.standing.each)) (omega (arith, c.loop-verdict-test.false)) c.loop-verdict.invariant.sum
