use Rattle.std.proofs.Common.{◌≡◌, ℕ, ◌+◌, ◌*◌, ◌≤◌, List, [], length, get_or, cond, ap, sym, subst, ◌∙◌, arith}
use Rattle.std.proofs.lemmas.Option.{slice_get-get_or}
use Rattle.desk_model.specs.Limits.{PARTS_OF_ONE}
use Rattle.desk_model.specs.MeasureText.{IsMeasure}
use Rattle.desk_model.specs.declared.types.Verdict.TheVariants.{Above}
use Rattle.measure_laws.proofs.Weights.{weight-most}
use Rattle.next_document.specs.Moved.{pair_weights}
use Rattle.next_document.specs.Proposal.{is_unsettled, pair_weight}
use Rattle.next_document.specs.Shown.{shown_at}
use Rattle.next_document.proofs.KeptTotals.{total_to-most}
use Rattle.next_document.proofs.Pairs.{at_within, at_next, length-number_pairs}
use Rattle.next_document.proofs.Summing.{total_to, total_more, total_whole}
use Rattle.next_document.proofs.standing.TopicStanding.sum_topic.Goals as goal
use Rattle.next_document.proofs.standing.TopicStanding.sum_topic.Goals.{then-is_unsettled, else-is_unsettled}

pub invariant_of-here : goal.invariant_of-here
invariant_of-here g c =
    let second = at_within (length c.args.self.now.standing.on.desk.now.runs) c.loop-verdict.verdict-index c.loop-verdict.pair c.loop-verdict.invariant.at_pair (omega (arith, c.loop-verdict-test.true, c.args.self.now.standing.each, length-number_pairs c.args.self.now.standing.on.desk.now.runs)) in
    record { first = omega (arith, second, c.loop-verdict.invariant.at_pair.placed.order); second = second }

pub shift_totals-requires-clause-room : goal.shift_totals-requires-clause-room
shift_totals-requires-clause-room g c doc lt =
    let measure = g.M.Measure.measured c.args.self.now.standing.measure.now in
    let s = shown_at g.M.Measure.measured c.args.self.now in
    let i = c.loop-verdict.verdict-index in
    let long : length c.loop-verdict.totals ≡ length (get_or c.args.self.now.standing.on.marks.now c.args.self.now.number []) = omega (arith, c.requires.count) in
    let is : get_or c.loop-verdict.totals doc 0 ≡ total_to s c.args.self.now.number doc i = c.loop-verdict.invariant.sums doc (omega (arith, lt, long)) in
    let most : total_to s c.args.self.now.number doc i ≤ i * PARTS_OF_ONE = total_to-most s c.args.self.now.number doc i (subst IsMeasure c.name-name.ensures.name c.name-name.ensures.built) in
    let weight : pair_weights measure c.args.self.now.standing.on.desk.now c.args.self.now.standing.on.marks.now c.loop-verdict.pair c.args.self.now.number doc ≤ PARTS_OF_ONE = weight-most measure (get_or c.args.self.now.standing.on.marks.now c.args.self.now.number []) _ _ doc (subst IsMeasure c.name-name.ensures.name c.name-name.ensures.built) in
    omega (arith, is, most, weight, c.loop-verdict-test.true)

pub next-pair-requires-clause-within : goal.next-pair-requires-clause-within
next-pair-requires-clause-within g c =
    let within = at_within (length c.args.self.now.standing.on.desk.now.runs) c.loop-verdict.verdict-index c.loop-verdict.pair c.loop-verdict.invariant.at_pair (omega (arith, c.loop-verdict-test.true, c.args.self.now.standing.each, length-number_pairs c.args.self.now.standing.on.desk.now.runs)) in
    omega (arith, within, c.run_count-runs.ensures.count)

pub loop-verdict-preserved : goal.loop-verdict-preserved
loop-verdict-preserved g c =
    let s = shown_at g.M.Measure.measured c.args.self.now in
    let n = length c.args.self.now.standing.on.desk.now.runs in
    let i = c.loop-verdict.verdict-index in
    let pair = c.loop-verdict.pair in
    let topic = c.args.self.now.number in
    let verdict = get_or c.args.self.now.standing.verdicts.now i Above in
    let next = at_next n i pair c.loop-verdict.invariant.at_pair (omega (arith, c.loop-verdict-test.true, c.args.self.now.standing.each, length-number_pairs c.args.self.now.standing.on.desk.now.runs)) in
    let long : length c.loop-verdict.totals ≡ length (get_or c.args.self.now.standing.on.marks.now topic []) = omega (arith, c.requires.count) in
    record {
      sums = λ doc lt.
          let weight : ℕ = pair_weight s topic doc (pair.first, pair.second) in
          let more : total_to s topic doc (i + 1) ≡ total_to s topic doc i + cond (is_unsettled verdict) weight 0 =
          total_more s topic doc i (pair.first, pair.second) verdict next.0 (slice_get-get_or c.args.self.now.standing.verdicts.now i Above c.loop-verdict-test.true) in
          let before = c.loop-verdict.invariant.sums doc lt in
          elim c.if-is_unsettled.branch [
            | then-is_unsettled w ↦
                let counted : cond (is_unsettled verdict) weight 0 ≡ weight = ap (λ b. cond b weight 0) (sym c.is_unsettled.ensures ∙ w.if-is_unsettled.true) in
                let shifted : get_or w.shift_totals.new.totals doc 0 ≡ get_or c.loop-verdict.totals doc 0 + weight = w.shift_totals.ensures.each doc (omega (arith, lt, long)) in
                let here : get_or c.if-is_unsettled.totals doc 0 ≡ get_or w.shift_totals.new.totals doc 0 = ap (λ (totals : List ℕ). get_or totals doc 0) w.totals-is in
                omega (arith, more, counted, before, shifted, here)
            | else-is_unsettled w ↦
                let counted : cond (is_unsettled verdict) weight 0 ≡ 0 = ap (λ b. cond b weight 0) (sym c.is_unsettled.ensures ∙ w.if-is_unsettled.false) in
                let here : get_or c.if-is_unsettled.totals doc 0 ≡ get_or c.loop-verdict.totals doc 0 = ap (λ (totals : List ℕ). get_or totals doc 0) w.totals-is in
                omega (arith, more, counted, before, here)
          ];
      at_pair = rw (c.next-pair.ensures, c.run_count-runs.ensures.count) next.1;
    }

pub returns : goal.returns
returns g c doc lt =
    let s = shown_at g.M.Measure.measured c.args.self.now in
    let long = length-number_pairs c.args.self.now.standing.on.desk.now.runs in
    total_whole s c.args.self.now.number doc c.loop-verdict.verdict-index (get_or c.loop-verdict.totals doc 0) (omega (arith, long, c.args.self.now.standing.each)) (omega (arith, c.loop-verdict-test.false)) (c.loop-verdict.invariant.sums doc lt)
