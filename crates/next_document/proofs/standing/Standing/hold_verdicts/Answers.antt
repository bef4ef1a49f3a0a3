use Rattle.std.proofs.Common.{◌≡◌, ◌≢◌, ℕ, ◌<◌, ◌≤◌, List, [], length, map, get_or, ◌∙◌, subst, below_more, arith}
use Rattle.std.specs.Prelude.{Vec}
use Rattle.std.specs.declared.alloc.Global.{Global}
use Rattle.std.proofs.lemmas.List.{length-set, get_or-set_same, get_or-set_other, ext_get_or}
use Rattle.desk_model.specs.declared.types.Verdict.{Verdict}
use Rattle.desk_model.specs.MeasureText.{IsMeasure}
use Rattle.desk_model.specs.declared.types.Verdict.TheVariants.{Above}
use Rattle.next_document.specs.Kept.{AreTotalsOf}
use Rattle.next_document.specs.Shown.{shown}
use Rattle.next_document.specs.Total.{holding}
use Rattle.next_document.proofs.KeptTotals.{has_counted, still_totals}
use Rattle.next_document.proofs.Pairs.{at_within, at_next, length-number_pairs}
use Rattle.next_document.proofs.standing.Standing.hold_verdicts.Goals as goal

abbrev lists : List (Vec ℕ Global) → List (List ℕ)
lists vecs = map (λ (each : Vec ℕ Global). each.items) vecs

pub invariant_of-here : goal.invariant_of-here
invariant_of-here g c =
    let second = at_within (length c.args.self.now.on.desk.now.runs) c.loop-number.number c.loop-number.pair c.loop-number.invariant.at_pair (omega (arith, c.loop-number-test.true, c.args.self.now.each, length-number_pairs c.args.self.now.on.desk.now.runs)) in
    record { first = omega (arith, second, c.loop-number.invariant.at_pair.placed.order); second = second }

pub move_all-requires : goal.move_all-requires
move_all-requires g c =
    let number = c.loop-number.number in
    let held = c.loop-number.held in
    let at = at_next (length c.args.self.now.on.desk.now.runs) number c.loop-number.pair c.loop-number.invariant.at_pair (omega (arith, c.loop-number-test.true, c.args.self.now.each, length-number_pairs c.args.self.now.on.desk.now.runs)) in
    record {
      counted = record {
        over = c.loop-number.invariant.totals.over;
        each = λ topic lt.
            has_counted (g.M.Measure.measured c.args.self.now.measure.now) c.args.self.now.on.desk.now c.args.self.now.on.marks.now (subst IsMeasure c.name-name.ensures.name c.name-name.ensures.built) held number c.loop-number.pair topic (get_or (lists c.loop-number.totals) topic []) at.0
            (omega (arith, c.loop-number.invariant.count, c.loop-number-test.true)) (omega (arith, c.loop-number.invariant.count, c.args.self.now.each, length-number_pairs c.args.self.now.on.desk.now.runs)) (omega (arith, c.loop-number.invariant.count))
            (c.loop-number.invariant.totals.over.docs topic lt) (c.loop-number.invariant.totals.each topic lt);
      };
    }

pub next-pair-requires-clause-within : goal.next-pair-requires-clause-within
next-pair-requires-clause-within g c =
    let within = at_within (length c.args.self.now.on.desk.now.runs) c.loop-number.number c.loop-number.pair c.loop-number.invariant.at_pair (omega (arith, c.loop-number-test.true, c.args.self.now.each, length-number_pairs c.args.self.now.on.desk.now.runs)) in
    omega (arith, within, c.run_count-runs.ensures.count)

pub loop-number-preserved : goal.loop-number-preserved
loop-number-preserved g c =
    let number = c.loop-number.number in
    let held = c.loop-number.held in
    let verdict = get_or c.args.self.now.verdicts.now number Above in
    let within : number < length held = omega (arith, c.loop-number.invariant.count, c.loop-number-test.true) in
    let at = at_next (length c.args.self.now.on.desk.now.runs) number c.loop-number.pair c.loop-number.invariant.at_pair (omega (arith, c.loop-number-test.true, c.args.self.now.each, length-number_pairs c.args.self.now.on.desk.now.runs)) in
    record {
      count = length-set held number verdict ∙ c.loop-number.invariant.count;
      same = below_more _ _
          (λ (k : ℕ) (lt : k < number). let apart : k ≢ number = omega arith in get_or-set_other held number k verdict Above apart ∙ c.loop-number.invariant.same k lt)
          (get_or-set_same held number verdict Above within);
      totals = record {
        over = c.move_all.ensures.over;
        each = λ topic lt.
            still_totals (g.M.Measure.measured c.args.self.now.measure.now) c.args.self.now.on.desk.now c.args.self.now.on.marks.now (subst IsMeasure c.name-name.ensures.name c.name-name.ensures.built) held number c.loop-number.pair verdict topic (get_or (lists c.loop-number.totals) topic [])
            (get_or (lists c.move_all.new.totals) topic []) at.0 within (c.loop-number.invariant.totals.over.docs topic lt) (c.loop-number.invariant.totals.each topic lt) (c.move_all.ensures.each topic lt);
      };
      at_pair = rw (c.next-pair.ensures, c.run_count-runs.ensures.count) at.1;
    }

-- all verdicts are the new ones
all_held : (held verdicts : List Verdict) (end : ℕ) → length held ≡ length verdicts → length verdicts ≤ end → ((k : ℕ) → k < end → get_or held k Above ≡ get_or verdicts k Above) → held ≡ verdicts
all_held held verdicts end count whole same = ext_get_or Above held verdicts count (λ k lt. same k (omega arith))

pub returns-clause-held : goal.returns-clause-held
returns-clause-held g c = all_held c.loop-number.held c.args.self.now.verdicts.now c.loop-number.number c.loop-number.invariant.count (omega (arith, c.loop-number-test.false)) c.loop-number.invariant.same

pub returns-clause-totals : goal.returns-clause-totals
returns-clause-totals g c =
    let held = all_held c.loop-number.held c.args.self.now.verdicts.now c.loop-number.number c.loop-number.invariant.count (omega (arith, c.loop-number-test.false)) c.loop-number.invariant.same in
    subst (λ (verdicts : List Verdict). AreTotalsOf (holding verdicts (shown g.M.Measure.measured c.args.self.now)) (lists c.loop-number.totals)) held c.loop-number.invariant.totals
