use Rattle.std.proofs.Common.{◌≡◌, ℕ, ◌<◌, length, map, get_or}
use Rattle.desk_model.specs.declared.types.Verdict.TheVariants.{Above}
use Rattle.next_document.specs.Kept.{AreTotalsOf}
use Rattle.next_document.specs.Total.{standing}
use Rattle.next_document.proofs.Pairs.{IsAt}
use Rattle.next_document.proofs.standing.Standing.hold_verdicts.Given as goal

abbrev pub invariant-loop-number : goal.invariant-loop-number
invariant-loop-number g l = record {
  count : length l.held ≡ length l.self.verdicts.now;
  same : (k : ℕ) → k < l.number → get_or l.held k Above ≡ get_or l.self.verdicts.now k Above;
  totals : AreTotalsOf (standing (g.M.Measure.measured l.self.measure.now) l.self.on.desk.now l.self.on.marks.now l.held) (map (λ each. each.items) l.totals);
  at_pair : IsAt (length l.self.on.desk.now.runs) l.number l.pair;
}
