use Rattle.std.proofs.Common.{◌≡◌, ℕ, ◌+◌, ◌*◌, ◌/◌, ◌%◌, ◌^◌, ◌<◌, ◌≤◌, Bool, ap, sym, subst, ◌∙◌}
use Rattle.topic_ends.specs.PartSums.{worth_of}
use Rattle.topic_ends.proofs.RoundedParts.{up_high, up_low, up_of, worth_small, worth_split}
use Rattle.topic_ends.proofs.part_sum.part_of.Goals.{then-high, else-high}
use Rattle.topic_ends.proofs.part_sum.part_of.Goals as goal

value_is : (high : Bool) (j r up : ℕ) → 0 < r → up ≡ up_of high r → j * (10 ^ 18 / r) + (j * (10 ^ 18 % r) + up) / r ≡ worth_of high j r
value_is high j r up p e = ap (λ (n : ℕ). j * (10 ^ 18 / r) + (j * (10 ^ 18 % r) + n) / r) e ∙ worth_split high j r p

pub returns-clause-value : goal.returns-clause-value
returns-clause-value c =
    let up : c.if-high.up ≡ up_of c.args.high c.args.rank.number = elim c.if-high.branch [
      | then-high w ↦ up_high c.args.high c.args.rank.number c.if-high.up w.if-high.true w.up-is
      | else-high w ↦ up_low c.args.high c.args.rank.number c.if-high.up w.if-high.false w.up-is
    ] in
    value_is c.args.high c.args.j c.args.rank.number c.if-high.up c.args.rank.some up

pub returns-clause-small : goal.returns-clause-small
returns-clause-small c =
    let up : c.if-high.up ≡ up_of c.args.high c.args.rank.number = elim c.if-high.branch [
      | then-high w ↦ up_high c.args.high c.args.rank.number c.if-high.up w.if-high.true w.up-is
      | else-high w ↦ up_low c.args.high c.args.rank.number c.if-high.up w.if-high.false w.up-is
    ] in
    subst (λ (n : ℕ). n ≤ 10 ^ 18) (sym (value_is c.args.high c.args.j c.args.rank.number c.if-high.up c.args.rank.some up)) (worth_small c.args.high c.args.j c.args.rank.number c.args.rank.some c.requires)
