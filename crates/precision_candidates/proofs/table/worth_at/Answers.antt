use Rattle.std.proofs.Common.{◌≡◌, ◌*◌, ℕ, ◌≤◌, ◌^◌, sym, subst, ◌∙◌}
use Rattle.precision_candidates.specs.Inverse.{inverse_of}
use Rattle.precision_candidates.proofs.PartFacts.{up_high, up_low, up_of, worth_is, worth_small}
use Rattle.precision_candidates.proofs.table.worth_at.Goals.{then-high, else-high}
use Rattle.precision_candidates.proofs.table.worth_at.Goals as goal

pub returns-clause-value : goal.returns-clause-value
returns-clause-value c =
    let up : c.if-high.up ≡ up_of c.args.high c.args.rank.number * inverse_of c.args.rank.number = elim c.if-high.branch [
      | then-high w ↦ up_high c.args.high c.args.rank.number c.if-high.up w.if-high.true (w.up-is ∙ c.requires.part.up)
      | else-high w ↦ up_low c.args.high c.args.rank.number c.if-high.up w.if-high.false w.up-is
    ] in
    worth_is c.args.high c.args.j c.args.rank.number c.args.part.whole c.args.part.rest c.if-high.up c.args.rank.some c.args.rank.short c.requires.deep c.requires.part.whole c.requires.part.rest up

pub returns-clause-small : goal.returns-clause-small
returns-clause-small c =
    let up : c.if-high.up ≡ up_of c.args.high c.args.rank.number * inverse_of c.args.rank.number = elim c.if-high.branch [
      | then-high w ↦ up_high c.args.high c.args.rank.number c.if-high.up w.if-high.true (w.up-is ∙ c.requires.part.up)
      | else-high w ↦ up_low c.args.high c.args.rank.number c.if-high.up w.if-high.false w.up-is
    ] in
    subst (λ (n : ℕ). n ≤ 10 ^ 18)
    (sym (worth_is c.args.high c.args.j c.args.rank.number c.args.part.whole c.args.part.rest c.if-high.up c.args.rank.some c.args.rank.short c.requires.deep c.requires.part.whole c.requires.part.rest up))
    (worth_small c.args.high c.args.j c.args.rank.number c.args.rank.some c.requires.deep)
