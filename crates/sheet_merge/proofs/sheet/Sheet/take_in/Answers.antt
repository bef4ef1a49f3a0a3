use Rattle.std.proofs.Common.{◌≡◌, length, ap, sym, subst, ◌∙◌, arith}
use Rattle.std.specs.Prelude.{◌≤◌}
use Rattle.sheet_merge.specs.declared.limits.TheConstants.{ENTRY_LIMIT}
use Rattle.sheet_merge.proofs.Again.{merged-none}
use Rattle.sheet_merge.proofs.sheet.Sheet.take_in.Goals as goal

pub returns-clause-merged : goal.returns-clause-merged
returns-clause-merged c =
    let none : length c.args.self.now ≡ 0 = omega (arith, c.len.ensures, ap length c.self.view_is, c.if-len-gt0.false) in
    c.other.view_is ∙ sym (merged-none c.args.self.now c.args.other c.valid.ensures.is_map none)

pub returns-clause-few : goal.returns-clause-few
returns-clause-few c =
    let none : length c.args.self.now ≡ 0 = omega (arith, c.len.ensures, ap length c.self.view_is, c.if-len-gt0.false) in
    subst (λ rows. length rows ≤ ENTRY_LIMIT) (sym (merged-none c.args.self.now c.args.other c.valid.ensures.is_map none)) c.valid.ensures.few
