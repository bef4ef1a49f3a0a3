use Rattle.std.proofs.Common.{◌∙◌, ap}
use Rattle.std.specs.Ordering.{int_cmp}
use Rattle.desk_text.specs.Key.{value_of_key}
use Rattle.desk_text.proofs.KeyOrder.{int_cmp-value_of_key}
use Rattle.desk_text.proofs.score.ScoreOrd.cmp.Goals as goal

pub returns : goal.returns
returns c =
    let same = int_cmp-value_of_key c.self.inside.key c.other.inside.key c.self.invariant c.other.invariant in
    let x = c.self.view_is in
    let y = c.other.view_is in
    c.cmp.ensures ∙ same ∙ ap (λ v. int_cmp v (value_of_key c.other.inside.key)) x ∙ ap (λ v. int_cmp c.args.self.now v) y
