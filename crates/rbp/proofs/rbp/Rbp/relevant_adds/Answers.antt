use Rattle.std.proofs.Common.{◌≡◌, ◌-◌, ◌<◌, Some, arith, refl, ap, ◌∙◌}
use Rattle.measure_laws.specs.Powers.{low_weight, high_weight}
use Rattle.measure_core.specs.Worths.{rank_or_none}
use Rattle.measure_core.proofs.Walking.{rank_some}
use Rattle.rbp.specs.Persistence.{Persistence}
use Rattle.rbp.proofs.Added.{chosen, relevant_is}
use Rattle.rbp.proofs.rbp.Rbp.relevant_adds.Goals as goal

pub returns : goal.returns
returns c =
    let r = c.args.self.now in
    let x = rank_or_none c.args.x in
    let y = c.args.y in
    let below : r.top < r.bottom = omega (arith, c.self.invariant.below, ap (λ (p : Persistence). p.top) c.self.view_is, ap (λ (p : Persistence). p.bottom) c.self.view_is) in
    let low = low_weight r.top r.bottom in
    let high = high_weight r.top r.bottom in
    let ly : c.kept_parts-second.result.low ≡ low (Some y) = c.kept_parts-second.ensures.low ∙ rank_some low y c.requires.second in
    let hy : c.kept_parts-second.result.high ≡ high (Some y) = c.kept_parts-second.ensures.high ∙ rank_some high y c.requires.second in
    let lx = c.kept_parts-first.ensures.low in
    let hx = c.kept_parts-first.ensures.high in
    let lead : c.saturating_sub.result ≡ high (Some y) - low x = omega (arith, c.saturating_sub.ensures, hy, lx) in
    let more : c.saturating_sub-2.result ≡ high x - low (Some y) = omega (arith, c.saturating_sub-2.ensures, hx, ly) in
    relevant_is r.top r.bottom x y below _ c.requires.second.0 refl refl refl refl (chosen _ _ _ _ _ _ _ c.choose.ensures c.is_before-before.ensures refl lead) (chosen _ _ _ _ _ _ _ c.choose-2.ensures c.is_after-after.ensures refl more)
