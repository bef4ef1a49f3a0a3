use Rattle.std.proofs.Common.{◌≡◌, ◌<◌, min, Some, arith, refl, ap, ◌∙◌}
use Rattle.measure_laws.specs.Powers.{low_weight, high_weight}
use Rattle.measure_core.specs.Worths.{rank_or_none}
use Rattle.measure_core.proofs.Walking.{rank_some}
use Rattle.rbp.specs.Persistence.{Persistence}
use Rattle.rbp.proofs.Added.{chosen, unjudged_is}
use Rattle.rbp.proofs.rbp.Rbp.unjudged_adds.Goals as goal

pub returns : goal.returns
returns c =
    let r = c.args.self.now in
    let x = rank_or_none c.args.x in
    let y = c.args.y in
    let below : r.top < r.bottom = omega (arith, c.self.invariant.below, ap (λ (p : Persistence). p.top) c.self.view_is, ap (λ (p : Persistence). p.bottom) c.self.view_is) in
    let low = low_weight r.top r.bottom in
    let high = high_weight r.top r.bottom in
    let ly : c.kept_parts-second.result.low ≡ low (Some y) = c.kept_parts-second.ensures.low ∙ rank_some low y c.requires.second in
    let hy : c.kept_parts-second.result.high ≡ high (Some y) = c.kept_parts-second.ensures.high ∙ rank_some high y c.requires.second in
    let lx = c.kept_parts-first.ensures.low in
    let hx = c.kept_parts-first.ensures.high in
    let lesser : c.min.result ≡ min (high x) (low (Some y)) = omega (arith, c.min.ensures, hx, ly) in
    let least : c.min-2.result ≡ min (low x) (high (Some y)) = omega (arith, c.min-2.ensures, lx, hy) in
    unjudged_is r.top r.bottom x y below _ c.requires.second.0 (chosen _ _ _ _ _ _ _ c.choose.ensures c.is_before-before.ensures lx hy) (chosen _ _ _ _ _ _ _ c.choose-2.ensures c.is_before-before.ensures lesser ly)
    (chosen _ _ _ _ _ _ _ c.choose-3.ensures c.is_after-after.ensures least lx) (chosen _ _ _ _ _ _ _ c.choose-4.ensures c.is_after-after.ensures ly hx) refl refl
