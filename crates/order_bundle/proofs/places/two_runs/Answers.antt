use Rattle.std.proofs.Common.{ℕ, ◌∙◌, sym, arith, decimal}
use Rattle.line_forms.specs.Reading.{IsFreeOf}
use Rattle.line_forms.proofs.Cuts.{above_free, above_less, free_parts}
use Rattle.line_forms.proofs.Shown.{decimal_above}
use Rattle.order_bundle.proofs.places.two_runs.Goals as goal

spaceless : (n : ℕ) → IsFreeOf 32 (decimal n)
spaceless n = above_free 32 (decimal n) (above_less 32 47 (decimal n) (omega arith) (decimal_above n))

pub returns-in_default-count-clause-none : goal.returns-in_default-count-clause-none
returns-in_default-count-clause-none c a b ha hb e =
    let parts = free_parts 32 c.in-Some.first.now (decimal a) c.in-Some.second.now (decimal b) c.in-Some.ensures.free (spaceless a) (sym c.in-Some.ensures.some ∙ e) in
    c.in_default-count.ensures.none a (omega arith) ha parts.0

pub returns-in-None-clause-none : goal.returns-in-None-clause-none
returns-in-None-clause-none c a b ha hb e =
    let parts = free_parts 32 c.in-Some.first.now (decimal a) c.in-Some.second.now (decimal b) c.in-Some.ensures.free (spaceless a) (sym c.in-Some.ensures.some ∙ e) in
    c.in-None.ensures.none b (omega arith) hb parts.1
