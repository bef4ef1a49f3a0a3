-- A cell of two spans, and of four ends.
use Rattle.std.proofs.Common.{◌≡◌, ℤ, ap, ◌∙◌}
use Rattle.topic_counts.specs.declared.span.Span.{Span}
use Rattle.measure_core.specs.declared.cell.Cell.{Cell}

abbrev pub cell : Span → Span → Cell
cell s t = record { least = s; most = t }

pub cell_same : (s t s' t' : Span) → s ≡ s' → t ≡ t' → cell s t ≡ cell s' t'
cell_same s t s' t' e f = ap (λ x. cell x t) e ∙ ap (λ x. cell s' x) f

-- the four ends of a cell
pub ends_same : (a b c d : ℤ) (x : Cell) → a ≡ x.least.lo → b ≡ x.least.hi → c ≡ x.most.lo → d ≡ x.most.hi →
    (let y : Cell = record { least = record { lo = a; hi = b }; most = record { lo = c; hi = d } } in y) ≡ x
ends_same a b c d x p q r s =
    ap (λ z. record { least = record { lo = z; hi = b }; most = record { lo = c; hi = d } }) p
    ∙ ap (λ z. record { least = record { lo = x.least.lo; hi = z }; most = record { lo = c; hi = d } }) q
    ∙ ap (λ z. record { least = x.least; most = record { lo = z; hi = d } }) r
    ∙ ap (λ z. record { least = x.least; most = record { lo = x.most.lo; hi = z } }) s
