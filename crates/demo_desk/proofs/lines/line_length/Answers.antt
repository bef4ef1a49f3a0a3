use Rattle.std.proofs.Common.{inl, inr, refl}
use Rattle.demo_desk.proofs.lines.line_length.Goals as goal

pub returns-in-Some-clause-line : goal.returns-in-Some-clause-line
returns-in-Some-clause-line c = inr (c.in-Some.at, c.in-Some.ensures, refl)

pub returns-in-None-clause-line : goal.returns-in-None-clause-line
returns-in-None-clause-line c = inl (c.in-None.ensures, refl)
