use Rattle.std.proofs.Common.{◌∙◌, sym, arith}
use Rattle.std.proofs.lemmas.Fmt.{decimal_injective}
use Rattle.desk_model.proofs.Decimals.{plain_some, plain_none}
use Rattle.line_forms.proofs.parts.count.Goals as goal

pub returns-in-Some-clause-some : goal.returns-in-Some-clause-some
returns-in-Some-clause-some c =
    let most = c.requires in
    (plain_some c.args.most c.in-Some.number c.args.text.now (omega arith) (sym c.in-Some.ensures)).0

pub returns-in_default-clause-none : goal.returns-in_default-clause-none
returns-in_default-clause-none c n low high e =
    let most = c.requires in
    let is = plain_some c.args.most c.in-Some.number c.args.text.now (omega arith) (sym c.in-Some.ensures) in
    let below = is.1 in
    let less = c.if-number-least.false in
    let same = decimal_injective n c.in-Some.number (omega arith) (omega arith) (sym e ∙ is.0) in
    omega arith

pub returns-in_default-2-clause-none : goal.returns-in_default-2-clause-none
returns-in_default-2-clause-none c n low high e =
    let most = c.requires in
    plain_none c.args.most n c.args.text.now (omega arith) (sym c.in_default.ensures) high e
