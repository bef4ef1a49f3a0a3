use Rattle.std.proofs.Common.{◌≡◌, Some, None, arith, sym, ap₂, ◌∙◌}
use Rattle.desk_text.specs.Numbers.{plain_of}
use Rattle.desk_model.proofs.Decimals.{plain_some, plain_none}
use Rattle.desk_words.proofs.value.number.Goals as goal

pub returns-in-Some-clause-some : goal.returns-in-Some-clause-some
returns-in-Some-clause-some c =
    let is : plain_of c.args.most c.args.text.now ≡ Some c.in-Some.number = ap₂ plain_of (sym c.from.ensures) (sym c.as_bytes.ensures.value) ∙ sym c.plain.ensures ∙ c.in-Some.is in
    (plain_some c.args.most c.in-Some.number c.args.text.now (omega arith) is).0

pub returns-in-None-clause-none : goal.returns-in-None-clause-none
returns-in-None-clause-none c n le e =
    let is : plain_of c.args.most c.args.text.now ≡ None = ap₂ plain_of (sym c.from.ensures) (sym c.as_bytes.ensures.value) ∙ sym c.plain.ensures ∙ c.in-None.is in
    plain_none c.args.most n c.args.text.now (omega arith) is le e
