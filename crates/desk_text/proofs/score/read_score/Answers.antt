use Rattle.std.proofs.Common.{sym, ◌∙◌}
use Rattle.desk_text.proofs.Answer.{answer_is}
use Rattle.desk_text.proofs.PlainNumbers.{plain_reads}
use Rattle.desk_text.proofs.score.read_score.Goals as goal

pub returns-in-Some-clause-reads : goal.returns-in-Some-clause-reads
returns-in-Some-clause-reads c =
    let plain = c.in-Some.plain in
    plain_reads c.args.text.now plain.is_negative plain.mantissa.digits plain.mantissa.places c.of_plain.result c.in-Some.ensures.some c.in-Some.ensures.small c.in-Some.ensures.near c.of_plain.ensures

pub returns-in-Some-clause-value : goal.returns-in-Some-clause-value
returns-in-Some-clause-value c = answer_is c.args.text.now _ (returns-in-Some-clause-reads c)

pub returns-in-Some-clause-only : goal.returns-in-Some-clause-only
returns-in-Some-clause-only c answer h = answer_is c.args.text.now answer h ∙ sym (returns-in-Some-clause-value c)

pub returns-in-None-clause-value : goal.returns-in-None-clause-value
returns-in-None-clause-value c = answer_is c.args.text.now _ c.read_parts.ensures

pub returns-in-None-clause-only : goal.returns-in-None-clause-only
returns-in-None-clause-only c answer h = answer_is c.args.text.now answer h ∙ sym (returns-in-None-clause-value c)
