use Rattle.std.proofs.Common.{sym, ◌∙◌}
use Rattle.desk_text.specs.Lines.{fields_of}
use Rattle.judge_session.proofs.Asking.{one_asks, two_ask, three_ask, five_ask}
use Rattle.judge_session.proofs.hearing.request.Goals as goal

pub returns-in-1 : goal.returns-in-1
returns-in-1 c =
    c.alone.ensures ∙ one_asks (fields_of c.args.line.now) c.text.result.now (sym c.requires.number ∙ sym c.count.ensures ∙ c.in-1.is) c.text.ensures

pub returns-in-2 : goal.returns-in-2
returns-in-2 c =
    c.with_caller.ensures
    ∙ two_ask (fields_of c.args.line.now) c.text-in-2.result.now c.text-in-2-2.result.now (sym c.requires.number ∙ sym c.count.ensures ∙ c.in-2.is) c.text-in-2.ensures c.text-in-2-2.ensures

pub returns-in-3 : goal.returns-in-3
returns-in-3 c =
    c.with_two.ensures
    ∙ three_ask (fields_of c.args.line.now) c.text-in-3.result.now c.text-in-3-2.result.now c.text-in-3-3.result.now (sym c.requires.number ∙ sym c.count.ensures ∙ c.in-3.is)
    c.text-in-3.ensures c.text-in-3-2.ensures c.text-in-3-3.ensures

pub returns-in-5 : goal.returns-in-5
returns-in-5 c =
    c.judging.ensures
    ∙ five_ask (fields_of c.args.line.now) c.text-in-5.result.now c.text-in-5-2.result.now c.text-in-5-3.result.now c.text-in-5-4.result.now c.text-in-5-5.result.now
    (sym c.requires.number ∙ sym c.count.ensures ∙ c.in-5.is) c.text-in-5.ensures c.text-in-5-2.ensures c.text-in-5-3.ensures c.text-in-5-4.ensures c.text-in-5-5.ensures
