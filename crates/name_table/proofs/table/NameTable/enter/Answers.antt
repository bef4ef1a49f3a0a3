use Rattle.std.proofs.Common.{◌+◌, ap, sym, ◌∙◌, subst, Some, unwrap_or}
use Rattle.std.specs.Str.{bytes_eq}
use Rattle.name_table.specs.declared.table.TheConstants.{REACH}
use Rattle.name_table.specs.Table.{hash_of, number_in, start_of, AreTaken}
use Rattle.name_table.proofs.Slots.{name_kept}
use Rattle.name_table.proofs.Entering.{slot_filled, not_kept}
use Rattle.name_table.proofs.table.NameTable.enter.Goals as goal

pub returns-in-Some-clause-ok : goal.returns-in-Some-clause-ok
returns-in-Some-clause-ok c = λ names within is finds.
    slot_filled names c.args.i c.args.self.now.slots.items c.fill.new.self.slots.items c.args.self.now.rest c.fill.new.self.rest c.args.hash c.in-Some.at within (c.requires.hash ∙ ap hash_of (sym is)) c.requires.room c.in-Some.ensures.free c.fill.ensures.slots c.fill.ensures.rest finds

pub returns-in_ok-number_or_put-in-None-clause-ok : goal.returns-in_ok-number_or_put-in-None-clause-ok
returns-in_ok-number_or_put-in-None-clause-ok c = λ names within is finds.
    let slots = c.args.self.now.slots.items in
    let rest = c.args.self.now.rest in
    let hashed = c.requires.hash ∙ ap hash_of (sym is) in
    name_kept names c.args.i slots rest c.number_or_put.new.self within c.requires.room
    (subst (λ hash. AreTaken slots (start_of slots hash) (start_of slots hash + REACH)) hashed c.in-None.ensures.taken)
    (ap (λ name. number_in name c.number_or_put.new.self) is ∙ c.in_ok-number_or_put-in-None.ensures.put
    ∙ ap (λ n. Some n) (c.in_ok-number_or_put-in-None.ensures.number ∙ ap (λ found. unwrap_or found c.args.i) (ap (λ name. number_in name rest) (sym is) ∙ not_kept names c.args.i slots rest within finds)))
    (λ other apart. c.in_ok-number_or_put-in-None.ensures.others other (ap (λ name. bytes_eq name other) (sym is) ∙ apart))
    finds
