use Rattle.std.proofs.Common.{[], ◌∷◌, ◌++◌, take, ap, sym, ◌∙◌, arith}
use Rattle.std.proofs.lemmas.List.{take_more, take_all}
use Rattle.sheet_merge.specs.Sheet.{SheetRow}
use Rattle.sheet_merge.specs.Packed.{no_row}
use Rattle.sheet_merge.proofs.sorted.row_refs.Goals as goal

pub loop-i-preserved : goal.loop-i-preserved
loop-i-preserved c =
    let table = c.args.table.now in
    let i = c.loop-i.i in
    record {
      made = c.in_ok-push.ensures.items ∙ ap (λ rows. rows ++ c.get.result ∷ []) c.loop-i.invariant.made ∙ ap (λ (row : SheetRow). take i table ++ row ∷ []) c.get.ensures
          ∙ sym (take_more table i no_row (omega (arith, c.loop-i-test.true, c.len-i-end.ensures.count)));
    }

pub returns-clause-rows : goal.returns-clause-rows
returns-clause-rows c = c.loop-i.invariant.made ∙ take_all c.loop-i.i c.args.table.now (omega (arith, c.loop-i-test.false, c.len-i-end.ensures.count))
