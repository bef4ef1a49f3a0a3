use Rattle.std.proofs.Common.{[], ◌∷◌, ◌++◌, take, ap, sym, ◌∙◌, arith}
use Rattle.std.proofs.lemmas.List.{take_more, take_all, flat_map_more}
use Rattle.sheet_merge.specs.Sheet.{SheetRow}
use Rattle.sheet_merge.specs.Packed.{no_row}
use Rattle.sheet_merge.specs.Text.{entry_text, sheet_text}
use Rattle.sheet_merge.proofs.text.rows_text.Goals as goal

pub loop-i-preserved : goal.loop-i-preserved
loop-i-preserved c =
    let rows = c.args.rows.now in
    let i = c.loop-i.i in
    record {
      made = c.in_ok-push_entry.ensures ∙ ap (λ text. text ++ (entry_text c.get.result ++ 10 ∷ [])) c.loop-i.invariant.made
          ∙ flat_map_more (λ (row : SheetRow). entry_text row ++ 10 ∷ []) [] (take i rows) c.get.result
          ∙ ap (λ (row : SheetRow). sheet_text (take i rows ++ row ∷ [])) c.get.ensures
          ∙ ap sheet_text (sym (take_more rows i no_row (omega (arith, c.loop-i-test.true, c.len-i-end.ensures))));
    }

pub returns : goal.returns
returns c = c.loop-i.invariant.made ∙ ap sheet_text (take_all c.loop-i.i c.args.rows.now (omega (arith, c.loop-i-test.false, c.len-i-end.ensures)))
