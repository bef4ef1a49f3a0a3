use Rattle.std.proofs.Common.{◌<◌, [], ◌∷◌, ◌++◌, length, take, ap, sym, subst, ◌∙◌, arith}
use Rattle.std.proofs.lemmas.List.{take_more, length-take-le}
use Rattle.sheet_merge.specs.Sheet.{SheetRow, IsSheetRow}
use Rattle.sheet_merge.proofs.sorted.copied.Goals as goal

pub push-requires : goal.push-requires
push-requires c =
    let rows = c.args.rows.now in
    let i = c.loop-i.i in
    let lt : i < length rows = omega (arith, c.loop-i-test.true) in
    record {
      room = let few = c.requires.few in let n = ap length c.loop-i.invariant.made in omega (arith, few, n, length-take-le i rows (omega (arith, lt)), lt);
      right = subst IsSheetRow (sym c.index-rows-i.is) (c.requires.right i c.index-rows-i.result lt);
    }

pub loop-i-preserved : goal.loop-i-preserved
loop-i-preserved c =
    let rows = c.args.rows.now in
    let i = c.loop-i.i in
    let row = c.index-rows-i.result in
    record {
      made = c.in_ok-push.ensures.ok ∙ ap (λ copies. copies ++ row ∷ []) c.loop-i.invariant.made ∙ ap (λ (r : SheetRow). take i rows ++ r ∷ []) c.index-rows-i.is
          ∙ sym (take_more rows i row (omega (arith, c.loop-i-test.true)));
    }
