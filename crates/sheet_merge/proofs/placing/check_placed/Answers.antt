use Rattle.std.proofs.Common.{◌≡◌, ◌<◌, true, [], ◌∷◌, ◌++◌, length, take, ap, sym, subst, ◌∙◌, arith}
use Rattle.std.specs.Prelude.{All}
use Rattle.std.proofs.lemmas.List.{take_more, take_all}
use Rattle.std.proofs.lemmas.List.Elements.{All-push}
use Rattle.sheet_merge.specs.Sheet.{SheetRow}
use Rattle.sheet_merge.specs.Packed.{no_row}
use Rattle.sheet_merge.specs.Placed.{is_placed, LacksPlace}
use Rattle.sheet_merge.proofs.placing.check_placed.Goals as goal

pub loop-i-init : goal.loop-i-init
loop-i-init c = record { earlier = λ k d lt. absurd (omega arith) }

pub loop-i-preserved : goal.loop-i-preserved
loop-i-preserved c =
    let rows = c.args.rows.now in
    let i = c.loop-i.i in
    let lt : i < length rows = omega (arith, c.loop-i-test.true, c.len-i-end.ensures) in
    record {
      earlier = subst (All (λ (row : SheetRow). is_placed c.args.desk.now row.0 ≡ true)) (sym (take_more rows i no_row lt ∙ ap (λ (row : SheetRow). take i rows ++ row ∷ []) (sym c.get.ensures)))
          (All-push (λ (row : SheetRow). is_placed c.args.desk.now row.0 ≡ true) (take i rows) c.get.result c.loop-i.invariant.earlier c.in-None.ensures);
    }

pub returns-in-Some-clause-first : goal.returns-in-Some-clause-first
returns-in-Some-clause-first c = record {
  number = c.loop-i.i;
  within = omega (arith, c.loop-i-test.true, c.len-i-end.ensures);
  earlier = c.loop-i.invariant.earlier;
  lacks = subst (λ (row : SheetRow). LacksPlace c.args.desk.now row.0 c.in-Some.lack) c.get.ensures c.in-Some.ensures;
}

pub returns-clause-all : goal.returns-clause-all
returns-clause-all c =
    subst (All (λ (row : SheetRow). is_placed c.args.desk.now row.0 ≡ true)) (take_all c.loop-i.i c.args.rows.now (omega (arith, c.loop-i-test.false, c.len-i-end.ensures))) c.loop-i.invariant.earlier
