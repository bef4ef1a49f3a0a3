use Rattle.std.proofs.Common.{List, length, map, ap, sym, ◌∙◌, arith}
use Rattle.std.proofs.lemmas.List.{with_items_is}
use Rattle.desk_model.specs.Verdict.{verdict}
use Rattle.desk_model.specs.declared.types.Verdict.{Verdict}
use Rattle.pair_table.proofs.table_sums.TableSums.of_sums.Goals as goal

pub fill_verdicts-requires : goal.fill_verdicts-requires
fill_verdicts-requires g c = ap length c.deref_mut.ensures.value ∙ c.requires.room ∙ sym (ap length c.totals.ensures)

pub invariant_of-result : goal.invariant_of-result
invariant_of-result g c =
    let verdicts : List Verdict = c.fill_verdicts.new.verdicts in
    record {
      sums = c.requires.sums;
      each_verdict = with_items_is c.args.room verdicts (omega (arith, c.fill_verdicts.auto.verdicts, ap length c.deref_mut.ensures.value, c.args.room.ok.0)) ∙ c.fill_verdicts.ensures ∙ ap (map verdict) c.totals.ensures;
    }
