use Rattle.std.proofs.Common.{List, [], sym, subst, ℕ}
use Rattle.sheet_merge.specs.Sheet.{SheetEntry}
use Rattle.sheet_merge.specs.Table.{IsTable}
use Rattle.sheet_merge.proofs.Gathering.{no_table}
use Rattle.sheet_merge.proofs.table.EntryTable.new.Goals as goal

pub invariant_of-result : goal.invariant_of-result
invariant_of-result c =
    subst (λ (names : List (List ℕ)). IsTable names c.new-2.result.items) (sym c.new.ensures) (subst (λ (entries : List SheetEntry). IsTable [] entries) (sym c.new-2.ensures.items) no_table)
