use Rattle.std.proofs.Common.{List, [], sym, subst, ℕ}
use Rattle.sheet_merge.specs.Packed.{ArePacked}
use Rattle.sheet_merge.specs.declared.written.Written.{Written}
use Rattle.sheet_merge.proofs.Unpacking.{none_packed}
use Rattle.sheet_merge.proofs.rows.SheetRows.new.Goals as goal

pub invariant_of-result : goal.invariant_of-result
invariant_of-result c =
    subst (λ (names : List (List ℕ)). ArePacked names c.new-2.result.items) (sym c.new.ensures) (subst (λ (written : List Written). ArePacked [] written) (sym c.new-2.ensures.items) none_packed)
