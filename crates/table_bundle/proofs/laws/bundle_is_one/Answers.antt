use Rattle.measure_laws.proofs.Unique.{named_ends_unique}
use Rattle.measure_core.specs.Made.{HasEnds}
use Rattle.table_bundle.proofs.Single.{one_bundle, one_bundle_by_cells}
use Rattle.table_bundle.proofs.laws.bundle_is_one.Goals as goal

pub returns-clause-names : goal.returns-clause-names
returns-clause-names c name desk marks level a b h k = one_bundle (HasEnds name) (named_ends_unique name) name desk marks level a b h k

pub returns-clause-cells : goal.returns-clause-cells
returns-clause-cells c cell name desk marks level a b h k = one_bundle_by_cells cell name desk marks level a b h k
