use Rattle.table_bundle.proofs.Held.{bundle_by_name}
use Rattle.table_bundle.proofs.laws.bundles_are_of_names.Goals as goal

pub returns : goal.returns
returns c name cell bounds desk marks level b numbers is_desk known h = bundle_by_name name cell bounds desk marks level numbers is_desk known b h
