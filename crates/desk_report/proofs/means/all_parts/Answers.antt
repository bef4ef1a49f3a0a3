use Rattle.std.proofs.Common.{◌≡◌, rules}
use Rattle.std.specs.Prelude.{unsigned_abs}
use Rattle.desk_report.proofs.Numbers.{product_within}
use Rattle.desk_report.proofs.means.all_parts.Goals as goal

pub invariant_of-result-clause-some : goal.invariant_of-result-clause-some
invariant_of-result-clause-some c =
    let is : c.unsigned_abs.result ≡ unsigned_abs c.args.unit = search rules in
    rw is ((product_within c.args.unit c.args.topics c.requires.unit c.requires.unit_small c.requires.topics c.requires.topics_few).0)

pub invariant_of-result-clause-few : goal.invariant_of-result-clause-few
invariant_of-result-clause-few c =
    let is : c.unsigned_abs.result ≡ unsigned_abs c.args.unit = search rules in
    rw is ((product_within c.args.unit c.args.topics c.requires.unit c.requires.unit_small c.requires.topics c.requires.topics_few).1)
