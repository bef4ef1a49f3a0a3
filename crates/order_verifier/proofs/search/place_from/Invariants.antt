use Rattle.std.proofs.Common.{◌-◌, ◌≤◌, [], length}
use Rattle.desk_model.specs.Name.{name_cmp}
use Rattle.order_verifier.proofs.NearPlaces.{IsAfter, IsBefore}
use Rattle.order_verifier.proofs.search.place_from.Given as goal

-- all before one place come before the name, and all from the other on after it
abbrev pub invariant-loop-from : goal.invariant-loop-from
invariant-loop-from l = record {
  order : l.from ≤ l.to;
  within : l.to ≤ length l.names;
  after : IsAfter [] (λ each. name_cmp each l.name) l.names l.from;
  before : IsBefore [] (λ each. name_cmp each l.name) l.names l.to;
}

abbrev pub decreases-loop-from : goal.decreases-loop-from
decreases-loop-from l = l.to - l.from
