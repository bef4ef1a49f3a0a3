use Rattle.std.proofs.Common.{◌≡◌, [], ◌∷◌, rules}
use Rattle.call_trials.proofs.OneRanked.{one_ranked}
use Rattle.call_trials.proofs.ends.run_of.Goals as goal

pub new-requires : goal.new-requires
new-requires c =
    let items : c.in_ok-to_vec.field-0.items ≡ c.args.doc ∷ [] = search rules in one_ranked c.args.universe c.args.doc c.in_ok-to_vec.field-0.items items c.requires
