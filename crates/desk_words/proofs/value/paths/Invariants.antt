use Rattle.std.proofs.Common.{◌≡◌, take, map}
use Rattle.desk_words.specs.Words.{HaveBytes}
use Rattle.desk_words.proofs.value.paths.Given as goal

abbrev pub invariant-loop-value : goal.invariant-loop-value
invariant-loop-value l = (map (λ v. v.now) (take l.value-index l.values) ≡ l.paths.items) × HaveBytes l.paths.items
