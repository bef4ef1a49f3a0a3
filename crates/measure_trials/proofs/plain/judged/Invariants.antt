use Rattle.std.proofs.Common.{◌≡◌, cond, map, take}
use Rattle.desk_model.specs.declared.types.Mark.TheVariants.{Relevant, Other}
use Rattle.measure_trials.proofs.plain.judged.Given as goal

abbrev pub invariant-loop-value : goal.invariant-loop-value
invariant-loop-value l = l.marks.items ≡ map (λ value. cond value Relevant Other) (take l.value-index l.values)
