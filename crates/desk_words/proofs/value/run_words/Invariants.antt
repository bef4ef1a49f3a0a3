use Rattle.std.proofs.Common.{◌≡◌, take, map}
use Rattle.std.specs.Prelude.{Some}
use Rattle.desk_words.specs.Words.{run_word_of}
use Rattle.desk_words.proofs.value.run_words.Given as goal

abbrev pub invariant-loop-value : goal.invariant-loop-value
invariant-loop-value l = map run_word_of (map (λ v. v.now) (take l.value-index l.values)) ≡ map Some l.words.items
