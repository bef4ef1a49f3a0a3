use Rattle.std.proofs.Common.{rules}
use Rattle.desk_words.specs.Words.{all_verbs}
use Rattle.desk_words.proofs.Commands.{no_verb}
use Rattle.desk_words.proofs.read.verb_of.Goals as goal

pub returns-in_default : goal.returns-in_default
returns-in_default c = no_verb c.args.word.now all_verbs (search rules)
