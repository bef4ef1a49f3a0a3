-- What parts of a command line say.
use Rattle.std.specs.Prelude.{◌≡◌, true, List, [], ◌∷◌, ◌++◌, ◌↔◌, All, Contains, codes, Option, Some, None}
use Rattle.std.specs.Str.{IsUtf8}
use Rattle.clap.specs.Words.{Text}
use Rattle.command_line.specs.Takes.{options, is_long_name}
use Rattle.command_line.specs.Given.{Allows}
use Rattle.command_line.specs.Parts.{Part, AreParts, given_by, line_of, long_word, others_of, values_of, whole_line}
use Rattle.command_line.specs.Laws.{HaveNoValue, IsTaken}
use Rattle.desk_words.specs.Words.{IsCommandOf, IsSaid, takes, verb_of}
use Rattle.desk_words.specs.declared.read.Verb.{Verb}
use Rattle.desk_words.specs.declared.command.Command.{Command}

-- a command of the verb, by the values of its options, its flags and the other words
pub record PartsSay (v : Verb) (parts : List Part) (end : Option (List Text)) (command : Command) : Type 0 where
  pub allowed : Allows (takes v) (given_by (takes v) parts end)
  pub said : IsSaid v (given_by (takes v) parts end) command

-- the command that parts say is the command of their words
abbrev pub PartsSayTheCommand : Type 0
PartsSayTheCommand = (word : Text) (v : Verb) (parts : List Part) (end : Option (List Text)) (command : Command)
    → verb_of word ≡ Some v → AreParts (takes v) parts → (IsCommandOf (word ∷ whole_line parts end) command) ↔ (PartsSay v parts end command)

-- parts with the same values for each name, in any order and with `=` or without, and with the same other words are of the same commands
abbrev pub OrderIsFree : Type 0
OrderIsFree = (word : Text) (v : Verb) (parts others : List Part) (end other_end : Option (List Text)) (command : Command)
    → verb_of word ≡ Some v → AreParts (takes v) parts → AreParts (takes v) others
    → ((name : Text) → values_of name parts ≡ values_of name others) → others_of parts end ≡ others_of others other_end
    → IsCommandOf (word ∷ whole_line parts end) command → IsCommandOf (word ∷ whole_line others other_end) command

-- the words are usage: they are of no command
abbrev pub AreUsage : List Text → Type 0
AreUsage words = (command : Command) → IsCommandOf words command → ⊥

-- an option or a flag that is given twice is usage
abbrev pub TwiceIsUsage : Type 0
TwiceIsUsage = (word name first second : Text) (v : Verb) (more : List Text) (parts : List Part) (end : Option (List Text))
    → verb_of word ≡ Some v → AreParts (takes v) parts → IsTaken (takes v) name → values_of name parts ≡ first ∷ second ∷ more → AreUsage (word ∷ whole_line parts end)

-- an option with an empty value is usage
abbrev pub EmptyIsUsage : Type 0
EmptyIsUsage = (word name : Text) (v : Verb) (parts : List Part) (end : Option (List Text))
    → verb_of word ≡ Some v → AreParts (takes v) parts → Contains (options (takes v)) name → values_of name parts ≡ [] ∷ [] → AreUsage (word ∷ whole_line parts end)

-- an option with no value is usage, whatever follows
abbrev pub MissingIsUsage : Type 0
MissingIsUsage = (word name : Text) (v : Verb) (parts : List Part) (rest : List Text)
    → verb_of word ≡ Some v → AreParts (takes v) parts → Contains (options (takes v)) name → HaveNoValue rest → AreUsage (word ∷ (line_of parts ++ long_word name None ∷ rest))

-- a flag with a value is usage, whatever follows
abbrev pub FlagWithValueIsUsage : Type 0
FlagWithValueIsUsage = (word name value : Text) (v : Verb) (parts : List Part) (rest : List Text)
    → verb_of word ≡ Some v → AreParts (takes v) parts → Contains (takes v).flags name → AreUsage (word ∷ (line_of parts ++ long_word name (Some value) ∷ rest))

-- a long name that the command does not take is usage, alone or with a value, whatever follows
abbrev pub UnknownIsUsage : Type 0
UnknownIsUsage = (word name : Text) (v : Verb) (value : Option Text) (parts : List Part) (rest : List Text)
    → verb_of word ≡ Some v → AreParts (takes v) parts → is_long_name name ≡ true → (IsTaken (takes v) name → ⊥) → AreUsage (word ∷ (line_of parts ++ long_word name value ∷ rest))

-- `--help` and `--version` after parts are usage, whatever follows
abbrev pub HelpIsUsage : Type 0
HelpIsUsage = (word : Text) (v : Verb) (parts : List Part) (rest : List Text) → verb_of word ≡ Some v → AreParts (takes v) parts
    → AreUsage (word ∷ (line_of parts ++ codes "--help" ∷ rest)) × AreUsage (word ∷ (line_of parts ++ codes "--version" ∷ rest))

-- a verb's word, parts that its command takes, and an end, whose words these are and which say the command
pub record IsLineOfParts (words : List Text) (command : Command) : Type 0 where
  pub word : Text
  pub verb : Verb
  pub parts : List Part
  pub end : Option (List Text)
  pub of_verb : verb_of word ≡ Some verb
  pub are_parts : AreParts (takes verb) parts
  pub line : words ≡ word ∷ whole_line parts end
  pub says : PartsSay verb parts end command

-- texts that are of a command are the words of parts that say it, so all others are usage
abbrev pub EachLineIsOfParts : Type 0
EachLineIsOfParts = (words : List Text) (command : Command) → All IsUtf8 words → IsCommandOf words command → IsLineOfParts words command

-- words are of one command at most
abbrev pub CommandIsUnique : Type 0
CommandIsUnique = (words : List Text) (first second : Command) → IsCommandOf words first → IsCommandOf words second → first ≡ second
