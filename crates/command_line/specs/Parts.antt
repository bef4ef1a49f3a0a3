-- Words in the user's own terms.
use Rattle.std.specs.Prelude.{◌≡◌, ◌==◌, ◌&&◌, Bool, false, nat_lt, List, [], ◌∷◌, ◌++◌, if◌then◌else◌, slice_index, length, Contains, codes, Option, Some, None}
use Rattle.std.specs.Str.{bytes_eq}
use Rattle.clap.specs.Words.{Text}
use Rattle.command_line.specs.Takes.{Takes, options}
use Rattle.command_line.specs.Parser.{use_of_flag}
use Rattle.command_line.specs.Given.{Values}

-- a part of a command line: an option and the next word, an option with its value after `=`, a flag, or a word alone
pub data Part : Type 0 where
  spaced : Text → Text → Part
  joined : Text → Text → Part
  flag : Text → Part
  alone : Text → Part

-- `--name`, or `--name=value`
abbrev pub long_word : Text → Option Text → Text
long_word name None = codes "--" ++ name
long_word name (Some value) = codes "--" ++ (name ++ 61 ∷ value)

-- the words of parts
abbrev pub line_of : List Part → List Text
line_of [] = []
line_of (spaced name value ∷ parts) = long_word name None ∷ value ∷ line_of parts
line_of (joined name value ∷ parts) = long_word name (Some value) ∷ line_of parts
line_of (flag name ∷ parts) = long_word name None ∷ line_of parts
line_of (alone word ∷ parts) = word ∷ line_of parts

-- a word that begins with `-` and is longer
abbrev pub is_dashed : Text → Bool
is_dashed word = slice_index word 0 == 45 && nat_lt 1 (length word)

-- each option and each flag is one that the command takes, and no next word or word alone is dashed
abbrev pub AreParts : Takes → List Part → Type 0
AreParts t [] = Unit {0}
AreParts t (spaced name value ∷ parts) = Contains (options t) name × (is_dashed value ≡ false) × AreParts t parts
AreParts t (joined name value ∷ parts) = Contains (options t) name × AreParts t parts
AreParts t (flag name ∷ parts) = Contains t.flags name × AreParts t parts
AreParts t (alone word ∷ parts) = (is_dashed word ≡ false) × AreParts t parts

-- the values that parts give an option, and the uses that they make of a flag, in their order
abbrev pub values_of : Text → List Part → List Text
values_of id [] = []
values_of id (spaced name value ∷ parts) = if bytes_eq name id then value ∷ values_of id parts else values_of id parts
values_of id (joined name value ∷ parts) = if bytes_eq name id then value ∷ values_of id parts else values_of id parts
values_of id (flag name ∷ parts) = if bytes_eq name id then use_of_flag ∷ values_of id parts else values_of id parts
values_of id (alone word ∷ parts) = values_of id parts

-- the words alone, in their order
abbrev pub words_alone : List Part → List Text
words_alone [] = []
words_alone (spaced name value ∷ parts) = words_alone parts
words_alone (joined name value ∷ parts) = words_alone parts
words_alone (flag name ∷ parts) = words_alone parts
words_alone (alone word ∷ parts) = word ∷ words_alone parts

-- the end of a command line, after the parts: nothing, or `--` and words of any form
abbrev pub end_of : Option (List Text) → List Text
end_of None = []
end_of (Some words) = codes "--" ∷ words

abbrev pub words_at_end : Option (List Text) → List Text
words_at_end None = []
words_at_end (Some words) = words

-- the words of a whole line
abbrev pub whole_line : List Part → Option (List Text) → List Text
whole_line parts end = line_of parts ++ end_of end

-- the words that belong to no option: the words alone, and the words after `--`
abbrev pub others_of : List Part → Option (List Text) → List Text
others_of parts end = words_alone parts ++ words_at_end end

-- what the parts of a line give to a command that takes this
abbrev pub given_by : Takes → List Part → Option (List Text) → Values
given_by t parts end name = if bytes_eq t.other name then others_of parts end else values_of name parts
