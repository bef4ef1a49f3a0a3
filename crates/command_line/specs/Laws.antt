-- What the parts of a command line give, whatever a command takes.
use Rattle.std.specs.Prelude.{◌≡◌, true, List, [], ◌∷◌, ◌++◌, ◌↔◌, ◌⊎◌, All, Contains, codes, Option, Some, None}
use Rattle.std.specs.Str.{IsUtf8}
use Rattle.clap.specs.Words.{Text}
use Rattle.command_line.specs.Takes.{Takes, options, is_long_name, IsSound}
use Rattle.command_line.specs.Given.{Values, Allows, AreGiven}
use Rattle.command_line.specs.Parts.{Part, AreParts, is_dashed, long_word, line_of, values_of, whole_line, given_by}

-- words give what their parts give, where that is what the command takes
abbrev pub WordsGiveWhatPartsGive : Type 0
WordsGiveWhatPartsGive = (t : Takes) (parts : List Part) (end : Option (List Text)) (values : Values) → IsSound t → AreParts t parts
    → (AreGiven t (whole_line parts end) values) ↔ ((values ≡ given_by t parts end) × Allows t values)

-- the words are refused: they give nothing
abbrev pub AreRefused : Takes → List Text → Type 0
AreRefused t words = (values : Values) → AreGiven t words values → ⊥

abbrev pub IsTaken : Takes → Text → Type 0
IsTaken t name = Contains (options t) name ⊎ Contains t.flags name

-- an option or a flag that is given twice
abbrev pub TwiceIsRefused : Type 0
TwiceIsRefused = (t : Takes) (name first second : Text) (more : List Text) (parts : List Part) (end : Option (List Text)) → IsSound t → AreParts t parts
    → IsTaken t name → values_of name parts ≡ first ∷ second ∷ more → AreRefused t (whole_line parts end)

-- an option with an empty value
abbrev pub EmptyIsRefused : Type 0
EmptyIsRefused = (t : Takes) (name : Text) (parts : List Part) (end : Option (List Text)) → IsSound t → AreParts t parts
    → Contains (options t) name → values_of name parts ≡ [] ∷ [] → AreRefused t (whole_line parts end)

-- a word that begins with `--`
abbrev pub BeginsWithDashes : Text → Type 0
BeginsWithDashes word = (rest : Text) × (word ≡ codes "--" ++ rest)

-- a text that begins with `-` and is longer
abbrev pub IsDashed : Text → Type 0
IsDashed word = (is_dashed word ≡ true) × IsUtf8 word

-- nothing stands there that can be the value of an option before: no word, one that begins with `--`, or a text that begins with `-` and
-- is longer
abbrev pub HaveNoValue : List Text → Type 0
HaveNoValue [] = Unit {0}
HaveNoValue (word ∷ rest) = BeginsWithDashes word ⊎ IsDashed word

-- an option with no value, whatever follows
abbrev pub MissingIsRefused : Type 0
MissingIsRefused = (t : Takes) (name : Text) (parts : List Part) (rest : List Text) → IsSound t → AreParts t parts
    → Contains (options t) name → HaveNoValue rest → AreRefused t (line_of parts ++ long_word name None ∷ rest)

-- a flag with a value, whatever follows
abbrev pub FlagWithValueIsRefused : Type 0
FlagWithValueIsRefused = (t : Takes) (name value : Text) (parts : List Part) (rest : List Text) → IsSound t → AreParts t parts
    → Contains t.flags name → AreRefused t (line_of parts ++ long_word name (Some value) ∷ rest)

-- a long name that the command does not take, alone or with a value, whatever follows
abbrev pub UnknownIsRefused : Type 0
UnknownIsRefused = (t : Takes) (name : Text) (value : Option Text) (parts : List Part) (rest : List Text) → IsSound t → AreParts t parts
    → is_long_name name ≡ true → (IsTaken t name → ⊥) → AreRefused t (line_of parts ++ long_word name value ∷ rest)

-- parts, and words after `--`, whose words these are
pub record AreWordsOf (t : Takes) (words : List Text) : Type 0 where
  pub parts : List Part
  pub end : Option (List Text)
  pub are_parts : AreParts t parts
  pub line : words ≡ whole_line parts end

-- texts that give something are the words of parts
abbrev pub EachLineIsOfParts : Type 0
EachLineIsOfParts = (t : Takes) (words : List Text) (values : Values) → IsSound t → All IsUtf8 words → AreGiven t words values → AreWordsOf t words
