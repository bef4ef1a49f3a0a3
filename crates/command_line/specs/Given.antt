-- What words give to a command that takes this.
use Rattle.std.specs.Prelude.{◌≡◌, ◌<◌, ◌≤◌, ◌⊎◌, List, [], ◌∷◌, length}
use Rattle.std.specs.List.{All}
use Rattle.clap.specs.Words.{Text, fault_of, found_of, rows_of}
use Rattle.command_line.specs.Takes.{Takes}
use Rattle.command_line.specs.Parser.{app_for, read_by, values_in}
use Rattle.command_line.specs.declared.given.Given.{Given}

-- the values of each name, in their order: of an option its values, of a flag a text for each use, and of the name of the other words these words
abbrev pub Values : Type 0
Values = Text → List Text

-- the values that the program holds
abbrev pub values_held : Given → Values
values_held given name = values_in name (rows_of (found_of given.entries))

-- one value, which is not empty
abbrev pub IsOne : List Text → Type 0
IsOne values = (value : Text) × (values ≡ value ∷ []) × (0 < length value)

abbrev pub IsOneAtMost : List Text → Type 0
IsOneAtMost values = (values ≡ []) ⊎ IsOne values

-- each needed option has one value, no other option has two, no flag is used twice, no value is empty, and there are as many other words as the command takes
pub record Allows (t : Takes) (values : Values) : Type 0 where
  pub needed : All (λ name. IsOne (values name)) t.needed
  pub optional : All (λ name. IsOneAtMost (values name)) t.optional
  pub flags : All (λ name. IsOneAtMost (values name)) t.flags
  pub enough : t.least ≤ length (values t.other)
  pub few : length (values t.other) ≤ t.most

-- the words give these values: clap accepts the words and reads these values from them, and the values are what the command takes
pub record AreGiven (t : Takes) (words : List Text) (values : Values) : Type 0 where
  pub accepted : fault_of (app_for t) words ≡ []
  pub read : values ≡ read_by t words
  pub allowed : Allows t values
