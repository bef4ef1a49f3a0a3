-- The command of clap that reads the words of a command, made of what the command takes.
use Rattle.std.specs.Prelude.{List, [], ◌∷◌, ◌++◌, Some, true, map, codes, unwrap_or}
use Rattle.clap.specs.Words.{App, Row, Rule, Text, all_of, matches_of, new_app, new_rule}
use Rattle.clap.specs.declared.builder.action.ArgAction.TheVariants.{Append}
use Rattle.command_line.specs.Takes.{Takes, options}

-- an option by its long name, whose values are kept in the order of their uses
abbrev pub option_rule : Text → Rule
option_rule name = record (new_rule name) { long = Some name; action = Some Append }

-- the text that stands for a use of a flag
abbrev pub use_of_flag : Text
use_of_flag = codes "given"

-- a flag by its long name, which has no value: a text is kept for each use
abbrev pub flag_rule : Text → Rule
flag_rule name = record (option_rule name) { range = Some (record { start_inclusive = 0; end_inclusive = 0 }); missing = use_of_flag ∷ [] }

-- the words that belong to no option, in their order
abbrev pub other_rule : Text → Rule
other_rule name = record (new_rule name) { action = Some Append }

-- nothing stands before the words, and there are no help and version flags
abbrev pub bare_app : App
bare_app =
    let a = new_app (codes "desk") in
    record a { top = record a.top { no_binary_name = true; disable_help_flag = true; disable_version_flag = true } }

-- the command with more rules
abbrev pub with_rules : App → List Rule → App
with_rules a rules = record a { top = record a.top { rules = a.top.rules ++ rules } }

abbrev pub rules_for : Takes → List Rule
rules_for t = map option_rule (options t) ++ (map flag_rule t.flags ++ other_rule t.other ∷ [])

abbrev pub app_for : Takes → App
app_for t = with_rules bare_app (rules_for t)

-- the values of an entry, none where it is not there
abbrev pub values_in : Text → List Row → List Text
values_in id rows = unwrap_or (all_of id rows) []

-- the values that clap reads from words for a name
abbrev pub read_by : Takes → List Text → Text → List Text
read_by t words name = values_in name (matches_of (app_for t) words)
