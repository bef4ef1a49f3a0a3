use Rattle.std.proofs.Common.{◌≡◌, map, take}
use Rattle.clap.specs.Words.{app_of}
use Rattle.command_line.specs.Parser.{option_rule, with_rules}
use Rattle.command_line.proofs.parser.with_options.Given as goal

abbrev pub invariant-loop-name : goal.invariant-loop-name
invariant-loop-name l = app_of l.built ≡ with_rules (app_of l.fn.command) (map option_rule (map (λ n. n.now) (take l.name-index l.names)))
