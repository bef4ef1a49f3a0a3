use Rattle.std.proofs.Common.{◌≡◌, ◌∙◌, List, [], map, ap}
use Rattle.std.specs.Prelude.{Option, Some, None, option_map, unwrap_or}
use Rattle.std.specs.Option.{UnwrapsOrElse}
use Rattle.std.specs.Borrow.{Bor}
use Rattle.clap.specs.Words.{Text, found_of}
use Rattle.clap.proofs.WalkLemmas.{raw_values-rows}
use Rattle.command_line.proofs.given.Given.values.Goals as goal

by_entry : (r : Option (Bor (List (Bor Text)))) (s : Bor (List (Bor Text))) → UnwrapsOrElse r (λ x. x.now ≡ []) s → map (λ v. v.now) s.now ≡ unwrap_or (option_map (λ s. map (λ v. v.now) s.now) r) []
by_entry None s none = ap (map (λ v. v.now)) none
by_entry (Some x) s is = ap (λ (x : Bor (List (Bor Text))). map (λ v. v.now) x.now) is

pub returns : goal.returns
returns c = by_entry c.get_strs.result c.unwrap_or_default.result c.unwrap_or_default.ensures ∙ ap (λ o. unwrap_or o []) (c.get_strs.ensures ∙ raw_values-rows (found_of c.args.self.now.entries) c.args.name.now)
