use Rattle.std.proofs.Common.{sym, get_or, rules}
use Rattle.std.specs.Prelude.{option_map}
use Rattle.desk_text.specs.Stops.{IsSpaced}
use Rattle.desk_text.proofs.FieldBits.{other_is_good}
use Rattle.desk_text.proofs.FieldBytes.{none_bad}
use Rattle.desk_text.proofs.field.fields.Goals as goal

pub returns-then-is_spaced-clause-bad : goal.returns-then-is_spaced-clause-bad
returns-then-is_spaced-clause-bad c =
    let line = c.args.line.now in
    let spaced : IsSpaced line = c.is_spaced.ensures.0 (search rules) in
    let none = none_bad line (λ i lt. other_is_good (get_or line i 0) (spaced.each i lt)) in
    λ i. option_map (λ at. record { at = at }) (sym none i)
