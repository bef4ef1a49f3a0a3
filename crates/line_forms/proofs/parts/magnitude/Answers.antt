use Rattle.std.proofs.Common.{◌≡◌, arith, sym}
use Rattle.std.specs.Prelude.{Some, None, Option, ℕ, decimal, IfSome, IfNone, ◌<◌, ◌^◌, ◌≢◌, List}
use Rattle.desk_text.specs.Numbers.{plain_of}
use Rattle.desk_model.proofs.Decimals.{plain_some, plain_none}
use Rattle.line_forms.proofs.parts.magnitude.Goals as goal

some : (text : List ℕ) (r : Option ℕ) → r ≡ plain_of 9999999999999999999 text → IfSome r (λ n. text ≡ decimal n)
some text None e = tt
some text (Some n) e = (plain_some 9999999999999999999 n text (omega arith) (sym e)).0

small : (text : List ℕ) (r : Option ℕ) → r ≡ plain_of 9999999999999999999 text → IfSome r (λ n. n < 10 ^ 19)
small text None e = tt
small text (Some n) e = let le = (plain_some 9999999999999999999 n text (omega arith) (sym e)).1 in omega arith

none : (text : List ℕ) (r : Option ℕ) → r ≡ plain_of 9999999999999999999 text → IfNone r ((n : ℕ) → n < 10 ^ 19 → text ≢ decimal n)
none text None e = λ n lt is. plain_none 9999999999999999999 n text (omega arith) (sym e) (omega arith) is
none text (Some n) e = tt

pub returns-clause-some : goal.returns-clause-some
returns-clause-some c = some c.args.text.now c.plain.result c.plain.ensures

pub returns-clause-small : goal.returns-clause-small
returns-clause-small c = small c.args.text.now c.plain.result c.plain.ensures

pub returns-clause-none : goal.returns-clause-none
returns-clause-none c = none c.args.text.now c.plain.result c.plain.ensures
