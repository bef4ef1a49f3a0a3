use Rattle.std.proofs.Common.{◌≡◌, ℕ, ◌^◌, ◌<◌, ◌∙◌, sym, subst, arith, length, get_or, decimal}
use Rattle.std.proofs.lemmas.Fmt.{parse-decimal, IsAscii-decimal, decimal_injective}
use Rattle.std.proofs.lemmas.Bool.{eqb-true, eqb-false}
use Rattle.std.proofs.lemmas.Str.{IsUtf8-from_ascii}
use Rattle.std.specs.Prelude.{Ok}
use Rattle.std.specs.Str.{IsUtf8}
use Rattle.std.specs.Str.Parse.{ParsesUnsigned}
use Rattle.desk_text.proofs.Digits.{not_empty, not_signed, not_padded, read}
use Rattle.desk_text.proofs.number.digits.Goals as goal
use Rattle.desk_text.proofs.number.digits.Goals.{else-text-gt1-via-then-text-gt1+else-text-eq48, else-text-gt1-via-else-text-gt1}

pub returns-then-is_empty-clause-none : goal.returns-then-is_empty-clause-none
returns-then-is_empty-clause-none c n le e = not_empty c.args.text.now n (omega arith) (eqb-true (length c.args.text.now) 0 (sym c.is_empty.ensures ∙ c.if-is_empty.true)) e

pub returns-then-text-eq43-clause-none : goal.returns-then-text-eq43-clause-none
returns-then-text-eq43-clause-none c n le e = not_signed c.args.text.now n (omega arith) (omega arith) e

pub returns-then-text-eq48-clause-none : goal.returns-then-text-eq48-clause-none
returns-then-text-eq48-clause-none c n le e = not_padded c.args.text.now n (omega arith) (omega arith) (omega arith) e

pub returns-in_default-clause-none : goal.returns-in_default-clause-none
returns-in_default-clause-none c n le e =
    c.in_default.ensures.cases.0 (subst IsUtf8 (sym e) (IsUtf8-from_ascii (decimal n) (IsAscii-decimal n (omega arith))))

pub returns-in_default-parse-clause-none : goal.returns-in_default-parse-clause-none
returns-in_default-parse-clause-none c n le e =
    let small : n < 2 ^ 64 = omega arith in
    c.in_default-parse.not-Ok n (parse-decimal 64 n c.in-Ok.text.now c.parse.result small small (c.in-Ok.ensures.cases.0 ∙ e) c.parse.ensures.value.0)

pub returns-then-number-most-clause-some : goal.returns-then-number-most-clause-some
returns-then-number-most-clause-some c =
    let text = c.args.text.now in
    let filled = eqb-false (length text) 0 (sym c.is_empty.ensures ∙ c.if-is_empty.false) in
    let padded : get_or text 0 0 ≡ 48 → length text ≡ 1 = λ z. elim c.else-text-gt1.branch [
      | else-text-gt1-via-then-text-gt1+else-text-eq48 w ↦ omega arith
      | else-text-gt1-via-else-text-gt1 w ↦ omega arith
    ] in
    read ℕ text c.in-Ok-parse.number (subst (λ t. ParsesUnsigned {E = ℕ} 64 10 t (Ok c.in-Ok-parse.number)) c.in-Ok.ensures.cases.0 c.in-Ok-parse.ensures.value.0) (λ z. omega arith) padded

pub returns-else-number-most-clause-none : goal.returns-else-number-most-clause-none
returns-else-number-most-clause-none c n le e =
    let text = c.args.text.now in
    let filled = eqb-false (length text) 0 (sym c.is_empty.ensures ∙ c.if-is_empty.false) in
    let padded : get_or text 0 0 ≡ 48 → length text ≡ 1 = λ z. elim c.else-text-gt1.branch [
      | else-text-gt1-via-then-text-gt1+else-text-eq48 w ↦ omega arith
      | else-text-gt1-via-else-text-gt1 w ↦ omega arith
    ] in
    let is = read ℕ text c.in-Ok-parse.number (subst (λ t. ParsesUnsigned {E = ℕ} 64 10 t (Ok c.in-Ok-parse.number)) c.in-Ok.ensures.cases.0 c.in-Ok-parse.ensures.value.0) (λ z. omega arith) padded in
    let same : n ≡ c.in-Ok-parse.number = decimal_injective n c.in-Ok-parse.number (omega arith) (omega arith) (sym e ∙ is) in
    omega arith
