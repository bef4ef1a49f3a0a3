use Rattle.std.proofs.Common.{◌≡◌, ◌≢◌, ℕ, ◌+◌, ◌^◌, ◌<◌, ◌≤◌, ◌∷◌, length, get_or, ap, ◌∙◌, sym, arith, rules, to_z, of_z, w64, decimal}
use Rattle.std.specs.Prelude.{pos, Some, None}
use Rattle.std.proofs.Math.IntN.{nat_abs}
use Rattle.std.proofs.lemmas.Int.{to_z-of_z}
use Rattle.std.proofs.lemmas.Bool.{eqb-true}
use Rattle.desk_model.proofs.Decimals.{below_power, to_digits, from_digits, not_plus, empty_first, whole_is, whole_some, pow_small}
use Rattle.desk_model.proofs.measure_text.top_of.Goals as goal
use Rattle.desk_model.proofs.measure_text.top_of.Goals.{else-not-is_empty-via-then-not-is_empty+else-decimals-eq43, else-not-is_empty-via-else-not-is_empty}

pub returns-then-decimals-eq43-clause-none : goal.returns-then-decimals-eq43-clause-none
returns-then-decimals-eq43-clause-none c t some less few e = not_plus c.args.decimals.now (to_digits c.args.decimals.now t less few e).0 (omega arith)

pub returns-in_err-top-clause-none : goal.returns-in_err-top-clause-none
returns-in_err-top-clause-none c = rw c.from_residual.ensures (λ (t : ℕ) some less few e.
    let ds = c.args.decimals.now in
    let is = to_digits ds t less few e in
    let small = pow_small (length ds) few in
    let no : None ≡ Some (pos t) = c.in_err-top.ensures ∙ whole_is ds t is.0 is.1 some (omega arith) in
    cc)

cast : (n : ℕ) → n < 2 ^ 63 → nat_abs (to_z w64 (of_z w64 (pos n))) ≡ n
cast n small = ap nat_abs (to_z-of_z w64 (pos n) (search rules))

pub returns-clause-some : goal.returns-clause-some
returns-clause-some c =
    let ds = c.args.decimals.now in
    let no_plus : get_or ds 0 0 ≢ 43 = elim c.else-not-is_empty.branch [
      | else-not-is_empty-via-then-not-is_empty+else-decimals-eq43 w ↦ λ e. w.if-decimals-eq43.false e
      | else-not-is_empty-via-else-not-is_empty w ↦ empty_first ds (eqb-true (length ds) 0 (sym c.is_empty.ensures ∙ w.if-not-is_empty.false))
    ] in
    let read = whole_some ds c.in_ok-top.top (sym c.in_ok-top.ensures) no_plus in
    let few : length ds ≤ 6 = omega arith in
    let small = pow_small (length ds) few in
    let written = from_digits ds read.digits few in
    let below : read.number < 10 ^ length ds = let less = below_power ds read.digits in omega (arith, read.value) in
    let number : nat_abs (to_z w64 (of_z w64 c.in_ok-top.top)) ≡ read.number = ap (λ z. nat_abs (to_z w64 (of_z w64 z))) read.is ∙ cast read.number (omega arith) in
    let whole : decimal (10 ^ length ds + nat_abs (to_z w64 (of_z w64 c.in_ok-top.top))) ≡ 49 ∷ ds = ap (λ n. decimal (10 ^ length ds + n)) (number ∙ sym read.value) ∙ written in
    (rw number read.some, rw number below, whole)
