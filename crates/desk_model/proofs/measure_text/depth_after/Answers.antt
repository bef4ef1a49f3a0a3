use Rattle.std.proofs.Common.{◌≡◌, ℕ, ◌++◌, ap, ◌∙◌, sym, arith, drop, length, decimal}
use Rattle.std.proofs.Math.Seq.{drop-append_seam}
use Rattle.std.proofs.lemmas.Fmt.{decimal_injective}
use Rattle.desk_model.proofs.Decimals.{plain_some, plain_none}
use Rattle.desk_model.proofs.measure_text.depth_after.Goals as goal

pub returns-in_err-depth-clause-none : goal.returns-in_err-depth-clause-none
returns-in_err-depth-clause-none c = rw c.from_residual-in_err-depth.ensures (λ (k : ℕ) depth e.
    let digits = c.in_ok-digits.digits.now in
    let prefix = c.args.prefix.now in
    let is : digits ≡ decimal k = sym (drop-append_seam prefix digits) ∙ ap (drop (length prefix)) (sym c.in_ok-digits.ensures.some ∙ e) ∙ drop-append_seam prefix (decimal k) in
    plain_none 10000 k digits (omega arith) (sym c.in_err-depth.ensures) depth.1 is)

pub returns-then-depth-eq0-clause-none : goal.returns-then-depth-eq0-clause-none
returns-then-depth-eq0-clause-none c k depth e =
    let digits = c.in_ok-digits.digits.now in
    let prefix = c.args.prefix.now in
    let is : digits ≡ decimal k = sym (drop-append_seam prefix digits) ∙ ap (drop (length prefix)) (sym c.in_ok-digits.ensures.some ∙ e) ∙ drop-append_seam prefix (decimal k) in
    let zero : digits ≡ decimal 0 = (plain_some 10000 c.in_ok-depth.depth digits (omega arith) (sym c.in_ok-depth.ensures)).0 ∙ ap decimal c.if-depth-eq0.true in
    let same = decimal_injective k 0 (omega arith) (omega arith) (sym is ∙ zero) in
    omega arith

pub returns-clause-some : goal.returns-clause-some
returns-clause-some c =
    let digits = c.in_ok-digits.digits.now in
    c.in_ok-digits.ensures.some ∙ ap (λ ds. c.args.prefix.now ++ ds) (plain_some 10000 c.in_ok-depth.depth digits (omega arith) (sym c.in_ok-depth.ensures)).0
