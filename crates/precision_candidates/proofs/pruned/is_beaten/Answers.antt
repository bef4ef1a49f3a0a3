use Rattle.std.proofs.Common.{◌≡◌, ℕ, ◌+◌, ◌*◌, ◌<◌, ◌≤◌, Bool, true, false, arith, subst}
use Rattle.precision_candidates.specs.Side.{out_of}
use Rattle.precision_candidates.specs.Walk.{IsNear, Loses}
use Rattle.precision_candidates.specs.declared.choice.Choice.{Choice}
use Rattle.precision_candidates.proofs.Beaten.{beaten_high, beaten_low, strict_is}
use Rattle.std.proofs.lemmas.Bool.{leb-true}
use Rattle.precision_candidates.proofs.pruned.is_beaten.Goals as goal

high_case : (high : Bool) (sum e k d count strict : ℕ) (best : Choice) → high ≡ true → 0 < d → IsNear high sum e k → e + k + strict * d ≤ best.value * d → (count < best.count → strict ≡ 1) → Loses high (out_of high sum d) count best
high_case false sum e k d count strict best f p h l s = absurd (cc)
high_case true sum e k d count strict best f p h l s = let both = beaten_high sum e k d best.value strict p h l in (both.0, λ lt. both.1 (s lt))

low_case : (high : Bool) (sum e k d count strict : ℕ) (best : Choice) → high ≡ false → 0 < d → IsNear high sum e k → (best.value + strict) * d + k ≤ e → (best.count < count → strict ≡ 1) → Loses high (out_of high sum d) count best
low_case true sum e k d count strict best f p h l s = absurd (cc)
low_case false sum e k d count strict best f p h l s = let both = beaten_low sum e k d best.value strict p h l in (both.0, λ lt. both.1 (s lt))

pub returns-then-high : goal.returns-then-high
returns-then-high c sum near test =
    let d : c.from-documents.result ≡ c.args.estimate.documents = c.from-documents.ensures in
    let within = leb-true (c.args.estimate.sum + c.args.estimate.slack + c.from-strict.result * c.from-documents.result) (c.args.best.value * c.from-documents.result) test in
    high_case c.args.high sum c.args.estimate.sum c.args.estimate.slack c.args.estimate.documents c.args.count c.from-strict.result c.args.best c.if-high.true (omega (arith, d, c.if-documents-eq0.false)) near
    (subst (λ (n : ℕ). c.args.estimate.sum + c.args.estimate.slack + c.from-strict.result * n ≤ c.args.best.value * n) d within)
    (strict_is c.from-strict.result c.args.count c.args.best.count c.from-strict.ensures)

pub returns-else-high : goal.returns-else-high
returns-else-high c sum near test =
    let d : c.from-documents.result ≡ c.args.estimate.documents = c.from-documents.ensures in
    let within = leb-true ((c.args.best.value + c.from-strict-else-high.result) * c.from-documents.result + c.args.estimate.slack) c.args.estimate.sum test in
    low_case c.args.high sum c.args.estimate.sum c.args.estimate.slack c.args.estimate.documents c.args.count c.from-strict-else-high.result c.args.best c.if-high.false (omega (arith, d, c.if-documents-eq0.false)) near
    (subst (λ (n : ℕ). (c.args.best.value + c.from-strict-else-high.result) * n + c.args.estimate.slack ≤ c.args.estimate.sum) d within)
    (strict_is c.from-strict-else-high.result c.args.best.count c.args.count c.from-strict-else-high.ensures)
