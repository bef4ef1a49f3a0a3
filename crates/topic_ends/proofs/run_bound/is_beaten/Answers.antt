use Rattle.std.proofs.Common.{◌≡◌, ℕ, ◌+◌, ◌*◌, ◌≤◌, arith, subst}
use Rattle.std.proofs.lemmas.Bool.{leb-true}
use Rattle.topic_ends.proofs.RoundedParts.{beaten_high, beaten_low}
use Rattle.topic_ends.proofs.run_bound.is_beaten.Goals as goal

pub returns-then-high : goal.returns-then-high
returns-then-high c sum near test =
    let d : c.from-documents.result ≡ c.args.estimate.documents = c.from-documents.ensures in
    let within = leb-true (c.args.estimate.sum + c.args.estimate.slack) (c.args.best * c.from-documents.result) test in
    beaten_high c.args.high sum c.args.estimate.sum c.args.estimate.slack c.args.estimate.documents c.args.best c.if-high.true (omega (arith, d, c.if-documents-eq0.false)) near
    (subst (λ (n : ℕ). c.args.estimate.sum + c.args.estimate.slack ≤ c.args.best * n) d within)

pub returns-else-high : goal.returns-else-high
returns-else-high c sum near test =
    let d : c.from-documents.result ≡ c.args.estimate.documents = c.from-documents.ensures in
    let within = leb-true (c.args.best * c.from-documents.result + c.args.estimate.slack) c.args.estimate.sum test in
    beaten_low c.args.high sum c.args.estimate.sum c.args.estimate.slack c.args.estimate.documents c.args.best c.if-high.false (omega (arith, d, c.if-documents-eq0.false)) near
    (subst (λ (n : ℕ). c.args.best * n + c.args.estimate.slack ≤ c.args.estimate.sum) d within)
