use Rattle.std.proofs.Common.{◌++◌, ◌∙◌, ap}
use Rattle.order_bundle.specs.Scoped.{scoped_text}
use Rattle.order_bundle.proofs.Either.{many_under}
use Rattle.order_bundle.proofs.writing.bundle_under.Goals as goal

pub returns-clause-text : goal.returns-clause-text
returns-clause-text c = c.in_ok-push_bundle.ensures ∙ ap (λ z. z ++ scoped_text (many_under c.args.depth c.args.bundle.now)) c.new-out.ensures.items
