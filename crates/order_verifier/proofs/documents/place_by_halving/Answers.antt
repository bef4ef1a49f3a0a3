use Rattle.std.proofs.Common.{rules}
use Rattle.std.specs.Ordering.{nat_cmp}
use Rattle.std.proofs.lemmas.Fn.{always_returns_same}
use Rattle.order_verifier.specs.Rows.{number_of_pick}
use Rattle.order_verifier.proofs.documents.place_by_halving.Goals as goal

pub returns-clause-place : goal.returns-clause-place
returns-clause-place c =
    c.binary_search_by.ensures.position (λ k. nat_cmp (number_of_pick c.args.book.now.docs c.args.numbers.now k) c.args.doc) (always_returns_same _ _ _ (λ a r g called. search rules))
