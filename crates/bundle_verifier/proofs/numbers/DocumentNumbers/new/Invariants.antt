use Rattle.std.proofs.Common.{◌≡◌, take}
use Rattle.order_verifier.specs.Rows.{numbers_of}
use Rattle.bundle_verifier.proofs.numbers.DocumentNumbers.new.Given as goal

abbrev pub invariant-loop-name : goal.invariant-loop-name
invariant-loop-name l = l.numbers.items ≡ numbers_of l.book.docs (take l.name-index l.names)
