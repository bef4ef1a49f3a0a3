use Rattle.std.proofs.Common.{ℕ, ◌<◌, ◌≤◌, length, get_or}
use Rattle.desk_model.specs.Book.{Book}
use Rattle.pair_table.proofs.topics.most_documents.Given as goal

abbrev pub invariant-loop-t : goal.invariant-loop-t
invariant-loop-t l = (t : ℕ) (d : Book) → t < l.t → length (get_or l.desk.topics t d).docs ≤ l.most
