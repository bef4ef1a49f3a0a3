-- A run of which the rows of a topic are given back.
use Rattle.std.proofs.Common.{◌≡◌, ◌≤◌, ℕ, List, length, true, sym, subst, arith}
use Rattle.std.specs.Prelude.{All, map}
use Rattle.std.specs.List.{IsDistinct}
use Rattle.std.specs.Str.{bytes_eq}
use Rattle.desk_model.specs.Name.{is_name}
use Rattle.file_rows.specs.Grouped.{Valued, TopicRows, without_rows}
use Rattle.file_rows.proofs.Forgetting.{names_of-without_rows, all_without_rows}
use Rattle.run_reader.specs.declared.limits.TheConstants.{MOST_RANKS}
use Rattle.run_reader.specs.Run.{IsRun}

pub is_run-without_rows : (name : List ℕ) (topics : List TopicRows) → IsRun topics → IsRun (without_rows name topics)
unfolding IsDistinct
is_run-without_rows name topics right =
    let same = sym (names_of-without_rows name topics) in
    record {
      named = subst (All (λ n. is_name n ≡ true)) same right.named;
      distinct = subst (IsDistinct bytes_eq) same right.distinct;
      documents = all_without_rows (λ topic. All (λ (valued : Valued). is_name valued.document ≡ true) topic.rows) name topics (λ topic h k d lt. absurd (omega arith)) right.documents;
      distinct_documents = all_without_rows (λ topic. IsDistinct bytes_eq (map (λ (valued : Valued). valued.document) topic.rows)) name topics (λ topic h. tt) right.distinct_documents;
      depth = all_without_rows (λ topic. length topic.rows ≤ MOST_RANKS) name topics (λ topic h. omega arith) right.depth;
    }
