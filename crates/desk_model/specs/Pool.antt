-- The pool of a depth.
use Rattle.std.specs.Prelude.{◌≡◌, ℕ, Bool, true, false, not, List, length, filter, slice_get}
use Rattle.std.specs.Option.{option_map_or}
use Rattle.std.specs.List.{range_with_len, count_by}
use Rattle.desk_model.specs.Book.{Book}
use Rattle.desk_model.specs.Desk.{Desk, is_pooled}
use Rattle.desk_model.specs.Mark.{is_unjudged, mark_at}
use Rattle.desk_model.specs.declared.types.Mark.{Mark}
use Rattle.desk_model.specs.declared.types.Mark.TheVariants.{Unjudged, Relevant, Other}
use Rattle.desk_model.specs.declared.pool.PoolCount.{PoolCount}

-- the documents of a topic
abbrev pub docs_of : Desk → ℕ → List ℕ
docs_of desk topic = range_with_len 0 (option_map_or (λ (book : Book). length book.docs) (slice_get desk.topics topic) 0)

-- the pool of a depth: the documents of a topic that some run ranks at the depth or before
abbrev pub pool_of : Desk → ℕ → ℕ → List ℕ
pool_of desk topic depth = filter (is_pooled desk topic depth) (docs_of desk topic)

abbrev pub is_relevant : Mark → Bool
is_relevant Relevant = true
is_relevant Other = false
is_relevant Unjudged = false

-- how many documents there are, and how many of them are judged, relevant and unjudged
pub record IsCountOf (docs : List ℕ) (marks : List Mark) (count : PoolCount) : Type 0 where
  pub size : count.size ≡ length docs
  pub judged : count.judged ≡ count_by (λ doc. not (is_unjudged (mark_at marks doc))) docs
  pub relevant : count.relevant ≡ count_by (λ doc. is_relevant (mark_at marks doc)) docs
  pub unjudged : count.unjudged ≡ count_by (λ doc. is_unjudged (mark_at marks doc)) docs
