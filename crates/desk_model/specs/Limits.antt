-- The limits that definitions speak of, and the unit of most measures.
use Rattle.std.specs.Prelude.{ℕ, ◌^◌}

-- the most topics of a desk
abbrev pub TOPIC_LIMIT : ℕ
TOPIC_LIMIT = 10000

-- the most runs of a desk
abbrev pub RUN_LIMIT : ℕ
RUN_LIMIT = 256

-- the most pairs of runs times topics
abbrev pub CELL_LIMIT : ℕ
CELL_LIMIT = 10000000

-- the most documents of a topic
abbrev pub DOCUMENT_LIMIT : ℕ
DOCUMENT_LIMIT = 25000000

-- the most documents that a run ranks on a topic
abbrev pub RANK_LIMIT : ℕ
RANK_LIMIT = 10000

-- the greatest k of a measure that looks at the first k documents
abbrev pub DEPTH_LIMIT : ℕ
DEPTH_LIMIT = 10000

-- the unit of every measure but precision: so many parts make a whole
abbrev pub PARTS_OF_ONE : ℕ
PARTS_OF_ONE = 10 ^ 18
