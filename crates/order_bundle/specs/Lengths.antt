-- How long a text is, and what keeps it short enough to be counted.
use Rattle.std.specs.Prelude.{ℕ, ◌≤◌, List, All, length}
use Rattle.desk_model.specs.Limits.{DOCUMENT_LIMIT, TOPIC_LIMIT}
use Rattle.line_forms.specs.Form.{text_of}
use Rattle.order_bundle.specs.declared.bundle.PairClaim.{PairClaim}
use Rattle.order_bundle.specs.declared.bundle.PairEvidence.{PairEvidence}
use Rattle.order_bundle.specs.declared.bundle.PairEvidence.TheVariants.{Above, Equal, Open}
use Rattle.order_bundle.specs.declared.bundle.Picks.{Picks}
use Rattle.order_bundle.specs.declared.bundle.TopicNames.{TopicNames}

-- the bytes of lines with their line feeds
abbrev pub text_length : List (List ℕ) → ℕ
text_length lines = length (text_of lines)

-- no list picks more documents than a topic may have
abbrev pub AreFewLists : Picks → Type 0
AreFewLists p = (length p.low ≤ DOCUMENT_LIMIT) × (length p.high ≤ DOCUMENT_LIMIT)

-- evidence has no more rows than a desk may have topics
abbrev pub AreFewRows : PairEvidence → Type 0
AreFewRows (Above bounds) = length bounds ≤ TOPIC_LIMIT
AreFewRows (Equal bounds) = length bounds ≤ TOPIC_LIMIT
AreFewRows (Open picks) = (length picks ≤ TOPIC_LIMIT) × All AreFewLists picks

abbrev pub HasFewRows : PairClaim → Type 0
HasFewRows c = AreFewRows c.evidence

abbrev pub HasFewDocuments : TopicNames → Type 0
HasFewDocuments t = length t.docs ≤ DOCUMENT_LIMIT
