-- How many bytes the documents of a certificate take in its text.
use Rattle.std.specs.Prelude.{ℕ, ◌+◌, List, length, sum_by}
use Rattle.order_certificate.specs.declared.certificate.Evidence.{Evidence}
use Rattle.order_certificate.specs.declared.certificate.Evidence.TheVariants.{Above, Equal, Open}
use Rattle.order_certificate.specs.declared.certificate.TopicWitness.{TopicWitness}

-- the lines of documents: each name, five bytes around it
abbrev pub document_bytes : List (List ℕ) → ℕ
document_bytes names = sum_by (λ name. length name + 5) names

-- those of all lists of evidence
abbrev pub listed_bytes : Evidence → ℕ
listed_bytes (Above bounds) = 0
listed_bytes (Equal bounds) = 0
listed_bytes (Open witnesses) = sum_by (λ (w : TopicWitness). document_bytes w.low + document_bytes w.high) witnesses
