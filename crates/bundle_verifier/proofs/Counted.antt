-- How many lines the parts of a bundle have.
use Rattle.std.proofs.Common.{◌≡◌, ◌+◌, codes, length, arith, length-append}
use Rattle.std.proofs.lemmas.List.{length-map}
use Rattle.order_certificate.specs.Certificate.{document_line}
use Rattle.order_bundle.specs.Bundle.{list_lines, pick_line, picks_lines, topic_lines}
use Rattle.order_bundle.specs.declared.bundle.Picks.{Picks}
use Rattle.order_bundle.specs.declared.bundle.TopicNames.{TopicNames}

pub length-topic_lines : (t : TopicNames) → length (topic_lines t) ≡ length t.docs + 1
length-topic_lines t = omega (arith, length-map t.docs document_line)

pub length-picks_lines : (p : Picks) → length (picks_lines p) ≡ length p.low + length p.high + 2
length-picks_lines p =
    omega (
      arith,
      length-append (list_lines (codes "low ") p.low) (list_lines (codes "high ") p.high),
      length-map p.low pick_line,
      length-map p.high pick_line,
    )
