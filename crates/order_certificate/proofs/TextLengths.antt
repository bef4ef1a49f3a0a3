-- How long the text of a certificate can be.
use Rattle.std.proofs.Common.{◌≡◌, ℕ, ◌+◌, ◌*◌, ◌≤◌, List, [], ◌∷◌, ◌++◌, length, flat_map, map, refl, sym, true, arith, length-append}
use Rattle.std.specs.Prelude.{codes, decimal}
use Rattle.std.specs.Fmt.{signed_decimal}
use Rattle.std.specs.List.{AllByRecursion}
use Rattle.std.proofs.lemmas.List.{length-map}
use Rattle.std.proofs.lemmas.List.Elements.{recursion_from_All}
use Rattle.std.proofs.lemmas.List.Sums.{sum_by-cons}
use Rattle.desk_model.proofs.Words.{name_most}
use Rattle.desk_model.specs.MeasureText.{measure_text}
use Rattle.desk_model.specs.Name.{is_name}
use Rattle.line_forms.specs.Form.{ended, text_of}
use Rattle.line_forms.specs.Places.{IsShortNumber, count_line}
use Rattle.line_forms.proofs.Lengths.{decimal_most, name_and_text_short, signed_most}
use Rattle.order_certificate.specs.Certificate.{low_line, low_high_line, document_line, witness_lines, topics_line, evidence_lines, opening_lines, certificate_text, IsLowBound, IsLowHighBound, AreLists, IsWritable, IsCertificate}
use Rattle.order_certificate.specs.Lengths.{document_bytes, listed_bytes}
use Rattle.order_certificate.specs.declared.certificate.Certificate.{Certificate}
use Rattle.order_certificate.specs.declared.certificate.Evidence.{Evidence}
use Rattle.order_certificate.specs.declared.certificate.Evidence.TheVariants.{Above, Equal, Open}
use Rattle.order_certificate.specs.declared.certificate.TopicBound.{TopicBound}
use Rattle.order_certificate.specs.declared.certificate.TopicWitness.{TopicWitness}
use Rattle.order_certificate.proofs.Measures.{measure_most}

-- the bytes of lines with their line feeds
abbrev line_bytes : List (List ℕ) → ℕ
line_bytes lines = length (text_of lines)

bytes-cons : (l : List ℕ) (ls : List (List ℕ)) → line_bytes (l ∷ ls) ≡ length l + 1 + line_bytes ls
bytes-cons l ls = omega (arith, length-append (ended l) (text_of ls), length-append l (10 ∷ []))

bytes-append : (ls ms : List (List ℕ)) → line_bytes (ls ++ ms) ≡ line_bytes ls + line_bytes ms
bytes-append [] ms = omega arith
bytes-append (l ∷ ls) ms = omega (arith, bytes-cons l (ls ++ ms), bytes-cons l ls, bytes-append ls ms)

docs-bytes : (names : List (List ℕ)) → line_bytes (map document_line names) ≡ document_bytes names
docs-bytes [] = refl
docs-bytes (n ∷ names) =
    omega (arith, bytes-cons (document_line n) (map document_line names), length-append (codes "doc ") n, docs-bytes names, sum_by-cons (λ (name : List ℕ). length name + 5) n names)

-- ---- topic by topic
abbrev AreNamed : List (List ℕ) → Type 0
AreNamed names = AllByRecursion (λ name. is_name name ≡ true) names

low_most : (b : TopicBound) → is_name b.topic ≡ true → IsShortNumber b.low → length (low_line b) ≤ 282
low_most b named low =
    let line = name_and_text_short b.topic (signed_decimal b.low) named (signed_most b.low low) in
    omega (arith, length-append (codes "topic ") (b.topic ++ 32 ∷ signed_decimal b.low), line)

lows_most : (bs : List TopicBound) → AreNamed (map (λ (b : TopicBound). b.topic) bs) → AllByRecursion IsLowBound bs → line_bytes (map low_line bs) ≤ length bs * 305
lows_most [] names fits = omega arith
lows_most (b ∷ bs) names fits =
    let here = low_most b names.0 fits.0.0 in
    let more = lows_most bs names.1 fits.1 in
    omega (arith, bytes-cons (low_line b) (map low_line bs), here, more)

lows_and_highs_most : (bs : List TopicBound) → AreNamed (map (λ (b : TopicBound). b.topic) bs) → AllByRecursion IsLowHighBound bs → line_bytes (map low_high_line bs) ≤ length bs * 305
lows_and_highs_most [] names fits = omega arith
lows_and_highs_most (b ∷ bs) names fits =
    let low = low_most b names.0 fits.0.0 in
    let high = signed_most b.high fits.0.1 in
    let more = lows_and_highs_most bs names.1 fits.1 in
    omega (arith, bytes-cons (low_high_line b) (map low_high_line bs), length-append (low_line b) (32 ∷ signed_decimal b.high), low, high, more)

-- a word, a topic and a count
count_most : (word topic : List ℕ) (n : ℕ) → length word ≤ 5 → is_name topic ≡ true → n ≤ 25000000 → length (count_line word topic n) ≤ 280
count_most word topic n few named le =
    let name = name_most topic named in
    let digits = decimal_most n (omega arith) in
    omega (arith, length-append (word ++ topic) (32 ∷ decimal n), length-append word topic, few, name, digits)

lists_most : (ws : List TopicWitness) → AreNamed (map (λ (w : TopicWitness). w.topic) ws) → AllByRecursion AreLists ws → line_bytes (flat_map witness_lines ws) ≤ length ws * 562 + listed_bytes (Open ws)
lists_most [] names fits = omega arith
lists_most (w ∷ ws) names fits =
    let low = count_line (codes "low ") w.topic (length w.low) in
    let high = count_line (codes "high ") w.topic (length w.high) in
    let lows = map document_line w.low in
    let highs = map document_line w.high in
    let both = bytes-append (low ∷ lows) (high ∷ highs) in
    let few = count_most (codes "low ") w.topic (length w.low) (omega arith) names.0 fits.0.0.count in
    let few' = count_most (codes "high ") w.topic (length w.high) (omega arith) names.0 fits.0.1.count in
    let more = lists_most ws names.1 fits.1 in
    let sum = sum_by-cons (λ (v : TopicWitness). document_bytes v.low + document_bytes v.high) w ws in
    omega (arith, bytes-append (witness_lines w) (flat_map witness_lines ws), both, bytes-cons low lows, bytes-cons high highs, docs-bytes w.low, docs-bytes w.high, few, few', more, sum)

-- ---- the whole text
topics_most : (n : ℕ) → n ≤ 10000 → length (topics_line n) ≤ 26
topics_most n le = let digits = decimal_most n (omega arith) in omega (arith, length-append (codes "topics ") (decimal n), digits)

evidence_most : (e : Evidence) → IsWritable e → line_bytes (evidence_lines e) ≤ 5700000 + listed_bytes e
evidence_most (Above bounds) h =
    let count : length bounds ≤ 10000 = omega (arith, sym (length-map bounds (λ (b : TopicBound). b.topic)), h.0.count) in
    let rows = lows_most bounds (recursion_from_All (λ name. is_name name ≡ true) (map (λ (b : TopicBound). b.topic) bounds) h.0.ascending.named) (recursion_from_All IsLowBound bounds h.1) in
    let number = topics_most (length bounds) count in
    omega (arith, bytes-cons (codes "claim above") (topics_line (length bounds) ∷ map low_line bounds), bytes-cons (topics_line (length bounds)) (map low_line bounds), rows, number, count)
evidence_most (Equal bounds) h =
    let count : length bounds ≤ 10000 = omega (arith, sym (length-map bounds (λ (b : TopicBound). b.topic)), h.0.count) in
    let rows = lows_and_highs_most bounds (recursion_from_All (λ name. is_name name ≡ true) (map (λ (b : TopicBound). b.topic) bounds) h.0.ascending.named) (recursion_from_All IsLowHighBound bounds h.1) in
    let number = topics_most (length bounds) count in
    omega (arith, bytes-cons (codes "claim equal") (topics_line (length bounds) ∷ map low_high_line bounds), bytes-cons (topics_line (length bounds)) (map low_high_line bounds), rows, number, count)
evidence_most (Open ws) h =
    let count : length ws ≤ 10000 = omega (arith, sym (length-map ws (λ (w : TopicWitness). w.topic)), h.0.count) in
    let rows = lists_most ws (recursion_from_All (λ name. is_name name ≡ true) (map (λ (w : TopicWitness). w.topic) ws) h.0.ascending.named) (recursion_from_All AreLists ws h.1) in
    let number = topics_most (length ws) count in
    omega (arith, bytes-cons (codes "claim open") (topics_line (length ws) ∷ flat_map witness_lines ws), bytes-cons (topics_line (length ws)) (flat_map witness_lines ws), rows, number, count)

pub text_most : (c : Certificate) → IsCertificate c → length (certificate_text c) ≤ 6000000 + listed_bytes c.evidence
unfolding certificate_text
text_most c h =
    let measure = codes "measure " ++ measure_text c.measure in
    let level = codes "level " ++ decimal c.level in
    let first = codes "first " ++ c.first in
    let second = codes "second " ++ c.second in
    let evidence = evidence_lines c.evidence in
    let opening : line_bytes (opening_lines c.measure c.level) ≤ 200 =
    (let m = measure_most c.measure h.measure in
    let digits = decimal_most c.level (let few = h.level.1 in omega arith) in
    omega (arith, bytes-cons (codes "desk-certificate 1") (measure ∷ level ∷ []), bytes-cons measure (level ∷ []), bytes-cons level [], length-append (codes "measure ") (measure_text c.measure), length-append (codes "level ") (decimal c.level), m, digits)) in
    let runs : line_bytes (first ∷ second ∷ evidence) ≤ 700 + line_bytes evidence =
    (let one = name_most c.first h.first in
    let two = name_most c.second h.second in
    omega (arith, bytes-cons first (second ∷ evidence), bytes-cons second evidence, length-append (codes "first ") c.first, length-append (codes "second ") c.second, one, two)) in
    let rows = evidence_most c.evidence h.evidence in
    let end = bytes-cons (codes "end") [] in
    omega (
      arith,
      bytes-append (opening_lines c.measure c.level ++ (first ∷ second ∷ evidence)) (codes "end" ∷ []),
      bytes-append (opening_lines c.measure c.level) (first ∷ second ∷ evidence),
      opening,
      runs,
      rows,
      end,
    )
