-- The kinds of rows of a certificate.
use Rattle.std.proofs.Common.{◌≡◌, ℕ, ◌<◌, ◌^◌, List, [], ◌∷◌, ◌++◌, length, refl, ap, sym, subst, ◌∙◌, true, arith, rules, append_assoc, map}
use Rattle.std.specs.Prelude.{codes, decimal, ℤ}
use Rattle.std.specs.Fmt.{signed_decimal}
use Rattle.std.proofs.lemmas.Fmt.{decimal_injective}
use Rattle.std.proofs.lemmas.List.{append_cancel_left}
use Rattle.desk_model.specs.Name.{is_name}
use Rattle.line_forms.specs.Form.{Whole, Spells, bind}
use Rattle.line_forms.specs.Places.{AreAscendingNames, IsLaterName, IsShortNumber, count_line, later_name_place}
use Rattle.line_forms.specs.Rows.{named_rows}
use Rattle.line_forms.proofs.Cuts.{AreAbove, above-append, same_parts}
use Rattle.line_forms.proofs.Forms.{IsPlain, bind_forth, bind_back, bind_plain}
use Rattle.line_forms.proofs.Names.{follow_names, names_follow}
use Rattle.line_forms.proofs.Plain.{name_in_line, signed_in_line, count_in_line, later_name_plain, name_and_count_plain}
use Rattle.line_forms.proofs.Rows.{Kind, line_kind, rows_forth, rows_back, rows_plain}
use Rattle.line_forms.proofs.Shown.{signed_above, signed_one, named_one}
use Rattle.line_forms.proofs.Spelling.{line_forth, made_forth, made_back, flat_single}
use Rattle.order_certificate.specs.Certificate.{low_line, low_high_line, document_line, witness_lines, IsDocumentCount, AreDocuments, IsLowBound, IsLowHighBound, AreLists}
use Rattle.order_certificate.specs.Places.{document_places, name_places, low_place, low_high_place, low_count_place, high_count_place, high_places, listed_places, witness_places}
use Rattle.order_certificate.specs.declared.certificate.TopicBound.{TopicBound}
use Rattle.order_certificate.specs.declared.certificate.TopicWitness.{TopicWitness}

-- ---- so many names, each after a word
abbrev pub same_name : List ℕ → List ℕ → List ℕ
same_name _ name = name

module _ (word : List ℕ) (above : AreAbove 10 word) where
  pub name_kind : Kind (later_name_place word) (λ name. (word ++ name) ∷ []) IsLaterName
  name_kind = line_kind (λ name. word ++ name) IsLaterName (later_name_plain word above)

  pub names_forth : (n : ℕ) (ls : List (List ℕ)) (names : List (List ℕ)) → Spells (name_places word n) ls names → (length names ≡ n) × AreAscendingNames names × (ls ≡ map (λ name. word ++ name) names)
  names_forth n ls names s =
      let h = rows_forth (later_name_place word) same_name (λ name. (word ++ name) ∷ []) IsLaterName name_kind n [] ls names s in
      (h.0, follow_names names h.1, h.2 ∙ flat_single (λ name. word ++ name) names)

  pub names_back : (names : List (List ℕ)) → AreAscendingNames names → Spells (name_places word (length names)) (map (λ name. word ++ name) names) names
  names_back names are =
      subst (λ zs. Spells (name_places word (length names)) zs names) (flat_single (λ name. word ++ name) names)
      (rows_back (later_name_place word) same_name (λ name. (word ++ name) ∷ []) IsLaterName name_kind names [] (names_follow names are))

  pub names_plain : (n : ℕ) → IsPlain (name_places word n)
  names_plain n = rows_plain (later_name_place word) same_name (λ name. (word ++ name) ∷ []) IsLaterName name_kind n []

pub doc_above : AreAbove 10 (codes "doc ")
doc_above = search rules

-- so many documents
documents_forth : (n : ℕ) (ls : List (List ℕ)) (names : List (List ℕ)) → IsDocumentCount n → Spells (document_places n) ls names → (length names ≡ n) × AreDocuments names × (ls ≡ map document_line names)
documents_forth n ls names few s =
    let h = names_forth (codes "doc ") doc_above n ls names s in
    (h.0, record { count = subst IsDocumentCount (sym h.0) few; ascending = h.1 }, h.2)

documents_back : (names : List (List ℕ)) → AreDocuments names → Spells (document_places (length names)) (map document_line names) names
documents_back names are = names_back (codes "doc ") doc_above names are.ascending

pub documents_plain : (n : ℕ) → IsPlain (document_places n)
documents_plain = names_plain (codes "doc ") doc_above

-- a bound's three parts
same_bound : (b c : TopicBound) → b.topic ≡ c.topic → b.low ≡ c.low → b.high ≡ c.high → b ≡ c
same_bound b c t l h = ap (λ z. record { topic = z; low = b.low; high = b.high }) t ∙ ap (λ z. record { topic = c.topic; low = z; high = b.high }) l ∙ ap (λ z. record { topic = c.topic; low = c.low; high = z }) h

low_in_line : (b : TopicBound) → is_name b.topic ≡ true → AreAbove 10 (low_line b)
low_in_line b h = above-append 10 (codes "topic ") (b.topic ++ 32 ∷ signed_decimal b.low) (search rules) (above-append 10 b.topic (32 ∷ signed_decimal b.low) (name_in_line b.topic h) (omega arith, signed_in_line b.low))

-- what may follow a topic with one number, with two, and with lists
abbrev pub LowFollows : List ℕ → TopicBound → Type 0
LowFollows before b = IsLaterName before b.topic × IsLowBound b

abbrev pub LowHighFollows : List ℕ → TopicBound → Type 0
LowHighFollows before b = IsLaterName before b.topic × IsLowHighBound b

abbrev pub ListsFollow : List ℕ → TopicWitness → Type 0
ListsFollow before w = IsLaterName before w.topic × AreLists w

pub low_kind : Kind low_place (λ b. low_line b ∷ []) LowFollows
low_kind = line_kind low_line LowFollows (λ before. (
  (λ p q fp fq e.
      let parts = named_one p.topic q.topic (signed_decimal p.low) (signed_decimal q.low) fp.0.0 fq.0.0 (append_cancel_left (codes "topic ") (p.topic ++ 32 ∷ signed_decimal p.low) (q.topic ++ 32 ∷ signed_decimal q.low) e) in
      same_bound p q parts.0 (signed_one p.low q.low fp.1.0 fq.1.0 parts.1) (fp.1.1 ∙ sym fq.1.1)),
  (λ p fp. low_in_line p fp.0.0),
  (λ p fp. tt),
))

-- the line of a topic and two numbers, cut at its spaces
pub low_high_cut : (b : TopicBound) → low_high_line b ≡ codes "topic " ++ (b.topic ++ 32 ∷ (signed_decimal b.low ++ 32 ∷ signed_decimal b.high))
low_high_cut b = ap (λ z. codes "topic " ++ z) (append_assoc b.topic (32 ∷ signed_decimal b.low) (32 ∷ signed_decimal b.high))

two_numbers : (y y' z z' : ℤ) → IsShortNumber y → IsShortNumber y' → IsShortNumber z → IsShortNumber z' → signed_decimal y ++ 32 ∷ signed_decimal z ≡ signed_decimal y' ++ 32 ∷ signed_decimal z' → (y ≡ y') × (z ≡ z')
two_numbers y y' z z' hy hy' hz hz' e =
    let parts = same_parts 32 (signed_decimal y) (signed_decimal y') (signed_decimal z) (signed_decimal z') (signed_above y) (signed_above y') e in
    (signed_one y y' hy hy' parts.0, signed_one z z' hz hz' parts.1)

pub low_high_kind : Kind low_high_place (λ b. low_high_line b ∷ []) LowHighFollows
low_high_kind = line_kind low_high_line LowHighFollows (λ before. (
  (λ p q fp fq e.
      let parts = named_one p.topic q.topic (signed_decimal p.low ++ 32 ∷ signed_decimal p.high) (signed_decimal q.low ++ 32 ∷ signed_decimal q.high) fp.0.0 fq.0.0
      (append_cancel_left (codes "topic ") (p.topic ++ 32 ∷ (signed_decimal p.low ++ 32 ∷ signed_decimal p.high)) (q.topic ++ 32 ∷ (signed_decimal q.low ++ 32 ∷ signed_decimal q.high)) (sym (low_high_cut p) ∙ e ∙ low_high_cut q)) in
      let numbers = two_numbers p.low q.low p.high q.high fp.1.0 fq.1.0 fp.1.1 fq.1.1 parts.1 in
      same_bound p q parts.0 numbers.0 numbers.1),
  (λ p fp. above-append 10 (low_line p) (32 ∷ signed_decimal p.high) (low_in_line p fp.0.0) (omega arith, signed_in_line p.high)),
  (λ p fp. tt),
))

-- the lines of a list after its count
abbrev list_lines : List ℕ → List ℕ → List (List ℕ) → List (List ℕ)
list_lines word topic names = count_line word topic (length names) ∷ map document_line names

abbrev pub made : List ℕ → List (List ℕ) → List (List ℕ) → TopicWitness
made topic low high = record { topic = topic; low = low; high = high }

high_forth : (topic : List ℕ) (low : List (List ℕ)) (ls : List (List ℕ)) (v : TopicWitness) → Spells (high_places topic low) ls v →
    (high : List (List ℕ)) × (made topic low high ≡ v) × AreDocuments high × (ls ≡ list_lines (codes "high ") topic high)
high_forth topic low ls v s =
    let head = line_forth (λ n. count_line (codes "high ") topic n) IsDocumentCount (λ n. bind (document_places n) (λ high. Whole (made topic low high))) ls v s in
    let h = made_forth (document_places head.0) (made topic low) head.1 v head.4 in
    let d = documents_forth head.0 head.1 h.0 head.2 h.2 in
    (h.0, h.1, d.1, head.3 ∙ ap (λ zs. count_line (codes "high ") topic head.0 ∷ zs) d.2 ∙ ap (λ n. count_line (codes "high ") topic n ∷ map document_line h.0) (sym d.0))

-- what the first line of a topic shows
abbrev low_head : List ℕ × ℕ → List ℕ
low_head p = count_line (codes "low ") p.0 p.1

abbrev IsLowHead : List ℕ → List ℕ × ℕ → Type 0
IsLowHead before p = IsLaterName before p.0 × IsDocumentCount p.1

abbrev SpellsWitness : List ℕ → List (List ℕ) → TopicWitness → Type 0
SpellsWitness before ls v = ListsFollow before v × (ls ≡ witness_lines v)

witness_forth : (before : List ℕ) (ls : List (List ℕ)) (v : TopicWitness) → Spells (witness_places before) ls v → SpellsWitness before ls v
witness_forth before ls v s =
    let head = line_forth low_head (IsLowHead before) (λ p. listed_places p.0 p.1) ls v s in
    let topic = head.0.0 in
    let b = bind_forth (document_places head.0.1) (high_places topic) head.1 v head.4 in
    let low = documents_forth head.0.1 b.1 b.0 head.2.1 b.4 in
    let high = high_forth topic b.0 b.2 v b.5 in
    let first : low_head head.0 ∷ b.1 ≡ list_lines (codes "low ") topic b.0 = ap (λ zs. low_head head.0 ∷ zs) low.2 ∙ ap (λ n. count_line (codes "low ") topic n ∷ map document_line b.0) (sym low.0) in
    let lines : ls ≡ witness_lines (made topic b.0 high.0) = head.3 ∙ ap (λ zs. low_head head.0 ∷ zs) b.3 ∙ ap (λ zs. zs ++ b.2) first ∙ ap (λ zs. list_lines (codes "low ") topic b.0 ++ zs) high.3 in
    subst (SpellsWitness before ls) high.1 ((head.2.0, (low.1, high.2)), lines)

witness_back : (before : List ℕ) (v : TopicWitness) → ListsFollow before v → Spells (witness_places before) (witness_lines v) v
witness_back before v (later, lists) =
    let second : Spells (high_places v.topic v.low) (list_lines (codes "high ") v.topic v.high) v =
    (length v.high, lists.1.count, refl, made_back (document_places (length v.high)) (made v.topic v.low) (map document_line v.high) v.high (documents_back v.high lists.1)) in
    ((v.topic, length v.low), (later, lists.0.count), refl, bind_back (document_places (length v.low)) (high_places v.topic) (map document_line v.low) (list_lines (codes "high ") v.topic v.high) v.low v (documents_back v.low lists.0) second)

few_digits : (n : ℕ) → IsDocumentCount n → n < 10 ^ 19
few_digits n le = omega arith

pub high_count_plain : (topic : List ℕ) → is_name topic ≡ true → IsPlain (high_count_place topic)
high_count_plain topic named = (
  (λ m n hm hn e. decimal_injective m n (omega arith) (omega arith) (append_cancel_left (32 ∷ []) (decimal m) (decimal n) (append_cancel_left (codes "high " ++ topic) (32 ∷ decimal m) (32 ∷ decimal n) e))),
  (λ n hn. count_in_line (codes "high ") topic n (search rules) named),
  (λ n hn. tt),
)

pub low_count_plain : (before : List ℕ) → IsPlain (low_count_place before)
low_count_plain = name_and_count_plain (codes "low ") (search rules) IsDocumentCount few_digits

pub high_plain : (topic : List ℕ) (low : List (List ℕ)) → is_name topic ≡ true → IsPlain (high_places topic low)
high_plain topic low named = bind_plain (high_count_place topic) (λ n. bind (document_places n) (λ high. Whole (made topic low high))) (high_count_plain topic named) (λ n. bind_plain (document_places n) (λ high. Whole (made topic low high)) (documents_plain n) (λ high. tt))

witness_plain : (before : List ℕ) → IsPlain (witness_places before)
witness_plain before =
    let count = low_count_plain before in
    (count.0, count.1, (λ p fp. bind_plain (document_places p.1) (high_places p.0) (documents_plain p.1) (λ low. high_plain p.0 low fp.0.0)))

pub witness_kind : Kind witness_places witness_lines ListsFollow
witness_kind = record { forth = witness_forth; back = witness_back; plain = witness_plain }

-- ---- so many rows
abbrev pub bound_name : TopicBound → List ℕ
bound_name b = b.topic

abbrev pub witness_name : TopicWitness → List ℕ
witness_name w = w.topic

pub lows_plain : (n : ℕ) → IsPlain (named_rows low_place bound_name n)
lows_plain n = rows_plain low_place (λ _ b. bound_name b) (λ b. low_line b ∷ []) LowFollows low_kind n []

pub lows_and_highs_plain : (n : ℕ) → IsPlain (named_rows low_high_place bound_name n)
lows_and_highs_plain n = rows_plain low_high_place (λ _ b. bound_name b) (λ b. low_high_line b ∷ []) LowHighFollows low_high_kind n []

pub witnesses_plain : (n : ℕ) → IsPlain (named_rows witness_places witness_name n)
witnesses_plain n = rows_plain witness_places (λ _ w. witness_name w) witness_lines ListsFollow witness_kind n []
