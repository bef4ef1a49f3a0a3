-- The places of a certificate are those of its lines.
use Rattle.std.proofs.Common.{◌≡◌, ℕ, List, [], ◌∷◌, ◌++◌, length, refl, ap, sym, subst, ◌∙◌, true, arith, rules, flat_map, map, take}
use Rattle.std.specs.Prelude.{codes, decimal}
use Rattle.std.specs.List.{All}
use Rattle.std.proofs.lemmas.List.{append_cancel_left, length-map}
use Rattle.std.proofs.lemmas.List.Elements.{All-from_recursion, recursion_from_All}
use Rattle.desk_text.specs.Lines.{whole_lines}
use Rattle.desk_model.specs.Name.{is_name}
use Rattle.desk_model.specs.MeasureText.{IsMeasure, IsTextOf, measure_text}
use Rattle.desk_model.specs.declared.types.MeasureName.{MeasureName}
use Rattle.line_forms.specs.Form.{Form, Whole, Spells, IsFirstBad, bind, text_of}
use Rattle.line_forms.specs.Places.{IsLaterName, fixed_place, name_place}
use Rattle.line_forms.specs.Rows.{named_rows}
use Rattle.line_forms.proofs.Cuts.{AreAbove, above-append}
use Rattle.line_forms.proofs.Forms.{IsPlain, bind_forth, bind_back, bind_plain, one_bad}
use Rattle.line_forms.proofs.Names.{follow_names, names_follow, rows_apart, rows_together}
use Rattle.line_forms.proofs.Plain.{fixed_plain, name_plain, number_plain}
use Rattle.line_forms.proofs.Rows.{Kind, rows_forth, rows_back}
use Rattle.line_forms.proofs.Spelling.{line_forth, made_forth, made_back, flat_single}
use Rattle.line_forms.proofs.Texts.{one_of_text, none_begins, no_bad_line, lines_of_text}
use Rattle.order_certificate.specs.Certificate.{claim_of, first_lines, low_line, low_high_line, witness_lines, topics_line, evidence_lines, certificate_lines, certificate_text, from_first_lines, opening_lines, IsLevel, IsTopicCount, IsLowBound, IsLowHighBound, AreLists, AreTopics, IsWritable, IsCertificate}
use Rattle.order_certificate.specs.Places.{low_place, low_high_place, witness_places, topics_place, claim_line, claim_place, claim_places, claim_rows, evidence_places, measure_place, level_place, from_end, from_evidence, from_second, from_first, from_level, from_measure, certificate_places, IsText}
use Rattle.order_certificate.specs.declared.certificate.Certificate.{Certificate}
use Rattle.order_certificate.specs.declared.certificate.Evidence.{Evidence}
use Rattle.order_certificate.specs.declared.certificate.Evidence.TheVariants.{Above, Equal, Open}
use Rattle.order_certificate.specs.declared.places.Claim.{Claim}
use Rattle.order_certificate.specs.declared.places.Claim.TheVariants as claimed
use Rattle.order_certificate.proofs.Measures.{measure_above, measure_is_text}
use Rattle.order_certificate.proofs.RowKinds.{low_kind, low_high_kind, witness_kind, bound_name, witness_name, lows_plain, lows_and_highs_plain, witnesses_plain}

-- ---- rows with the names of topics, a fact of each, and what the rows make
module _ {V : Type 0} (one : List ℕ → Form V) (name_of : V → List ℕ) (lines_of : V → List (List ℕ)) (Fits : V → Type 0) (kind : Kind one lines_of (λ before v. IsLaterName before (name_of v) × Fits v)) (make : List V → Evidence) where
  -- what lines spell, after the number of topics
  made_rows_forth : (n : ℕ) (ls : List (List ℕ)) (e : Evidence) → IsTopicCount n → Spells (bind (named_rows one name_of n) (λ vs. Whole (make vs))) ls e →
      (vs : List V) × (make vs ≡ e) × AreTopics (map name_of vs) × All Fits vs × (topics_line n ∷ ls ≡ topics_line (length vs) ∷ flat_map lines_of vs)
  made_rows_forth n ls e fits s =
      let m = made_forth (named_rows one name_of n) make ls e s in
      let vs = m.0 in
      let rows = rows_forth one (λ _ v. name_of v) lines_of (λ before v. IsLaterName before (name_of v) × Fits v) kind n [] ls vs m.2 in
      let apart = rows_apart name_of Fits [] vs rows.1 in
      let count : length (map name_of vs) ≡ n = length-map vs name_of ∙ rows.0 in (
        vs,
        m.1,
        record { count = subst IsTopicCount (sym count) fits; ascending = follow_names (map name_of vs) apart.0 },
        All-from_recursion Fits vs apart.1,
        ap (λ zs. topics_line n ∷ zs) rows.2 ∙ ap (λ k. topics_line k ∷ flat_map lines_of vs) (sym rows.0),
      )

  made_rows_back : (vs : List V) → AreTopics (map name_of vs) → All Fits vs → Spells (bind topics_place (λ n. bind (named_rows one name_of n) (λ vs. Whole (make vs)))) (topics_line (length vs) ∷ flat_map lines_of vs) (make vs)
  made_rows_back vs are fits = (
    length vs,
    subst IsTopicCount (length-map vs name_of) are.count,
    refl,
    made_back (named_rows one name_of (length vs)) make (flat_map lines_of vs) vs
        (rows_back one (λ _ v. name_of v) lines_of (λ before v. IsLaterName before (name_of v) × Fits v) kind vs [] (rows_together name_of Fits [] vs (names_follow (map name_of vs) are.ascending) (recursion_from_All Fits vs fits))),
  )

-- the lines after that of a claim
abbrev SpellsEvidence : Claim → ℕ → List (List ℕ) → Evidence → Type 0
SpellsEvidence claim n ls e = IsWritable e × (claim_line claim ∷ topics_line n ∷ ls ≡ evidence_lines e)

claim_forth : (claim : Claim) (n : ℕ) (ls : List (List ℕ)) (e : Evidence) → IsTopicCount n → Spells (claim_rows claim n) ls e → SpellsEvidence claim n ls e
claim_forth claimed.Above n ls e fits s =
    let (vs, is, topics, all, lines) = made_rows_forth low_place bound_name (λ b. low_line b ∷ []) IsLowBound low_kind Above n ls e fits s in
    subst (SpellsEvidence claimed.Above n ls) is ((topics, all), ap (λ zs. codes "claim above" ∷ zs) (lines ∙ ap (λ zs. topics_line (length vs) ∷ zs) (flat_single low_line vs)))
claim_forth claimed.Equal n ls e fits s =
    let (vs, is, topics, all, lines) = made_rows_forth low_high_place bound_name (λ b. low_high_line b ∷ []) IsLowHighBound low_high_kind Equal n ls e fits s in
    subst (SpellsEvidence claimed.Equal n ls) is ((topics, all), ap (λ zs. codes "claim equal" ∷ zs) (lines ∙ ap (λ zs. topics_line (length vs) ∷ zs) (flat_single low_high_line vs)))
claim_forth claimed.Open n ls e fits s =
    let (vs, is, topics, all, lines) = made_rows_forth witness_places witness_name witness_lines AreLists witness_kind Open n ls e fits s in
    subst (SpellsEvidence claimed.Open n ls) is ((topics, all), ap (λ zs. codes "claim open" ∷ zs) lines)

evidence_forth : (ls : List (List ℕ)) (e : Evidence) → Spells evidence_places ls e → IsWritable e × (ls ≡ evidence_lines e)
evidence_forth ls e s =
    let head = line_forth claim_line (λ _. Unit {0}) claim_places ls e s in
    let count = line_forth topics_line IsTopicCount (claim_rows head.0) head.1 e head.4 in
    let h = claim_forth head.0 count.0 count.1 e count.2 count.4 in
    (h.0, head.3 ∙ ap (λ zs. claim_line head.0 ∷ zs) count.3 ∙ h.1)

evidence_back : (e : Evidence) → IsWritable e → Spells evidence_places (evidence_lines e) e
evidence_back (Above bounds) h = (
  claimed.Above,
  tt,
  refl,
  subst (λ zs. Spells (claim_places claimed.Above) (topics_line (length bounds) ∷ zs) (Above bounds)) (flat_single low_line bounds) (made_rows_back low_place bound_name (λ b. low_line b ∷ []) IsLowBound low_kind Above bounds h.0 h.1),
)
evidence_back (Equal bounds) h = (
  claimed.Equal,
  tt,
  refl,
  subst (λ zs. Spells (claim_places claimed.Equal) (topics_line (length bounds) ∷ zs) (Equal bounds)) (flat_single low_high_line bounds) (made_rows_back low_high_place bound_name (λ b. low_high_line b ∷ []) IsLowHighBound low_high_kind Equal bounds h.0 h.1),
)
evidence_back (Open witnesses) h = (claimed.Open, tt, refl, made_rows_back witness_places witness_name witness_lines AreLists witness_kind Open witnesses h.0 h.1)

-- `end` is the last line
pub end_forth : {X : Type 0} (v : X) (ls : List (List ℕ)) (x : X) → Spells (bind (fixed_place (codes "end")) (λ _. Whole v)) ls x → (v ≡ x) × (ls ≡ codes "end" ∷ [])
end_forth v [] x s = absurd s
end_forth v (l ∷ []) x s = (s.3, ap (λ z. z ∷ []) s.2)
end_forth v (l ∷ m ∷ ls) x s = absurd s.3

-- what lines spell from that of the first run on
abbrev SpellsFromFirst : MeasureName → ℕ → List (List ℕ) → Certificate → Type 0
SpellsFromFirst measure level ls c = IsCertificate c × (c.measure ≡ measure) × (c.level ≡ level) × (ls ≡ from_first_lines c)

pub first_forth : (measure : MeasureName) (level : ℕ) (ls : List (List ℕ)) (c : Certificate) → IsMeasure measure → IsLevel level → Spells (from_first measure level) ls c → SpellsFromFirst measure level ls c
first_forth measure level ls c is_measure is_level s =
    let f = line_forth (λ name. codes "first " ++ name) (λ name. is_name name ≡ true) (from_second measure level) ls c s in
    let t = line_forth (λ name. codes "second " ++ name) (λ name. is_name name ≡ true) (from_evidence measure level f.0) f.1 c f.4 in
    let b = bind_forth evidence_places (from_end measure level f.0 t.0) t.1 c t.4 in
    let e = evidence_forth b.1 b.0 b.4 in
    let made : Certificate = record { measure = measure; level = level; first = f.0; second = t.0; evidence = b.0 } in
    let last = end_forth made b.2 c b.5 in
    let ending : t.1 ≡ evidence_lines b.0 ++ codes "end" ∷ [] = b.3 ∙ ap (λ zs. zs ++ b.2) e.1 ∙ ap (λ zs. evidence_lines b.0 ++ zs) last.1 in
    let lines : ls ≡ from_first_lines made = f.3 ∙ ap (λ zs. (codes "first " ++ f.0) ∷ zs) (t.3 ∙ ap (λ zs. (codes "second " ++ t.0) ∷ zs) ending) in
    let fine : IsCertificate made = record { measure = is_measure; level = is_level; first = f.2; second = t.2; evidence = e.0 } in
    subst (SpellsFromFirst measure level ls) last.0 (fine, refl, refl, lines)

pub first_back : (c : Certificate) → IsCertificate c → Spells (from_first c.measure c.level) (from_first_lines c) c
first_back c h =
    let ending : Spells (from_end c.measure c.level c.first c.second c.evidence) (codes "end" ∷ []) c = (tt, tt, refl, refl) in
    let evidence = bind_back evidence_places (from_end c.measure c.level c.first c.second) (evidence_lines c.evidence) (codes "end" ∷ []) c.evidence c (evidence_back c.evidence h.evidence) ending in
    (c.first, h.first, refl, (c.second, h.second, refl, evidence))

-- lines that say a certificate are its lines, and it has a text
pub spelled_only : (ls : List (List ℕ)) (c : Certificate) → Spells certificate_places ls c → (ls ≡ certificate_lines c) × IsCertificate c
spelled_only ls c s =
    let v = line_forth {P = Unit {0}} (λ _. codes "desk-certificate 1") (λ _. Unit {0}) (λ _. from_measure) ls c s in
    let m = line_forth (λ measure. codes "measure " ++ measure_text measure) IsMeasure from_level v.1 c v.4 in
    let l = line_forth (λ level. codes "level " ++ decimal level) IsLevel (from_first m.0) m.1 c m.4 in
    let h = first_forth m.0 l.0 l.1 c m.2 l.2 l.4 in
    let opening : ls ≡ opening_lines m.0 l.0 ++ l.1 =
    v.3 ∙ ap (λ zs. (codes "desk-certificate 1") ∷ zs) m.3 ∙ ap (λ zs. (codes "desk-certificate 1") ∷ (codes "measure " ++ measure_text m.0) ∷ zs) l.3 in
    let whole : ls ≡ certificate_lines c =
    opening ∙ ap (λ zs. opening_lines m.0 l.0 ++ zs) h.3 ∙ ap (λ measure. opening_lines measure l.0 ++ from_first_lines c) (sym h.1) ∙ ap (λ level. opening_lines c.measure level ++ from_first_lines c) (sym h.2) in
    (whole, h.0)

-- the lines of a certificate say it
pub spelled_all : (c : Certificate) → IsCertificate c → Spells certificate_places (certificate_lines c) c
spelled_all c h = (tt, tt, refl, (c.measure, h.measure, refl, (c.level, h.level, refl, first_back c h)))

-- a text is of one measure at most
abbrev pub OneMeasure : Type 0
OneMeasure = (text : List ℕ) (a b : MeasureName) → IsMeasure a → IsMeasure b → IsTextOf a text → IsTextOf b text → a ≡ b

-- the words of claims differ in their seventh byte
abbrev seventh : List ℕ → ℕ
seventh (a ∷ b ∷ c ∷ d ∷ e ∷ f ∷ g ∷ rest) = g
seventh _ = 0

claim_one : (p q : Claim) → claim_line p ≡ claim_line q → p ≡ q
claim_one claimed.Above claimed.Above e = refl
claim_one claimed.Equal claimed.Equal e = refl
claim_one claimed.Open claimed.Open e = refl
claim_one claimed.Above claimed.Equal e = let n = ap seventh e in absurd (omega arith)
claim_one claimed.Above claimed.Open e = let n = ap seventh e in absurd (omega arith)
claim_one claimed.Equal claimed.Above e = let n = ap seventh e in absurd (omega arith)
claim_one claimed.Equal claimed.Open e = let n = ap seventh e in absurd (omega arith)
claim_one claimed.Open claimed.Above e = let n = ap seventh e in absurd (omega arith)
claim_one claimed.Open claimed.Equal e = let n = ap seventh e in absurd (omega arith)

claim_in_line : (p : Claim) → AreAbove 10 (claim_line p)
claim_in_line claimed.Above = search rules
claim_in_line claimed.Equal = search rules
claim_in_line claimed.Open = search rules

-- ---- at each place no line shows two parts, and no line has a line feed
pub topics_plain : IsPlain topics_place
topics_plain = number_plain (codes "topics ") (search rules) IsTopicCount (λ n fits. omega (arith, fits))

pub rows_of_claim_plain : (claim : Claim) (n : ℕ) → IsPlain (claim_rows claim n)
rows_of_claim_plain claimed.Above n = bind_plain (named_rows low_place bound_name n) (λ bounds. Whole (Above bounds)) (lows_plain n) (λ _. tt)
rows_of_claim_plain claimed.Equal n = bind_plain (named_rows low_high_place bound_name n) (λ bounds. Whole (Equal bounds)) (lows_and_highs_plain n) (λ _. tt)
rows_of_claim_plain claimed.Open n = bind_plain (named_rows witness_places witness_name n) (λ witnesses. Whole (Open witnesses)) (witnesses_plain n) (λ _. tt)

pub claim_plain : IsPlain claim_place
claim_plain = ((λ p q fp fq e. claim_one p q e), (λ p fp. claim_in_line p), (λ p fp. tt))

pub evidence_plain : IsPlain evidence_places
evidence_plain = bind_plain claim_place claim_places claim_plain (λ claim. bind_plain topics_place (claim_rows claim) topics_plain (rows_of_claim_plain claim))

pub measure_plain : OneMeasure → IsPlain measure_place
measure_plain unique = (
  (λ p q fp fq e. unique (measure_text p) p q fp fq (measure_is_text p fp) (subst (IsTextOf q) (sym (append_cancel_left (codes "measure ") (measure_text p) (measure_text q) e)) (measure_is_text q fq))),
  (λ p fp. above-append 10 (codes "measure ") (measure_text p) (search rules) (measure_above p)),
  (λ p fp. tt),
)

pub level_plain : IsPlain level_place
level_plain = number_plain (codes "level ") (search rules) IsLevel (λ n fits. omega (arith, fits))

pub version_plain : IsPlain (fixed_place (codes "desk-certificate 1"))
version_plain = fixed_plain (codes "desk-certificate 1") (search rules)

pub end_plain : IsPlain (fixed_place (codes "end"))
end_plain = fixed_plain (codes "end") (search rules)

pub first_plain : IsPlain (name_place (codes "first "))
first_plain = name_plain (codes "first ") (search rules)

pub second_plain : IsPlain (name_place (codes "second "))
second_plain = name_plain (codes "second ") (search rules)

from_end_plain : (m : MeasureName) (l : ℕ) (f t : List ℕ) (e : Evidence) → IsPlain (from_end m l f t e)
from_end_plain m l f t e = bind_plain {X = Certificate} (fixed_place (codes "end")) (λ _. Whole (record { measure = m; level = l; first = f; second = t; evidence = e })) end_plain (λ _. tt)

pub places_plain : OneMeasure → IsPlain certificate_places
places_plain unique =
    bind_plain (fixed_place (codes "desk-certificate 1")) (λ _. from_measure) version_plain (λ _.
    bind_plain measure_place from_level (measure_plain unique) (λ m.
    bind_plain level_place (from_first m) level_plain (λ l.
    bind_plain (name_place (codes "first ")) (from_second m l) first_plain (λ f.
    bind_plain (name_place (codes "second ")) (from_evidence m l f) second_plain (λ t.
    bind_plain evidence_places (from_end m l f t) evidence_plain (from_end_plain m l f t))))))

-- ---- texts
pub one_certificate : OneMeasure → (bytes : List ℕ) (c d : Certificate) → IsText bytes c → IsText bytes d → c ≡ d
one_certificate unique = one_of_text certificate_places (places_plain unique)

pub none_begins_another : OneMeasure → (bytes more : List ℕ) (c d : Certificate) → IsText bytes c → IsText (bytes ++ more) d → (more ≡ []) × (c ≡ d)
none_begins_another unique = none_begins certificate_places (places_plain unique)

pub one_bad_line : OneMeasure → (bytes : List ℕ) (m n : ℕ) → IsFirstBad certificate_places bytes m → IsFirstBad certificate_places bytes n → m ≡ n
one_bad_line unique bytes m n = one_bad certificate_places bytes m n (places_plain unique)

pub none_bad_line : OneMeasure → (bytes : List ℕ) (c : Certificate) (n : ℕ) → IsText bytes c → IsFirstBad certificate_places bytes n → ⊥
none_bad_line unique = no_bad_line certificate_places (places_plain unique)

-- what is within the limits has the text that is written, and no other
pub has_limits : (bytes : List ℕ) (c : Certificate) → IsText bytes c → IsCertificate c
has_limits bytes c t = (spelled_only t.0 c t.2).1

pub is_written : (bytes : List ℕ) (c : Certificate) → IsText bytes c → bytes ≡ certificate_text c
unfolding certificate_text
is_written bytes c t = t.1 ∙ ap text_of (spelled_only t.0 c t.2).0

pub has_text : (c : Certificate) → IsCertificate c → IsText (certificate_text c) c
unfolding certificate_text
has_text c h = (certificate_lines c, refl, spelled_all c h)

pub one_text : (a b : List ℕ) (c : Certificate) → IsText a c → IsText b c → a ≡ b
one_text a b c ta tb = is_written a c ta ∙ sym (is_written b c tb)

-- the first six lines of a text are those of its certificate
pub begins_with_claim : OneMeasure → (bytes : List ℕ) (c : Certificate) → IsText bytes c → take 6 (whole_lines bytes) ≡ first_lines c
begins_with_claim unique bytes c t =
    ap (take 6) (lines_of_text certificate_places (places_plain unique) bytes c t) ∙ ap (take 6) (spelled_only t.0 c t.2).0 ∙ by c.evidence
  where
    by : (e : Evidence) → take 6 (opening_lines c.measure c.level ++ (codes "first " ++ c.first) ∷ (codes "second " ++ c.second) ∷ evidence_lines e ++ codes "end" ∷ [])
        ≡ opening_lines c.measure c.level ++ (codes "first " ++ c.first) ∷ (codes "second " ++ c.second) ∷ claim_of e ∷ []
    by (Above bounds) = refl
    by (Equal bounds) = refl
    by (Open witnesses) = refl
