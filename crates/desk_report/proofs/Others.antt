-- Lines that are none of a table: those of a certificate, the close line, the answer of a check, and those of other words.
use Rattle.std.proofs.Common.{◌≡◌, ℕ, suc, ◌<◌, List, [], ◌∷◌, ◌++◌, length, get_or, refl, ap, sym, subst, inl, inr, ◌∙◌, arith, rules, ℤ, pos, negsuc, Option}
use Rattle.std.specs.Prelude.{codes, decimal, filter, map, flat_map, true, false, ◌==◌}
use Rattle.std.specs.List.{AllByRecursion}
use Rattle.std.specs.Fmt.{signed_decimal}
use Rattle.std.proofs.lemmas.Bool.{eqb-false}
use Rattle.std.proofs.lemmas.List.Elements.{recursion_from_All}
use Rattle.desk_text.specs.Lines.{onto_first, pieces, is_filled, fields_of}
use Rattle.desk_model.specs.Desk.{Desk}
use Rattle.desk_model.specs.Name.{is_name}
use Rattle.desk_model.specs.MeasureText.{measure_text}
use Rattle.desk_model.specs.declared.types.Mark.{Mark}
use Rattle.desk_model.specs.declared.types.MeasureName.{MeasureName}
use Rattle.desk_model.specs.declared.types.Totals.{Totals}
use Rattle.desk_report.specs.Close.{sum_text, sums_text, close_line}
use Rattle.line_forms.specs.Places.{count_line}
use Rattle.order_bundle.specs.Scoped.{depth_lines}
use Rattle.order_certificate.specs.Certificate.{opening_lines, low_line, low_high_line, document_line, witness_lines, topics_line, evidence_lines, from_first_lines, AreDocuments, IsWritable, IsCertificate}
use Rattle.order_certificate.specs.declared.certificate.Certificate.{Certificate}
use Rattle.order_certificate.specs.declared.certificate.Evidence.{Evidence}
use Rattle.order_certificate.specs.declared.certificate.Evidence.TheVariants.{Above, Equal, Open}
use Rattle.order_certificate.specs.declared.certificate.TopicBound.{TopicBound}
use Rattle.order_certificate.specs.declared.certificate.TopicWitness.{TopicWitness}
use Rattle.desk_report.specs.Claims.{IsAnswerWord, IsInLine, IsOtherWord}
use Rattle.desk_model.proofs.Words.{piece_on, kept, name_word}
use Rattle.desk_report.proofs.Spelling.{AreInLine, ink_in_line, in_line-append, in_line-spaced}
use Rattle.desk_report.proofs.Texts.{decimal_ink, measure_ink}
use Rattle.small_lemmas.proofs.Lists.{all-append}
use Rattle.desk_report.proofs.Lines.{IsSound, word, other_line, worded_line, field, depth_sound}

-- ---- a line's first byte is that of its first field
first_kept : (b : ℕ) (ps : List (List ℕ)) → get_or (field 0 (filter is_filled (onto_first b ps))) 0 0 ≡ b
first_kept b [] = refl
first_kept b (p ∷ ps) = ap (λ fs. get_or (field 0 fs) 0 0) (kept (b ∷ p) ps (omega arith))

pub first_byte : (b : ℕ) (bs : List ℕ) → 32 < b → get_or (field 0 (fields_of (b ∷ bs))) 0 0 ≡ b
first_byte b bs h = ap (λ ps. get_or (field 0 (filter is_filled ps)) 0 0) (piece_on b bs h) ∙ first_kept b (pieces bs)

-- bytes that end no line
pub in_line_back : (bytes : List ℕ) → AreInLine bytes → IsInLine bytes
in_line_back [] h = tt
in_line_back (b ∷ bs) h = (h.0, in_line_back bs h.1)

-- a word whose third byte is none of those of `pair`, `run` and `desk-certificate`
pub other_word : (w : List ℕ) → is_name w ≡ true → (get_or w 2 0 == 105) ≡ false → (get_or w 2 0 == 110) ≡ false → (get_or w 2 0 == 115) ≡ false → IsOtherWord w
other_word w is no_pair no_run no_certificate = record {
  is = is;
  no_pair = λ e. eqb-false (get_or w 2 0) 105 no_pair (ap (λ x. get_or x 2 0) e);
  no_run = λ e. eqb-false (get_or w 2 0) 110 no_run (ap (λ x. get_or x 2 0) e);
  no_certificate = λ e. eqb-false (get_or w 2 0) 115 no_certificate (ap (λ x. get_or x 2 0) e);
}

module _ (name : MeasureName) (desk : Desk) (marks : List (List Mark)) where
  -- a line whose first byte is not that of `pair` and `run` claims nothing of runs
  pub other_sound : (b : ℕ) (bs : List ℕ) → 32 < b → (b ≡ 112 → ⊥) → (b ≡ 114 → ⊥) → AreInLine (b ∷ bs) → IsSound name desk marks (b ∷ bs)
  other_sound b bs ink no_pair no_run line = (
    line,
    other_line name desk marks (b ∷ bs)
        (λ f s g l h e. no_pair (sym (first_byte b bs ink) ∙ ap (λ fs. get_or (field 0 fs) 0 0) e))
        (λ r l h e. absurd (no_run (sym (first_byte b bs ink) ∙ ap (λ fs. get_or (field 0 fs) 0 0) e.0))),
  )

  -- ---- numbers and names in a line
  pub signed_in_line : (z : ℤ) → AreInLine (signed_decimal z)
  signed_in_line (pos n) = ink_in_line (decimal n) (decimal_ink n)
  signed_in_line (negsuc n) = (omega arith, ink_in_line (decimal (suc n)) (decimal_ink (suc n)))

  pub name_in_line : (text : List ℕ) → is_name text ≡ true → AreInLine text
  name_in_line text h = ink_in_line text (name_word text h).ink

  -- ---- the lines of a certificate
  low_in_line : (b : TopicBound) → is_name b.topic ≡ true → AreInLine (low_line b)
  low_in_line b named = in_line-spaced (codes "topic " ++ b.topic) (signed_decimal b.low) (in_line-append (codes "topic ") b.topic (search rules) (name_in_line b.topic named)) (signed_in_line b.low)

  lows_sound : (bounds : List TopicBound) → AllByRecursion (λ topic. is_name topic ≡ true) (map (λ (b : TopicBound). b.topic) bounds) → AllByRecursion (IsSound name desk marks) (map low_line bounds)
  lows_sound [] h = tt
  lows_sound (b ∷ bs) h = (other_sound 116 _ (omega arith) (λ e. omega (arith, e)) (λ e. omega (arith, e)) (low_in_line b h.0), lows_sound bs h.1)

  low_highs_sound : (bounds : List TopicBound) → AllByRecursion (λ topic. is_name topic ≡ true) (map (λ (b : TopicBound). b.topic) bounds) → AllByRecursion (IsSound name desk marks) (map low_high_line bounds)
  low_highs_sound [] h = tt
  low_highs_sound (b ∷ bs) h =
      (other_sound 116 _ (omega arith) (λ e. omega (arith, e)) (λ e. omega (arith, e)) (in_line-spaced (low_line b) (signed_decimal b.high) (low_in_line b h.0) (signed_in_line b.high)), low_highs_sound bs h.1)

  pub documents_sound : (names : List (List ℕ)) → AllByRecursion (λ text. is_name text ≡ true) names → AllByRecursion (IsSound name desk marks) (map document_line names)
  documents_sound [] h = tt
  documents_sound (n ∷ ns) h =
      (other_sound 100 _ (omega arith) (λ e. omega (arith, e)) (λ e. omega (arith, e)) (in_line-append (codes "doc ") n (search rules) (name_in_line n h.0)), documents_sound ns h.1)

  pub count_in_line : (word topic : List ℕ) (n : ℕ) → AreInLine word → is_name topic ≡ true → AreInLine (count_line word topic n)
  count_in_line word topic n w named = in_line-spaced (word ++ topic) (decimal n) (in_line-append word topic w (name_in_line topic named)) (ink_in_line (decimal n) (decimal_ink n))

  pub named_in : (names : List (List ℕ)) → AreDocuments names → AllByRecursion (λ text. is_name text ≡ true) names
  named_in names are = recursion_from_All (λ text. is_name text ≡ true) names are.ascending.named

  witness_sound : (w : TopicWitness) → is_name w.topic ≡ true → AreDocuments w.low → AreDocuments w.high → AllByRecursion (IsSound name desk marks) (witness_lines w)
  witness_sound w named low high =
      all-append (IsSound name desk marks) (count_line (codes "low ") w.topic (length w.low) ∷ map document_line w.low) (count_line (codes "high ") w.topic (length w.high) ∷ map document_line w.high)
      (other_sound 108 _ (omega arith) (λ e. omega (arith, e)) (λ e. omega (arith, e)) (count_in_line (codes "low ") w.topic (length w.low) (search rules) named), documents_sound w.low (named_in w.low low))
      (other_sound 104 _ (omega arith) (λ e. omega (arith, e)) (λ e. omega (arith, e)) (count_in_line (codes "high ") w.topic (length w.high) (search rules) named), documents_sound w.high (named_in w.high high))

  witnesses_sound : (ws : List TopicWitness) → AllByRecursion (λ topic. is_name topic ≡ true) (map (λ (w : TopicWitness). w.topic) ws) →
      AllByRecursion (λ (w : TopicWitness). AreDocuments w.low × AreDocuments w.high) ws → AllByRecursion (IsSound name desk marks) (flat_map witness_lines ws)
  witnesses_sound [] h k = tt
  witnesses_sound (w ∷ ws) h k = all-append (IsSound name desk marks) (witness_lines w) (flat_map witness_lines ws) (witness_sound w h.0 k.0.0 k.0.1) (witnesses_sound ws h.1 k.1)

  pub topics_sound : (n : ℕ) → IsSound name desk marks (topics_line n)
  topics_sound n = other_sound 116 _ (omega arith) (λ e. omega (arith, e)) (λ e. omega (arith, e)) (in_line-append (codes "topics ") (decimal n) (search rules) (ink_in_line (decimal n) (decimal_ink n)))

  evidence_sound : (e : Evidence) → IsWritable e → AllByRecursion (IsSound name desk marks) (evidence_lines e)
  evidence_sound (Above bounds) h =
      (other_sound 99 _ (omega arith) (λ e. omega (arith, e)) (λ e. omega (arith, e)) (search rules), (topics_sound (length bounds), lows_sound bounds (recursion_from_All _ _ h.0.ascending.named)))
  evidence_sound (Equal bounds) h =
      (other_sound 99 _ (omega arith) (λ e. omega (arith, e)) (λ e. omega (arith, e)) (search rules), (topics_sound (length bounds), low_highs_sound bounds (recursion_from_All _ _ h.0.ascending.named)))
  evidence_sound (Open ws) h =
      (other_sound 99 _ (omega arith) (λ e. omega (arith, e)) (λ e. omega (arith, e)) (search rules), (topics_sound (length ws), witnesses_sound ws (recursion_from_All _ _ h.0.ascending.named) (recursion_from_All _ _ h.1)))

  opening_sound : (m : MeasureName) (level : ℕ) → AllByRecursion (IsSound name desk marks) (opening_lines m level)
  opening_sound m level = (
    other_sound 100 _ (omega arith) (λ e. omega (arith, e)) (λ e. omega (arith, e)) (search rules),
    (
      other_sound 109 _ (omega arith) (λ e. omega (arith, e)) (λ e. omega (arith, e)) (in_line-append (codes "measure ") (measure_text m) (search rules) (ink_in_line (measure_text m) (measure_ink m))),
      (other_sound 108 _ (omega arith) (λ e. omega (arith, e)) (λ e. omega (arith, e)) (in_line-append (codes "level ") (decimal level) (search rules) (ink_in_line (decimal level) (decimal_ink level))), tt),
    ),
  )

  from_first_sound : (c : Certificate) → IsCertificate c → AllByRecursion (IsSound name desk marks) (from_first_lines c)
  from_first_sound c h = (
    other_sound 102 _ (omega arith) (λ e. omega (arith, e)) (λ e. omega (arith, e)) (in_line-append (codes "first ") c.first (search rules) (name_in_line c.first h.first)),
    (
      other_sound 115 _ (omega arith) (λ e. omega (arith, e)) (λ e. omega (arith, e)) (in_line-append (codes "second ") c.second (search rules) (name_in_line c.second h.second)),
      all-append (IsSound name desk marks) (evidence_lines c.evidence) (codes "end" ∷ []) (evidence_sound c.evidence h.evidence)
          (other_sound 101 _ (omega arith) (λ e. omega (arith, e)) (λ e. omega (arith, e)) (search rules), tt),
    ),
  )

  pub certificate_sound : (depth : Option ℕ) (c : Certificate) → IsCertificate c → AllByRecursion (IsSound name desk marks) (opening_lines c.measure c.level ++ depth_lines depth ++ from_first_lines c)
  certificate_sound depth c h =
      all-append (IsSound name desk marks) (opening_lines c.measure c.level) (depth_lines depth ++ from_first_lines c) (opening_sound c.measure c.level)
      (all-append (IsSound name desk marks) (depth_lines depth) (from_first_lines c) (depth_sound name desk marks depth) (from_first_sound c h))

  -- ---- the close line
  sum_in_line : (sum : ℤ) → AreInLine (sum_text sum)
  sum_in_line sum = (omega arith, signed_in_line sum)

  sums_in_line : (t : Totals) → AreInLine (sums_text t)
  sums_in_line t =
      in_line-append (sum_text t.least_lo ++ sum_text t.least_hi ++ sum_text t.most_lo) (sum_text t.most_hi)
      (in_line-append (sum_text t.least_lo ++ sum_text t.least_hi) (sum_text t.most_lo) (in_line-append (sum_text t.least_lo) (sum_text t.least_hi) (sum_in_line t.least_lo) (sum_in_line t.least_hi)) (sum_in_line t.most_lo)) (sum_in_line t.most_hi)

  pub close_sound : (first second : List ℕ) (t : Totals) → is_name first ≡ true → is_name second ≡ true → IsSound name desk marks (close_line first second t)
  close_sound first second t f s =
      other_sound 99 _ (omega arith) (λ e. omega (arith, e)) (λ e. omega (arith, e))
      (in_line-append ((codes "close " ++ first) ++ 32 ∷ second) (sums_text t) (in_line-spaced (codes "close " ++ first) second (in_line-append (codes "close ") first (search rules) (name_in_line first f)) (name_in_line second s)) (sums_in_line t))

  -- ---- the answer of a check
  in_line_of : (bytes : List ℕ) → IsInLine bytes → AreInLine bytes
  in_line_of [] h = tt
  in_line_of (b ∷ bs) h = (h.0, in_line_of bs h.1)

  rejected_sound : (rest : List ℕ) → AreInLine rest → IsSound name desk marks (codes "rejected" ++ 32 ∷ rest)
  rejected_sound rest line =
      worded_line name desk marks (codes "rejected") rest (word _ (omega arith) (search rules)) line
      (λ e. eqb-false 114 112 refl (ap (λ w. get_or w 0 0) e)) (λ e. eqb-false 101 117 refl (ap (λ w. get_or w 1 0) e))

  accepted_more : (rest : List ℕ) → AreInLine rest → IsSound name desk marks (codes "accepted" ++ rest)
  accepted_more rest line = other_sound 97 _ (omega arith) (λ e. omega (arith, e)) (λ e. omega (arith, e)) (in_line-append (codes "accepted") rest (search rules) line)

  pub answer_sound : (word rest : List ℕ) → IsAnswerWord word → IsInLine rest → IsSound name desk marks (word ++ rest)
  answer_sound word rest (inl is) line = subst (λ w. IsSound name desk marks (w ++ rest)) (sym is) (accepted_more rest (in_line_of rest line))
  answer_sound word rest (inr is) line = subst (λ w. IsSound name desk marks (w ++ rest)) (sym is) (rejected_sound rest (in_line_of rest line))

  -- ---- a line of another word
  pub named_sound : (w rest : List ℕ) → IsOtherWord w → IsInLine rest → IsSound name desk marks (w ++ 32 ∷ rest)
  named_sound w rest is line = worded_line name desk marks w rest (name_word w is.is) (in_line_of rest line) is.no_pair is.no_run
