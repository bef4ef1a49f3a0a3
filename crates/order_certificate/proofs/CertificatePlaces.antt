-- A fact that each line of a certificate has at its place.
use Rattle.std.proofs.Common.{◌≡◌, ℕ, true, List, [], ◌++◌}
use Rattle.std.specs.Prelude.{codes, decimal}
use Rattle.desk_model.specs.Name.{is_name}
use Rattle.desk_model.specs.MeasureText.{IsMeasure, measure_text}
use Rattle.desk_model.specs.declared.types.MeasureName.{MeasureName}
use Rattle.line_forms.specs.Form.{Form, Whole, bind}
use Rattle.line_forms.specs.Places.{IsLaterName, count_line, fixed_place, name_place}
use Rattle.line_forms.specs.Rows.{named_rows}
use Rattle.line_forms.proofs.EachPlace.{Fact, AtEach, in_both, in_rows}
use Rattle.order_certificate.specs.Certificate.{low_line, low_high_line, document_line, IsLevel, IsTopicCount, IsDocumentCount, IsLowBound, IsLowHighBound}
use Rattle.order_certificate.specs.Places.{measure_place, level_place, document_place, document_places, low_place, low_high_place, high_places, witness_places, claim_line, claim_rows, evidence_places, from_end, from_evidence, from_second, from_first, from_level, from_measure, certificate_places}
use Rattle.order_certificate.specs.declared.certificate.Evidence.{Evidence}
use Rattle.order_certificate.specs.declared.certificate.Evidence.TheVariants.{Above, Equal, Open}
use Rattle.order_certificate.specs.declared.certificate.TopicBound.{TopicBound}
use Rattle.order_certificate.specs.declared.places.Claim.{Claim}
use Rattle.order_certificate.specs.declared.places.Claim.TheVariants as claimed

-- the places of a certificate have it
pub record AtPlaces (fact : Fact) : Type 0 where
  pub fixed_header : fact (Unit {0}) (λ _. codes "desk-certificate 1") (λ _. Unit {0})
  pub fixed_end : fact (Unit {0}) (λ _. codes "end") (λ _. Unit {0})
  pub measure : fact MeasureName (λ measure. codes "measure " ++ measure_text measure) IsMeasure
  pub level : fact ℕ (λ n. codes "level " ++ decimal n) IsLevel
  pub first : fact (List ℕ) (λ name. codes "first " ++ name) (λ name. is_name name ≡ true)
  pub second : fact (List ℕ) (λ name. codes "second " ++ name) (λ name. is_name name ≡ true)
  pub claim : fact Claim claim_line (λ _. Unit {0})
  pub topics : fact ℕ (λ n. codes "topics " ++ decimal n) IsTopicCount
  pub low : (before : List ℕ) → fact TopicBound low_line (λ b. IsLaterName before b.topic × IsLowBound b)
  pub low_high : (before : List ℕ) → fact TopicBound low_high_line (λ b. IsLaterName before b.topic × IsLowHighBound b)
  pub low_count : (before : List ℕ) → fact (List ℕ × ℕ) (λ p. count_line (codes "low ") p.0 p.1) (λ p. IsLaterName before p.0 × IsDocumentCount p.1)
  pub high_count : (topic : List ℕ) → is_name topic ≡ true → fact ℕ (λ n. count_line (codes "high ") topic n) IsDocumentCount
  pub document : (before : List ℕ) → fact (List ℕ) document_line (IsLaterName before)

module _ (fact : Fact) (at : AtPlaces fact) where
  in_documents : (n : ℕ) → AtEach fact (document_places n)
  in_documents n = in_rows fact document_place (λ (_ : List ℕ) (name : List ℕ). name) (λ before. (at.document before, (λ name fits. tt))) n []

  in_high : (topic : List ℕ) (low : List (List ℕ)) → is_name topic ≡ true → AtEach fact (high_places topic low)
  in_high topic low named = (
    at.high_count topic named,
    (λ n le. in_both fact (document_places n) (λ high. Whole (record { topic = topic; low = low; high = high })) (in_documents n) (λ high. tt)),
  )

  in_witness : (before : List ℕ) → AtEach fact (witness_places before)
  in_witness before = (at.low_count before, (λ p fits. in_both fact (document_places p.1) (high_places p.0) (in_documents p.1) (λ low. in_high p.0 low fits.0.0)))

  in_named : {V : Type 0} (one : List ℕ → Form V) (name_of : V → List ℕ) (make : List V → Evidence) → ((before : List ℕ) → AtEach fact (one before)) → (n : ℕ) → AtEach fact (bind (named_rows one name_of n) (λ vs. Whole (make vs)))
  in_named one name_of make h n = in_both fact (named_rows one name_of n) (λ vs. Whole (make vs)) (in_rows fact one (λ _ v. name_of v) h n []) (λ vs. tt)

  in_claim : (claim : Claim) (n : ℕ) → AtEach fact (claim_rows claim n)
  in_claim claimed.Above n = in_named low_place (λ b. b.topic) Above (λ before. (at.low before, (λ b fits. tt))) n
  in_claim claimed.Equal n = in_named low_high_place (λ b. b.topic) Equal (λ before. (at.low_high before, (λ b fits. tt))) n
  in_claim claimed.Open n = in_named witness_places (λ w. w.topic) Open in_witness n

  in_end : (measure : MeasureName) (level : ℕ) (first second : List ℕ) (evidence : Evidence) → AtEach fact (from_end measure level first second evidence)
  in_end measure level first second evidence = (at.fixed_end, (λ p fits. tt))

  pub in_certificate : AtEach fact certificate_places
  in_certificate =
      in_both fact (fixed_place (codes "desk-certificate 1")) (λ _. from_measure) (at.fixed_header, (λ p fits. tt)) (λ _.
      in_both fact measure_place from_level (at.measure, (λ p fits. tt)) (λ measure.
      in_both fact level_place (from_first measure) (at.level, (λ p fits. tt)) (λ level.
      in_both fact (name_place (codes "first ")) (from_second measure level) (at.first, (λ p fits. tt)) (λ first.
      in_both fact (name_place (codes "second ")) (from_evidence measure level first) (at.second, (λ p fits. tt)) (λ second.
      in_both fact evidence_places (from_end measure level first second) (at.claim, (λ claim fits. (at.topics, (λ n _. in_claim claim n)))) (in_end measure level first second))))))
