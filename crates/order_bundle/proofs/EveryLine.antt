-- A fact that each line of a certificate of either version has at its place, and the line of a depth.
use Rattle.std.proofs.Common.{ℕ, Bool, true, false, List, [], ◌++◌, Option, Some, None}
use Rattle.std.specs.Prelude.{codes, decimal}
use Rattle.desk_model.specs.MeasureText.{IsMeasure}
use Rattle.desk_model.specs.declared.types.MeasureName.{MeasureName}
use Rattle.line_forms.specs.Form.{Whole}
use Rattle.line_forms.specs.Places.{IsLaterName, count_line, later_name_place}
use Rattle.line_forms.specs.Rows.{named_rows}
use Rattle.line_forms.proofs.EachPlace.{AtEach, Fact, in_both, in_rows}
use Rattle.line_forms.proofs.OrLine.{IsOfEither, in_or}
use Rattle.order_certificate.specs.Certificate.{IsDocumentCount, IsLevel}
use Rattle.order_certificate.specs.Places.{from_first, name_places, topics_place}
use Rattle.order_certificate.specs.declared.places.Claim.{Claim}
use Rattle.order_certificate.specs.declared.places.Claim.TheVariants as claimed
use Rattle.order_certificate.proofs.RowKinds.{same_name}
use Rattle.order_certificate.proofs.CertificatePlaces.{AtPlaces, in_certificate}
use Rattle.order_bundle.specs.Bundle.{IsClaimCount, IsLowerBound, AreBothBounds, IsRunCount, both_bounds_line, bound_line, last_pair, pick_line}
use Rattle.order_bundle.specs.Places.{IsPick, doc_count}
use Rattle.order_bundle.specs.Depths.{IsDepth, depth_line}
use Rattle.order_bundle.specs.Places.{after_depth, after_level, both_bounds_place, both_bounds_places, bound_place, bound_places, claim_places, claims_places, evidence_places, from_claims, from_end, from_runs, from_topics, head_line, high_places, list_places, pick_place, pick_places, picks_places, places_with, run_places, runs_place, topic_picks_places, topic_places, topics_places, version_line}
use Rattle.order_bundle.specs.declared.any_certificate.Version.{Version}
use Rattle.order_bundle.specs.declared.any_certificate.Version.TheVariants as version
use Rattle.order_bundle.specs.declared.bundle.Bound.{Bound}
use Rattle.order_bundle.specs.declared.bundle.PairEvidence.TheVariants.{Above, Equal, Open}
use Rattle.order_bundle.specs.declared.bundle.TopicNames.{TopicNames}
use Rattle.order_bundle.specs.declared.places.ClaimHead.{ClaimHead}
use Rattle.order_bundle.specs.declared.places.UnorderedPair.{UnorderedPair}
use Rattle.order_bundle.proofs.ClaimRows.{FitsHead, claim_of}
use Rattle.order_bundle.proofs.Either.{many_under, one_under}
use Rattle.order_bundle.proofs.PickRows.{lists_of, picks_in, same_key}
use Rattle.order_bundle.proofs.PickOrder.{next_pick, next_topic}
use Rattle.order_bundle.proofs.TopicRows.{topic_name, with_docs}

-- the places of both versions have it
pub record AtAnyPlaces (fact : Fact) : Type 0 where
  pub one : AtPlaces fact
  pub version : fact Version version_line (λ _. Unit {0})
  pub depth : fact ℕ depth_line IsDepth
  pub runs : fact ℕ (λ n. codes "runs " ++ decimal n) IsRunCount
  pub run : (before : List ℕ) → fact (List ℕ) (λ name. codes "run " ++ name) (IsLaterName before)
  pub topic : (before : List ℕ) → fact (List ℕ × ℕ) (λ p. count_line (codes "topic ") p.0 p.1) (λ p. IsLaterName before p.0 × IsDocumentCount p.1)
  pub claims : fact ℕ (λ n. codes "claims " ++ decimal n) IsClaimCount
  pub head : (runs : ℕ) (last : Option UnorderedPair) → fact ClaimHead head_line (FitsHead runs last)
  pub bound : fact Bound bound_line IsLowerBound
  pub both_bounds : fact Bound both_bounds_line AreBothBounds
  pub low : fact ℕ (λ n. codes "low " ++ decimal n) IsDocumentCount
  pub high : fact ℕ (λ n. codes "high " ++ decimal n) IsDocumentCount
  pub pick : (docs least : ℕ) → fact ℕ pick_line (IsPick docs least)

module _ (fact : Fact) (either : IsOfEither fact) (at : AtAnyPlaces fact) where
  in_runs : AtEach fact run_places
  in_runs = in_both fact runs_place (name_places (codes "run ")) (at.runs, (λ n fits. tt)) (λ n. in_rows fact (later_name_place (codes "run ")) same_name (λ before. (at.run before, (λ name fits. tt))) n [])

  in_docs : (n : ℕ) → AtEach fact (name_places (codes "doc ") n)
  in_docs n = in_rows fact (later_name_place (codes "doc ")) same_name (λ before. (at.one.document before, (λ name fits. tt))) n []

  in_topic : (before : List ℕ) → AtEach fact (topic_places before)
  in_topic before = (at.topic before, (λ p fits. in_both fact (name_places (codes "doc ") p.1) (λ docs. Whole (with_docs p.0 docs)) (in_docs p.1) (λ docs. tt)))

  in_topics : AtEach fact topics_places
  in_topics = in_both fact topics_place (named_rows topic_places topic_name) (at.one.topics, (λ n fits. tt)) (λ n. in_rows fact topic_places (λ _ t. topic_name t) in_topic n [])

  in_picks : (docs n : ℕ) → AtEach fact (pick_places docs n)
  in_picks docs n = in_rows fact (pick_place docs) next_pick (λ least. (at.pick docs least, (λ k fits. tt))) n 0

  in_lists : (docs : ℕ) → AtEach fact (picks_places docs)
  in_lists docs =
      in_both fact (list_places (codes "low ") docs) (high_places docs) (at.low, (λ n fits. in_picks docs n)) (λ low.
      in_both fact (list_places (codes "high ") docs) (λ high. Whole (lists_of low high)) (at.high, (λ n fits. in_picks docs n)) (λ high. tt))

  in_evidence : (topics : List TopicNames) (claim : Claim) → AtEach fact (evidence_places topics claim)
  in_evidence topics claimed.Above = in_both fact (bound_places _) (λ bounds. Whole (Above bounds)) (in_rows fact bound_place same_key (λ key. (at.bound, (λ b fits. tt))) _ tt) (λ _. tt)
  in_evidence topics claimed.Equal = in_both fact (both_bounds_places _) (λ bounds. Whole (Equal bounds)) (in_rows fact both_bounds_place same_key (λ key. (at.both_bounds, (λ b fits. tt))) _ tt) (λ _. tt)
  in_evidence topics claimed.Open = in_both fact (topic_picks_places topics) (λ picks. Whole (Open picks)) (in_rows fact (picks_in topics) next_topic (λ t. in_lists (doc_count topics t)) _ 0) (λ _. tt)

  in_claim : (runs : ℕ) (topics : List TopicNames) (last : Option UnorderedPair) → AtEach fact (claim_places runs topics last)
  in_claim runs topics last = (at.head runs last, (λ h fits. in_both fact (evidence_places topics h.claim) (λ e. Whole (claim_of h e)) (in_evidence topics h.claim) (λ e. tt)))

  in_claims : (runs : ℕ) (topics : List TopicNames) → AtEach fact (claims_places runs topics)
  in_claims runs topics = (at.claims, (λ n fits. in_rows fact (claim_places runs topics) last_pair (in_claim runs topics) n None))

  in_bundle : (measure : MeasureName) (level : ℕ) → AtEach fact (from_runs measure level)
  in_bundle measure level =
      in_both fact run_places (from_topics measure level) in_runs (λ runs.
      in_both fact topics_places (from_claims measure level runs) in_topics (λ topics.
      in_both fact (claims_places _ topics) (from_end measure level runs topics) (in_claims _ topics) (λ claims. (at.one.fixed_end, (λ p fits. tt)))))

  in_after_depth : (v : Version) (measure : MeasureName) (level : ℕ) (depth : Option ℕ) → IsMeasure measure → IsLevel level → AtEach fact (after_depth v measure level depth)
  in_after_depth version.One measure level depth is_measure is_level = in_both fact (from_first measure level) (λ c. Whole (one_under depth c)) ((((in_certificate fact at.one).1 tt tt).1 measure is_measure).1 level is_level) (λ c. tt)
  in_after_depth version.Many measure level depth is_measure is_level = in_both fact (from_runs measure level) (λ b. Whole (many_under depth b)) (in_bundle measure level) (λ b. tt)

  in_after_level : (depths : Bool) (v : Version) (measure : MeasureName) (level : ℕ) → IsMeasure measure → IsLevel level → AtEach fact (after_level depths v measure level)
  in_after_level false v measure level is_measure is_level = in_after_depth v measure level None is_measure is_level
  in_after_level true v measure level is_measure is_level =
      in_or fact either depth_line IsDepth (λ d. after_depth v measure level (Some d)) (after_depth v measure level None) (at.depth, (λ d fits. in_after_depth v measure level (Some d) is_measure is_level)) (in_after_depth v measure level None is_measure is_level)

  pub in_places : (depths : Bool) → AtEach fact (places_with depths)
  in_places depths = (at.version, (λ v _. (at.one.measure, (λ m is_measure. (at.one.level, (λ l is_level. in_after_level depths v m l is_measure is_level))))))
