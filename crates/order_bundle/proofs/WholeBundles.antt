-- The places of a bundle after its level are those of its lines.
use Rattle.std.proofs.Common.{◌≡◌, ℕ, List, [], ◌∷◌, ◌++◌, length, refl, ap, subst, ◌∙◌, map, flat_map}
use Rattle.std.specs.Prelude.{codes}
use Rattle.desk_model.specs.MeasureText.{IsMeasure}
use Rattle.desk_model.specs.declared.types.MeasureName.{MeasureName}
use Rattle.line_forms.specs.Form.{Whole, Spells}
use Rattle.line_forms.specs.Places.{fixed_place}
use Rattle.line_forms.proofs.Forms.{IsPlain, bind_forth, bind_back, bind_plain, plain_after}
use Rattle.order_certificate.specs.Certificate.{IsLevel, topics_line}
use Rattle.order_certificate.proofs.Whole.{end_forth, end_plain}
use Rattle.order_bundle.specs.Bundle.{AreBundleRuns, AreTopicNames, Bundle, IsBundle, claim_lines, claims_lines, number_line, run_line, runs_lines, topic_lines, topics_lines}
use Rattle.order_bundle.specs.Places.{claims_places, from_claims, from_end, from_runs, from_topics, run_places, topics_places}
use Rattle.order_bundle.specs.declared.bundle.PairClaim.{PairClaim}
use Rattle.order_bundle.specs.declared.bundle.TopicNames.{TopicNames}
use Rattle.order_bundle.proofs.ClaimRows.{claims_back, claims_forth, claims_plain}
use Rattle.order_bundle.proofs.TopicRows.{runs_back, runs_forth, runs_plain, topic_names_plain, topics_back, topics_forth}

abbrev pub bundle_of : MeasureName → ℕ → List (List ℕ) → List TopicNames → List PairClaim → Bundle
bundle_of measure level runs topics claims = record { measure = measure; level = level; runs = runs; topics = topics; claims = claims }

-- ---- each line shows one part
pub from_end_plain : (measure : MeasureName) (level : ℕ) (runs : List (List ℕ)) (topics : List TopicNames) (claims : List PairClaim) → IsPlain (from_end measure level runs topics claims)
from_end_plain measure level runs topics claims = bind_plain {X = Bundle} (fixed_place (codes "end")) (λ _. Whole (bundle_of measure level runs topics claims)) end_plain (λ _. tt)

pub from_claims_plain : (measure : MeasureName) (level : ℕ) (runs : List (List ℕ)) (topics : List TopicNames) → AreBundleRuns runs → AreTopicNames topics → IsPlain (from_claims measure level runs topics)
from_claims_plain measure level runs topics known are = bind_plain (claims_places (length runs) topics) (from_end measure level runs topics) (claims_plain (length runs) topics known.count.1 are) (from_end_plain measure level runs topics)

pub from_topics_plain : (measure : MeasureName) (level : ℕ) (runs : List (List ℕ)) → AreBundleRuns runs → IsPlain (from_topics measure level runs)
from_topics_plain measure level runs known = plain_after topics_places (from_claims measure level runs) topic_names_plain (λ topics ls s. from_claims_plain measure level runs topics known (topics_forth ls topics s).0)

pub from_runs_plain : (measure : MeasureName) (level : ℕ) → IsPlain (from_runs measure level)
from_runs_plain measure level = plain_after run_places (from_topics measure level) runs_plain (λ runs ls s. from_topics_plain measure level runs (runs_forth ls runs s).0)

-- ---- what lines spell
abbrev SpellsBundle : MeasureName → ℕ → List (List ℕ) → Bundle → Type 0
SpellsBundle measure level ls b = IsBundle b × (b.measure ≡ measure) × (b.level ≡ level) × (ls ≡ runs_lines b.runs b.topics b.claims)

pub bundle_forth : (measure : MeasureName) (level : ℕ) (ls : List (List ℕ)) (b : Bundle) → IsMeasure measure → IsLevel level → Spells (from_runs measure level) ls b → SpellsBundle measure level ls b
bundle_forth measure level ls b is_measure is_level s =
    let r = bind_forth run_places (from_topics measure level) ls b s in
    let runs = r.0 in
    let names = runs_forth r.1 runs r.4 in
    let t = bind_forth topics_places (from_claims measure level runs) r.2 b r.5 in
    let topics = t.0 in
    let listed = topics_forth t.1 topics t.4 in
    let c = bind_forth (claims_places (length runs) topics) (from_end measure level runs topics) t.2 b t.5 in
    let claims = c.0 in
    let follow = claims_forth (length runs) topics names.0.count.1 listed.0 c.1 claims c.4 in
    let last = end_forth (bundle_of measure level runs topics claims) c.2 b c.5 in
    let fine : IsBundle (bundle_of measure level runs topics claims) = record { measure = is_measure; level = is_level; runs = names.0; topics = listed.0; claims = follow.0 } in
    let from_c : t.2 ≡ claims_lines claims = c.3 ∙ ap (λ zs. zs ++ c.2) follow.1 ∙ ap (λ zs. number_line (codes "claims ") (length claims) ∷ flat_map claim_lines claims ++ zs) last.1 in
    let from_t : r.2 ≡ topics_lines topics claims = t.3 ∙ ap (λ zs. zs ++ t.2) listed.1 ∙ ap (λ zs. topics_line (length topics) ∷ flat_map topic_lines topics ++ zs) from_c in
    let lines : ls ≡ runs_lines runs topics claims = r.3 ∙ ap (λ zs. zs ++ r.2) names.1 ∙ ap (λ zs. number_line (codes "runs ") (length runs) ∷ map run_line runs ++ zs) from_t in
    subst (SpellsBundle measure level ls) last.0 (fine, refl, refl, lines)

pub bundle_back : (b : Bundle) → IsBundle b → Spells (from_runs b.measure b.level) (runs_lines b.runs b.topics b.claims) b
bundle_back b h =
    let ending : Spells (from_end b.measure b.level b.runs b.topics b.claims) (codes "end" ∷ []) b = (tt, tt, refl, refl) in
    let from_c : Spells (from_claims b.measure b.level b.runs b.topics) (claims_lines b.claims) b =
    bind_back (claims_places (length b.runs) b.topics) (from_end b.measure b.level b.runs b.topics) (number_line (codes "claims ") (length b.claims) ∷ flat_map claim_lines b.claims) (codes "end" ∷ []) b.claims b
    (claims_back (length b.runs) b.topics h.runs.count.1 h.topics b.claims h.claims) ending in
    let from_t : Spells (from_topics b.measure b.level b.runs) (topics_lines b.topics b.claims) b =
    bind_back topics_places (from_claims b.measure b.level b.runs) (topics_line (length b.topics) ∷ flat_map topic_lines b.topics) (claims_lines b.claims) b.topics b (topics_back b.topics h.topics) from_c in
    bind_back run_places (from_topics b.measure b.level) (number_line (codes "runs ") (length b.runs) ∷ map run_line b.runs) (topics_lines b.topics b.claims) b.runs b (runs_back b.runs h.runs) from_t
